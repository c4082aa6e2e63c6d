use Rattle.std.proofs.Common.{List, map, sym, ◌∙◌}
use Rattle.srt_types.specs.Terms.{terms_of}
use Rattle.srt_hub.specs.World.{Event, names_in, world_after}
use Rattle.srt_hub.specs.inside.Queued.{item_in, reply_in}
use Rattle.srt_hub.specs.inside.Stands.{IsLane}
use Rattle.srt_hub.specs.Hubs.{AreLanes, IsHub}
use Rattle.srt_hub.specs.Calls.{wants_memory}
use Rattle.srt_replay.specs.EventRead.{terms_read}
use Rattle.srt_replay.proofs.EventTexts.{opened_line, opened_stands, fault_line, after_want}
use Rattle.srt_replay.proofs.replaying.answer_opening.Goals as goal

pub returns-clause-answered : goal.returns-clause-answered
returns-clause-answered g c secret entries past h =
    let known = sym c.is_refused.ensures ∙ c.if-is_refused.false in (
      opened_line (g.L.Lobby.class secret) g.R.RouteStep.reply entries past (terms_of c.in-Ok.entry) (terms_read c.args.opening)
          (wants_memory c.open_route-opened.result) c.open_route-opened.result _ c.in-Ok.ensures known c.write_opened-2.ensures.text
          (c.open_route-opened.ensures.answer secret entries past h),
      opened_stands
          (λ (events : List Event). IsHub
          (g.L.Lobby.knows c.open_route-opened.new.self.lobby secret
          (names_in (world_after (g.L.Lobby.class secret) g.R.RouteStep.reply entries events)))
          (AreLanes
          (λ lane e r m. IsLane e (λ items. g.R.RouteStep.stands lane.route e r items) (g.R.RouteStep.waiting lane.route)
          (map item_in lane.inbox.items) (map reply_in lane.outbox.items) lane.inbox_room lane.outbox_room m)
          (world_after (g.L.Lobby.class secret) g.R.RouteStep.reply entries events) c.open_route-opened.new.self.lanes.items))
          past (terms_of c.in-Ok.entry) (terms_read c.args.opening) (wants_memory c.open_route-opened.result) c.in-Ok.ensures known
          (c.open_route-opened.ensures.stands secret entries past h),
    )

pub returns-in-Some-clause-answered : goal.returns-in-Some-clause-answered
returns-in-Some-clause-answered g c secret entries past h = (
  fault_line (g.L.Lobby.class secret) g.R.RouteStep.reply entries past (terms_read c.args.opening) c.in-Some.fault c.opening_fault.result _
      c.write_opened.ensures.text (c.opening_fault.ensures.fault secret entries past h) c.in-Some.is,
  c.in-Some.ensures.stands secret entries past h,
)

pub returns-in-Err-clause-answered : goal.returns-in-Err-clause-answered
returns-in-Err-clause-answered g c secret entries past h = (sym (c.opening_fault.ensures.fault secret entries past h) ∙ c.in_default.is, h)

pub returns-then-is_refused-clause-answered : goal.returns-then-is_refused-clause-answered
returns-then-is_refused-clause-answered g c secret entries past h = (
  sym (c.opening_fault.ensures.fault secret entries past h) ∙ c.in_default.is,
  after_want c.open_route-opened.result (sym c.is_refused.ensures ∙ c.if-is_refused.true) c.open_route-opened.ensures.unchanged secret entries past h,
)
