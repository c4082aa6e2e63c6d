use Rattle.std.proofs.Common.{◌≡◌, map, take}
use Rattle.srt_types.specs.Terms.{terms_of}
use Rattle.srt_hub.specs.inside.Queued.{item_in, reply_in}
use Rattle.srt_hub.specs.inside.Stands.{IsLane}
use Rattle.srt_hub.specs.Hubs.{AreLanes}
use Rattle.srt_hub.proofs.Happens.{start}
use Rattle.srt_hub.proofs.hubs.Hub.open.Given as goal

abbrev pub invariant-loop-entry : goal.invariant-loop-entry
invariant-loop-entry g l = record {
  lanes_are : AreLanes
      (λ lane e r m. IsLane e (λ items. g.R.RouteStep.stands lane.route e r items) (g.R.RouteStep.waiting lane.route)
      (map item_in lane.inbox.items) (map reply_in lane.outbox.items) lane.inbox_room lane.outbox_room m)
      (start (map terms_of (take l.entry-index l.entries))) l.lanes.items;
  index : l.r ≡ l.entry-index;
}
