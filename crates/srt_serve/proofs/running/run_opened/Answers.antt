use Rattle.std.proofs.Common.{◌∙◌, ◌++◌, refl, sym, ap, List, take, arith}
use denote.Param.Send.{sendable}
use Rattle.srt_mailbox.specs.Cells.{CellIdentity}
use Rattle.srt_mailbox.proofs.inbox.ClockEnd.TheSendSync as clock_is
use Rattle.srt_serve.proofs.Ends.{all_ticked, rounds_for}
use Rattle.srt_serve.proofs.Latecomers.{polled_late}
use Rattle.srt_serve.proofs.Added.{were_added}
use Rattle.srt_serve.proofs.AddedRoutes.{same_places, changed_joined, ran_fixed, ran_changing, all_answered}
use Rattle.srt_serve.proofs.Sends.{places_sync, arrivals_send, clocks_send}
use Rattle.srt_serve.proofs.running.run_opened.Goals as goal

pub serve_routes-requires-sync-C : goal.serve_routes-requires-sync-C
serve_routes-requires-sync-C g c κs within = search (sendable, places_sync)

pub serve_routes-requires-send-D : goal.serve_routes-requires-send-D
serve_routes-requires-send-D g c κs within = search (sendable, clocks_send, arrivals_send, clock_is.the_send) depth 12

pub come_to_all-requires-clause-put : goal.come_to_all-requires-clause-put
come_to_all-requires-clause-put g c =
    let late = polled_late _ _ _ _ _ _ _ _ _ _ _ _ _ c.requires.few c.take_late.ensures.taken c.in-Some.ensures.pumped in
    c.requires.put.0 ∙ ap (take _) (sym (same_places _ _ _ _ _ _ _ _ _ _ _ _ _ _ _ _ _ _ _ _ _ _ late))

pub come_to_all-requires-clause-places : goal.come_to_all-requires-clause-places
come_to_all-requires-clause-places g c =
    let late = polled_late _ _ _ _ _ _ _ _ _ _ _ _ _ c.requires.few c.take_late.ensures.taken c.in-Some.ensures.pumped in
    c.in-Some.ensures.ticked.0 ∙ c.requires.places ∙ sym (same_places _ _ _ _ _ _ _ _ _ _ _ _ _ _ _ _ _ _ _ _ _ _ late)

pub settle_routes-requires-clause-joined : goal.settle_routes-requires-clause-joined
settle_routes-requires-clause-joined g c =
    let late = polled_late _ _ _ _ _ _ _ _ _ _ _ _ _ c.requires.few c.take_late.ensures.taken c.in-Some.ensures.pumped in
    changed_joined _ _ _ _ _ _ _ _ _ _ _ _ _ _ _ _ _ _ c.in-Ok.ensures.all.0 _ _ _ _ _ c.requires.opened
    c.take_late.new.openings.indexed late
    (all_ticked _ _ _ _ _ _ _ _ _ c.in-Some.ensures.ticked.1 c.requires.clocks c.in-Ok.ensures.taken.1
    c.in-Ok.ensures.taken.2)
    c.in-Ok.ensures.all.1

pub settle_routes-requires-clause-room : goal.settle_routes-requires-clause-room
settle_routes-requires-clause-room g c = (c.requires.accounts.0, omega (arith, c.requires.accounts.1, c.in-Ok.ensures.few))

pub returns-clause-ran : goal.returns-clause-ran
returns-clause-ran g c =
    let late = polled_late _ _ _ _ _ _ _ _ _ _ _ _ _ c.requires.few c.take_late.ensures.taken c.in-Some.ensures.pumped in
    let grew = c.in-Ok.ensures.began.1 in
    let began = grew ∙ ap (λ (ns : List CellIdentity). ns ++ c.in-Ok.ensures.began.0) c.requires.put.1 in
    let ticked = ap g.K.Ticker.gave c.come_to_all.ensures.ticker ∙ c.in-Some.ensures.ticked.1.1 in
    let clocked = all_ticked _ _ _ _ _ _ _ _ _ c.in-Some.ensures.ticked.1 c.requires.clocks c.in-Ok.ensures.taken.1 c.in-Ok.ensures.taken.2 in (
      λ unknown.
          ran_fixed _ _ _ _ _ _ _ _ _ _ _ _ _ _ _ _ _ _ _ _ _ _ c.in-Ok.ensures.began.0 c.in-Ok.ensures.all.0 _ _ _ _ _
          unknown c.requires.routes c.requires.names refl c.requires.opened c.take_late.new.openings.indexed began late ticked clocked
          c.in-Ok.ensures.all.1 c.in-Ok-settle_routes.ensures.settled,
      λ known.
          ran_changing _ _ _ _ _ _ _ _ _ _ _ _ _ _ _ _ _ _ _ _ _ _ c.in-Ok.ensures.began.0 c.in-Ok.ensures.all.0 _ _ _ _ _ _ _
          known c.in-Ok.ensures.few c.requires.names refl c.requires.opened c.take_late.new.openings.indexed began late ticked clocked
          c.in-Ok.ensures.all.1 c.in-Ok-settle_routes.ensures.settled g.T.Answers.answered
          (were_added g.T.Answers.answered g.B.Beginning.first _ _ c.in-Ok.ensures.began.0 c.requires.first began c.take_late.new.openings.answered)
          (all_answered c.take_late.new.openings.requested.items) (λ known. known),
    )

pub returns-clause-rounds : goal.returns-clause-rounds
returns-clause-rounds g c = rounds_for _ _ _ _ _ _ _ _ _ _ _ c.in-Some.ensures.pumped
