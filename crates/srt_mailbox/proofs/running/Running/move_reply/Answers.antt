use Rattle.std.proofs.Common.{◌≡◌, ◌++◌, ◌∷◌, [], map, length, sym, ap, ◌∙◌, subst, arith}
use Rattle.std.specs.Global.{Box}
use Rattle.srt_types.specs.Terms.{terms_of}
use Rattle.srt_route.specs.declared.replies.Reply.{Reply}
use Rattle.srt_route.specs.Stands.{waiting}
use Rattle.srt_route.specs.Written.{written}
use Rattle.srt_mailbox.specs.Ends.{Pipe, pipe}
use Rattle.srt_mailbox.specs.Runs.{Run, run, waiting_at}
use Rattle.srt_mailbox.proofs.Turns.{moved_replays}
use Rattle.srt_mailbox.proofs.running.Running.move_reply.Goals as goal

pub invariant_of-self : goal.invariant_of-self
invariant_of-self g c =
    let inside = c.self.inside in
    let y = c.new-parcel.result.value in
    let rest = waiting c.next_waiting-reply.new.route in
    let first = c.next_waiting-reply.ensures.first ∙ ap (λ (b : Box Reply). written b.value ∷ rest) (sym c.new-parcel.ensures) in
    let put = ap (λ (p : Pipe). p.put) c.in-Ok.ensures.ok in (
      c.next_waiting-reply.ensures.stands _ _ _ c.self.invariant.0,
      rw (put, c.next_waiting-reply.ensures.held)
          (moved_replays inside.sender.put y rest _ (ap (λ l. map written inside.sender.put ++ l) (sym first) ∙ c.self.invariant.1)),
      rw c.next_waiting-reply.ensures.held (omega (arith, c.self.invariant.2, ap length first)),
      c.self.invariant.3,
      c.discard_if_over.ensures.over _ _ _ (c.next_waiting-reply.ensures.stands _ _ _ c.self.invariant.0),
    )

pub invariant_of-self-in-Err : goal.invariant_of-self-in-Err
invariant_of-self-in-Err g c =
    let inside = c.self.inside in
    let full = c.in-Err.ensures.full in
    let rest = waiting c.next_waiting-reply.new.route in
    let same = (λ i. written ((c.into_parts-reply.ensures ∙ full.0 ∙ c.new-parcel.ensures) i).value ∷ rest) ∙ sym c.next_waiting-reply.ensures.first in
    let put = ap (λ (p : Pipe). map written p.put) full.1 in (
      c.next_waiting-reply.ensures.stands _ _ _ c.self.invariant.0,
      (λ i. put i ++ same i) ∙ c.self.invariant.1,
      c.self.invariant.2 ∙ ap length (sym same),
      c.self.invariant.3,
      λ closed none. absurd (omega (arith, none, c.requires, ap (λ (w : Run). length w.waiting) c.self.view_is, c.self.invariant.2)),
    )

pub returns-in-Ok : goal.returns-in-Ok
returns-in-Ok g c =
    let inside = c.self.inside in
    let y = c.new-parcel.result.value in
    let route = c.next_waiting-reply.new.route in (
      y,
      waiting route,
      ap (λ (w : Run). w.waiting) (sym c.self.view_is) ∙ c.next_waiting-reply.ensures.first
          ∙ ap (λ (b : Box Reply). written b.value ∷ waiting route) (sym c.new-parcel.ensures),
      subst
          (λ (w : Run). run (terms_of inside.entry.value) inside.index.value inside.receiver c.put.new.self
          (waiting_at c.next_waiting-reply.new.held route) inside.refusals
          ≡ run w.terms w.index w.inbox (pipe w.outbox.queue w.outbox.capacity (w.outbox.put ++ y ∷ [])) (waiting route) w.refusals)
          c.self.view_is
          (λ i. run (terms_of inside.entry.value) inside.index.value inside.receiver (c.in-Ok.ensures.ok i)
          (waiting_at (c.next_waiting-reply.ensures.held i) route) inside.refusals),
    )
