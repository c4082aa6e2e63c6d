use Rattle.std.proofs.Common.{◌≡◌, ◌<◌, ap, sym, ◌∙◌, pos, ◌+ℤ◌, arith}
use Rattle.std.proofs.lemmas.Int.{to_z-of_z, to_z_pos}
use Rattle.std.proofs.Common.{w64, SFits, rules, ◌^◌}
use Rattle.srt_recvbuf.specs.Receiving.{first_due}
use Rattle.srt_recvbuf.specs.Cells.{due_of}
use Rattle.srt_recvbuf.proofs.Buffers.{nothing_waits, first_waits, its_turn, not_yet, some_is, same_test, next_is}
use Rattle.srt_recvbuf.proofs.buffer.RecvBuf.first_due.Goals as goal

pub returns-then-at-self-clause-first : goal.returns-then-at-self-clause-first
returns-then-at-self-clause-first c width initial origin time r t h =
    next_is time c.args.room r (omega arith)
    ∙ ap (first_due time)
    (nothing_waits width initial origin _ _ _ _ r h.1 (λ k lt. c.first_packet-at.ensures.before k (omega (arith, lt, c.if-at-self.true))))

pub returns-then-due-now-clause-first : goal.returns-then-due-now-clause-first
returns-then-due-now-clause-first c width initial origin time r t h =
    let lt : c.first_packet-at.result < c.args.self.now.end = omega (arith, c.if-at-self.false) in
    let f = first_waits width initial origin _ _ _ c.first_packet-at.result _ r h.1 (λ k less. c.first_packet-at.ensures.before k less) lt
    (c.first_packet-at.ensures.here lt) in
    let due : c.in_ok-due.due ≡ pos origin +ℤ f.first.due = some_is _ _ (sym c.in_ok-due.was ∙ c.due.ensures ∙ ap due_of f.cell_is) in
    let fits : SFits w64 c.in_ok-due.due = search rules in
    let small : c.args.now < 2 ^ 63 = omega (arith, c.requires) in
    let k = same_test origin time c.args.now f.first.due _ t due ∙ rw (to_z-of_z, to_z_pos) at c.if-due-now.true in
    (f.first, next_is time c.args.room r (omega arith) ∙ ap (first_due time) f.waits ∙ its_turn time f.first f.more k, f.number_is, f.cell_is)

pub returns-else-due-now-clause-first : goal.returns-else-due-now-clause-first
returns-else-due-now-clause-first c width initial origin time r t h =
    let lt : c.first_packet-at.result < c.args.self.now.end = omega (arith, c.if-at-self.false) in
    let f = first_waits width initial origin _ _ _ c.first_packet-at.result _ r h.1 (λ k less. c.first_packet-at.ensures.before k less) lt
    (c.first_packet-at.ensures.here lt) in
    let due : c.in_ok-due.due ≡ pos origin +ℤ f.first.due = some_is _ _ (sym c.in_ok-due.was ∙ c.due.ensures ∙ ap due_of f.cell_is) in
    let fits : SFits w64 c.in_ok-due.due = search rules in
    let small : c.args.now < 2 ^ 63 = omega (arith, c.requires) in
    let k = same_test origin time c.args.now f.first.due _ t due ∙ rw (to_z-of_z, to_z_pos) at c.if-due-now.false in
    next_is time c.args.room r (omega arith) ∙ ap (first_due time) f.waits ∙ not_yet time f.first f.more k
