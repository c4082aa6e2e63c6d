use Rattle.std.proofs.Common.{◌<◌, ◌≤◌, ◌||◌, false, Some, refl, ap, subst, ◌∙◌, arith}
use Rattle.std.specs.Prelude.{All}
use Rattle.std.specs.List.Sorted.{IsNonDecreasingBy}
use Rattle.std.proofs.lemmas.List.Elements.{All-head, All-tail}
use Rattle.srt_loss.specs.Window.{is_in_part}
use Rattle.srt_sendbuf.specs.Parts.{is_in_parts, AreWithin}
use Rattle.srt_sendbuf.proofs.Asks.{alone}
use Rattle.srt_sendbuf.proofs.Named.{together, first_least, rest_ascends}
use Rattle.srt_sendbuf.proofs.Marking.{nothing_marked, both_marked, marked_as}
use Rattle.srt_sendbuf.proofs.buffer.SendBuf.lose_parts.Goals as goal

pub loop-next-init : goal.loop-next-init
loop-next-init c =
    record {
      lost = (λ d. false, nothing_marked c.args.self.now, λ d. refl);
      within = c.requires.within;
      ascending = c.requires.ascending;
      later = λ k d lt. omega arith;
      marked = λ d low high. absurd (omega (arith, high));
      end = omega arith;
      marks = omega arith;
    }

pub lose_part-requires-clause-order : goal.lose_part-requires-clause-order
lose_part-requires-clause-order c =
    (All-head (λ part. (part.0 ≤ part.1) × (part.1 < c.args.self.now.sent)) c.in-Some.next.part c.in-Some.next.more.now
    (subst (λ xs. AreWithin c.args.self.now.sent xs) c.in-Some.ensures.some c.loop-next.invariant.within)).0

pub lose_part-requires-clause-inside : goal.lose_part-requires-clause-inside
lose_part-requires-clause-inside c =
    let in_old = (All-head (λ part. (part.0 ≤ part.1) × (part.1 < c.args.self.now.sent)) c.in-Some.next.part c.in-Some.next.more.now
    (subst (λ xs. AreWithin c.args.self.now.sent xs) c.in-Some.ensures.some c.loop-next.invariant.within)).1 in
    let same = c.loop-next.invariant.lost.1.sent_is in
    omega (arith, in_old, same)

pub lose_part-requires-clause-later : goal.lose_part-requires-clause-later
lose_part-requires-clause-later c =
    All-head (λ part. c.loop-next.run.from ≤ part.0) c.in-Some.next.part c.in-Some.next.more.now
    (subst (λ xs. All (λ part. c.loop-next.run.from ≤ part.0) xs) c.in-Some.ensures.some c.loop-next.invariant.later)

pub loop-next-preserved : goal.loop-next-preserved
loop-next-preserved c =
    let i = c.loop-next.invariant in
    let part = c.in-Some.next.part in
    let more = c.in-Some.next.more.now in
    let within = subst (λ xs. AreWithin c.args.self.now.sent xs) c.in-Some.ensures.some i.within in
    let ascending = subst (λ xs. IsNonDecreasingBy (λ p. p.0) xs) c.in-Some.ensures.some i.ascending in
    let n = c.lose_part.ensures in
    let here = All-head (λ p. (p.0 ≤ p.1) × (p.1 < c.args.self.now.sent)) part more within in
    record {
      lost = (
        λ d. i.lost.0 d || is_in_part (Some part) d,
        both_marked i.lost.0 (is_in_part (Some part)) c.args.self.now c.loop-next.self c.lose_part.new.self i.lost.1 n.lost,
        λ d. i.lost.2 d ∙ ap (λ xs. i.lost.0 d || is_in_parts xs d) c.in-Some.ensures.some
            ∙ together (i.lost.0 d) (is_in_part (Some part) d) (is_in_parts more d),
      );
      within = All-tail (λ p. (p.0 ≤ p.1) × (p.1 < c.args.self.now.sent)) part more within;
      ascending = rest_ascends part more ascending;
      later = first_least c.lose_part.new.run.from part more n.from ascending;
      marked = n.marked;
      end = let e = n.end in let old = i.end in let new = here.1 in omega (arith, e, old, new);
      marks = let m = n.marks in let old = i.marks in omega (arith, m, old);
    }

pub returns-clause-lost : goal.returns-clause-lost
returns-clause-lost c =
    let i = c.loop-next.invariant in
    marked_as i.lost.0 (is_in_parts c.args.parts.now) c.args.self.now c.loop-next.self
    (λ d lt. i.lost.2 d ∙ ap (λ xs. i.lost.0 d || is_in_parts xs d) c.in_default.ensures.none ∙ alone (i.lost.0 d)) i.lost.1

pub returns-clause-marks : goal.returns-clause-marks
returns-clause-marks c = let i = c.loop-next.invariant in let m = i.marks in let e = i.end in omega (arith, m, e)
