use Rattle.std.proofs.Common.{arith, rules, w64, SFits}
use Rattle.std.proofs.lemmas.Int.{ints, to_z-of_z}
use Rattle.srt_timing.proofs.Clocks.{closed_some}
use Rattle.srt_timing.proofs.drift_windows.closed.Goals as goal

pub returns-in-Some-clause-value : goal.returns-in-Some-clause-value
returns-in-Some-clause-value c =
    let late : SFits w64 c.args.late = c.ranges.late in
    let reference : SFits w64 c.in-Some.reference = search rules in
    let value = simp (to_z-of_z, c.saturating_sub.ensures) at c.change_by.ensures.value in
    closed_some c.args.time c.args.late c.in-Some.reference c.args.clock _ c.max-moved.result c.in-Some.is (omega (arith, ints, value)) c.max-moved.ensures

pub returns-in-Some-clause-bounded : goal.returns-in-Some-clause-bounded
returns-in-Some-clause-bounded c =
    let h = c.requires.bounded in
    let k = c.change_by.ensures.slow in
    record {
      slow = record {
        above = omega (arith, ints, h.slow.above, k.above, c.max-moved.ensures, c.saturating_sub.ensures);
        below = omega (arith, ints, h.slow.below, k.below, c.max-moved.ensures, c.saturating_sub.ensures);
      };
      early = omega (arith, h.early, c.requires.early, c.max-moved.ensures);
      reference = h.reference;
      window = λ w e. absurd cc;
    }
