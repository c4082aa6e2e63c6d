use Rattle.std.proofs.Common.{inl, inr, sym, ◌∙◌, arith}
use Rattle.std.proofs.lemmas.Bool.{cases_lt}
use Rattle.srt_sendbuf.proofs.ring.Ring.find_lost.Goals as goal

pub loop-at-preserved : goal.loop-at-preserved
loop-at-preserved c =
    let i = c.loop-at.invariant in
    let passed = c.next_candidate-at.ensures in
    record {
      same = record {
        width = passed.width ∙ i.same.width;
        length = passed.length ∙ i.same.length;
        kept = λ d. passed.kept d ∙ i.same.kept d;
      };
      lost = λ d. passed.lost d ∙ i.lost d;
      low = omega (arith, i.low, passed.low);
      high = passed.high;
      before = λ d low high. elim (cases_lt d c.loop-at.at) [
        | inl lt ↦ i.before d low lt
        | inr past ↦ sym (i.lost d) ∙ passed.before d past high
      ];
    }
