use Rattle.std.proofs.Common.{◌≡◌, ℕ, ◌+◌, ◌≤◌, ◌==◌, Bool, true, ◌&&◌, if◌then◌else◌, inl, inr, sym, ap, ◌∙◌, arith}
use Rattle.std.specs.Prelude.{nat_le, nat_lt}
use Rattle.std.proofs.lemmas.Bool.{cases_eq, eq-eqb, ne_eqb}
use Rattle.std.proofs.lemmas.Bool.Decides.{nat_tests}
use Rattle.srt_sendbuf.proofs.ring.Ring.mark_all.Goals as goal

-- one more place is marked
one_more : (from at d : ℕ) (new old before : Bool) → from ≤ at → new ≡ (if d == at then true else old)
    → old ≡ (if nat_le from d && nat_lt d at then true else before)
    → new ≡ (if nat_le from d && nat_lt d (at + 1) then true else before)
one_more from at d new old before le n o = elim (cases_eq d at) [
  | inl same ↦
      let b : (nat_le from d && nat_lt d (at + 1)) ≡ true = grind (arith, nat_tests, le, same) in
      n ∙ ap (λ t. if t then true else old) (eq-eqb _ _ same) ∙ sym (ap (λ t. if t then true else before) b)
  | inr other ↦
      let b : nat_lt d (at + 1) ≡ nat_lt d at = grind (arith, nat_tests, other) in
      n ∙ ap (λ t. if t then true else old) (ne_eqb _ _ other) ∙ o ∙ sym (ap (λ t. if nat_le from d && t then true else before) b)
]

pub loop-at-preserved : goal.loop-at-preserved
loop-at-preserved c =
    let i = c.loop-at.invariant in
    record {
      same = record {
        width = c.mark.ensures.width ∙ i.same.width;
        length = c.mark.ensures.length ∙ i.same.length;
        kept = λ d. c.mark.ensures.kept d ∙ i.same.kept d;
      };
      marks = let m = i.marks in let n = c.mark.ensures.marks in let le = c.loop-at.auto.at in omega (arith, m, n, le);
      lost = λ d. one_more c.args.from c.loop-at.at d _ _ _ c.loop-at.auto.at (c.mark.ensures.lost d) (i.lost d);
    }
