use Rattle.std.proofs.Common.{◌≡◌, ℕ, List, Bool, true, ◌+◌, ◌-◌, ◌*◌, ◌/◌, ◌%◌, ◌<◌, ◌≤◌, ◌⊎◌, [], ◌∷◌, ◌++◌, suc, refl, sym, ap, ◌∙◌, subst, inl}
use Rattle.std.proofs.Common.{inr, arith, rules, slice_index, length, take, map}
use Rattle.std.proofs.lemmas.List.{get_or-set_same, get_or-set_other, length-set}
use Rattle.std.proofs.lemmas.Bool.{cases_lt}
use Rattle.std.proofs.Math.ListN.{set}
use Rattle.srt_aes.specs.Aes.{round_key}
use Rattle.srt_aes.specs.inside.Planes.{key_planes, HoldsKey}
use Rattle.srt_aes.proofs.schedule.plane_keys.Goals as goal

pub loop-round-preserved : goal.loop-round-preserved
loop-round-preserved c =
    let words = c.args.words.now in
    let round = c.loop-round.round in
    let keys = c.loop-round.keys in
    let key = c.plane_key-key.result in
    let full = c.loop-round.invariant.0 in (
      length-set keys round key ∙ full,
      λ r below.
          elim (cases_lt r round) [
            | inl less ↦
                subst (λ (p : List ℕ). HoldsKey p (r % 4) (round_key words r))
                (sym (get_or-set_other keys round r key [] (λ e. omega arith))) (c.loop-round.invariant.1 r less)
            | inr more ↦
                let here : r ≡ round = omega arith in
                subst (λ (n : ℕ). HoldsKey (key_planes (set keys round key) n) (n % 4) (round_key words n)) (sym here)
                (subst (λ (p : List ℕ). HoldsKey p (round % 4) (round_key words round))
                (sym (get_or-set_same keys round key [] (omega arith))) c.plane_key-key.ensures)
          ],
    )

pub returns : goal.returns
returns c k below = c.loop-round.invariant.1 k (omega arith)
