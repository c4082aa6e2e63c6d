use Rattle.std.proofs.Common.{◌≡◌, ℕ, zero, List, Bool, true, ◌+◌, ◌-◌, ◌*◌, ◌/◌, ◌%◌, ◌<◌, ◌≤◌, ◌⊎◌, [], ◌∷◌, ◌++◌, suc, refl, sym, ap, ◌∙◌, subst}
use Rattle.std.proofs.Common.{inl, inr, arith, rules, slice_index, length, take, map}
use Rattle.std.proofs.Common.{append_assoc}
use Rattle.std.proofs.lemmas.List.{append-nil}
use Rattle.std.proofs.lemmas.Grind.{common_steps}
use Rattle.std.proofs.Math.Seq.{take-append_seam, take-length}
use Rattle.srt_aes.specs.Aes.{expanded, schedule_of, next_word, round_key}
use Rattle.srt_aes.specs.inside.Planes.{HoldsKey, key_planes}
use Rattle.srt_aes.proofs.Lengths.{key_bounds}
use Rattle.srt_aes.proofs.keys.RoundKeys.new.Goals as goal

begins : (key : List ℕ) (count : ℕ) → (rest : List ℕ) × (expanded key count ≡ key ++ rest)
unfolding expanded
begins key zero = ([], sym (append-nil key))
begins key (suc count) =
    let before = begins key count in
    let next = next_word (length key / 4) (length key / 4 + count) (expanded key count) in
    (before.0 ++ next, ap (λ (v : List ℕ). v ++ next) before.1 ∙ append_assoc key before.0 next)

front : (n m : ℕ) (xs : List ℕ) → n ≤ m → take n (take m xs) ≡ take n xs
front n m xs less = grind (arith, common_steps)

-- the schedule begins with the key
key_is : (key words : List ℕ) → take (4 * length key + 112) words ≡ schedule_of key → take (length key) words ≡ key
key_is key words is =
    let begin = begins key (3 * (length key / 4) + 28) in
    sym (front (length key) (4 * length key + 112) words (omega arith)) ∙
    ap (λ (v : List ℕ). take (length key) v) (is ∙ begin.1) ∙ take-append_seam key begin.0

pub invariant_of-result : goal.invariant_of-result
invariant_of-result c =
    let key = c.args.key.now in
    let words = c.expand-words.result in
    let same = key_is key words c.expand-words.ensures in
    let bounds = key_bounds (length key) c.requires in
    record {
      few = omega arith;
      sized = ap (length {A = ℕ}) same;
      scheduled = λ whole. c.expand-words.ensures ∙ ap schedule_of (sym same);
      held = λ whole round few.
          subst (λ (v : List ℕ). HoldsKey (key_planes c.plane_keys-planes.result round) (round % 4) (round_key v round))
          (c.expand-words.ensures ∙ ap schedule_of (sym same)) (c.plane_keys-planes.ensures round few);
    }

pub returns : goal.returns
returns c = key_is c.args.key.now c.expand-words.result c.expand-words.ensures
