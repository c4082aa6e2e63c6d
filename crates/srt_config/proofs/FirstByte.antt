-- A text split at the first byte of some value.
use Rattle.std.proofs.Common.{◌≡◌, ℕ, zero, suc, ◌+◌, ◌-◌, ◌<◌, true, false, eqb, List, [], ◌∷◌, length, take, drop, slice_index, None}
use Rattle.std.proofs.Common.{Some, option_map, refl, sym, ap, ◌∙◌, arith}
use Rattle.std.proofs.lemmas.Bool.{false_from_ne_true}
use Rattle.std.proofs.lemmas.List.{take_rest}
use Rattle.memchr.specs.Find.{Nowhere, Passes, is_byte}
use Rattle.srt_config.specs.Address.{parted, with_front}

later : (at b : ℕ) (bs : List ℕ) (k : ℕ) → Nowhere (Passes (is_byte at) (b ∷ bs)) 0 (suc k) → Nowhere (Passes (is_byte at) bs) 0 k
later at b bs k h j low high p = h (suc j) (omega arith) (omega arith) p

other : (at b : ℕ) (bs : List ℕ) (k : ℕ) → Nowhere (Passes (is_byte at) (b ∷ bs)) 0 (suc k) → eqb b at ≡ false
other at b bs k h = false_from_ne_true (eqb b at) (λ p. h 0 (omega arith) (omega arith) p)

found_at : (at : ℕ) (text : List ℕ) (k : ℕ) → k < length text → Nowhere (Passes (is_byte at) text) 0 k → eqb (slice_index text k) at ≡ true
    → parted at text ≡ Some (take k text, drop (suc k) text)
found_at at [] k within none is = absurd (omega arith)
found_at at (b ∷ bs) zero within none is = rw is refl
found_at at (b ∷ bs) (suc k) within none is =
    rw (other at b bs k none) (ap (option_map (with_front b)) (found_at at bs k (omega arith) (later at b bs k none) is))

pub parted_found : (at : ℕ) (text : List ℕ) (k : ℕ) → k < length text → Nowhere (Passes (is_byte at) text) 0 k
    → eqb (slice_index text k) at ≡ true
    → Some (take k text, take (length text - (k + 1)) (drop (k + 1) text)) ≡ parted at text
parted_found at text k within none is =
    let e : k + 1 ≡ suc k = omega arith in
    sym (found_at at text k within none is ∙ ap (λ (xs : List ℕ). Some (take k text, xs)) (ap (λ (n : ℕ). drop n text) (sym e) ∙ sym (take_rest text (k + 1))))

pub parted_none : (at : ℕ) (text : List ℕ) → Nowhere (Passes (is_byte at) text) 0 (length text) → None ≡ parted at text
parted_none at [] none = refl
parted_none at (b ∷ bs) none = rw (other at b bs (length bs) none) (ap (option_map (with_front b)) (parted_none at bs (later at b bs (length bs) none)))
