-- A text split at the first byte of a value.
use Rattle.std.proofs.Common.{◌≡◌, ℕ, zero, suc, ◌+◌, ◌-◌, ◌<◌, true, false, eqb, List, [], ◌∷◌, length, take, drop, slice_index, refl, sym, ap, ◌∙◌, arith}
use Rattle.std.proofs.lemmas.Bool.{false_from_ne_true}
use Rattle.std.proofs.lemmas.List.{take_rest}
use Rattle.memchr.specs.Find.{Nowhere, Passes, is_byte}
use Rattle.srt_procfs.specs.Parts.{parts_of, joined}

later : (s b : ℕ) (bs : List ℕ) (k : ℕ) → Nowhere (Passes (is_byte s) (b ∷ bs)) 0 (suc k) → Nowhere (Passes (is_byte s) bs) 0 k
later s b bs k h j low high p = h (suc j) (omega arith) (omega arith) p

other : (s b : ℕ) (bs : List ℕ) (k : ℕ) → Nowhere (Passes (is_byte s) (b ∷ bs)) 0 (suc k) → eqb b s ≡ false
other s b bs k h = false_from_ne_true (eqb b s) (λ p. h 0 (omega arith) (omega arith) p)

split_there : (s : ℕ) (text : List ℕ) (k : ℕ) → k < length text → Nowhere (Passes (is_byte s) text) 0 k → eqb (slice_index text k) s ≡ true
    → parts_of s text ≡ take k text ∷ parts_of s (drop (suc k) text)
split_there s [] k within none is = absurd (omega arith)
split_there s (b ∷ bs) zero within none is = rw is refl
split_there s (b ∷ bs) (suc k) within none is = rw (other s b bs k none) (ap (joined b) (split_there s bs k (omega arith) (later s b bs k none) is))

-- the part before the first separator and those after it, in the form of slices
pub split_found : (s : ℕ) (text : List ℕ) (k : ℕ) → k < length text → Nowhere (Passes (is_byte s) text) 0 k
    → eqb (slice_index text k) s ≡ true
    → parts_of s text ≡ take k text ∷ parts_of s (take (length text - (k + 1)) (drop (k + 1) text))
split_found s text k within none is =
    let e : k + 1 ≡ suc k = omega arith in
    split_there s text k within none is ∙ ap (λ (xs : List ℕ). take k text ∷ parts_of s xs) (ap (λ (n : ℕ). drop n text) (sym e) ∙ sym (take_rest text (k + 1)))

-- a text without a separator is its only part
pub split_none : (s : ℕ) (text : List ℕ) → Nowhere (Passes (is_byte s) text) 0 (length text) → parts_of s text ≡ text ∷ []
split_none s [] none = refl
split_none s (b ∷ bs) none = rw (other s b bs (length bs) none) (ap (joined b) (split_none s bs (later s b bs (length bs) none)))
