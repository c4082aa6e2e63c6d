-- What the steps of wrapping leave of a state.
use Rattle.std.proofs.Common.{◌≡◌, ◌∙◌, ℕ, zero, suc, List, [], ◌∷◌, ◌++◌, ◌+◌, ◌-◌, ◌*◌, ◌≤◌, refl, sym, ap, arith, length, take, drop, append_assoc}
use Rattle.std.specs.Prelude.{true, false, Some, None, if◌then◌else◌}
use Rattle.std.specs.Str.{bytes_eq}
use lib.Seq.{take-take}
use Rattle.std.proofs.lemmas.Bool.{cond-true, cond-false}
use Rattle.std.proofs.lemmas.List.{append-nil}
use Rattle.std.proofs.lemmas.Slice.{between_is}
use Rattle.srt_keys.specs.Wrap.{initial_value}
use Rattle.std.proofs.Math.Seq.{take_at, drop_at}

abbrev pub zeros : List ℕ
zeros = 0 ∷ 0 ∷ 0 ∷ 0 ∷ 0 ∷ 0 ∷ 0 ∷ 0 ∷ []

-- the second half of 16 bytes is replaced
pub both_halves : (first second : List ℕ) → length first ≡ 8 →
    take 8 (first ++ zeros) ++ (second ++ drop 8 (drop 8 (first ++ zeros))) ≡ first ++ second
both_halves first second a =
    ap (λ (v : List ℕ). take 8 (first ++ zeros) ++ (second ++ drop 8 v)) (drop_at first zeros 8 a) ∙
    ap (λ (v : List ℕ). v ++ (second ++ [])) (take_at first zeros 8 a) ∙ ap (λ (v : List ℕ). first ++ v) (append-nil second)

front_dropped : (k n : ℕ) (xs rest : List ℕ) → k ≤ n → n ≤ length xs →
    drop k (take n xs ++ rest) ≡ take (n - k) (drop k xs) ++ rest
front_dropped zero n xs rest some within =
    let same : n ≡ n - 0 = omega arith in ap (λ (m : ℕ). take m xs ++ rest) same
front_dropped (suc k) zero xs rest some within = absurd (omega arith)
front_dropped (suc k) (suc n) [] rest some within = absurd (omega arith)
front_dropped (suc k) (suc n) (x ∷ xs) rest some within =
    let same : n - k ≡ suc n - suc k = omega arith in
    front_dropped k n xs rest (omega arith) (omega arith) ∙ ap (λ (m : ℕ). take m (drop k xs) ++ rest) same

-- a block and the check value before it are replaced
pub replaced : (state closed check : List ℕ) (index : ℕ) → 1 ≤ index → 8 * index + 8 ≤ length state →
    check ++ drop 8 (take (8 * index) state ++ closed ++ drop (8 * index + 8) state) ≡
    check ++ take (8 * index - 8) (drop 8 state) ++ closed ++ drop (8 * index + 8) state
replaced state closed check index some within =
    let rest = drop (8 * index + 8) state in
    let front = take (8 * index - 8) (drop 8 state) in
    ap (λ (v : List ℕ). check ++ drop 8 v) (append_assoc (take (8 * index) state) closed rest) ∙
    ap (λ (v : List ℕ). check ++ v) (front_dropped 8 (8 * index) state (closed ++ rest) (omega arith) (omega arith)) ∙
    sym (append_assoc check front (closed ++ rest)) ∙ sym (append_assoc (check ++ front) closed rest)

-- the text behind the initial value, and nothing behind another value
pub text_behind : (state opened : List ℕ) (n : ℕ) → 8 ≤ n → take n opened ≡ state →
    bytes_eq (take 8 opened) initial_value ≡ true →
    Some (take (n - 8) (drop 8 opened)) ≡ (if bytes_eq (take 8 state) initial_value then Some (drop 8 state) else None)
text_behind state opened n some is right =
    let front = sym (take-take 8 n opened some) ∙ ap (λ (v : List ℕ). take 8 v) is in
    let test = ap (λ (v : List ℕ). bytes_eq v initial_value) (sym front) ∙ right in
    ap (λ (v : List ℕ). Some v) (between_is opened 8 n ∙ ap (λ (v : List ℕ). drop 8 v) is) ∙
    sym (cond-true (bytes_eq (take 8 state) initial_value) (Some (drop 8 state)) None test)

pub no_text_behind : (state opened : List ℕ) (n : ℕ) → 8 ≤ n → take n opened ≡ state →
    bytes_eq (take 8 opened) initial_value ≡ false →
    None ≡ (if bytes_eq (take 8 state) initial_value then Some (drop 8 state) else None)
no_text_behind state opened n some is wrong =
    let front = sym (take-take 8 n opened some) ∙ ap (λ (v : List ℕ). take 8 v) is in
    let test = ap (λ (v : List ℕ). bytes_eq v initial_value) (sym front) ∙ wrong in
    sym (cond-false (bytes_eq (take 8 state) initial_value) (Some (drop 8 state)) None test)
