-- Ranges may be relative to an initial number.
use Rattle.std.proofs.Common.{◌≡◌, ℕ, ◌+◌, ◌^◌, ◌<◌, true, refl, ap, ◌∙◌, arith}
use Rattle.std.specs.Prelude.{nat_lt, nat_le}
use Rattle.std.proofs.lemmas.Bool.{lt-ltb}
use Rattle.srt_types.specs.Window.{offset_of, counted_from}
use Rattle.srt_types.specs.Runs.{RangesFromInitial}

-- a word relative to the initial number is its offset from that number
pub counted_is : (initial word : ℕ) → word < 2 ^ 31 → counted_from initial word ≡ offset_of word initial
counted_is initial word lt = let b : nat_lt word (2 ^ 31) ≡ true = lt-ltb _ _ lt in rw b refl

pub ranges_from_initial : RangesFromInitial
ranges_from_initial initial n x f l =
    let a = counted_is initial x.first f in
    let b = counted_is initial x.last l in
    let near : offset_of n (offset_of x.first initial) ≡ offset_of (initial + n) x.first = omega (arith, f) in
    let wide : offset_of (offset_of x.last initial) (offset_of x.first initial) ≡ offset_of x.last x.first = omega (arith, f, l) in
    ap (λ c. nat_le (offset_of n c) (offset_of (counted_from initial x.last) c)) a
    ∙ ap (λ c. nat_le (offset_of n (offset_of x.first initial)) (offset_of c (offset_of x.first initial))) b
    ∙ ap (λ o. nat_le o (offset_of (offset_of x.last initial) (offset_of x.first initial))) near
    ∙ ap (λ o. nat_le (offset_of (initial + n) x.first) o) wide
