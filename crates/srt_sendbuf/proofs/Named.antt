-- Ranges that are read from a loss list, as parts of a window.
use Rattle.std.proofs.Common.{◌≡◌, ℕ, suc, ◌+◌, ◌%◌, ◌^◌, ◌<◌, ◌≤◌, Bool, true, false, ◌||◌, Option, None, Some, List, [], ◌∷◌, length}
use Rattle.std.proofs.Common.{refl, sym, ap, ◌∙◌, arith}
use Rattle.std.specs.Prelude.{All, IfSome, slice_index_or}
use Rattle.std.specs.List.Sorted.{IsNonDecreasingBy}
use Rattle.std.proofs.lemmas.List.Elements.{All-push}
use Rattle.std.proofs.lemmas.List.Folds.{list_any-append}
use Rattle.srt_types.specs.Runs.{Range, is_in, is_requested, ranges_from}
use Rattle.srt_types.proofs.Ranges.{ranges_from_initial}
use Rattle.srt_loss.specs.Window.{is_in_part, IsPartOf}
use Rattle.srt_sendbuf.specs.Parts.{is_in_parts, with_part, AreWithin, IsTaken}
use Rattle.srt_sendbuf.proofs.Asks.{alone}
use Rattle.srt_sendbuf.proofs.Rings.{length_last}

pub together : (a b c : Bool) → (a || (b || c)) ≡ ((a || b) || c)
together true b c = refl
together false b c = refl

in_more : (parts : List (ℕ × ℕ)) (part : Option (ℕ × ℕ)) (d : ℕ) → is_in_parts (with_part parts part) d ≡ (is_in_parts parts d || is_in_part part d)
in_more parts None d = sym (alone (is_in_parts parts d))
in_more parts (Some p) d = list_any-append (λ q. is_in_part (Some q) d) parts (p ∷ []) ∙ ap (λ b. is_in_parts parts d || b) (alone (is_in_part (Some p) d))

-- the list's next range is read, and its part is appended if it has one
pub taken_more : (word width : ℕ) (list left : List Range) (x : Range) (parts : List (ℕ × ℕ)) (part : Option (ℕ × ℕ)) → x.first < 2 ^ 31
    → x.last < 2 ^ 31 → ((n : ℕ) → n % 2 ^ 31 ≡ word → IsPartOf x n width part) → IsTaken word width list (x ∷ left) (is_in_parts parts)
    → IsTaken word width list left (is_in_parts (with_part parts part))
taken_more word width list left x parts part f l here before initial from d e lt =
    before initial from d e lt
    ∙ ap (λ b. is_in_parts parts d || (b || is_requested (ranges_from initial left) (from + d)))
    (ranges_from_initial initial (from + d) x f l ∙ ap (is_in x) (omega arith) ∙ here (initial + from) e d lt)
    ∙ together (is_in_parts parts d) (is_in_part part d) (is_requested (ranges_from initial left) (from + d))
    ∙ ap (λ b. b || is_requested (ranges_from initial left) (from + d)) (sym (in_more parts part d))

pub within_more : (width : ℕ) (parts : List (ℕ × ℕ)) (part : Option (ℕ × ℕ))
    → AreWithin width parts → IfSome part (λ p. (p.0 ≤ p.1) × (p.1 < width)) → AreWithin width (with_part parts part)
within_more width parts None all one = all
within_more width parts (Some p) all one = All-push (λ q. (q.0 ≤ q.1) × (q.1 < width)) parts p all one

pub length_more : (parts : List (ℕ × ℕ)) (part : Option (ℕ × ℕ)) → length (with_part parts part) ≤ length parts + 1
length_more parts None = omega arith
length_more parts (Some p) = let h = length_last parts p in omega (arith, h)

-- of ascending parts, those after the first ascend and begin no earlier than it
pub rest_ascends : (x : ℕ × ℕ) (xs : List (ℕ × ℕ)) → IsNonDecreasingBy (λ p. p.0) (x ∷ xs) → IsNonDecreasingBy (λ p. p.0) xs
rest_ascends x xs up i j d le lt = up (suc i) (suc j) d (omega (arith, le)) (omega (arith, lt))

pub first_least : (least : ℕ) (x : ℕ × ℕ) (xs : List (ℕ × ℕ)) → least ≤ x.0 → IsNonDecreasingBy (λ p. p.0) (x ∷ xs) → All (λ p. least ≤ p.0) xs
first_least least x xs le up k d lt = let h : x.0 ≤ (slice_index_or xs k d).0 = up 0 (suc k) d (omega arith) (omega (arith, lt)) in omega (arith, le, h)
