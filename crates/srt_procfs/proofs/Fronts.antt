-- Bytes that are read, one piece after the other.
use Rattle.std.proofs.Common.{◌≡◌, ℕ, ◌+◌, ◌≤◌, List, ◌++◌, length, take, ap, subst, sym, ◌∙◌}
use Rattle.std.proofs.Common.{append_assoc, length-append, arith}
use Rattle.std.proofs.lemmas.List.{length-take-le, take-append-le}
use Rattle.std.proofs.Math.Seq.{take-append-add}
use borrow.Rule.Slice.PartMut.{post_of, put_mid}

-- the front of a place with n more bytes
front_more : (a k n : ℕ) (xs ys : List ℕ) → a ≤ length xs → n ≤ length ys → take (a + n) (put_mid a k xs ys) ≡ take a xs ++ take n ys
front_more a k n xs ys within enough =
    subst (λ (m : ℕ). take (m + n) (put_mid a k xs ys) ≡ take a xs ++ take n ys) (length-take-le a xs within)
    (take-append-add (take a xs) (ys ++ post_of a k xs) n ∙ ap (λ (l : List ℕ). take a xs ++ l) (take-append-le n ys (post_of a k xs) enough))

-- a piece more of a text is a piece more at the front of a place
pub fills : (start old new : List ℕ) (a k n : ℕ) (xs ys : List ℕ) → a ≤ length xs → n ≤ length ys → old ≡ start ++ take a xs
    → new ≡ old ++ take n ys → new ≡ start ++ take (a + n) (put_mid a k xs ys)
fills start old new a k n xs ys within enough before more =
    more ∙ ap (λ (l : List ℕ). l ++ take n ys) before ∙ append_assoc start (take a xs) (take n ys)
    ∙ ap (λ (l : List ℕ). start ++ l) (sym (front_more a k n xs ys within enough))

-- and it is within the place
pub within_place : (a k n : ℕ) (xs ys : List ℕ) → a ≤ length xs → n ≤ length ys → a + n ≤ length (put_mid a k xs ys)
within_place a k n xs ys within enough =
    omega (arith, length-append (take a xs) (ys ++ post_of a k xs), length-append ys (post_of a k xs), length-take-le a xs within, enough)
