-- The first comma splits a list into its first part and the others.
use Rattle.std.proofs.Common.{◌≡◌, ℕ, suc, ◌+◌, Bool, true, false, cond, not, nat_lt, ◌==◌, List, [], ◌∷◌, Option, None, Some, option_map}
use Rattle.std.proofs.Common.{length, take, drop, position, refl, ap, sym, ◌∙◌, arith, add-one, ◌-◌, ◌<◌}
use Rattle.std.proofs.lemmas.List.{length-take-le, take_rest}
use Rattle.std.specs.Str.{byte}
use Rattle.std.proofs.lemmas.Bool.Decides.{nat_tests}
use Rattle.srt_streamid.specs.Parts.{Piece, joined, parts_from}

placed : (here : Bool) (n len : ℕ)
    → cond (nat_lt (cond (not here) (1 + n) 0) (suc len)) (Some (cond (not here) (1 + n) 0)) None
    ≡ cond here (Some 0) (option_map (λ k. k + 1) (cond (nat_lt n len) (Some n) None))
placed true n len = grind (arith, nat_tests)
placed false n len = grind (arith, nat_tests)

position_step : (p : ℕ → Bool) (x : ℕ) (xs : List ℕ) → position p (x ∷ xs) ≡ cond (p x) (Some 0) (option_map (λ k. k + 1) (position p xs))
position_step p x xs = placed (p x) _ (length xs)

abbrev pub is_comma : ℕ → Bool
is_comma b = b == byte ","

-- the parts, given the offset of the first comma, or none
abbrev pub cut_at : (at : ℕ) → List ℕ → Option ℕ → List Piece
cut_at at xs None = record { start = at; text = xs } ∷ []
cut_at at xs (Some n) = record { start = at; text = take n xs } ∷ parts_from (at + (n + 1)) (drop (n + 1) xs)

joined_cut : (at b : ℕ) (bs : List ℕ) (comma : Option ℕ) → joined at b (cut_at (at + 1) bs comma) ≡ cut_at at (b ∷ bs) (option_map (λ k. k + 1) comma)
joined_cut at b bs None = refl
joined_cut at b bs (Some n) =
    let place : at + 1 + (n + 1) ≡ at + (n + 1 + 1) = omega arith in
    rw (place, add-one, add-one) refl

cut_here : (here : Bool) (at b : ℕ) (bs : List ℕ) → parts_from (at + 1) bs ≡ cut_at (at + 1) bs (position is_comma bs)
    → cond here (record { start = at; text = [] } ∷ parts_from (at + 1) bs) (joined at b (parts_from (at + 1) bs))
    ≡ cut_at at (b ∷ bs) (cond here (Some 0) (option_map (λ k. k + 1) (position is_comma bs)))
cut_here true at b bs e = refl
cut_here false at b bs e = ap (joined at b) e ∙ joined_cut at b bs (position is_comma bs)

pub cuts : (at : ℕ) (bs : List ℕ) → parts_from at bs ≡ cut_at at bs (position is_comma bs)
cuts at [] = refl
cuts at (b ∷ bs) = rw (position_step is_comma b bs) (cut_here (is_comma b) at b bs (cuts (at + 1) bs))

-- the part before the first comma and the parts after it, in the form of slices
pub cut_there : (at n : ℕ) (bs : List ℕ) → n < length bs → position is_comma bs ≡ Some n
    → parts_from at bs
    ≡ record { start = at; text = take n bs } ∷ parts_from (at + (length (take n bs) + 1)) (take (length bs - (n + 1)) (drop (n + 1) bs))
cut_there at n bs inside e =
    let cut = cuts at bs ∙ ap (cut_at at bs) e in
    rw (take_rest bs (n + 1), length-take-le n bs (omega arith)) cut
