-- The tokens of a reader are those of the locks of the places that it has reached, in their order.
use Rattle.std.proofs.Common.{◌≡◌, ℕ, suc, ◌+◌, ◌<◌, ◌≤◌, Bool, true, false, cond, List, [], ◌∷◌, ◌++◌, length, map, take, get_or, Some, slice_get}
use Rattle.std.proofs.Common.{sym, ap, ◌∙◌, arith}
use Rattle.std.proofs.lemmas.List.{map-append, length-append, length-map, length-take, get_or-map, get_or-take}
use Rattle.std.proofs.lemmas.Option.{slice_get_within, get_or_from_slice_get, slice_get-get_or, slice_get-map}
use Rattle.std.specs.Option.{option_map}
use Rattle.std.proofs.Math.Seq.{take-suc}

module _ {T S : Type 0} (of : T → ℕ) (id : S → ℕ) (ts : List T) (seats : List S) (shown : map of ts ≡ take (length ts) (map id seats)) where
  -- one more token, if there was room for it
  pub one_shown : (after : List T) (t : T) (b : Bool) →
      after ≡ cond b (ts ++ t ∷ []) ts → slice_get (map id seats) (length ts) ≡ Some (of t) →
      map of after ≡ take (length after) (map id seats)
  one_shown after t true pushed at =
      let ids = map id seats in
      let many : length after ≡ suc (length ts) =
      ap length pushed ∙ length-append ts (t ∷ []) ∙ (let sums : length ts + 1 ≡ suc (length ts) = omega arith in sums) in
      ap (map of) pushed
      ∙ map-append of ts (t ∷ [])
      ∙ ap (λ (ns : List ℕ). ns ++ of t ∷ []) shown
      ∙ ap (λ (n : ℕ). take (length ts) ids ++ n ∷ []) (sym (get_or_from_slice_get ids (length ts) (of t) 0 at))
      ∙ sym (take-suc ids (length ts) 0 (slice_get_within ids (length ts) (of t) at))
      ∙ ap (λ (n : ℕ). take n ids) (sym many)
  one_shown after t false pushed at =
      ap (map of) pushed ∙ shown ∙ ap (λ (xs : List T). take (length xs) (map id seats)) (sym pushed)

  -- each token's lock is that of the place with the same index
  pub lock_of : (i : ℕ) (t : T) → i < length ts → t ≡ get_or ts i t → of t ≡ get_or (map id seats) i 0
  lock_of i t within there =
      ap of there ∙ sym (get_or-map of ts i t 0 within) ∙ ap (λ (ns : List ℕ). get_or ns i 0) shown
      ∙ get_or-take (length ts) (map id seats) i 0 within

  -- no more tokens than places
  pub count_within : length ts ≤ length seats
  count_within =
      let many = ap length shown in
      let same = length-map ts of in
      let all = length-map seats id in
      let cut = length-take (length ts) (map id seats) in
      omega (arith, many, same, all, cut)

  pub place_of : (i : ℕ) (t : T) (s : S) → i < length ts → t ≡ get_or ts i t → of t ≡ id (get_or seats i s)
  place_of i t s within there =
      let few = count_within in
      let inside : i < length seats = omega (arith, within, few) in
      lock_of i t within there ∙ get_or-map id seats i s 0 inside

  -- there is room for the token of the place after those that were read
  pub goes_in : (lock capacity count : ℕ) → slice_get (map id seats) (length ts) ≡ Some lock → length seats ≤ capacity →
      count ≡ length ts → capacity ≤ count → ⊥
  goes_in lock capacity count at room counted full =
      let before = slice_get_within (map id seats) (length ts) lock at in
      let all = length-map seats id in
      omega (arith, before, all, room, counted, full)

-- the value of a token is at its index among all values
pub shown_at : {T V : Type 0} (value : T → V) (ts : List T) (i : ℕ) (t : T) → i < length ts → t ≡ get_or ts i t →
    slice_get (map value ts) i ≡ Some (value t)
shown_at value ts i t within there =
    slice_get-map value ts i ∙ ap (option_map value) (slice_get-get_or ts i t within ∙ ap Some (sym there))
