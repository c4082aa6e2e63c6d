-- Lists with some elements left out.
use Rattle.std.proofs.Common.{inl, inr, List, [], ◌∷◌, ◌++◌}
use Rattle.srt_serve.specs.Ticks.{IsWithin}

pub within_later : {A : Type 0} (us ys vs : List A) → IsWithin us vs → IsWithin us (ys ++ vs)
within_later us [] vs h = h
within_later [] (y ∷ ys) vs h = tt
within_later (u ∷ us) (y ∷ ys) vs h = inr (within_later (u ∷ us) ys vs h)

pub within_append : {A : Type 0} (xs ys us vs : List A) → IsWithin xs ys → IsWithin us vs → IsWithin (xs ++ us) (ys ++ vs)
within_append [] ys us vs h k = within_later us ys vs k
within_append (x ∷ xs) [] us vs h k = absurd h
within_append (x ∷ xs) (y ∷ ys) us vs (inl h) k = inl (h.0, within_append xs ys us vs h.1 k)
within_append (x ∷ xs) (y ∷ ys) us vs (inr h) k = inr (within_append (x ∷ xs) ys us vs h k)
