-- Bytes put at the end of a text.
use Rattle.std.proofs.Common.{◌≡◌, ℕ, ◌+◌, ◌<◌, List, [], ◌++◌, length, take, get_or, ap, sym, ◌∙◌, append_assoc}
use Rattle.std.specs.Prelude.{Result, Ok, Err, OnOk}
use Rattle.std.proofs.lemmas.List.{take_more, flat_map_more}
use Rattle.std.specs.List.{flat_map}

-- one piece more of a text that is put piece by piece
pub one_more : {A : Type 0} (f : A → List ℕ) (d : A) (xs : List A) (i : ℕ)
    → i < length xs → flat_map f (take (i + 1) xs) ≡ flat_map f (take i xs) ++ f (get_or xs i d)
one_more f d xs i within =
    ap (flat_map f) (take_more xs i d within) ∙ sym (flat_map_more f [] (take i xs) (get_or xs i d))

-- one text put behind another
pub joined : (x y z a b : List ℕ) → y ≡ x ++ a → z ≡ y ++ b → z ≡ x ++ (a ++ b)
joined x y z a b e f = f ∙ ap (λ (l : List ℕ). l ++ b) e ∙ append_assoc x a b

-- the same of the last one, which may fail
pub joined_last : {A E : Type 0} (r : Result A E) (x y z a b : List ℕ) → y ≡ x ++ a → OnOk r (z ≡ y ++ b) → OnOk r (z ≡ x ++ (a ++ b))
joined_last (Ok v) x y z a b e f = joined x y z a b e f
joined_last (Err v) x y z a b e f = f
