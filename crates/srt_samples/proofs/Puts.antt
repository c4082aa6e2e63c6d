-- Bytes appended to a text.
use Rattle.std.proofs.Common.{◌≡◌, ℕ, ◌+◌, ◌*◌, ◌<◌, List, [], ◌++◌, length, take, get_or, ap, sym, ◌∙◌, append_assoc, suc, arith}
use Rattle.std.proofs.lemmas.List.{take_more, flat_map_more}
use Rattle.std.specs.List.{flat_map}
use Rattle.srt_samples.specs.Samples.{group, groups}

-- one more element of a list that is written element by element
pub one_more : {A : Type 0} (f : A → List ℕ) (d : A) (xs : List A) (i : ℕ)
    → i < length xs → flat_map f (take (i + 1) xs) ≡ flat_map f (take i xs) ++ f (get_or xs i d)
one_more f d xs i within =
    ap (flat_map f) (take_more xs i d within) ∙ sym (flat_map_more f [] (take i xs) (get_or xs i d))

-- one group more
pub one_group_more : (text : List ℕ) (i : ℕ) → groups text (i + 1) ≡ groups text i ++ group text (4 * i)
one_group_more text i = let e : i + 1 ≡ suc i = omega arith in ap (groups text) e

-- one text appended to another
pub joined : (x y z a b : List ℕ) → y ≡ x ++ a → z ≡ y ++ b → z ≡ x ++ (a ++ b)
joined x y z a b e f = f ∙ ap (λ (l : List ℕ). l ++ b) e ∙ append_assoc x a b
