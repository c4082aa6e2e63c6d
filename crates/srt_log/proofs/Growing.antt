-- Bytes put at the end of a text that grows.
use Rattle.std.proofs.Common.{◌≡◌, ℕ, ◌+◌, ◌<◌, List, [], ◌++◌, length, take, slice_index, ap, sym, ◌∙◌, append_assoc}
use Rattle.std.proofs.lemmas.List.{take_more, flat_map_more}
use Rattle.std.specs.List.{flat_map}
use Rattle.std.specs.Prelude.{Result, Ok, Err, OnOk}
use Rattle.srt_log.specs.Members.{in_quotes}

-- one more byte between quotation marks
pub one_more : (bytes : List ℕ) (i : ℕ) → i < length bytes
    → flat_map in_quotes (take (i + 1) bytes) ≡ flat_map in_quotes (take i bytes) ++ in_quotes (slice_index bytes i)
one_more bytes i within =
    ap (flat_map in_quotes) (take_more bytes i 0 within) ∙ sym (flat_map_more in_quotes [] (take i bytes) (slice_index bytes i))

-- one text put behind another
pub joined : (x y z a b : List ℕ) → y ≡ x ++ a → z ≡ y ++ b → z ≡ x ++ (a ++ b)
joined x y z a b e f = f ∙ ap (λ (l : List ℕ). l ++ b) e ∙ append_assoc x a b

-- the same of the last one, which may fail
pub joined_last : {A E : Type 0} (r : Result A E) (x y z a b : List ℕ) → y ≡ x ++ a → OnOk r (z ≡ y ++ b) → OnOk r (z ≡ x ++ (a ++ b))
joined_last (Ok v) x y z a b e f = joined x y z a b e f
joined_last (Err v) x y z a b e f = f
