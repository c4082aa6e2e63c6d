-- A name is read as it is written, or isn't UTF-8.
use Rattle.std.proofs.Common.{◌≡◌, ℕ, List, None, Some, IsUtf8, refl, ap}
use Rattle.std.proofs.lemmas.Bool.{false_from_ne_true}
use Rattle.std.specs.Str.{is_utf8}
use Rattle.std.proofs.lemmas.Str.{IsUtf8-from_is_utf8, is_utf8-from_IsUtf8}
use Rattle.srt_replay.specs.Events.{text_in}

pub read_found : (name text : List ℕ) → name ≡ text → IsUtf8 text → Some name ≡ text_in text
read_found name text same u = rw (is_utf8-from_IsUtf8 text u) (ap (λ (t : List ℕ). Some t) same)

pub read_none : (text : List ℕ) → (IsUtf8 text → ⊥) → None ≡ text_in text
read_none text none = rw (false_from_ne_true (is_utf8 text) (λ t. none (IsUtf8-from_is_utf8 text t))) refl
