-- Text of the log that waits while nobody reads it (our choice).
use Rattle.std.specs.Prelude.{◌≡◌, ◌⊎◌, ◌+◌, ◌<◌, ◌++◌, ℕ, List, [], length, drop}
use Rattle.srt_host.specs.declared.held_text.HeldText.{HeldText}
use Rattle.srt_host.specs.declared.errors.Errors.{Errors}

-- what is kept: what was written since nothing waited, and what waits, the oldest byte first
abbrev pub kept_in : HeldText → List ℕ
kept_in text = text.kept.value.items

-- what waits
abbrev pub held_in : HeldText → List ℕ
held_in text = drop text.written text.kept.value.items

-- what waits to be written to standard error
abbrev pub waiting_in : {R : Type 0} → Errors R → List ℕ
waiting_in errors = held_in errors.held

-- what was kept is what was taken away, and the rest
abbrev pub IsRest : (old new : List ℕ) → Type 0
IsRest old new = (taken : List ℕ) × (old ≡ taken ++ new)

-- a text is put: nothing waits any more, or it waits behind the rest
abbrev pub IsPut : {R : Type 0} → (text : List ℕ) → (old new : Errors R) → Type 0
IsPut text old new = (waiting_in new ≡ []) ⊎ ((rest : List ℕ) × IsRest (waiting_in old) rest × (waiting_in new ≡ rest ++ text))

-- there is no room for all of a text, and only the rest waits
abbrev pub IsRefused : {R : Type 0} → (text : List ℕ) → (old new : Errors R) → Type 0
IsRefused text old new = IsRest (waiting_in old) (waiting_in new) × (65536 < length (kept_in new.held) + length text)
