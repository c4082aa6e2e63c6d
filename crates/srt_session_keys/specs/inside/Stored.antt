-- The keys and the message that a subscriber's session stores.
use Rattle.std.specs.Prelude.{◌≡◌, ◌<◌, ◌≤◌, ℕ, ◌+◌, ◌%◌, ◌==◌, List, true, Option, is_some, if◌then◌else◌}
use Rattle.srt_session_keys.specs.Source.{Source, own, own_message}
use Rattle.srt_session_keys.specs.declared.announcement.Announcement.{Announcement}

-- of two keys, the one whose name a key with this index has
abbrev pub slot_of : (even odd : List ℕ) → (index : ℕ) → List ℕ
slot_of even odd index = if index % 2 == 0 then odd else even

-- the last two of the keys that were made are stored
abbrev pub AreStored : (even odd : List ℕ) → Source → (made : ℕ) → Type 0
AreStored even odd source made =
    (index : ℕ) → index < made → made ≤ index + 2 → slot_of even odd index ≡ own source index

-- the message of the next key is stored, once it was announced
abbrev pub IsStored : (message : List ℕ) → Source → (confirmed : ℕ) → Option Announcement → Type 0
IsStored message source confirmed announced = is_some announced ≡ true → message ≡ own_message source confirmed
