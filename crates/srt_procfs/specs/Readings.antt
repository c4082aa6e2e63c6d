-- What was read of the kernel's files, for contracts alone.
use Rattle.std.specs.Prelude.{◌≡◌, ◌⊎◌, ℕ, ◌==◌, ◌&&◌, nat_lt, Bool, true, false, List, [], ◌∷◌, ◌++◌, length, take, Option, None, Some, if◌then◌else◌}
use Rattle.srt_journal.specs.Notes.{Note}

-- the path of a file that was opened, all bytes that were read of it, and whether the last read found its end, or any failed
pub record FileReading : Type 0 where
  pub path : List ℕ
  pub text : List ℕ
  pub is_at_end : Bool
  pub has_failed : Bool

-- nothing was read yet
abbrev pub opened : (path : List ℕ) → FileReading
opened path = record { path = path; text = []; is_at_end = false; has_failed = false }

-- a read of no byte is at the end, if there was room for one
abbrev pub is_end : (n : ℕ) → (place : List ℕ) → Bool
is_end n place = (n == 0) && nat_lt 0 (length place)

-- one read more: it put this number of bytes at the front of a place, or it failed
abbrev pub after_read : FileReading → (answer : Option ℕ) → (place : List ℕ) → FileReading
after_read r (Some n) place = record { path = r.path; text = r.text ++ take n place; is_at_end = is_end n place; has_failed = r.has_failed }
after_read r None place = record { path = r.path; text = r.text; is_at_end = r.is_at_end; has_failed = true }

-- one call more: number 0 opened the file with a path, 1 read, 2 is a read that failed
abbrev pub after_call : FileReading → Note → FileReading
after_call r (kind ∷ n ∷ [], path, place) =
    if kind == 0 then opened path else (if kind == 1 then after_read r (Some n) place else after_read r None place)
after_call r (numbers, path, place) = r

-- what these calls at a file read of it, the newest first
abbrev pub reading_of : List Note → FileReading
reading_of [] = opened []
reading_of (note ∷ notes) = after_call (reading_of notes) note

-- the file was read to its end, or a read failed
abbrev pub IsOver : FileReading → Type 0
IsOver r = (r.is_at_end ≡ true) ⊎ (r.has_failed ≡ true)

-- the file with this path was read, all of it, until a read failed, or to as many bytes as there was room for; this is the text
pub record IsFront (path : List ℕ) (room : ℕ) (text : List ℕ) (r : FileReading) : Type 0 where
  pub of_path : r.path ≡ path
  pub of_text : r.text ≡ text
  pub ended : IsOver r ⊎ (length text ≡ room)

-- what is told is of the front of the file with this path; or else the file couldn't be opened
abbrev pub IsTold : {File : Type 0} → (reading : File → FileReading) → (was_refused : List ℕ → Type 0) → (path : List ℕ) → (room : ℕ)
    → (unread : Type 0) → (told : List ℕ → Type 0) → Type 0
IsTold {File} reading was_refused path room unread told =
    (was_refused path × unread) ⊎ ((file : File) × (text : List ℕ) × IsFront path room text (reading file) × told text)

-- a table was read whole, or to as many bytes as there was room for
abbrev pub IsTable : {File : Type 0} → (reading : File → FileReading) → (path : List ℕ) → (room : ℕ) → (text : List ℕ) → Type 0
IsTable {File} reading path room text = (file : File) × IsFront path room text (reading file) × ((reading file).has_failed ≡ false)

-- it wasn't: the file couldn't be opened, there was no memory, or a read failed
abbrev pub IsUnread : {File : Type 0} → (reading : File → FileReading) → (was_refused : List ℕ → Type 0) → (was_full : Type 0)
    → (path : List ℕ) → Type 0
IsUnread {File} reading was_refused was_full path =
    was_refused path ⊎ was_full ⊎ ((file : File) × ((reading file).path ≡ path) × ((reading file).has_failed ≡ true))
