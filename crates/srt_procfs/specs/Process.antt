-- What a process uses, in the texts of /proc/PID/stat, /proc/PID/limits, /proc/PID/fd and /proc/stat.
use Rattle.std.specs.Prelude.{◌≡◌, ◌⊎◌, ℕ, ◌-◌, List, [], ◌∷◌, Option, None, Some, codes, length}
use Rattle.srt_procfs.specs.Parts.{parts_of, behind_key, word_at}
use Rattle.srt_procfs.specs.Numbers.{number_of, times_of, sum_of}
use Rattle.srt_procfs.specs.Memory.{word_of}
use Rattle.srt_procfs.specs.Readings.{FileReading, IsTable, IsTold, IsUnread}

-- the last of these parts
abbrev pub last_part : List (List ℕ) → List ℕ
last_part [] = []
last_part (part ∷ []) = part
last_part (part ∷ next ∷ parts) = last_part (next ∷ parts)

-- the number in the word at this index behind a process's name, which ends at the last closing bracket
unfoldable pub number_at : (index : ℕ) → (stat : List ℕ) → Option ℕ
number_at index stat = number_of (word_at index (parts_of 32 (last_part (parts_of 41 stat))))

-- the microseconds of clock ticks, of which 100 are a second
abbrev pub ticks_of : Option ℕ → Option ℕ
ticks_of = times_of 10_000

-- the processor time of a process with this stat, in microseconds: that in its own code, and that in the kernel's
abbrev pub processor_time_in : (stat : List ℕ) → Option ℕ
processor_time_in stat = ticks_of (sum_of (number_at 11 stat) (number_at 12 stat))

-- the start of the machine since 1970, in microseconds, in the text of /proc/stat
unfoldable pub boot_in : (machine : List ℕ) → Option ℕ
boot_in machine = times_of 1_000_000 (number_of (behind_key (codes "btime ") (parts_of 10 machine)))

-- the start of a process since 1970, in microseconds: the machine's start, and how long the machine ran by then
abbrev pub start_in : (machine stat : List ℕ) → Option ℕ
start_in machine stat = sum_of (boot_in machine) (ticks_of (number_at 19 stat))

-- the most descriptors that a process with these limits may have open
unfoldable pub most_descriptors_in : (limits : List ℕ) → Option ℕ
most_descriptors_in limits = number_of (word_of (behind_key (codes "Max open files") (parts_of 10 limits)))

-- the open descriptors by the names in /proc/PID/fd, each ended by a NUL: without the names `.` and `..`, and without the descriptor by
-- which the folder is read
abbrev pub open_descriptors_in : (names : List ℕ) → ℕ
open_descriptors_in names = length (parts_of 0 names) - 4

-- what is told is of a file that was read whole; or it is nothing, since the file couldn't be read
abbrev pub IsOfTable : {File : Type 0} → (reading : File → FileReading) → (was_refused : List ℕ → Type 0) → (was_full : Type 0)
    → (path : List ℕ) → (unread : Type 0) → (told : List ℕ → Type 0) → Type 0
IsOfTable reading was_refused was_full path unread told =
    (IsUnread reading was_refused was_full path × unread) ⊎ ((text : List ℕ) × IsTable reading path 4_194_304 text × told text)

-- the open descriptors of this process, by the names in its folder
abbrev pub AreOpen : {File : Type 0} → (reading : File → FileReading) → (was_refused : List ℕ → Type 0) → (was_full : Type 0)
    → Option ℕ → Type 0
AreOpen reading was_refused was_full count =
    IsOfTable reading was_refused was_full (codes "/proc/self/fd") (count ≡ None) (λ names. count ≡ Some (open_descriptors_in names))

-- the start of this process by its stat, if the machine's text is this one
abbrev pub IsStartBy : {File : Type 0} → (reading : File → FileReading) → (was_refused : List ℕ → Type 0) → (machine : List ℕ)
    → Option ℕ → Type 0
IsStartBy reading was_refused machine start =
    IsTold reading was_refused (codes "/proc/self/stat") 4_096 (start ≡ None) (λ stat. start ≡ start_in machine stat)

-- the start of this process
abbrev pub IsStart : {File : Type 0} → (reading : File → FileReading) → (was_refused : List ℕ → Type 0) → (was_full : Type 0)
    → Option ℕ → Type 0
IsStart reading was_refused was_full start =
    IsOfTable reading was_refused was_full (codes "/proc/stat") (start ≡ None) (λ machine. IsStartBy reading was_refused machine start)
