-- The memory of a process in the text of /proc/PID/status.
use Rattle.std.specs.Prelude.{ℕ, List, Option, None, Some, codes}
use Rattle.srt_procfs.specs.Parts.{parts_of, behind_key, word_at}
use Rattle.srt_procfs.specs.Numbers.{number_of, times_of}

-- the first word of a text, if there is one
abbrev pub word_of : Option (List ℕ) → Option (List ℕ)
word_of None = None
word_of (Some rest) = word_at 0 (parts_of 32 rest)

-- the resident memory of a process with this status, in bytes, by its KiB
unfoldable pub memory_in : (status : List ℕ) → Option ℕ
memory_in status = times_of 1024 (number_of (word_of (behind_key (codes "VmRSS:\t") (parts_of 10 status))))
