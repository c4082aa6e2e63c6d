-- Signals in the text of /proc/PID/status.
use Rattle.std.specs.Prelude.{ℕ, ◌/◌, ◌%◌, Bool, false, ◌==◌, ◌&&◌, ◌||◌, List, Option, None, Some, codes}
use Rattle.srt_procfs.specs.Parts.{parts_of, behind_key}
use Rattle.srt_procfs.specs.Numbers.{number_in}

-- the number of what follows a key, if there is something
abbrev pub mask_of : Option (List ℕ) → Option ℕ
mask_of None = None
mask_of (Some digits) = number_in 16 digits

-- the mask in the first line that begins with the key
unfoldable pub mask_in : (key status : List ℕ) → Option ℕ
mask_in key status = mask_of (behind_key key (parts_of 10 status))

-- signal 2, SIGINT, and signal 15, SIGTERM: signal n is bit n - 1
abbrev pub has_interrupt : (mask : ℕ) → Bool
has_interrupt mask = mask / 2 % 2 == 1

abbrev pub has_terminate : (mask : ℕ) → Bool
has_terminate mask = mask / 16384 % 2 == 1

-- either signal is in the mask
abbrev pub has_either : Option ℕ → Bool
has_either None = false
has_either (Some mask) = has_interrupt mask || has_terminate mask

-- both are
abbrev pub has_both : Option ℕ → Bool
has_both None = false
has_both (Some mask) = has_interrupt mask && has_terminate mask

-- either signal is pending, for the process or for its main thread
abbrev pub asks_to_stop : (status : List ℕ) → Bool
asks_to_stop status = has_either (mask_in (codes "ShdPnd:\t") status) || has_either (mask_in (codes "SigPnd:\t") status)

-- both signals are blocked
abbrev pub blocks_signals : (status : List ℕ) → Bool
blocks_signals status = has_both (mask_in (codes "SigBlk:\t") status)
