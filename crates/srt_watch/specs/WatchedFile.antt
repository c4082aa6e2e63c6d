-- When the file of a configuration is read, and whether what it has is new.
use Rattle.std.specs.Prelude.{ℕ, ◌==◌, Bool, true, false, not, ◌||◌, List, Option, None, Some, if◌then◌else◌}
use Rattle.std.specs.Str.{bytes_eq}
use Rattle.srt_watch.specs.declared.config_file.FileStamp.{FileStamp}
use Rattle.srt_watch.specs.declared.watched_file.LastPoll.{LastPoll}
use Rattle.srt_watch.specs.declared.watched_file.Phase.{Phase}
use Rattle.srt_watch.specs.declared.watched_file.Phase.TheVariants.{Settling, Read, Known}

-- the content may be another one: size or time differ, or it is the first poll
abbrev pub differs : (before : Option FileStamp) → (now : FileStamp) → Bool
differs None now = true
differs (Some before) now = not (before.changed == now.changed) || not (before.size == now.size)

abbrev pub next_phase : Phase → Phase
next_phase Settling = Read
next_phase Read = Known
next_phase Known = Known

-- before the first poll
abbrev pub no_poll : LastPoll
no_poll = record { stamp = None; phase = Known }

-- it isn't known whether the file's writer is still at work
abbrev pub settles : Phase → Bool
settles Settling = true
settles Read = false
settles Known = false

abbrev pub is_settling : LastPoll → Bool
is_settling last = settles last.phase

abbrev pub is_known : Phase → Bool
is_known Settling = false
is_known Read = false
is_known Known = true

-- a file that differs is read at the next two polls at which it is the same; one without a stamp is read each time
abbrev pub reads : LastPoll → Option FileStamp → Bool
reads last None = true
reads last (Some now) = if differs last.stamp now then false else not (is_known last.phase)

abbrev pub after_poll : LastPoll → Option FileStamp → LastPoll
after_poll last None = record { stamp = None; phase = Known }
after_poll last (Some now) = record { stamp = Some now; phase = if differs last.stamp now then Settling else next_phase last.phase }

-- another content than the last one, if there was one
abbrev pub is_other : (last : Option (List ℕ)) → (content : List ℕ) → Bool
is_other None content = true
is_other (Some last) content = not (bytes_eq last content)
