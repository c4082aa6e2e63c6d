-- What devices in memory note of their calls.
use Rattle.std.specs.Prelude.{ℕ, List, ◌==◌, if◌then◌else◌, slice_index}
use Rattle.srt_types.specs.declared.shared.Peer.{Peer}
use Rattle.srt_journal.specs.Notes.{Note}
use Rattle.srt_poller.specs.declared.devices.Sent.{Sent}
use Rattle.srt_poller.specs.declared.devices.Sent.TheVariants.{Taken, Later, Failed}
use Rattle.srt_poller.specs.Devices.{datagram, arrival, Attempt, attempt, Call, WaitEnded, WaitFailed, ReadGave, ReadEmpty, ReadFailed}

abbrev pub peer_at : (ip : List ℕ) → (port : ℕ) → Peer
peer_at ip port = record { ip = ip; port = port }

-- a call of a source, if the numbers are which one it is, a port and a time
abbrev pub call_of : Note → Call
call_of note =
    if slice_index note.0 0 == 0 then WaitEnded
    else if slice_index note.0 0 == 1 then WaitFailed
    else if slice_index note.0 0 == 2 then ReadGave (arrival (peer_at note.1 (slice_index note.0 1)) note.2 (slice_index note.0 2))
    else if slice_index note.0 0 == 3 then ReadEmpty else ReadFailed

-- the outcome of this number
abbrev pub outcome : ℕ → Sent
outcome n = if n == 0 then Taken else if n == 1 then Later else Failed

-- a send, if the numbers are a port and an outcome
abbrev pub attempt_of : Note → Attempt
attempt_of note = attempt (datagram (peer_at note.1 (slice_index note.0 0)) note.2) (outcome (slice_index note.0 1))
