-- What devices in memory do and record.
use Rattle.std.specs.Prelude.{ℕ, ◌+◌, ◌-◌, ◌^◌, min, nat_lt, if◌then◌else◌, Option, None, Some, List, [], ◌∷◌, length, take, slice_get, slice_index}
use Rattle.std.specs.List.{flat_map}
use Rattle.srt_types.specs.Items.{Datagram as TheDatagram}
use Rattle.srt_poller.specs.declared.devices.Polled.{Polled}
use Rattle.srt_poller.specs.declared.devices.Polled.TheVariants as polled
use Rattle.srt_poller.specs.declared.devices.Read.{Read}
use Rattle.srt_poller.specs.declared.devices.Read.TheVariants as read
use Rattle.srt_poller.specs.declared.devices.Sent.{Sent}
use Rattle.srt_poller.specs.declared.devices.Sent.TheVariants.{Taken}
use Rattle.srt_poller.specs.declared.scripts.ScriptDatagram.{ScriptDatagram}
use Rattle.srt_poller.specs.declared.scripts.SentDatagram.{SentDatagram}
use Rattle.srt_poller.specs.declared.scripts.ClockScript.{ClockScript}
use Rattle.srt_poller.specs.declared.scripts.SourceScript.{SourceScript}
use Rattle.srt_poller.specs.declared.scripts.WireScript.{WireScript}
use Rattle.srt_poller.specs.declared.memory.Refusals.{Refusals}
use Rattle.srt_poller.specs.declared.scripts.SourceStep.{SourceStep}
use Rattle.srt_poller.specs.declared.scripts.SourceStep.TheVariants.{Wait, WaitFails, Datagram, Empty, ReadFails}
use Rattle.srt_poller.specs.Devices.{Arrival}

-- how a datagram of a script is given: at most its first 2048 bytes, at a time below 2^62
abbrev pub moment_given : ℕ → ℕ
moment_given moment = min moment (2 ^ 62 - 1)

abbrev pub arrival_of : ScriptDatagram → Arrival
arrival_of d = record { datagram = record { peer = d.peer; bytes = take 2048 d.bytes.items }; moment = moment_given d.moment }

abbrev pub given_by_step : SourceStep → List Arrival
given_by_step Wait = []
given_by_step WaitFails = []
given_by_step (Datagram d) = arrival_of d ∷ []
given_by_step Empty = []
given_by_step ReadFails = []

-- the datagrams of these steps
abbrev pub given_in : List SourceStep → List Arrival
given_in steps = flat_map given_by_step steps

-- what a wait returns at this step, and what a read returns
abbrev pub wait_at : Option SourceStep → Polled
wait_at (Some WaitFails) = polled.Failed
wait_at (Some Wait) = polled.Ready
wait_at (Some (Datagram d)) = polled.Ready
wait_at (Some Empty) = polled.Ready
wait_at (Some ReadFails) = polled.Ready
wait_at None = polled.Ready

abbrev pub read_at : Option SourceStep → Read
read_at (Some (Datagram d)) = read.Datagram d.peer (min (length d.bytes.items) 2048) (moment_given d.moment)
read_at (Some ReadFails) = read.Failed
read_at (Some Empty) = read.Empty
read_at (Some Wait) = read.Empty
read_at (Some WaitFails) = read.Empty
read_at None = read.Empty

-- the number of steps done after a wait at this step, and after a read
abbrev pub after_wait : Option SourceStep → (at : ℕ) → ℕ
after_wait (Some Wait) at = at + 1
after_wait (Some WaitFails) at = at + 1
after_wait (Some (Datagram d)) at = at
after_wait (Some Empty) at = at
after_wait (Some ReadFails) at = at
after_wait None at = at

abbrev pub after_read : Option SourceStep → (at : ℕ) → ℕ
after_read (Some (Datagram d)) at = at + 1
after_read (Some Empty) at = at + 1
after_read (Some ReadFails) at = at + 1
after_read (Some Wait) at = at
after_read (Some WaitFails) at = at
after_read None at = at

-- a datagram as a wire in memory recorded it
abbrev pub sent_as : SentDatagram → TheDatagram
sent_as d = record { peer = d.to; bytes = d.bytes.items }

-- the outcome at this place of its script
abbrev pub answer_at : Option Sent → Sent
answer_at (Some sent) = sent
answer_at None = Taken

-- the time that a clock in memory gives at this place of its script
abbrev pub moment_at : (moments : List ℕ) → (at : ℕ) → ℕ
moment_at moments at = moment_given (slice_index moments at)

-- the place of the moment after this one, if there are this many; the last one is given again and again
abbrev pub moment_after : (moments : ℕ) → (at : ℕ) → ℕ
moment_after moments at = if nat_lt (at + 1) moments then at + 1 else at

abbrev pub steps_of : SourceScript → List SourceStep
steps_of s = s.steps.items

abbrev pub steps_done : SourceScript → ℕ
steps_done s = s.at

-- the step that is done next, if one is left
abbrev pub next_step : SourceScript → Option SourceStep
next_step s = slice_get (steps_of s) (steps_done s)

abbrev pub answers_of : WireScript → List Sent
answers_of w = w.answers.items

abbrev pub answers_given : WireScript → ℕ
answers_given w = w.at

-- the outcome of the next send
abbrev pub next_answer : WireScript → Sent
next_answer w = answer_at (slice_get (answers_of w) (answers_given w))

-- the number of outcomes given after a send with this next outcome
abbrev pub after_answer : Option Sent → (at : ℕ) → ℕ
after_answer (Some sent) at = at + 1
after_answer None at = at

-- the same, of a wire
abbrev pub given_after : WireScript → ℕ
given_after w = after_answer (slice_get (answers_of w) (answers_given w)) (answers_given w)

-- how many allocations were refused
abbrev pub refusals : Refusals → ℕ
refusals r = length r.journal.notes

-- to a wire in memory
abbrev pub refusals_of : WireScript → ℕ
refusals_of w = refusals w.refusals

abbrev pub moments_of : ClockScript → List ℕ
moments_of c = c.moments.items

abbrev pub moments_given : ClockScript → ℕ
moments_given c = c.at
