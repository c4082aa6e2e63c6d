-- The buffer's results as packets and drop requests have them (sections 3.1 and 3.2.9).
use Rattle.std.specs.Prelude.{ℕ, ◌-◌, Bool, Option, None, Some, List, option_map, if◌then◌else◌}
use Rattle.srt_types.specs.Window.{word_of, number_word}
use Rattle.srt_types.specs.Counts.{message_number, message_of}
use Rattle.srt_types.specs.Runs.{Range}
use Rattle.srt_sendbuf.specs.Sending.{Sending, Due, due, due_new, base, front, asks_for_gone}
use Rattle.srt_sendbuf.specs.declared.buffer.Out.{Out}
use Rattle.srt_sendbuf.specs.declared.buffer.DropRun.{DropRun}

-- a packet to be sent, with its sequence number and its message number
pub record Outgoing : Type 0 where
  pub number : ℕ
  pub message : ℕ
  pub again : Bool
  pub origin : ℕ
  pub payload : List ℕ

-- the packet of a `Due`, whose number counts from the initial one
abbrev pub outgoing : (initial : ℕ) → Due → Outgoing
outgoing initial d =
    record { number = number_word initial d.number; message = message_number d.number; again = d.again; origin = d.origin; payload = d.payload }

-- the next packet to be sent
abbrev pub next_outgoing : (initial window : ℕ) → Sending → Option Outgoing
next_outgoing initial window s = option_map (outgoing initial) (due window s)

-- the next new packet to be sent
abbrev pub next_new_outgoing : (initial window : ℕ) → Sending → Option Outgoing
next_new_outgoing initial window s = option_map (outgoing initial) (due_new window s)

-- the packet of a result of `next_due` or `next_new`
abbrev pub outgoing_of : Out → Outgoing
outgoing_of o = record { number = word_of o.number; message = message_of o.message; again = o.again; origin = o.origin; payload = o.payload.now }

-- the contents of a drop request (section 3.2.9): the first sequence number, the last, and the message number of the
-- first
pub record Gone : Type 0 where
  pub first : ℕ
  pub last : ℕ
  pub message : ℕ

-- the drop request for all numbers from the base up to the front
abbrev pub gone : (initial : ℕ) → Sending → Gone
gone initial s = record { first = number_word initial (base s); last = number_word initial (front s - 1); message = message_number (base s) }

-- the drop request that a loss list causes: None if the list contains no number from the base up to the front (our
-- choice)
abbrev pub gone_for : (initial : ℕ) → List Range → Sending → Option Gone
gone_for initial ranges s = if asks_for_gone ranges s then Some (gone initial s) else None

-- the drop request of a result of `lose`
abbrev pub gone_by : DropRun → Gone
gone_by d = record { first = word_of d.first; last = word_of d.last; message = message_of d.message }
