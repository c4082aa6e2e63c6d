-- The counts of a report.
use Rattle.std.specs.Prelude.{ℕ, ◌+◌, ◌-◌, ◌^◌, ◌≤◌, min, Bool, true, false, Option, None, Some, List, [], ◌∷◌, ◌++◌}
use Rattle.std.specs.List.{fold}
use Rattle.srt_lobby.specs.declared.classes.Cause.{Cause}
use Rattle.srt_lobby.specs.declared.classes.Cause.TheVariants as causes
use Rattle.srt_poller.specs.declared.devices.Sent.{Sent}
use Rattle.srt_poller.specs.declared.devices.Sent.TheVariants.{Taken, Later, Failed}
use Rattle.srt_supervision.specs.declared.report.Report.{Report}
use Rattle.srt_poller.specs.History.{Event, Begins, Waits, WaitFails, ReadsNothing, ReadFails, Answers, Accepts, Overflows, Refuses, Drops}
use Rattle.srt_poller.specs.History.{Sends, Resends, Kept}

-- one more, or 2^64 - 1 if that is the count already
abbrev pub one_more : ℕ → ℕ
one_more n = min (n + 1) (2 ^ 64 - 1)

abbrev pub nothing : Report
nothing = record { read = 0; answered = 0; accepted = 0; full = 0; dropped = 0; not_allowed = 0; memory = 0; sent = 0; lost = 0; faults = 0 }

-- whether a datagram is dropped since none of its route's lists has the sender's address
abbrev pub is_not_allowed : Cause → Bool
is_not_allowed causes.NotAllowed = true
is_not_allowed _ = false

-- one more if something is so
abbrev pub one_more_if : Bool → ℕ → ℕ
one_more_if true n = one_more n
one_more_if false n = n

abbrev pub one_if : Bool → ℕ
one_if true = 1
one_if false = 0

-- a wait or a read failed
abbrev pub with_fault : Report → Report
with_fault n = record n { faults = one_more n.faults }

-- an answer or a reply was sent: if the send returns Later an answer is lost, and a reply is kept
abbrev pub with_answer : Report → Sent → Report
with_answer n Taken = record n { read = one_more n.read; answered = one_more n.answered; sent = one_more n.sent }
with_answer n Later = record n { read = one_more n.read; answered = one_more n.answered; lost = one_more n.lost }
with_answer n Failed = record n { read = one_more n.read; answered = one_more n.answered; lost = one_more n.lost; faults = one_more n.faults }

abbrev pub with_reply : Report → Sent → Report
with_reply n Taken = record n { sent = one_more n.sent }
with_reply n Later = n
with_reply n Failed = record n { lost = one_more n.lost; faults = one_more n.faults }

abbrev pub with_accepted : Report → Report
with_accepted n = record n { read = one_more n.read; accepted = one_more n.accepted }

abbrev pub with_full : Report → Report
with_full n = record n { read = one_more n.read; full = one_more n.full }

abbrev pub with_refused : Report → Report
with_refused n = record n { read = one_more n.read; memory = one_more n.memory }

abbrev pub with_dropped : Report → Cause → Report
with_dropped n cause =
    record n { read = one_more n.read; dropped = one_more n.dropped; not_allowed = one_more_if (is_not_allowed cause) n.not_allowed }

-- the counts after an event
abbrev pub counted_by : Report → Event → Report
counted_by n (Begins closes_all moment offers) = n
counted_by n Waits = n
counted_by n WaitFails = with_fault n
counted_by n ReadsNothing = n
counted_by n ReadFails = with_fault n
counted_by n (Answers arrival bytes sent) = with_answer n sent
counted_by n (Accepts arrival route) = with_accepted n
counted_by n (Overflows arrival route) = with_full n
counted_by n (Refuses arrival route) = with_refused n
counted_by n (Drops arrival cause) = with_dropped n cause
counted_by n (Sends route reply sent) = with_reply n sent
counted_by n (Resends route reply sent) = with_reply n sent

abbrev pub counted : Report → List Event → Report
counted n events = fold counted_by n events

-- a reply that is still kept at the end is lost
abbrev pub with_kept : Report → Option Kept → Report
with_kept n None = n
with_kept n (Some k) = record n { lost = one_more n.lost }

-- the counts as sums without a limit

abbrev pub plus : Report → Report → Report
plus a b =
    record {
      read = a.read + b.read;
      answered = a.answered + b.answered;
      accepted = a.accepted + b.accepted;
      full = a.full + b.full;
      dropped = a.dropped + b.dropped;
      not_allowed = a.not_allowed + b.not_allowed;
      memory = a.memory + b.memory;
      sent = a.sent + b.sent;
      lost = a.lost + b.lost;
      faults = a.faults + b.faults;
    }

abbrev pub part_of_answer : Sent → Report
part_of_answer Taken = record nothing { read = 1; answered = 1; sent = 1 }
part_of_answer Later = record nothing { read = 1; answered = 1; lost = 1 }
part_of_answer Failed = record nothing { read = 1; answered = 1; lost = 1; faults = 1 }

abbrev pub part_of_reply : Sent → Report
part_of_reply Taken = record nothing { sent = 1 }
part_of_reply Later = nothing
part_of_reply Failed = record nothing { lost = 1; faults = 1 }

-- an event's part of the report
abbrev pub part : Event → Report
part (Begins closes_all moment offers) = nothing
part Waits = nothing
part WaitFails = record nothing { faults = 1 }
part ReadsNothing = nothing
part ReadFails = record nothing { faults = 1 }
part (Answers arrival bytes sent) = part_of_answer sent
part (Accepts arrival route) = record nothing { read = 1; accepted = 1 }
part (Overflows arrival route) = record nothing { read = 1; full = 1 }
part (Refuses arrival route) = record nothing { read = 1; memory = 1 }
part (Drops arrival cause) = record nothing { read = 1; dropped = 1; not_allowed = one_if (is_not_allowed cause) }
part (Sends route reply sent) = part_of_reply sent
part (Resends route reply sent) = part_of_reply sent

-- the sum of all parts, and one more lost if a reply is kept at the end
abbrev pub total : List Event → Option Kept → Report
total [] None = nothing
total [] (Some k) = record nothing { lost = 1 }
total (event ∷ events) k = plus (part event) (total events k)

-- no count of the first report is above that of the second
pub record CountsGrow (old new : Report) : Type 0 where
  pub read : old.read ≤ new.read
  pub answered : old.answered ≤ new.answered
  pub accepted : old.accepted ≤ new.accepted
  pub full : old.full ≤ new.full
  pub dropped : old.dropped ≤ new.dropped
  pub not_allowed : old.not_allowed ≤ new.not_allowed
  pub memory : old.memory ≤ new.memory
  pub sent : old.sent ≤ new.sent
  pub lost : old.lost ≤ new.lost
  pub faults : old.faults ≤ new.faults

-- of one run, no count at a time is above that at a later one, nor above that at the end, where a kept reply counts as lost
abbrev pub CountsOnlyGrow : Type 0
CountsOnlyGrow =
    (events more : List Event) (k : Option Kept) → let last = counted nothing (events ++ more) in
    CountsGrow (counted nothing events) last × CountsGrow last (with_kept last k)
