-- A report beside the records of the devices.
use Rattle.std.specs.Prelude.{◌≡◌, ℕ, ◌+◌, Option, None, Some, List}
use Rattle.std.specs.List.{sum_by}
use Rattle.srt_poller.specs.declared.devices.Sent.{Sent}
use Rattle.srt_poller.specs.declared.devices.Sent.TheVariants.{Taken, Later, Failed}
use Rattle.srt_supervision.specs.declared.report.Report.{Report}
use Rattle.srt_poller.specs.Devices.{Attempt, Call, WaitEnded, WaitFailed, ReadGave, ReadEmpty, ReadFailed}
use Rattle.srt_poller.specs.History.{Event, Begins, Waits, WaitFails, ReadsNothing, ReadFails, Answers, Accepts, Overflows, Refuses, Drops}
use Rattle.srt_poller.specs.History.{Sends, Resends, Kept, kept_after, calls, attempts}

-- the number of datagrams that the source returned
abbrev pub gives : Call → ℕ
gives WaitEnded = 0
gives WaitFailed = 0
gives (ReadGave arrival) = 1
gives ReadEmpty = 0
gives ReadFailed = 0

abbrev pub given_in : List Call → ℕ
given_in calls = sum_by gives calls

-- the number of its waits and reads that failed
abbrev pub fails : Call → ℕ
fails WaitEnded = 0
fails WaitFailed = 1
fails (ReadGave arrival) = 0
fails ReadEmpty = 0
fails ReadFailed = 1

abbrev pub faults_in : List Call → ℕ
faults_in calls = sum_by fails calls

-- the number of sends that the wire took
abbrev pub takes_by : Sent → ℕ
takes_by Taken = 1
takes_by Later = 0
takes_by Failed = 0

abbrev pub takes : Attempt → ℕ
takes a = takes_by a.sent

abbrev pub taken_in : List Attempt → ℕ
taken_in attempts = sum_by takes attempts

-- the number of sends that failed
abbrev pub loses_by : Sent → ℕ
loses_by Taken = 0
loses_by Later = 0
loses_by Failed = 1

abbrev pub loses : Attempt → ℕ
loses a = loses_by a.sent

abbrev pub failed_in : List Attempt → ℕ
failed_in attempts = sum_by loses attempts

-- the number of the lobby's answers that were put off
abbrev pub puts_off : Sent → ℕ
puts_off Taken = 0
puts_off Later = 1
puts_off Failed = 0

abbrev pub gives_up : Event → ℕ
gives_up (Answers arrival bytes sent) = puts_off sent
gives_up (Begins closes_all moment offers) = 0
gives_up Waits = 0
gives_up WaitFails = 0
gives_up ReadsNothing = 0
gives_up ReadFails = 0
gives_up (Accepts arrival route) = 0
gives_up (Overflows arrival route) = 0
gives_up (Refuses arrival route) = 0
gives_up (Drops arrival cause) = 0
gives_up (Sends route reply sent) = 0
gives_up (Resends route reply sent) = 0

abbrev pub put_off_in : List Event → ℕ
put_off_in events = sum_by gives_up events

abbrev pub one_kept : Option Kept → ℕ
one_kept None = 0
one_kept (Some k) = 1

-- what a report states of the devices' calls in these events: it counts the datagrams that the source returned, the sends that the wire took, the failed
-- calls of both, and as lost the failed sends, the answers that were put off and the reply that is kept at the end
pub record TalliesWith (events : List Event) (report : Report) : Type 0 where
  pub read : report.read ≡ given_in (calls events)
  pub sent : report.sent ≡ taken_in (attempts events)
  pub faults : report.faults ≡ faults_in (calls events) + failed_in (attempts events)
  pub lost : report.lost ≡ put_off_in events + failed_in (attempts events) + one_kept (kept_after None events)
