-- All that a poller touches, before and after some events.
use Rattle.std.specs.Prelude.{◌≡◌, ℕ, ◌+◌, ◌<◌, ◌≤◌, List, [], ◌++◌, length, map, slice_index_or}
use Rattle.srt_types.specs.declared.shared.Schedule.{Schedule}
use Rattle.srt_types.specs.Items.{Datagram, Item, input_of}
use Rattle.srt_route.specs.Written.{written}
use Rattle.srt_poller.specs.declared.ends.Ends.{Ends}
use Rattle.srt_supervision.specs.declared.report.Report.{Report}
use Rattle.srt_poller.specs.Devices.{Heard, Carried, joined}
use Rattle.srt_poller.specs.History.{Event, State, Follow, state_after, given, calls, handed, datagrams, attempts, accepted}
use Rattle.srt_poller.specs.History.{drained, closes_all_in, waits_in, ready_in, reads_in}
use Rattle.srt_poller.specs.Reports.{counted}
use Rattle.srt_poller.specs.Told.{Setting, AreTold}
use Rattle.srt_poller.specs.Starts.{RoundStart, starts_in}

-- what the source and the wire have recorded, the ends of all routes, what the next event depends on, and the report
pub record World : Type 0 where
  pub source : Heard
  pub wire : Carried
  pub ends : List Ends
  pub state : State
  pub report : Report

abbrev pub world : Heard → Carried → List Ends → State → Report → World
world source wire ends state report = record { source = source; wire = wire; ends = ends; state = state; report = report }

-- the ends of a route are of the same queues; the inbox accepted these items in addition, and the outbox yielded these replies
pub record IsLater (accepted : List Item) (drained : List Datagram) (old new : Ends) : Type 0 where
  pub inbox : new.ingress.queue ≡ old.ingress.queue
  pub inbox_capacity : new.ingress.capacity ≡ old.ingress.capacity
  pub offered : map input_of new.ingress.offered ≡ map input_of old.ingress.offered ++ accepted
  pub outbox : new.drain.queue ≡ old.drain.queue
  pub outbox_capacity : new.drain.capacity ≡ old.drain.capacity
  pub through : map written new.drain.through ≡ map written old.drain.through ++ drained

-- the same of all routes; these events added nothing to, and took nothing from, a route that isn't among them
pub record AreLater (events : List Event) (old new : List Ends) : Type 0 where
  pub as_many : length new ≡ length old
  pub each : (r : ℕ) (e : Ends) → r < length old → IsLater (accepted r events) (drained r events) (slice_index_or old r e) (slice_index_or new r e)
  pub others : (r : ℕ) → length old ≤ r → (accepted r events ≡ []) × (drained r events ≡ [])

-- These events lead from the old world to the new one. They are at most `most`, `waits` of them are waits, `closing` of them begin a round
-- that closes all, the rounds that began started so, and the observer was told of each event.
-- The number of reads plus `waits` is at least the number of waits without a failure plus `reads`
pub record Happened (setting : Setting) (schedules : List Schedule) (closing : ℕ) (starts : List RoundStart) (most waits reads : ℕ) (events : List Event)
    (old new : World) : Type 0 where
  pub follow : Follow setting.class schedules old.state events
  pub gave : new.source.gave ≡ joined old.source.gave (given events)
  pub called : new.source.calls ≡ joined old.source.calls (calls events)
  pub handed : new.wire.handed ≡ joined old.wire.handed (datagrams (handed events))
  pub attempted : new.wire.attempts ≡ joined old.wire.attempts (attempts events)
  pub ends : AreLater events old.ends new.ends
  pub state : new.state ≡ state_after schedules old.state events
  pub report : new.report ≡ counted old.report events
  pub told : AreTold setting.class setting.observer old.report events
  pub closed : closes_all_in events ≡ closing
  pub started : starts_in schedules old.state events ≡ starts
  pub few : length events ≤ most
  pub waited : waits_in events ≡ waits
  pub was_read : ready_in events + reads ≤ reads_in events + waits

-- some events lead from the old world to the new one; rounds that began started so, and this many of them close all
abbrev pub WentClosing : Setting → List Schedule → (closing : ℕ) → (starts : List RoundStart) → (most waits reads : ℕ) → World → World → Type 0
WentClosing setting schedules closing starts most waits reads old new =
    (events : List Event) × Happened setting schedules closing starts most waits reads events old new

-- the same, and no round began
abbrev pub Went : Setting → List Schedule → (most waits reads : ℕ) → World → World → Type 0
Went setting schedules most waits reads old new = WentClosing setting schedules 0 [] most waits reads old new
