-- The contract of a poller's rounds.
use Rattle.std.specs.Prelude.{◌≡◌, ◌⊎◌, ℕ, ◌+◌, ◌*◌, ◌≤◌, None, List, ◌++◌, length}
use Rattle.srt_types.specs.declared.shared.Schedule.{Schedule}
use Rattle.srt_lobby.specs.Names.{RouteName}
use Rattle.srt_poller.specs.declared.ends.Ends.{Ends}
use Rattle.srt_supervision.specs.declared.report.Report.{Report}
use Rattle.srt_poller.specs.Devices.{Heard, Carried, joined}
use Rattle.srt_poller.specs.History.{Sorting, Event, Follow, at_first, state_after, IsOver, kept_after, kept_of, given, calls, handed}
use Rattle.srt_poller.specs.History.{datagrams, attempts, of_lobby, of_route, answered, drained, closes_all_in, waits_in, ready_in}
use Rattle.srt_poller.specs.History.{reads_in}
use Rattle.srt_poller.specs.Reports.{nothing, counted, with_kept, total}
use Rattle.srt_poller.specs.Tallies.{TalliesWith}
use Rattle.srt_poller.specs.Told.{Observer, AreTold}
use Rattle.srt_poller.specs.Rounds.{AreLater}

-- Of the datagrams that were sent, those of the lobby are its answers whose send didn't return Later. Those of a route, followed by the
-- kept reply if it is that route's, are the replies that were taken from its outbox. All are in order
pub record HaveOrigins (events : List Event) : Type 0 where
  pub lobby : of_lobby (handed events) ≡ answered events
  pub route : (r : ℕ) → of_route r (handed events) ++ kept_of r (kept_after None events) ≡ drained r events

-- the names in force, what the source and the wire have recorded, and the ends of all routes
pub record Before : Type 0 where
  pub names : List RouteName
  pub source : Heard
  pub wire : Carried
  pub ends : List Ends

abbrev pub before : List RouteName → Heard → Carried → List Ends → Before
before names source wire ends = record { names = names; source = source; wire = wire; ends = ends }

-- the same afterwards, and the report
pub record After : Type 0 where
  pub names : List RouteName
  pub source : Heard
  pub wire : Carried
  pub ends : List Ends
  pub report : Report

abbrev pub after : List RouteName → Heard → Carried → List Ends → Report → After
after names source wire ends report = record { names = names; source = source; wire = wire; ends = ends; report = report }

-- These events happened, the oldest first, in whole rounds (`Fits`): each round began once and made routes visible and hid them as its schedule states, waited
-- once and read, and what happened to each datagram is what its class defines, with the names then in force; `names` are those after the last round.
-- The source returned the datagrams of the events, and its calls, with its answers, are just theirs. The wire was handed the datagrams of the
-- events, and its sends, with their outcomes, are just theirs. Each route's inbox accepted the items, and each outbox yielded the replies, of
-- the events. The report
-- counts the events; with at most 511 routes no count reaches its limit, and then it has the numbers of the devices' records. The source waited once in each
-- round, and was read at least as often as it waited without a failure. A round that closes all began only if `closes` is known, and another one
-- only if `goes` is
pub record PumpedBy (goes closes : Type 0) (class : Sorting) (schedules : List Schedule) (rounds : ℕ) (before : Before) (after : After)
    (events : List Event) : Type 0 where
  pub follow : Follow class schedules (at_first before.names) events
  pub names : after.names ≡ (state_after schedules (at_first before.names) events).names
  pub over : IsOver (state_after schedules (at_first before.names) events).phase
  pub gave : after.source.gave ≡ joined before.source.gave (given events)
  pub called : after.source.calls ≡ joined before.source.calls (calls events)
  pub handed : after.wire.handed ≡ joined before.wire.handed (datagrams (handed events))
  pub attempted : after.wire.attempts ≡ joined before.wire.attempts (attempts events)
  pub ends : AreLater events before.ends after.ends
  pub origins : HaveOrigins events
  pub report : after.report ≡ with_kept (counted nothing events) (kept_after None events)
  pub sums : length before.ends ≤ 511 → after.report ≡ total events (kept_after None events)
  pub tallies : length before.ends ≤ 511 → TalliesWith events after.report
  pub some_go : (closes_all_in events ≡ rounds) ⊎ goes
  pub some_close : (closes_all_in events ≡ 0) ⊎ closes
  pub waits : waits_in events ≡ rounds
  pub reads : ready_in events ≤ reads_in events
  pub few : length events ≤ rounds * (259 + 64 * length before.ends)

-- some events happened, and this is what they did
abbrev pub PumpedUnder : (goes closes : Type 0) → Sorting → List Schedule → (rounds : ℕ) → Before → After → Type 0
PumpedUnder goes closes class schedules rounds before after = (events : List Event) × PumpedBy goes closes class schedules rounds before after events

-- the same, and its observer was told of each event
abbrev pub ToldUnder : (goes closes : Type 0) → Sorting → Observer → List Schedule → (rounds : ℕ) → Before → After → Type 0
ToldUnder goes closes class observer schedules rounds before after =
    (pumped : PumpedUnder goes closes class schedules rounds before after) × AreTold class observer nothing pumped.0

-- the same, and no round closed all
abbrev pub Pumped : Sorting → List Schedule → (rounds : ℕ) → Before → After → Type 0
Pumped class schedules rounds before after = PumpedUnder (Unit {0}) ⊥ class schedules rounds before after
