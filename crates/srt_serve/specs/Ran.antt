-- What a run did.
use Rattle.std.specs.Prelude.{◌≡◌, ◌⊎◌, ℕ, ◌+◌, ◌*◌, ◌<◌, ◌≤◌, Option, None, List, ◌++◌, map, length, slice_index_or}
use Rattle.std.specs.List.{AllByRecursion}
use Rattle.srt_types.specs.declared.shared.Schedule.{Schedule}
use Rattle.srt_types.specs.Items.{Datagram, input_of}
use Rattle.srt_types.specs.Terms.{Terms}
use Rattle.srt_route.specs.declared.replies.Reply.{Reply}
use Rattle.srt_route.specs.Route.{solo}
use Rattle.srt_route.specs.Written.{written}
use Rattle.srt_mailbox.specs.declared.inbox_rule.InboxEntry.{InboxEntry}
use Rattle.srt_mailbox.specs.declared.accounts.Account.{Account}
use Rattle.srt_mailbox.specs.Inbox.{polled_of, ticked_of, applied}
use Rattle.srt_mailbox.specs.Counts.{counted}
use Rattle.srt_supervision.specs.declared.report.Report.{Report}
use Rattle.srt_supervision.specs.Answers.{Answer, AllClose, Closes, Opens}
use Rattle.srt_poller.specs.Devices.{Heard, Carried, joined}
use Rattle.srt_poller.specs.History.{Sorting, Event, Follow, at_first, state_after, IsOver, kept_after, kept_of, given, calls, handed}
use Rattle.srt_poller.specs.History.{datagrams, attempts, of_lobby, of_route, answered, accepted, drained, closes_all_in, waits_in}
use Rattle.srt_poller.specs.History.{reads_in, ready_in}
use Rattle.srt_poller.specs.Reports.{total}
use Rattle.srt_poller.specs.Tallies.{TalliesWith}
use Rattle.srt_lobby.specs.Names.{RouteName, as_hidden, name_of}
use Rattle.srt_poller.specs.Plans.{ArePlans, texts_of}
use Rattle.srt_poller.specs.Starts.{starts_in}
use Rattle.srt_serve.specs.Callers.{CallersMayCall}
use Rattle.srt_serve.specs.NamesAtStart.{first_names}
use Rattle.srt_serve.specs.Ticks.{IsWithin, tick}

-- One route, if these events happened at the poller and the ticker returned these times. The items taken, followed by those left, are, by
-- their marks, the datagrams and the closing that the inbox accepted from the poller and ticks of some of the times, each in order. The
-- replies of this route that were sent, then the kept one, those queued and those that wait are all that the route, alone, replies to the items taken. The
-- account has their numbers
pub record RouteRan (terms : Terms) (index : ℕ) (events : List Event) (moments : List ℕ) (a : Account) : Type 0 where
  pub taken : List InboxEntry
  pub left : List InboxEntry
  pub ticks : List ℕ
  pub queued : List Reply
  pub waiting : List Datagram
  pub polled : map input_of (polled_of (taken ++ left)) ≡ accepted index events
  pub ticked : ticked_of (taken ++ left) ≡ map tick ticks
  pub within : IsWithin ticks moments
  pub replied : of_route index (handed events) ++ (kept_of index (kept_after None events) ++ (map written queued ++ waiting)) ≡ solo terms index (applied taken)
  pub taken_is : a.taken ≡ counted (length taken)
  pub left_is : a.left ≡ length left
  pub waiting_is : a.waiting ≡ length waiting
  pub queued_is : a.queued ≡ length queued
  pub drained_is : a.drained ≡ counted (length (drained index events))

-- what the source, the wire and the ticker have recorded
pub record Recorded : Type 0 where
  pub source : Heard
  pub wire : Carried
  pub moments : Option (List ℕ)

abbrev pub recorded_by : Heard → Carried → Option (List ℕ) → Recorded
recorded_by source wire moments = record { source = source; wire = wire; moments = moments }

-- These events happened at the poller, the oldest first, in whole rounds, and the ticker returned these times. In each round the routes of its
-- schedules opened and closed; at first the names were these. The source returned the datagrams of the events, and what happened to each is
-- what its class defines, with the names then in force; its calls, with its answers, are just those of the events. The wire was handed the datagrams of the
-- events, and its sends, with their outcomes, are just theirs. The report counts them, and has the numbers of the devices' records. The source waited
-- once a round, and was read at least as often as it waited without a failure. If the datagrams are sorted as the lobby does, each that entered a
-- route's inbox is of a caller that the route admits. There are final counters of each route, in the order of their indexes
pub record RanFrom (names : List RouteName) (class : Sorting) (schedules : List Schedule) (entries : List Terms) (rounds : ℕ) (old new : Recorded)
    (report : Report) (accounts : List Account) (events : List Event) (moments : List ℕ) : Type 0 where
  pub follow : Follow class schedules (at_first names) events
  pub over : IsOver (state_after schedules (at_first names) events).phase
  pub gave : new.source.gave ≡ joined old.source.gave (given events)
  pub called : new.source.calls ≡ joined old.source.calls (calls events)
  pub handed_are : new.wire.handed ≡ joined old.wire.handed (datagrams (handed events))
  pub attempted : new.wire.attempts ≡ joined old.wire.attempts (attempts events)
  pub moments_are : new.moments ≡ joined old.moments moments
  pub lobby : of_lobby (handed events) ≡ answered events
  pub report_is : report ≡ total events (kept_after None events)
  pub tallies : TalliesWith events report
  pub waits : waits_in events ≡ rounds
  pub reads : ready_in events ≤ reads_in events
  pub few : length events ≤ rounds * (259 + 64 * length entries)
  pub callers : CallersMayCall class entries events
  pub as_many : length accounts ≡ length entries
  pub each : (r : ℕ) (terms : Terms) (a : Account)
      → r < length entries → RouteRan (slice_index_or entries r terms) r events moments (slice_index_or accounts r a)

-- the same, and at first those that open later were hidden
abbrev pub RanBy : Sorting → List Schedule → List Terms → (rounds : ℕ) → (old new : Recorded) → Report → List Account → List Event → (moments : List ℕ)
    → Type 0
RanBy class schedules entries rounds old new report accounts events moments =
    RanFrom (first_names schedules entries) class schedules entries rounds old new report accounts events moments

-- A run of this many rounds, of which some may have closed all
abbrev pub RanUntil : Sorting → List Schedule → List Terms → (rounds : ℕ) → (old new : Recorded) → Report → List Account → Type 0
RanUntil class schedules entries rounds old new report accounts =
    (events : List Event) × (moments : List ℕ) × RanBy class schedules entries rounds old new report accounts events moments

-- the same, and a round closed all only if `closes` is known; the names that it began with are given
abbrev pub RanUnderFrom : (names : List RouteName) → (closes : Type 0) → Sorting → List Schedule → List Terms → (rounds : ℕ) → (old new : Recorded) → Report
    → List Account → Type 0
RanUnderFrom names closes class schedules entries rounds old new report accounts =
    (events : List Event) × (moments : List ℕ) × RanFrom names class schedules entries rounds old new report accounts events moments ×
    ((closes_all_in events ≡ 0) ⊎ closes)

abbrev pub RanUnder : (closes : Type 0) → Sorting → List Schedule → List Terms → (rounds : ℕ) → (old new : Recorded) → Report → List Account → Type 0
RanUnder closes class schedules entries rounds old new report accounts =
    RanUnderFrom (first_names schedules entries) closes class schedules entries rounds old new report accounts

-- the same, and none closed all
abbrev pub Ran : Sorting → List Schedule → List Terms → (rounds : ℕ) → (old new : Recorded) → Report → List Account → Type 0
Ran class schedules entries rounds old new report accounts =
    (events : List Event) × (moments : List ℕ) × RanBy class schedules entries rounds old new report accounts events moments × (closes_all_in events ≡ 0)

-- the names with which a run begins, and after them those of the routes that are added, hidden
abbrev pub names_before : List Schedule → (entries added : List Terms) → List RouteName
names_before schedules entries added = first_names schedules entries ++ map (λ t. as_hidden (name_of t)) added

-- the watcher answered that each of these routes closes
abbrev pub WereAnswered : (answered : Answer → Type 0) → (routes : List ℕ) → Type 0
WereAnswered answered routes = AllByRecursion (λ r. ∥ answered (Closes r) ∥₁) routes

-- the watcher answered that a route of each of these terms opens
abbrev pub WereAdded : (answered : Answer → Type 0) → (added : List Terms) → Type 0
WereAdded answered added = AllByRecursion (λ t. ∥ answered (Opens t) ∥₁) added

-- A run of this many rounds. Meanwhile routes with the terms `added` were added, in the order of their indexes after the others, and those with the
-- indexes `requested` were requested to close, at times that nobody knew before. The run did what it does if all routes had been known in advance, with the
-- schedules `later`, the added ones hidden at first. A route that wasn't requested to close, and whose name no other visible one had in its opening round, kept
-- its schedule; one whose name was in use opened in the first round in which it wasn't, or hadn't been opened before the last round (`ArePlans`).
-- Each route that was added has the watcher's answer that a route of its terms opens, each that was requested to close has the answer that it closes, and if
-- a round closed all, the watcher answered so: `answered` is what is known of its answers
abbrev pub RanChanging : (answered : Answer → Type 0) → Sorting → List Schedule → List Terms → (rounds : ℕ) → (old new : Recorded) → Report → List Account →
    Type 0
RanChanging answered class schedules entries rounds old new report accounts =
    (added : List Terms) × (requested : List ℕ) × (later : List Schedule) × (events : List Event) × (moments : List ℕ)
    × ArePlans rounds (λ r. Unit {0}) (starts_in later (at_first (names_before schedules entries added)) events) schedules
    (texts_of (names_before schedules entries added)) requested later
    × RanFrom (names_before schedules entries added) class later (entries ++ added) rounds old new report accounts events moments
    × WereAdded answered added × WereAnswered answered requested × ((closes_all_in events ≡ 0) ⊎ answered AllClose)
