-- What is sent for one route of a run follows from its terms, its index and the items that it took, whatever other routes do.
use Rattle.std.specs.Prelude.{◌≡◌, ℕ, ◌<◌, Bool, None, List, [], ◌++◌, length, map, slice_index_or}
use Rattle.srt_types.specs.declared.shared.Schedule.{Schedule}
use Rattle.srt_types.specs.Items.{Datagram}
use Rattle.srt_types.specs.Terms.{Terms}
use Rattle.srt_route.specs.Route.{solo}
use Rattle.srt_lobby.specs.Names.{RouteName}
use Rattle.srt_mailbox.specs.declared.accounts.Account.{Account}
use Rattle.srt_mailbox.specs.declared.inbox_rule.InboxEntry.{InboxEntry}
use Rattle.srt_mailbox.specs.Inbox.{ticked_of, applied}
use Rattle.srt_supervision.specs.declared.report.Report.{Report}
use Rattle.srt_poller.specs.History.{Sorting, Event, kept_after, kept_of, handed, of_route, accepted}
use Rattle.srt_serve.specs.Ran.{RouteRan, Recorded, RanFrom}

-- a run: the names and schedules of all its routes from the beginning on, and what it did
pub record Trace : Type 0 where
  pub names : List RouteName
  pub class : Sorting
  pub schedules : List Schedule
  pub entries : List Terms
  pub rounds : ℕ
  pub old : Recorded
  pub new : Recorded
  pub report : Report
  pub accounts : List Account
  pub events : List Event
  pub moments : List ℕ

abbrev pub trace : List RouteName → Sorting → List Schedule → List Terms → (rounds : ℕ) → (old new : Recorded) → Report → List Account → List Event
    → (moments : List ℕ) → Trace
trace names class schedules entries rounds old new report accounts events moments =
    record {
      names = names;
      class = class;
      schedules = schedules;
      entries = entries;
      rounds = rounds;
      old = old;
      new = new;
      report = report;
      accounts = accounts;
      events = events;
      moments = moments;
    }

abbrev pub IsTrace : Trace → Type 0
IsTrace t = RanFrom t.names t.class t.schedules t.entries t.rounds t.old t.new t.report t.accounts t.events t.moments

-- the datagrams of this route that the wire was handed, in order
abbrev pub sent_for : (r : ℕ) → List Event → List Datagram
sent_for r events = of_route r (handed events)

-- at the end no reply of this route is kept, queued or waiting
pub record HasSentAll (r : ℕ) (events : List Event) (a : Account) : Type 0 where
  pub kept : kept_of r (kept_after None events) ≡ []
  pub queued : a.queued ≡ 0
  pub waiting : a.waiting ≡ 0

-- what was sent for a route is a prefix of what it alone replies to the items that it took
abbrev pub SentIsFront : Type 0
SentIsFront =
    (terms : Terms) (r : ℕ) (events : List Event) (moments : List ℕ) (a : Account) → (ran : RouteRan terms r events moments a)
    → (rest : List Datagram) × (sent_for r events ++ rest ≡ solo terms r (applied ran.taken))

-- and all of it if all its replies were sent
abbrev pub SentIsWhole : Type 0
SentIsWhole =
    (terms : Terms) (r : ℕ) (events : List Event) (moments : List ℕ) (a : Account) → (ran : RouteRan terms r events moments a)
    → HasSentAll r events a → sent_for r events ≡ solo terms r (applied ran.taken)

-- so in two runs a route of the same terms and index has been sent the same datagrams, byte for byte, if it took the same items in the same order, ticks
-- among them, and all its replies were sent
abbrev pub RoutesAreIsolated : Type 0
RoutesAreIsolated =
    (terms : Terms) (r : ℕ) (events events' : List Event) (moments moments' : List ℕ) (a a' : Account)
    → (ran : RouteRan terms r events moments a) → (ran' : RouteRan terms r events' moments' a')
    → applied ran.taken ≡ applied ran'.taken
    → HasSentAll r events a → HasSentAll r events' a'
    → sent_for r events ≡ sent_for r events'

-- which of these items the poller offered, and which are ticks
abbrev pub places_of : List InboxEntry → List Bool
places_of taken = map (λ m. m.polled) taken

-- a route takes the same items in the same order if its inbox accepted the same from the poller, it took the same ticks at the same places, and nothing is
-- left in its inbox
abbrev pub SameItemsAreTaken : Type 0
SameItemsAreTaken =
    (terms terms' : Terms) (r : ℕ) (events events' : List Event) (moments moments' : List ℕ) (a a' : Account)
    → (ran : RouteRan terms r events moments a) → (ran' : RouteRan terms' r events' moments' a')
    → accepted r events ≡ accepted r events'
    → ticked_of ran.taken ≡ ticked_of ran'.taken → places_of ran.taken ≡ places_of ran'.taken
    → a.left ≡ 0 → a'.left ≡ 0
    → applied ran.taken ≡ applied ran'.taken

-- Of whole runs, in which all other routes, the schedules, the way of sorting and the numbers of rounds may differ, and other routes may have come, opened
-- and closed at any time: the same datagrams were sent for a route that has the same terms and index in both, if it took the same items in the same order
-- and all its replies were sent
abbrev pub RunsAreIsolated : Type 0
RunsAreIsolated =
    (t u : Trace) → (run : IsTrace t) → (run' : IsTrace u) → (r : ℕ) (terms : Terms) (a : Account)
    → (below : r < length t.entries) → (below' : r < length u.entries)
    → slice_index_or t.entries r terms ≡ slice_index_or u.entries r terms
    → applied (run.each r terms a below).taken ≡ applied (run'.each r terms a below').taken
    → HasSentAll r t.events (slice_index_or t.accounts r a) → HasSentAll r u.events (slice_index_or u.accounts r a)
    → sent_for r t.events ≡ sent_for r u.events
