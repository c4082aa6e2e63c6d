-- A route that is left as it was while others open and close has the datagrams that it would have had without that.
use Rattle.std.specs.Prelude.{◌≡◌, ◌↔◌, ◌⊎◌, ℕ, suc, ◌==◌, ◌&&◌, ◌||◌, Bool, true, false, not, None, Some, List, [], ◌∷◌, ◌++◌, length}
use Rattle.std.specs.Prelude.{map, filter, slice_get}
use Rattle.std.specs.List.{flat_map, list_any}
use Rattle.srt_types.specs.declared.shared.Schedule.{Schedule}
use Rattle.srt_types.specs.Items.{Datagram, Item, Received, Tick, Close}
use Rattle.srt_types.specs.Terms.{Terms}
use Rattle.srt_lobby.specs.declared.classes.Class.TheVariants.{Route}
use Rattle.srt_lobby.specs.Names.{RouteName, is_shown_at, has_name_at, name_of}
use Rattle.srt_lobby.specs.Lobby.{class_of}
use Rattle.srt_lobby.specs.Opening.{fault_of}
use Rattle.srt_mailbox.specs.declared.accounts.Account.{Account}
use Rattle.srt_mailbox.specs.Inbox.{ticked_of}
use Rattle.srt_supervision.specs.declared.report.Report.{Report}
use Rattle.srt_supervision.specs.Answers.{Answer, AllClose, Closes, Opens}
use Rattle.srt_poller.specs.Devices.{Arrival}
use Rattle.srt_poller.specs.Schedules.{CloseOffer, begun}
use Rattle.srt_poller.specs.History.{Sorting, Event, Begins, Accepts, Overflows, Refuses, State, at_first, state_by, Follow, calls, at_route, accepted}
use Rattle.srt_poller.specs.History.{closes_all_in}
use Rattle.srt_poller.specs.Plans.{IsAlone, is_requested, texts_of, ArePlans}
use Rattle.srt_poller.specs.Starts.{RoundStart, starts_in, IsUsedIn}
use Rattle.srt_serve.specs.NamesAtStart.{until, first_names}
use Rattle.srt_serve.specs.Ran.{RouteRan, Recorded, RanChanging, WereAdded, WereAnswered, RanUntil, names_before}
use Rattle.srt_serve.specs.Isolation.{Trace, trace, IsTrace, sent_for, HasSentAll, places_of}

-- no other visible route has the name of this one
abbrev pub IsOnlyShown : (names : List RouteName) (r : ℕ) → Type 0
IsOnlyShown names r = (i : ℕ) (text : List ℕ) → has_name_at names r text ≡ true → has_name_at names i text ≡ true → i ≡ r

-- the route with this index has this name, visible or not, and no other visible route has it
pub record HasOwnName (names : List RouteName) (r : ℕ) (name : RouteName) : Type 0 where
  pub named : slice_get names r ≡ Some name
  pub only : IsOnlyShown names r

-- A way of sorting in which it depends on a route's own index and name, whether it is visible, the clients that it admits, and a datagram alone whether that is
-- the route's. Other routes may have any names, also the same ones among each other
abbrev pub SortsByOwnName : Sorting → Type 0
SortsByOwnName class =
    (names others : List RouteName) (r : ℕ) (name : RouteName) → HasOwnName names r name → HasOwnName others r name
    → (d : Datagram) (moment : ℕ) → (class names d moment ≡ Route r) ↔ (class others d moment ≡ Route r)

-- the lobby sorts so, whatever its secret
abbrev pub LobbySortsByOwnName : Type 0
LobbySortsByOwnName = (secret : List ℕ) → SortsByOwnName (class_of secret)

-- the datagrams that were sorted to this route, in order: those that its inbox accepted, those that found it full, and those whose copy
-- failed to allocate
abbrev pub sorted_by : (r : ℕ) → Event → List Arrival
sorted_by r (Accepts arrival route) = at_route route r arrival
sorted_by r (Overflows arrival route) = at_route route r arrival
sorted_by r (Refuses arrival route) = at_route route r arrival
sorted_by r _ = []

abbrev pub sorted_to : (r : ℕ) → List Event → List Arrival
sorted_to r events = flat_map (sorted_by r) events

-- of these, those that its inbox didn't accept
abbrev pub missed_by : (r : ℕ) → Event → List Arrival
missed_by r (Overflows arrival route) = at_route route r arrival
missed_by r (Refuses arrival route) = at_route route r arrival
missed_by r _ = []

abbrev pub missed : (r : ℕ) → List Event → List Arrival
missed r events = flat_map (missed_by r) events

-- the datagrams among items
abbrev pub is_received : Item → Bool
is_received (Received datagram moment) = true
is_received (Tick moment) = false
is_received (Close moment) = false

abbrev pub received : List Item → List Item
received items = filter is_received items

abbrev pub item_of : Arrival → Item
item_of arrival = Received arrival.datagram arrival.moment

-- whether this route is visible after the beginning of each round, the first round first
abbrev pub mark_by : (r : ℕ) → List Schedule → State → Event → List Bool
mark_by r schedules s (Begins closes_all moment offers) = is_shown_at (begun closes_all s.round schedules offers s.names) r ∷ []
mark_by r schedules s _ = []

abbrev pub marks_from : (r : ℕ) → List Schedule → State → List Event → List Bool
marks_from r schedules s [] = []
marks_from r schedules s (event ∷ events) = mark_by r schedules s event ++ marks_from r schedules (state_by schedules s event) events

abbrev pub marks : (r : ℕ) → Trace → List Bool
marks r t = marks_from r t.schedules (at_first t.names) t.events

-- what the beginning of a round is to one route: whether the round closes all, and whether the route's inbox accepted Close
pub record Beginning : Type 0 where
  pub closes_all : Bool
  pub is_closed : Bool

abbrev pub closes_route : (r : ℕ) → CloseOffer → Bool
closes_route r o = o.is_accepted && (o.route == r)

abbrev pub beginning_by : (r : ℕ) → Event → List Beginning
beginning_by r (Begins closes_all moment offers) = record { closes_all = closes_all; is_closed = list_any (closes_route r) offers } ∷ []
beginning_by r _ = []

abbrev pub beginnings : (r : ℕ) → List Event → List Beginning
beginnings r events = flat_map (beginning_by r) events

-- whether the inbox accepted Close in one of these
abbrev pub is_closed_in : List Beginning → Bool
is_closed_in bs = list_any (λ b. b.is_closed) bs

-- A route that opens in its round, unless that closes all, and that is hidden once its inbox accepts Close: whether it is visible after the beginning of
-- a round, and after those of all rounds from one of this number on. Before it, it was visible or hidden
abbrev pub mark_after : Schedule → (is_shown : Bool) (round : ℕ) → Beginning → Bool
mark_after s is_shown round b = (is_shown || (not b.closes_all && (s.open_round == round))) && not b.is_closed

abbrev pub own_marks : Schedule → (is_shown : Bool) (round : ℕ) → List Beginning → List Bool
own_marks s is_shown round [] = []
own_marks s is_shown round (b ∷ bs) = mark_after s is_shown round b ∷ own_marks s (mark_after s is_shown round b) (suc round) bs

-- each event fits the state in which it happens
abbrev pub Follows : Trace → Type 0
Follows t = Follow t.class t.schedules (at_first t.names) t.events

-- the route with this index has this name at first, and this schedule
pub record IsRouteOf (t : Trace) (r : ℕ) (name : RouteName) (s : Schedule) : Type 0 where
  pub named : slice_get t.names r ≡ Some name
  pub scheduled : slice_get t.schedules r ≡ Some s

-- whether a route is visible follows from its own schedule and from what the beginnings of rounds are to it
abbrev pub MarksAreOwn : Type 0
MarksAreOwn =
    (t : Trace) (r : ℕ) (name : RouteName) (s : Schedule) → Follows t → IsRouteOf t r name s
    → marks r t ≡ own_marks s name.is_shown 0 (beginnings r t.events)

-- Two runs that sort by own names, and in which the source returned the same answers to the same calls: so it returned the same datagrams in the same rounds
pub record HeardAlike (t u : Trace) : Type 0 where
  pub sorts : SortsByOwnName t.class
  pub same_class : u.class ≡ t.class
  pub same_calls : calls t.events ≡ calls u.events

-- In two such runs the same datagrams are sorted to a route that has the same name in both, in the same order, if after the beginning of each round it
-- is visible in both or hidden in both. Whatever other routes there are, and whatever opens and closes, makes no difference
abbrev pub SortedAlike : Type 0
SortedAlike =
    (t u : Trace) (r : ℕ) (name : RouteName) (s s' : Schedule) → Follows t → Follows u → HeardAlike t u
    → IsRouteOf t r name s → IsRouteOf u r name s'
    → marks r t ≡ marks r u
    → sorted_to r t.events ≡ sorted_to r u.events

-- so it is of a route that has the same schedule in both, if the same rounds close all, and its inbox accepts Close in the same rounds
abbrev pub OwnScheduleDecides : Type 0
OwnScheduleDecides =
    (t u : Trace) (r : ℕ) (name : RouteName) (s : Schedule) → Follows t → Follows u → HeardAlike t u
    → IsRouteOf t r name s → IsRouteOf u r name s
    → beginnings r t.events ≡ beginnings r u.events
    → sorted_to r t.events ≡ sorted_to r u.events

-- and that is so of a route that closes in no round, if no round closes all: then its inbox accepts no Close
abbrev pub OpenRoutesBeginAlike : Type 0
OpenRoutesBeginAlike =
    (t u : Trace) (r : ℕ) (s s' : Schedule) → IsTrace t → IsTrace u → calls t.events ≡ calls u.events
    → slice_get t.schedules r ≡ Some s → slice_get u.schedules r ≡ Some s' → s.close_round ≡ None → s'.close_round ≡ None
    → closes_all_in t.events ≡ 0 → closes_all_in u.events ≡ 0
    → (beginnings r t.events ≡ beginnings r u.events) × (is_closed_in (beginnings r t.events) ≡ false)

-- the datagrams that entered a route's inbox are those that were sorted to it, if it turned none away; and nothing else entered it from the poller while
-- it accepted no Close
abbrev pub AcceptedAreSorted : Type 0
AcceptedAreSorted =
    (r : ℕ) (events : List Event) → missed r events ≡ []
    → (received (accepted r events) ≡ map item_of (sorted_to r events))
    × (is_closed_in (beginnings r events) ≡ false → accepted r events ≡ map item_of (sorted_to r events))

-- the starts of a run's rounds
abbrev pub starts_of : Trace → List RoundStart
starts_of t = starts_in t.schedules (at_first t.names) t.events

-- This run had routes with these schedules and entries at its beginning. Then those with the terms `added` were added, and those with the indexes `requested`
-- were requested to close
pub record IsChanging (schedules : List Schedule) (entries added : List Terms) (requested : List ℕ) (t : Trace) : Type 0 where
  pub names_are : t.names ≡ names_before schedules entries added
  pub entries_are : t.entries ≡ entries ++ added
  pub planned : ArePlans t.rounds (λ r. Unit {0}) (starts_of t) schedules (texts_of t.names) requested t.schedules
  pub ran : IsTrace t

-- the same of a run to which none was added and in which none was requested to close
pub record IsUnchanging (schedules : List Schedule) (entries : List Terms) (t : Trace) : Type 0 where
  pub names_are : t.names ≡ first_names schedules entries
  pub entries_are : t.entries ≡ entries
  pub schedules_are : t.schedules ≡ schedules
  pub ran : IsTrace t

-- A run to which routes may be added is such a run. Each route that was added has the watcher's answer that a route of its terms opens, and each that was
-- requested to close has the answer that it closes. If a round closed all, the watcher answered so
abbrev pub ChangingRunsAreSo : (answered : Answer → Type 0) → Type 0
ChangingRunsAreSo answered =
    (class : Sorting) (schedules : List Schedule) (entries : List Terms) (rounds : ℕ) (old new : Recorded) (report : Report) (accounts : List Account)
    → RanChanging answered class schedules entries rounds old new report accounts
    → (added : List Terms) × (requested : List ℕ) × (later : List Schedule) × (events : List Event) × (moments : List ℕ)
    × IsChanging schedules entries added requested
    (trace (names_before schedules entries added) class later (entries ++ added) rounds old new report accounts events moments)
    × WereAdded answered added × WereAnswered answered requested × ((closes_all_in events ≡ 0) ⊎ answered AllClose)

-- a route of which the watcher didn't answer that it closes wasn't requested to close
abbrev pub UnansweredStaysOpen : (answered : Answer → Type 0) → Type 0
UnansweredStaysOpen answered =
    (requested : List ℕ) (r : ℕ) → WereAnswered answered requested → (answered (Closes r) → ⊥) → is_requested requested r ≡ false

-- and a route of terms of which the watcher didn't answer that it opens wasn't added
abbrev pub UnansweredIsNotAdded : (answered : Answer → Type 0) → Type 0
UnansweredIsNotAdded answered =
    (added : List Terms) (i : ℕ) (terms : Terms) → WereAdded answered added → slice_get added i ≡ Some terms → (answered (Opens terms) → ⊥) → ⊥

-- and one to which none may be added is the other
abbrev pub UnchangingRunsAreSo : Type 0
UnchangingRunsAreSo =
    (class : Sorting) (schedules : List Schedule) (entries : List Terms) (rounds : ℕ) (old new : Recorded) (report : Report) (accounts : List Account)
    → RanUntil class schedules entries rounds old new report accounts
    → (events : List Event) × (moments : List ℕ)
    × IsUnchanging schedules entries (trace (first_names schedules entries) class schedules entries rounds old new report accounts events moments)

-- A route of the beginning that wasn't requested to close, and whose name no other visible route has in its opening round, has its own terms, name and schedule
-- to the end of a run in which others were added and requested to close, also under the same name
abbrev pub LeftAsItWas : Type 0
LeftAsItWas =
    (schedules : List Schedule) (entries added : List Terms) (requested : List ℕ) (t : Trace) → IsChanging schedules entries added requested t
    → (r : ℕ) (terms : Terms) (s : Schedule) → slice_get entries r ≡ Some terms → slice_get schedules r ≡ Some s
    → is_requested requested r ≡ false → (IsUsedIn (starts_of t) r s.open_round → ⊥)
    → IsRouteOf t r (until s.open_round (name_of terms)) s × (slice_get t.entries r ≡ Some terms)

-- and so has it in a run without changes
abbrev pub NothingChanged : Type 0
NothingChanged =
    (schedules : List Schedule) (entries : List Terms) (t : Trace) → IsUnchanging schedules entries t
    → (r : ℕ) (terms : Terms) (s : Schedule) → slice_get entries r ≡ Some terms → slice_get schedules r ≡ Some s
    → IsRouteOf t r (until s.open_round (name_of terms)) s × (slice_get t.entries r ≡ Some terms)

-- in a run without changes no other route has a route's name
abbrev pub NamesAreAlone : Type 0
NamesAreAlone =
    (schedules : List Schedule) (entries : List Terms) → fault_of entries ≡ None → (r : ℕ) → IsAlone (texts_of (first_names schedules entries)) r

-- A run to which none was added and in which none was requested to close is one without changes: so a route that couldn't be opened, and hence wasn't
-- added, changes nothing
abbrev pub RefusedChangesNothing : Type 0
RefusedChangesNothing =
    (schedules : List Schedule) (entries : List Terms) (t : Trace) → fault_of entries ≡ None → length schedules ≡ length entries
    → IsChanging schedules entries [] [] t → IsUnchanging schedules entries t

-- A run to which routes were added and in which some were requested to close, and one without changes, of the same schedules and entries and the same
-- secret, in which the source returned the same. This route wasn't requested to close, and no other visible one has its name in its opening round. The same
-- rounds close all, and its inbox accepts Close in the same rounds
pub record AreAlike (secret : List ℕ) (schedules : List Schedule) (entries added : List Terms) (requested : List ℕ) (t u : Trace) (r : ℕ) (terms : Terms)
    (s : Schedule) : Type 0 where
  pub sound : fault_of entries ≡ None
  pub changing : IsChanging schedules entries added requested t
  pub unchanging : IsUnchanging schedules entries u
  pub sorts : t.class ≡ class_of secret
  pub sorts_there : u.class ≡ class_of secret
  pub same_calls : calls t.events ≡ calls u.events
  pub there : slice_get entries r ≡ Some terms
  pub scheduled : slice_get schedules r ≡ Some s
  pub free : IsUsedIn (starts_of t) r s.open_round → ⊥
  pub unrequested : is_requested requested r ≡ false
  pub same_beginnings : beginnings r t.events ≡ beginnings r u.events

-- As if nothing had happened: the same datagrams are sorted to the route in both runs, in the same order. If its inbox turns none of them away, it accepts
-- the same datagrams; and if it accepts no Close, it accepts nothing else, and so the same items
abbrev pub AsIfNothingHappened : Type 0
AsIfNothingHappened =
    (secret : List ℕ) (schedules : List Schedule) (entries added : List Terms) (requested : List ℕ) (t u : Trace) (r : ℕ) (terms : Terms) (s : Schedule)
    → AreAlike secret schedules entries added requested t u r terms s
    → (sorted_to r t.events ≡ sorted_to r u.events)
    × (missed r t.events ≡ [] → missed r u.events ≡ [] → received (accepted r t.events) ≡ received (accepted r u.events))
    × (missed r t.events ≡ [] → missed r u.events ≡ [] → is_closed_in (beginnings r t.events) ≡ false → accepted r t.events ≡ accepted r u.events)

-- the inbox of the route turns nothing away and accepts no Close, all that entered it was taken, and all replies were sent
pub record IsServed (t : Trace) (r : ℕ) (a : Account) : Type 0 where
  pub none_missed : missed r t.events ≡ []
  pub stays_open : is_closed_in (beginnings r t.events) ≡ false
  pub none_left : a.left ≡ 0
  pub sent_all : HasSentAll r t.events a

-- then the same datagrams are sent for the route, byte for byte, if it took the same ticks at the same places
abbrev pub SentAsIfNothingHappened : Type 0
SentAsIfNothingHappened =
    (secret : List ℕ) (schedules : List Schedule) (entries added : List Terms) (requested : List ℕ) (t u : Trace) (r : ℕ) (terms : Terms) (s : Schedule)
    → AreAlike secret schedules entries added requested t u r terms s
    → (a b : Account) → (ran : RouteRan terms r t.events t.moments a) → (ran' : RouteRan terms r u.events u.moments b)
    → IsServed t r a → IsServed u r b
    → ticked_of ran.taken ≡ ticked_of ran'.taken → places_of ran.taken ≡ places_of ran'.taken
    → sent_for r t.events ≡ sent_for r u.events
