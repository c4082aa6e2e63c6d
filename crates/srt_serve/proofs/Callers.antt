-- What the poller puts into a route's inbox is of callers that the route admits.
use Rattle.std.proofs.Common.{◌≡◌, ℕ, zero, suc, ◌<◌, ◌==◌, Bool, true, false, cond, Some, List, [], ◌∷◌, ◌++◌, length, map, slice_get}
use Rattle.std.proofs.Common.{slice_index_or, refl, ap, subst, ◌∙◌, arith}
use Rattle.std.proofs.lemmas.Bool.Decides.{nat_tests}
use Rattle.std.specs.List.{AllByRecursion}
use Rattle.srt_types.specs.declared.shared.Schedule.{Schedule}
use Rattle.srt_types.specs.Access.{AccessTerms}
use Rattle.srt_types.specs.Items.{Item, Received, Close}
use Rattle.srt_types.specs.Terms.{Terms}
use Rattle.srt_lobby.specs.declared.classes.Class.TheVariants.{Route}
use Rattle.srt_lobby.specs.Laws.{MayCall}
use Rattle.srt_lobby.specs.Lobby.{class_of}
use Rattle.srt_lobby.specs.Names.{RouteName, as_shown, name_of}
use Rattle.srt_lobby.proofs.Callers.{route_is_for_callers}
use Rattle.srt_poller.specs.Beginnings.{all_shown}
use Rattle.srt_poller.specs.Devices.{Arrival}
use Rattle.srt_poller.specs.History.{Sorting, Event, State, Follow, Fits, at_first, state_by, accepted, accepted_by, at_route, closing_by, closings}
use Rattle.srt_poller.specs.History.{Begins, Waits, WaitFails, ReadsNothing, ReadFails, Answers, Accepts, Overflows, Refuses, Drops, Sends, Resends}
use Rattle.srt_poller.specs.Schedules.{CloseOffer}
use Rattle.srt_poller.proofs.ShownInRound.{texts_after}
use Rattle.srt_serve.specs.Callers.{IsOfCaller, CallersMayCall}

-- the route with this index is there among the names in force, with the clients that it admits
record HasAccess (names : List RouteName) (r : ℕ) (access : AccessTerms) : Type 0 where
  name : RouteName
  there : slice_get names r ≡ Some name
  same : name.access ≡ access

access_at : (names : List RouteName) (entries : List Terms) (r : ℕ) (terms : Terms)
    → r < length entries → all_shown names ≡ map name_of entries → HasAccess names r (slice_index_or entries r terms).access
access_at [] [] r terms below h = absurd (omega (arith, below))
access_at [] (e ∷ entries) r terms below h = cc
access_at (n ∷ names) [] r terms below h = cc
access_at (n ∷ names) (e ∷ entries) zero terms below h =
    let heads : as_shown n ≡ name_of e = cc in
    record { name = n; there = refl; same = ap (λ (m : RouteName). m.access) heads }
access_at (n ∷ names) (e ∷ entries) (suc r) terms below h =
    let tails : all_shown names ≡ map name_of entries = cc in
    let found = access_at names entries r terms (omega (arith, below)) tails in
    record { name = found.name; there = found.there; same = found.same }

both_all : (access : AccessTerms) (xs ys : List Item)
    → AllByRecursion (IsOfCaller access) xs → AllByRecursion (IsOfCaller access) ys → AllByRecursion (IsOfCaller access) (xs ++ ys)
both_all access [] ys p q = q
both_all access (x ∷ xs) ys p q = (p.0, both_all access xs ys p.1 q)

same_route : (a b : ℕ) → (a == b) ≡ true → a ≡ b
same_route a b h = grind (arith, nat_tests)

-- a Close that was offered is of no caller
one_close : (access : AccessTerms) (moment r : ℕ) (o : CloseOffer) → AllByRecursion (IsOfCaller access) (closing_by moment r o)
one_close access moment r o = by o.is_accepted (o.route == r)
  where
    by : (accepted here : Bool) → AllByRecursion (IsOfCaller access) (cond accepted (cond here (Close moment ∷ []) []) [])
    by true true = (tt, tt)
    by true false = tt
    by false here = tt

all_closes : (access : AccessTerms) (moment r : ℕ) (os : List CloseOffer) → AllByRecursion (IsOfCaller access) (closings moment r os)
all_closes access moment r [] = tt
all_closes access moment r (o ∷ os) =
    both_all access (closing_by moment r o) (closings moment r os) (one_close access moment r o) (all_closes access moment r os)

module _ (secret : List ℕ) (schedules : List Schedule) (entries : List Terms) (r : ℕ) (terms : Terms) (below : r < length entries) where
  abbrev access : AccessTerms
  access = (slice_index_or entries r terms).access

  -- a datagram that is sorted to this route
  arrival_may : (names : List RouteName) (a : Arrival) (route : ℕ) → all_shown names ≡ map name_of entries
      → class_of secret names a.datagram a.moment ≡ Route route → route ≡ r → MayCall access a.datagram
  arrival_may names a route named sorted here =
      let found = access_at names entries r terms below named in
      let whose : class_of secret names a.datagram a.moment ≡ Route r = sorted ∙ ap Route here in
      subst (λ (x : AccessTerms). MayCall x a.datagram) found.same
      (route_is_for_callers secret names a.datagram a.moment r found.name found.there whose)

  accepted_may : (names : List RouteName) (a : Arrival) (route : ℕ) → all_shown names ≡ map name_of entries
      → class_of secret names a.datagram a.moment ≡ Route route
      → AllByRecursion (IsOfCaller access) (at_route route r (Received a.datagram a.moment))
  accepted_may names a route named sorted = by (route == r) refl
    where
      by : (b : Bool) → (route == r) ≡ b → AllByRecursion (IsOfCaller access) (cond b (Received a.datagram a.moment ∷ []) [])
      by true h = (arrival_may names a route named sorted (same_route route r h), tt)
      by false h = tt

  event_may : (s : State) (event : Event) → all_shown s.names ≡ map name_of entries
      → Fits (class_of secret) schedules s event → AllByRecursion (IsOfCaller access) (accepted_by r event)
  event_may s (Begins closes_all moment offers) named fits = all_closes access moment r offers
  event_may s Waits named fits = tt
  event_may s WaitFails named fits = tt
  event_may s ReadsNothing named fits = tt
  event_may s ReadFails named fits = tt
  event_may s (Answers arrival bytes sent) named fits = tt
  event_may s (Accepts arrival route) named fits = accepted_may s.names arrival route named fits.1
  event_may s (Overflows arrival route) named fits = tt
  event_may s (Refuses arrival route) named fits = tt
  event_may s (Drops arrival cause) named fits = tt
  event_may s (Sends route reply sent) named fits = tt
  event_may s (Resends route reply sent) named fits = tt

  events_may : (s : State) (events : List Event) → all_shown s.names ≡ map name_of entries
      → Follow (class_of secret) schedules s events → AllByRecursion (IsOfCaller access) (accepted r events)
  events_may s [] named follow = tt
  events_may s (event ∷ events) named follow =
      both_all access (accepted_by r event) (accepted r events) (event_may s event named follow.0)
      (events_may (state_by schedules s event) events (texts_after schedules s (event ∷ []) ∙ named) follow.1)

pub callers_may_call : (class : Sorting) (schedules : List Schedule) (entries : List Terms) (names : List RouteName) (events : List Event)
    → all_shown names ≡ map name_of entries → Follow class schedules (at_first names) events → CallersMayCall class entries events
callers_may_call class schedules entries names events named follow secret sorted r terms below =
    events_may secret schedules entries r terms below (at_first names) events named
    (subst (λ (c : Sorting). Follow c schedules (at_first names) events) sorted follow)
