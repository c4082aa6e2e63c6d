-- Which datagrams of a run are sorted to a route, by the calls of the source and by whether the route is visible in each round.
use Rattle.std.proofs.Common.{◌≡◌, ℕ, zero, suc, ◌+◌, ◌==◌, Bool, true, false, Option, Some, None, List, [], ◌∷◌}
use Rattle.std.proofs.Common.{◌++◌, map, slice_get, refl, sym, ap, subst, ◌∙◌}
use Rattle.std.specs.Prelude.{if◌then◌else◌}
use Rattle.std.specs.Option.{option_map}
use Rattle.std.proofs.lemmas.Bool.{eq-eqb, eqb-true}
use Rattle.std.proofs.lemmas.Simd.{map-map}
use Rattle.std.proofs.lemmas.Option.{slice_get-map}
use Rattle.srt_types.specs.declared.shared.Schedule.{Schedule}
use Rattle.srt_lobby.specs.declared.classes.Class.{Class}
use Rattle.srt_lobby.specs.declared.classes.Class.TheVariants.{Answer, Route, Dropped}
use Rattle.srt_lobby.specs.Names.{RouteName, as_shown, as_hidden, shows, is_shown_at, has_name_at, AreDistinct}
use Rattle.srt_lobby.specs.Changing.{marked_at, hidden_at}
use Rattle.srt_lobby.proofs.Changing.{hiding_keeps_names}
use Rattle.srt_lobby.proofs.Finds.{has_name_text}
use Rattle.srt_poller.specs.Beginnings.{all_shown}
use Rattle.srt_poller.specs.Devices.{Arrival, Call, WaitEnded, WaitFailed, ReadGave, ReadEmpty, ReadFailed}
use Rattle.srt_poller.specs.History.{Sorting, Event, Phase, Between, Begun, Reading, Sending, read_on, sent_on, IsOver, IsReading, MaySend}
use Rattle.srt_poller.specs.History.{Begins, Waits, WaitFails, ReadsNothing, ReadFails, Answers, Accepts, Overflows, Refuses, Drops, Sends, Resends}
use Rattle.srt_poller.specs.History.{State, at_first, state_by, Follow, calls}
use Rattle.srt_poller.specs.Plans.{texts_of}
use Rattle.srt_poller.specs.Schedules.{CloseOffer, opened_if, hidden_by, closed}
use Rattle.srt_poller.proofs.ShownInRound.{texts_marked, texts_after}
use Rattle.srt_serve.specs.Unchanged.{HasOwnName, SortsByOwnName, sorted_to, marks_from, marks, SortedAlike}

-- names whose texts are those of others, in which this route's text is the route's alone
pub record HasPlace (names : List RouteName) (r : ℕ) (name : RouteName) : Type 0 where
  pub at_place : RouteName
  pub named : slice_get names r ≡ Some at_place
  pub same : as_shown at_place ≡ as_shown name

pub some_same : {X : Type 0} {a b : X} → Some a ≡ Some b → a ≡ b
some_same h = cc

pub has_place : (names first : List RouteName) (r : ℕ) (name : RouteName) → all_shown names ≡ all_shown first → slice_get first r ≡ Some name
    → HasPlace names r name
has_place names first r name same named = by (slice_get names r) refl
  where
    shown : option_map as_shown (slice_get names r) ≡ Some (as_shown name)
    shown =
        sym (slice_get-map as_shown names r) ∙ ap (λ (ns : List RouteName). slice_get ns r) same ∙ slice_get-map as_shown first r
        ∙ ap (option_map as_shown) named

    by : (o : Option RouteName) → slice_get names r ≡ o → HasPlace names r name
    by (Some n) h = record { at_place = n; named = h; same = some_same (sym (ap (option_map as_shown) h) ∙ shown) }
    by None h = let bad : option_map as_shown None ≡ Some (as_shown name) = sym (ap (option_map as_shown) h) ∙ shown in cc

text_shown : (names : List RouteName) → texts_of names ≡ map (λ (n : RouteName). n.text) (all_shown names)
text_shown names = sym (map-map (λ (n : RouteName). n.text) as_shown names)

pub same_texts : (names first : List RouteName) → all_shown names ≡ all_shown first → texts_of names ≡ texts_of first
same_texts names first same = text_shown names ∙ ap (map (λ (n : RouteName). n.text)) same ∙ sym (text_shown first)

text_there : (names : List RouteName) (i : ℕ) (text : List ℕ) → has_name_at names i text ≡ true → slice_get (texts_of names) i ≡ Some text
text_there names i text h = slice_get-map (λ (n : RouteName). n.text) names i ∙ has_name_text text (slice_get names i) h

-- the route's name in names in force, no two visible ones of which are the same
pub own_name : (names first : List RouteName) (r : ℕ) (name : RouteName)
    → all_shown names ≡ all_shown first → slice_get first r ≡ Some name → AreDistinct names
    → HasOwnName names r (record name { is_shown = is_shown_at names r })
own_name names first r name same named distinct =
    let place = has_place names first r name same named in
    let shown : is_shown_at names r ≡ place.at_place.is_shown = ap shows place.named in
    record {
      named =
          place.named
          ∙ ap (λ (n : RouteName). Some (record n { is_shown = place.at_place.is_shown })) place.same
          ∙ ap (λ (b : Bool). Some (record name { is_shown = b })) (sym shown);
      only = λ i text here there. distinct i r text there here;
    }

mark_is : (m : Bool) (ns : List RouteName) (k : ℕ) (name : RouteName) → slice_get ns k ≡ Some name → is_shown_at (marked_at m k ns) k ≡ m
mark_is m [] k name h = cc
mark_is m (n ∷ ns) zero name h = refl
mark_is m (n ∷ ns) (suc k) name h = mark_is m ns k name h

-- all names but this route's are hidden
abbrev all_hidden : List RouteName → List RouteName
all_hidden names = map (λ n. as_hidden n) names

texts_hidden : (names : List RouteName) → all_shown (all_hidden names) ≡ all_shown names
texts_hidden [] = refl
texts_hidden (n ∷ names) = ap (λ (l : List RouteName). as_shown n ∷ l) (texts_hidden names)

none_shown : (names : List RouteName) (i : ℕ) (text : List ℕ) → has_name_at (all_hidden names) i text ≡ true → ⊥
none_shown [] i text h = let bad : false ≡ true = h in cc
none_shown (n ∷ names) zero text h = let bad : false ≡ true = h in cc
none_shown (n ∷ names) (suc i) text h = none_shown names i text h

only_marked : (m : Bool) (names : List RouteName) (r i : ℕ) (text : List ℕ) → has_name_at (marked_at m r (all_hidden names)) i text ≡ true → i ≡ r
only_marked m [] r i text h = let bad : false ≡ true = h in cc
only_marked m (n ∷ names) zero zero text h = refl
only_marked m (n ∷ names) zero (suc i) text h = absurd (none_shown names i text h)
only_marked m (n ∷ names) (suc r) zero text h = let bad : false ≡ true = h in cc
only_marked m (n ∷ names) (suc r) (suc i) text h = ap suc (only_marked m names r i text h)

hidden_there : (first : List RouteName) (r : ℕ) (name : RouteName) → slice_get first r ≡ Some name → slice_get (all_hidden first) r ≡ Some (as_hidden name)
hidden_there first r name h = slice_get-map (λ (n : RouteName). as_hidden n) first r ∙ ap (option_map (λ (n : RouteName). as_hidden n)) h

marked_own : (m : Bool) (first : List RouteName) (r : ℕ) (name : RouteName) → slice_get first r ≡ Some name
    → HasOwnName (marked_at m r (all_hidden first)) r (record name { is_shown = m })
marked_own m first r name named =
    subst (λ (b : Bool). HasOwnName (marked_at m r (all_hidden first)) r (record name { is_shown = b }))
    (mark_is m (all_hidden first) r (as_hidden name) (hidden_there first r name named))
    (own_name (marked_at m r (all_hidden first)) first r name (texts_marked m r (all_hidden first) ∙ texts_hidden first) named
    (λ i j text p q. only_marked m first r i text p ∙ sym (only_marked m first r j text q)))

-- names stay different once routes are hidden
pub closed_distinct : (offers : List CloseOffer) (names : List RouteName) → AreDistinct names → AreDistinct (closed offers names)
closed_distinct [] names distinct = distinct
closed_distinct (o ∷ offers) names distinct = closed_distinct offers (hidden_by names o) (by o.is_accepted)
  where
    by : (b : Bool) → AreDistinct (if b then hidden_at o.route names else names)
    by true = hiding_keeps_names names o.route distinct
    by false = distinct

-- a round has begun
abbrev HasBegun : Phase → Type 0
HasBegun Between = ⊥
HasBegun (Begun owes) = Unit {0}
HasBegun (Reading reads) = Unit {0}
HasBegun (Sending route sends) = Unit {0}

read_begun : (p : Phase) → IsReading p → HasBegun p
read_begun Between h = h
read_begun (Begun owes) h = tt
read_begun (Reading reads) h = tt
read_begun (Sending route sends) h = tt

send_begun : (p : Phase) (route : ℕ) → MaySend p route → HasBegun p
send_begun Between route h = h
send_begun (Begun owes) route h = tt
send_begun (Reading reads) route h = tt
send_begun (Sending last sends) route h = tt

-- whether a class is this route
abbrev is_for : (r : ℕ) → Class → Bool
is_for r (Route s) = s == r
is_for r (Answer bytes) = false
is_for r (Dropped cause) = false

for_route : (r : ℕ) (c : Class) → is_for r c ≡ true → c ≡ Route r
for_route r (Route s) h = ap Route (eqb-true s r h)
for_route r (Answer bytes) h = absurd (let bad : false ≡ true = h in cc)
for_route r (Dropped cause) h = absurd (let bad : false ≡ true = h in cc)

route_for : (r : ℕ) (c : Class) → c ≡ Route r → is_for r c ≡ true
route_for r c h = ap (is_for r) h ∙ eq-eqb r r refl

same_test : (a b : Bool) → (a ≡ true → b ≡ true) → (b ≡ true → a ≡ true) → a ≡ b
same_test true b there back = sym (there refl)
same_test false true there back = back refl
same_test false false there back = refl

-- the mark of a round that has begun and hasn't waited yet
abbrev pending : Phase → Bool → List Bool
pending Between m = []
pending (Begun owes) m = m ∷ []
pending (Reading reads) m = []
pending (Sending route sends) m = []

over_none : (p : Phase) (m : Bool) → IsOver p → pending p m ≡ []
over_none Between m h = refl
over_none (Begun owes) m h = absurd h
over_none (Reading reads) m h = absurd h
over_none (Sending route sends) m h = refl

reading_none : (p : Phase) (m : Bool) → IsReading p → pending p m ≡ []
reading_none Between m h = absurd h
reading_none (Begun owes) m h = absurd h
reading_none (Reading reads) m h = refl
reading_none (Sending route sends) m h = absurd h

read_on_none : (p : Phase) (m : Bool) → IsReading p → pending (read_on p) m ≡ []
read_on_none Between m h = absurd h
read_on_none (Begun owes) m h = absurd h
read_on_none (Reading reads) m h = by (reads + 1 == 256)
  where
    by : (b : Bool) → pending (if b then Sending 0 0 else Reading (reads + 1)) m ≡ []
    by true = refl
    by false = refl
read_on_none (Sending route sends) m h = absurd h

sending_none : (p : Phase) (route : ℕ) (m : Bool) → MaySend p route → pending p m ≡ []
sending_none Between route m h = absurd h
sending_none (Begun owes) route m h = absurd h
sending_none (Reading reads) route m h = absurd h
sending_none (Sending last sends) route m h = refl

sent_none : (p : Phase) (route : ℕ) (m : Bool) → pending (sent_on route p) m ≡ []
sent_none Between route m = refl
sent_none (Begun owes) route m = refl
sent_none (Reading reads) route m = refl
sent_none (Sending last sends) route m = refl

sent_reads_none : (p : Phase) (route : ℕ) → IsReading (sent_on route p) → ⊥
sent_reads_none Between route h = h
sent_reads_none (Begun owes) route h = h
sent_reads_none (Reading reads) route h = h
sent_reads_none (Sending last sends) route h = h

-- the next mark, if there is one, and those after it
abbrev next_mark : (old : Bool) → List Bool → Bool
next_mark old [] = old
next_mark old (m ∷ ms) = m

abbrev marks_after : List Bool → List Bool
marks_after [] = []
marks_after (m ∷ ms) = ms

module _ (class : Sorting) (sorts : SortsByOwnName class) (base : List RouteName) (r : ℕ) (name : RouteName) (named : slice_get base r ≡ Some name) where
  -- whether a datagram is the route's, if the route is visible or isn't
  abbrev takes : (mark : Bool) → Arrival → Bool
  takes mark a = is_for r (class (marked_at mark r (all_hidden base)) a.datagram a.moment)

  abbrev taken_if : (mark : Bool) → Arrival → List Arrival
  taken_if mark a = if takes mark a then a ∷ [] else []

  -- the route's datagrams, by the calls of the source and the route's mark in each round
  abbrev by_calls : (old : Bool) → List Bool → List Call → List Arrival
  by_calls old ms [] = []
  by_calls old ms (WaitEnded ∷ cs) = by_calls (next_mark old ms) (marks_after ms) cs
  by_calls old ms (WaitFailed ∷ cs) = by_calls (next_mark old ms) (marks_after ms) cs
  by_calls old ms (ReadGave a ∷ cs) = taken_if old a ++ by_calls old ms cs
  by_calls old ms (ReadEmpty ∷ cs) = by_calls old ms cs
  by_calls old ms (ReadFailed ∷ cs) = by_calls old ms cs

  module _ (schedules : List Schedule) (first : List RouteName) (named_there : slice_get first r ≡ Some name) where
    takes_so : (names : List RouteName) (old : Bool) (a : Arrival) → AreDistinct names → all_shown names ≡ all_shown first → old ≡ is_shown_at names r
        → takes old a ≡ is_for r (class names a.datagram a.moment)
    takes_so names old a distinct same mark =
        let here = marked_own old base r name named in
        let there : HasOwnName names r (record name { is_shown = old }) =
        subst (λ (b : Bool). HasOwnName names r (record name { is_shown = b })) (sym mark) (own_name names first r name same named_there distinct) in
        let either = sorts (marked_at old r (all_hidden base)) names r (record name { is_shown = old }) here there a.datagram a.moment in
        same_test (takes old a) (is_for r (class names a.datagram a.moment))
        (λ yes. route_for r (class names a.datagram a.moment) (either.0 (for_route r (class (marked_at old r (all_hidden base)) a.datagram a.moment) yes)))
        (λ yes. route_for r (class (marked_at old r (all_hidden base)) a.datagram a.moment) (either.1 (for_route r (class names a.datagram a.moment) yes)))

    -- what was sorted to the route, of one datagram
    abbrev found_by : Class → Arrival → List Arrival
    found_by c a = if is_for r c then a ∷ [] else []

    taken_so : (names : List RouteName) (old : Bool) (a : Arrival) (c : Class) → AreDistinct names → all_shown names ≡ all_shown first
        → old ≡ is_shown_at names r
        → class names a.datagram a.moment ≡ c → found_by c a ≡ taken_if old a
    taken_so names old a c distinct same mark is =
        ap (λ (b : Bool). if b then a ∷ [] else []) (sym (takes_so names old a distinct same mark ∙ ap (is_for r) is))

    -- a read that returned a datagram
    read_more : (s : State) (next : State) (events : List Event) (a : Arrival) (c : Class) (old : Bool) → AreDistinct s.names → IsReading s.phase
        → old ≡ is_shown_at s.names r → all_shown s.names ≡ all_shown first → class s.names a.datagram a.moment ≡ c
        → next.names ≡ s.names → next.phase ≡ read_on s.phase
        → sorted_to r events ≡ by_calls old (pending next.phase (is_shown_at next.names r) ++ marks_from r schedules next events) (calls events)
        → found_by c a ++ sorted_to r events
        ≡ by_calls old (pending s.phase (is_shown_at s.names r) ++ marks_from r schedules next events) (ReadGave a ∷ calls events)
    read_more s next events a c old distinct reads mark same is names phase more =
        ap (λ (xs : List Arrival). found_by c a ++ xs) more
        ∙ ap (λ (xs : List Arrival). xs ++ by_calls old (pending next.phase (is_shown_at next.names r) ++ marks_from r schedules next events) (calls events))
        (taken_so s.names old a c distinct same mark is)
        ∙ ap (λ (ms : List Bool). by_calls old (ms ++ marks_from r schedules next events) (ReadGave a ∷ calls events))
        (ap (λ (p : Phase). pending p (is_shown_at next.names r)) phase ∙ read_on_none s.phase (is_shown_at next.names r) reads
        ∙ sym (reading_none s.phase (is_shown_at s.names r) reads))

    sorted_by_calls : (s : State) (events : List Event) → all_shown s.names ≡ all_shown first → Follow class schedules s events
        → (old : Bool) → (IsReading s.phase → old ≡ is_shown_at s.names r) → (HasBegun s.phase → AreDistinct s.names)
        → sorted_to r events ≡ by_calls old (pending s.phase (is_shown_at s.names r) ++ marks_from r schedules s events) (calls events)
    sorted_by_calls s [] same follow old mark distinct = refl
    sorted_by_calls s (Begins closes_all moment offers ∷ events) same follow old mark distinct =
        let next = state_by schedules s (Begins closes_all moment offers) in
        let m = is_shown_at next.names r in
        sorted_by_calls next events (texts_after schedules s (Begins closes_all moment offers ∷ []) ∙ same) follow.1 old (λ bad. absurd bad)
        (λ begun. closed_distinct offers (opened_if closes_all s.round schedules s.names) follow.0.3)
        ∙ ap (λ (ms : List Bool). by_calls old (ms ++ (m ∷ marks_from r schedules next events)) (calls events))
        (sym (over_none s.phase (is_shown_at s.names r) follow.0.0))
    sorted_by_calls s (Waits ∷ events) same follow old mark distinct =
        let next = state_by schedules s Waits in
        let m = is_shown_at s.names r in
        sorted_by_calls next events same follow.1 m (λ reads. refl) (λ begun. distinct (subst HasBegun (sym follow.0) tt))
        ∙ ap (λ (p : Phase). by_calls old (pending p m ++ marks_from r schedules next events) (WaitEnded ∷ calls events)) (sym follow.0)
    sorted_by_calls s (WaitFails ∷ events) same follow old mark distinct =
        let next = state_by schedules s WaitFails in
        let m = is_shown_at s.names r in
        sorted_by_calls next events same follow.1 m (λ reads. refl) (λ begun. distinct (subst HasBegun (sym follow.0) tt))
        ∙ ap (λ (p : Phase). by_calls old (pending p m ++ marks_from r schedules next events) (WaitFailed ∷ calls events)) (sym follow.0)
    sorted_by_calls s (ReadsNothing ∷ events) same follow old mark distinct =
        let next = state_by schedules s ReadsNothing in
        sorted_by_calls next events same follow.1 old (λ bad. absurd bad) (λ begun. distinct (read_begun s.phase follow.0))
        ∙ ap (λ (ms : List Bool). by_calls old (ms ++ marks_from r schedules next events) (ReadEmpty ∷ calls events))
        (sym (reading_none s.phase (is_shown_at s.names r) follow.0))
    sorted_by_calls s (ReadFails ∷ events) same follow old mark distinct =
        let next = state_by schedules s ReadFails in
        sorted_by_calls next events same follow.1 old (λ bad. absurd bad) (λ begun. distinct (read_begun s.phase follow.0))
        ∙ ap (λ (ms : List Bool). by_calls old (ms ++ marks_from r schedules next events) (ReadFailed ∷ calls events))
        (sym (reading_none s.phase (is_shown_at s.names r) follow.0))
    sorted_by_calls s (Answers arrival bytes sent ∷ events) same follow old mark distinct =
        read_more s (state_by schedules s (Answers arrival bytes sent)) events arrival (Answer bytes) old (distinct (read_begun s.phase follow.0.0))
        follow.0.0 (mark follow.0.0) same follow.0.1 refl
        refl (sorted_by_calls (state_by schedules s (Answers arrival bytes sent)) events same follow.1 old (λ reads. mark follow.0.0)
        (λ begun. distinct (read_begun s.phase follow.0.0)))
    sorted_by_calls s (Accepts arrival route ∷ events) same follow old mark distinct =
        read_more s (state_by schedules s (Accepts arrival route)) events arrival (Route route) old (distinct (read_begun s.phase follow.0.0))
        follow.0.0 (mark follow.0.0) same follow.0.1 refl
        refl (sorted_by_calls (state_by schedules s (Accepts arrival route)) events same follow.1 old (λ reads. mark follow.0.0)
        (λ begun. distinct (read_begun s.phase follow.0.0)))
    sorted_by_calls s (Overflows arrival route ∷ events) same follow old mark distinct =
        read_more s (state_by schedules s (Overflows arrival route)) events arrival (Route route) old (distinct (read_begun s.phase follow.0.0))
        follow.0.0 (mark follow.0.0) same follow.0.1 refl
        refl (sorted_by_calls (state_by schedules s (Overflows arrival route)) events same follow.1 old (λ reads. mark follow.0.0)
        (λ begun. distinct (read_begun s.phase follow.0.0)))
    sorted_by_calls s (Refuses arrival route ∷ events) same follow old mark distinct =
        read_more s (state_by schedules s (Refuses arrival route)) events arrival (Route route) old (distinct (read_begun s.phase follow.0.0))
        follow.0.0 (mark follow.0.0) same follow.0.1 refl
        refl (sorted_by_calls (state_by schedules s (Refuses arrival route)) events same follow.1 old (λ reads. mark follow.0.0)
        (λ begun. distinct (read_begun s.phase follow.0.0)))
    sorted_by_calls s (Drops arrival cause ∷ events) same follow old mark distinct =
        read_more s (state_by schedules s (Drops arrival cause)) events arrival (Dropped cause) old (distinct (read_begun s.phase follow.0.0))
        follow.0.0 (mark follow.0.0) same follow.0.1 refl
        refl (sorted_by_calls (state_by schedules s (Drops arrival cause)) events same follow.1 old (λ reads. mark follow.0.0)
        (λ begun. distinct (read_begun s.phase follow.0.0)))
    sorted_by_calls s (Sends route reply sent ∷ events) same follow old mark distinct =
        let next = state_by schedules s (Sends route reply sent) in
        let m = is_shown_at s.names r in
        sorted_by_calls next events same follow.1 old (λ reads. absurd (sent_reads_none s.phase route reads))
        (λ begun. distinct (send_begun s.phase route follow.0.0))
        ∙ ap (λ (ms : List Bool). by_calls old (ms ++ marks_from r schedules next events) (calls events))
        (sent_none s.phase route m ∙ sym (sending_none s.phase route m follow.0.0))
    sorted_by_calls s (Resends route reply sent ∷ events) same follow old mark distinct =
        let next = state_by schedules s (Resends route reply sent) in
        let m = is_shown_at s.names r in
        sorted_by_calls next events same follow.1 old (λ bad. absurd bad) (λ begun. distinct (subst HasBegun (sym follow.0.0) tt))
        ∙ ap (λ (p : Phase). by_calls old (pending p m ++ marks_from r schedules next events) (calls events)) (sym follow.0.0)

pub sorted_alike : SortedAlike
sorted_alike t u r name s s' follow follow' heard is is' same =
    let there : Follow t.class u.schedules (at_first u.names) u.events =
    subst (λ (c : Sorting). Follow c u.schedules (at_first u.names) u.events) heard.same_class follow' in
    sorted_by_calls t.class heard.sorts t.names r name is.named t.schedules t.names is.named (at_first t.names) t.events refl follow false
    (λ bad. absurd bad) (λ bad. absurd bad)
    ∙ ap (λ (ms : List Bool). by_calls t.class heard.sorts t.names r name is.named false ms (calls t.events)) same
    ∙ ap (by_calls t.class heard.sorts t.names r name is.named false (marks r u)) heard.same_calls
    ∙ sym (sorted_by_calls t.class heard.sorts t.names r name is.named u.schedules u.names is'.named (at_first u.names) u.events refl
    there false (λ bad. absurd bad) (λ bad. absurd bad))
