-- A route that is left as it was.
use Rattle.std.proofs.Common.{◌≡◌, ℕ, zero, suc, ◌<◌, ◌==◌, ◌&&◌, ◌||◌, Bool, true, false, Option, None, Some}
use Rattle.std.proofs.Common.{List, [], ◌∷◌, ◌++◌, length, map, slice_get, get_or}
use Rattle.std.proofs.Common.{◌⊎◌, inl, inr, refl, sym, ap, subst, ◌∙◌, append-nil, arith}
use Rattle.std.specs.Prelude.{if◌then◌else◌}
use Rattle.std.specs.List.{list_any}
use Rattle.std.proofs.lemmas.List.Folds.{list_any-append}
use Rattle.std.specs.Option.{option_map}
use Rattle.std.proofs.lemmas.List.Elements.{filter-append}
use Rattle.std.proofs.lemmas.List.{map-append, length-map}
use Rattle.std.proofs.lemmas.Slice.Eq.{bytes_eq-Decides}
use Rattle.std.proofs.lemmas.Bool.{eqb-true}
use Rattle.std.proofs.Math.Logic.{∥∥₁_elim}
use mathlib.Core.Bool.{Bool-set}
use Rattle.std.proofs.lemmas.Option.{slice_get-map, slice_get_within, slice_get-get_or}
use Rattle.srt_types.specs.declared.shared.Schedule.{Schedule}
use Rattle.srt_types.specs.Items.{Item, Close}
use Rattle.srt_types.specs.Terms.{Terms}
use Rattle.srt_lobby.specs.Names.{RouteName, name_of, as_hidden, has_name_at}
use Rattle.srt_lobby.proofs.Distinct.{names_are_distinct}
use Rattle.srt_poller.proofs.ShownInRound.{shown_again}
use Rattle.srt_poller.specs.Devices.{Arrival}
use Rattle.srt_poller.specs.Schedules.{CloseOffer}
use Rattle.srt_poller.specs.History.{Event, Begins, Waits, WaitFails, ReadsNothing, ReadFails, Answers, Accepts, Overflows, Refuses, Drops, Sends, Resends}
use Rattle.srt_poller.specs.History.{at_route, closing_by, closings, accepted_by, accepted}
use Rattle.srt_poller.specs.Plans.{texts_of, IsAlone, is_requested, Became, IsPlanOf, ArePlans, never}
use Rattle.srt_poller.specs.Starts.{RoundStart, IsUsedIn}
use Rattle.srt_poller.specs.History.{at_first}
use Rattle.srt_poller.proofs.Starting.{starts_alone}
use Rattle.srt_serve.specs.NamesAtStart.{until, later_hidden, first_names}
use Rattle.srt_serve.specs.Unchanged.{sorted_by, sorted_to, missed_by, missed, is_received, received, item_of, OwnScheduleDecides, AcceptedAreSorted}
use Rattle.srt_serve.specs.Unchanged.{closes_route, beginning_by, beginnings, own_marks, LeftAsItWas, NothingChanged, ChangingRunsAreSo, UnchangingRunsAreSo}
use Rattle.srt_serve.specs.Unchanged.{UnansweredStaysOpen, UnansweredIsNotAdded}
use Rattle.srt_serve.specs.Unchanged.{is_closed_in, HeardAlike, SortsByOwnName, starts_of}
use Rattle.srt_serve.specs.Unchanged.{NamesAreAlone, RefusedChangesNothing, AsIfNothingHappened, SentAsIfNothingHappened}
use Rattle.srt_supervision.specs.Answers.{Answer, Closes, Opens}
use Rattle.srt_serve.proofs.NamesAtStart.{as_many_later, texts_at_start}
use Rattle.srt_serve.proofs.Isolation.{routes_are_isolated, same_items_are_taken}
use Rattle.srt_serve.proofs.OwnNames.{lobby_sorts_by_own_name}
use Rattle.srt_serve.proofs.Sorted.{some_same, same_texts, sorted_alike}
use Rattle.srt_serve.proofs.Marks.{marks_are_own}

pub own_schedule_decides : OwnScheduleDecides
own_schedule_decides t u r name s follow follow' heard is is' same =
    sorted_alike t u r name s s follow follow' heard is is'
    (marks_are_own t r name s follow is
    ∙ ap (own_marks s name.is_shown 0) same
    ∙ sym (marks_are_own u r name s follow' is'))

neither : (a b : Bool) → (a || b) ≡ false → (a ≡ false) × (b ≡ false)
neither true b h = cc
neither false b h = (refl, h)

-- two lists that are empty together
both_empty : {X : Type 0} (xs ys : List X) → xs ++ ys ≡ [] → (xs ≡ []) × (ys ≡ [])
both_empty [] ys h = (refl, h)
both_empty (x ∷ xs) ys h = cc

-- the closings that an inbox accepted are no datagrams, and if it accepted none there are none
no_datagram : (moment r : ℕ) (os : List CloseOffer) → received (closings moment r os) ≡ []
no_datagram moment r [] = refl
no_datagram moment r (o ∷ os) =
    filter-append is_received (closing_by moment r o) (closings moment r os)
    ∙ ap (λ (is : List Item). received (closing_by moment r o) ++ is) (no_datagram moment r os)
    ∙ append-nil (received (closing_by moment r o)) ∙ by o.is_accepted (o.route == r)
  where
    by : (accepted here : Bool) → received (if accepted then (if here then Close moment ∷ [] else []) else []) ≡ []
    by true true = refl
    by true false = refl
    by false here = refl

no_closing : (moment r : ℕ) (os : List CloseOffer) → list_any (closes_route r) os ≡ false → closings moment r os ≡ []
no_closing moment r [] none = refl
no_closing moment r (o ∷ os) none =
    let parts = neither (closes_route r o) (list_any (closes_route r) os) none in
    ap (λ (is : List Item). is ++ closings moment r os) (by o.is_accepted (o.route == r) parts.0) ∙ no_closing moment r os parts.1
  where
    by : (accepted here : Bool) → (accepted && here) ≡ false → (if accepted then (if here then Close moment ∷ [] else []) else []) ≡ []
    by true true bad = cc
    by true false none = refl
    by false here none = refl

one_item : (a : Arrival) (route r : ℕ) → at_route route r (item_of a) ≡ map item_of (at_route route r a)
one_item a route r = by (route == r)
  where
    by : (b : Bool) → (if b then item_of a ∷ [] else []) ≡ map item_of (if b then a ∷ [] else [])
    by true = refl
    by false = refl

all_received : (xs : List Arrival) → received (map item_of xs) ≡ map item_of xs
all_received [] = refl
all_received (a ∷ xs) = ap (λ (is : List Item). item_of a ∷ is) (all_received xs)

one_event : (r : ℕ) (event : Event) → missed_by r event ≡ [] → received (accepted_by r event) ≡ map item_of (sorted_by r event)
one_event r (Begins closes_all moment offers) none = no_datagram moment r offers
one_event r Waits none = refl
one_event r WaitFails none = refl
one_event r ReadsNothing none = refl
one_event r ReadFails none = refl
one_event r (Answers arrival bytes sent) none = refl
one_event r (Accepts arrival route) none = ap received (one_item arrival route r) ∙ all_received (at_route route r arrival)
one_event r (Overflows arrival route) none = ap (map item_of) (sym none)
one_event r (Refuses arrival route) none = ap (map item_of) (sym none)
one_event r (Drops arrival cause) none = refl
one_event r (Sends route reply sent) none = refl
one_event r (Resends route reply sent) none = refl

one_open : (r : ℕ) (event : Event) → missed_by r event ≡ [] → is_closed_in (beginning_by r event) ≡ false
    → accepted_by r event ≡ map item_of (sorted_by r event)
one_open r (Begins closes_all moment offers) none open_still =
    no_closing moment r offers (neither (list_any (closes_route r) offers) false open_still).0
one_open r Waits none open_still = refl
one_open r WaitFails none open_still = refl
one_open r ReadsNothing none open_still = refl
one_open r ReadFails none open_still = refl
one_open r (Answers arrival bytes sent) none open_still = refl
one_open r (Accepts arrival route) none open_still = one_item arrival route r
one_open r (Overflows arrival route) none open_still = ap (map item_of) (sym none)
one_open r (Refuses arrival route) none open_still = ap (map item_of) (sym none)
one_open r (Drops arrival cause) none open_still = refl
one_open r (Sends route reply sent) none open_still = refl
one_open r (Resends route reply sent) none open_still = refl

received_are_sorted : (r : ℕ) (events : List Event) → missed r events ≡ [] → received (accepted r events) ≡ map item_of (sorted_to r events)
received_are_sorted r [] none = refl
received_are_sorted r (event ∷ events) none =
    let parts = both_empty (missed_by r event) (missed r events) none in
    filter-append is_received (accepted_by r event) (accepted r events)
    ∙ ap (λ (is : List Item). is ++ received (accepted r events)) (one_event r event parts.0)
    ∙ ap (λ (is : List Item). map item_of (sorted_by r event) ++ is) (received_are_sorted r events parts.1)
    ∙ sym (map-append item_of (sorted_by r event) (sorted_to r events))

open_are_sorted : (r : ℕ) (events : List Event) → missed r events ≡ [] → is_closed_in (beginnings r events) ≡ false
    → accepted r events ≡ map item_of (sorted_to r events)
open_are_sorted r [] none open_still = refl
open_are_sorted r (event ∷ events) none open_still =
    let parts = both_empty (missed_by r event) (missed r events) none in
    let still = neither (is_closed_in (beginning_by r event)) (is_closed_in (beginnings r events))
    (sym (list_any-append (λ b. b.is_closed) (beginning_by r event) (beginnings r events)) ∙ open_still) in
    ap (λ (is : List Item). is ++ accepted r events) (one_open r event parts.0 still.0)
    ∙ ap (λ (is : List Item). map item_of (sorted_by r event) ++ is) (open_are_sorted r events parts.1 still.1)
    ∙ sym (map-append item_of (sorted_by r event) (sorted_to r events))

pub accepted_are_sorted : AcceptedAreSorted
accepted_are_sorted r events none = (received_are_sorted r events none, open_are_sorted r events none)

-- lists that go on
get_left : {A : Type 0} (xs ys : List A) (r : ℕ) (x : A) → slice_get xs r ≡ Some x → slice_get (xs ++ ys) r ≡ Some x
get_left [] ys r x h = cc
get_left (y ∷ xs) ys zero x h = h
get_left (y ∷ xs) ys (suc r) x h = get_left xs ys r x h

first_name : (schedules : List Schedule) (names : List RouteName) (r : ℕ) (s : Schedule) (name : RouteName)
    → slice_get schedules r ≡ Some s → slice_get names r ≡ Some name → slice_get (later_hidden schedules names) r ≡ Some (until s.open_round name)
first_name [] names r s name at named = cc
first_name (x ∷ schedules) [] r s name at named = cc
first_name (x ∷ schedules) (n ∷ names) zero s name at named =
    let same : x ≡ s = cc in
    let here : n ≡ name = cc in
    ap (λ (y : Schedule). Some (until y.open_round n)) same ∙ ap (λ (m : RouteName). Some (until s.open_round m)) here
first_name (x ∷ schedules) (n ∷ names) (suc r) s name at named = first_name schedules names r s name at named

name_at_first : (schedules : List Schedule) (entries : List Terms) (r : ℕ) (s : Schedule) (terms : Terms)
    → slice_get schedules r ≡ Some s → slice_get entries r ≡ Some terms
    → slice_get (first_names schedules entries) r ≡ Some (until s.open_round (name_of terms))
name_at_first schedules entries r s terms at there =
    first_name schedules (map name_of entries) r s (name_of terms) at (slice_get-map name_of entries r ∙ ap (option_map name_of) there)

same_schedule : (s t : Schedule) → t.open_round ≡ s.open_round → t.close_round ≡ s.close_round → t ≡ s
same_schedule s t opens closes = λ i. record { open_round = opens i; close_round = closes i }

-- what a schedule has become, if the route's name is its own and it wasn't requested to close
same_opening : (requested : Bool) (s t : Schedule) → requested ≡ false → (t.open_round ≡ s.open_round) ⊎ ((requested ≡ true) × (t.open_round ≡ never))
    → t.open_round ≡ s.open_round
same_opening requested s t unrequested (inl same) = same
same_opening requested s t unrequested (inr bad) = let both : false ≡ true = sym unrequested ∙ bad.0 in cc

kept_as : (rounds : ℕ) (waits : Type 0) (starts : List RoundStart) (r : ℕ) (requested : Bool) (s t : Schedule) → (IsUsedIn starts r s.open_round → ⊥)
    → requested ≡ false → Became rounds waits starts r requested s t → t ≡ s
kept_as rounds waits starts r requested s t free unrequested became =
    same_schedule s t (same_opening requested s t unrequested (became.same free)) (became.kept unrequested)

schedule_kept : (rounds : ℕ) (starts : List RoundStart) (schedules : List Schedule) (texts : List (List ℕ)) (requested : List ℕ) (later : List Schedule)
    (r : ℕ) (s : Schedule) → ArePlans rounds (λ k. Unit {0}) starts schedules texts requested later → slice_get schedules r ≡ Some s
    → is_requested requested r ≡ false → (IsUsedIn starts r s.open_round → ⊥) → slice_get later r ≡ Some s
schedule_kept rounds starts schedules texts requested later r s plans at unrequested free = by (slice_get later r) refl
  where
    by : (o : Option Schedule) → slice_get later r ≡ o → slice_get later r ≡ Some s
    by (Some t) h =
        h ∙ ap Some (kept_as rounds (Unit {0}) starts r (is_requested requested r) s t free unrequested
        (subst (λ (o : Option Schedule). IsPlanOf rounds (Unit {0}) starts r (is_requested requested r) o t) at (plans.each r t h)))
    by None h =
        let within : r < length schedules = slice_get_within schedules r s at in
        let bad : Some (get_or later r s) ≡ None = sym (slice_get-get_or later r s (omega (arith, within, plans.fewer))) ∙ h in
        cc

pub left_as_it_was : LeftAsItWas
left_as_it_was schedules entries added requested t is r terms s there at unrequested free = (
  record {
    named =
        ap (λ (ns : List RouteName). slice_get ns r) is.names_are
        ∙ get_left (first_names schedules entries) (map (λ e. as_hidden (name_of e)) added) r (until s.open_round (name_of terms))
        (name_at_first schedules entries r s terms at there);
    scheduled = schedule_kept t.rounds (starts_of t) schedules (texts_of t.names) requested t.schedules r s is.planned at unrequested free;
  },
  ap (λ (es : List Terms). slice_get es r) is.entries_are ∙ get_left entries added r terms there,
)

pub nothing_changed : NothingChanged
nothing_changed schedules entries t is r terms s there at = (
  record {
    named = ap (λ (ns : List RouteName). slice_get ns r) is.names_are ∙ name_at_first schedules entries r s terms at there;
    scheduled = ap (λ (ss : List Schedule). slice_get ss r) is.schedules_are ∙ at;
  },
  ap (λ (es : List Terms). slice_get es r) is.entries_are ∙ there,
)

pub changing_runs_are_so : (answered : Answer → Type 0) → ChangingRunsAreSo answered
changing_runs_are_so answered class schedules entries rounds old new report accounts ran = (
  ran.0,
  ran.1,
  ran.2,
  ran.3,
  ran.4,
  record { names_are = refl; entries_are = refl; planned = ran.5; ran = ran.6 },
  ran.7,
  ran.8,
  ran.9,
)

unasked_by : (answered : Answer → Type 0) (q r : ℕ) (b rest : Bool) → (q == r) ≡ b → ∥ answered (Closes q) ∥₁ → (answered (Closes r) → ⊥) → rest ≡ false
    → (b || rest) ≡ false
unasked_by answered q r true rest same known none h =
    let one : q ≡ r = eqb-true q r same in
    ∥∥₁_elim known (Bool-set _ _) (λ answer. absurd (none (subst (λ (n : ℕ). answered (Closes n)) one answer)))
unasked_by answered q r false rest same known none h = h

pub unanswered_stays_open : (answered : Answer → Type 0) → UnansweredStaysOpen answered
unanswered_stays_open answered [] r known none = refl
unanswered_stays_open answered (q ∷ requested) r known none =
    unasked_by answered q r (q == r) (is_requested requested r) refl known.0 none (unanswered_stays_open answered requested r known.1 none)

pub unanswered_is_not_added : (answered : Answer → Type 0) → UnansweredIsNotAdded answered
unanswered_is_not_added answered [] i terms known there none = cc
unanswered_is_not_added answered (t ∷ added) zero terms known there none =
    let one : t ≡ terms = cc in
    let bad : true ≡ false =
    ∥∥₁_elim known.0 (Bool-set _ _) (λ answer. absurd (none (subst (λ (u : Terms). answered (Opens u)) one answer))) in
    cc
unanswered_is_not_added answered (t ∷ added) (suc i) terms known there none = unanswered_is_not_added answered added i terms known.1 there none

pub unchanging_runs_are_so : UnchangingRunsAreSo
unchanging_runs_are_so class schedules entries rounds old new report accounts ran =
    (ran.0, ran.1, record { names_are = refl; entries_are = refl; schedules_are = refl; ran = ran.2 })

-- the names of entries are visible, so that a text among theirs is a name
is_named : (entries : List Terms) (r : ℕ) (text : List ℕ) → slice_get (texts_of (map name_of entries)) r ≡ Some text
    → has_name_at (map name_of entries) r text ≡ true
is_named [] r text h = cc
is_named (e ∷ entries) zero text h = let same : e.name ≡ text = cc in (bytes_eq-Decides text e.name).1 (sym same)
is_named (e ∷ entries) (suc r) text h = is_named entries r text h

texts_at_first : (schedules : List Schedule) (entries : List Terms) → texts_of (first_names schedules entries) ≡ texts_of (map name_of entries)
texts_at_first schedules entries =
    same_texts (first_names schedules entries) (map name_of entries) (texts_at_start schedules entries ∙ sym (shown_again entries))

pub names_are_alone : NamesAreAlone
names_are_alone schedules entries sound r i text here there =
    let same = texts_at_first schedules entries in
    names_are_distinct entries sound i r text
    (is_named entries i text (sym (ap (λ (ts : List (List ℕ)). slice_get ts i) same) ∙ there))
    (is_named entries r text (sym (ap (λ (ts : List (List ℕ)). slice_get ts r) same) ∙ here))

-- lists that have the same at each place
same_places : (xs ys : List Schedule) → length xs ≡ length ys
    → ((r : ℕ) (x : Schedule) → slice_get xs r ≡ Some x → slice_get ys r ≡ Some x) → ys ≡ xs
same_places [] [] many each = refl
same_places [] (y ∷ ys) many each = cc
same_places (x ∷ xs) [] many each = cc
same_places (x ∷ xs) (y ∷ ys) many each =
    let here : y ≡ x = some_same (each 0 x refl) in
    let rest : length xs ≡ length ys = cc in
    ap (λ (z : Schedule). z ∷ ys) here ∙ ap (λ (zs : List Schedule). x ∷ zs) (same_places xs ys rest (λ r z h. each (suc r) z h))

pub refused_changes_nothing : RefusedChangesNothing
refused_changes_nothing schedules entries t sound many is =
    let names : t.names ≡ first_names schedules entries = is.names_are ∙ append-nil (first_names schedules entries) in
    let alone : (r : ℕ) → IsAlone (texts_of t.names) r =
    λ r. subst (λ (ns : List RouteName). IsAlone (texts_of ns) r) (sym names) (names_are_alone schedules entries sound r) in
    let as_many : length schedules ≡ length t.schedules =
    many ∙ sym (length-map entries name_of) ∙ sym (as_many_later schedules (map name_of entries)) ∙ ap length (sym names)
    ∙ sym (length-map t.names (λ (n : RouteName). n.text)) ∙ sym is.planned.as_many in
    record {
      names_are = names;
      entries_are = is.entries_are ∙ append-nil entries;
      schedules_are =
          same_places schedules t.schedules as_many
          (λ r s at. schedule_kept t.rounds (starts_of t) schedules (texts_of t.names) [] t.schedules r s is.planned at refl
          (starts_alone t.schedules (at_first t.names) t.events r s.open_round (alone r)));
      ran = is.ran;
    }

pub as_if_nothing_happened : AsIfNothingHappened
as_if_nothing_happened secret schedules entries added requested t u r terms s h =
    let is = (left_as_it_was schedules entries added requested t h.changing r terms s h.there h.scheduled h.unrequested h.free).0 in
    let is' = (nothing_changed schedules entries u h.unchanging r terms s h.there h.scheduled).0 in
    let heard : HeardAlike t u =
    record {
      sorts = subst SortsByOwnName (sym h.sorts) (lobby_sorts_by_own_name secret);
      same_class = h.sorts_there ∙ sym h.sorts;
      same_calls = h.same_calls;
    } in
    let sorted : sorted_to r t.events ≡ sorted_to r u.events =
    own_schedule_decides t u r (until s.open_round (name_of terms)) s h.changing.ran.follow h.unchanging.ran.follow heard is is' h.same_beginnings in (
      sorted,
      λ none none'.
          received_are_sorted r t.events none ∙ ap (map item_of) sorted
          ∙ sym (received_are_sorted r u.events none'),
      λ none none' still.
          open_are_sorted r t.events none still ∙ ap (map item_of) sorted
          ∙ sym (open_are_sorted r u.events none' (ap is_closed_in (sym h.same_beginnings) ∙ still)),
    )

pub sent_as_if_nothing_happened : SentAsIfNothingHappened
sent_as_if_nothing_happened secret schedules entries added requested t u r terms s h a b ran ran' served served' ticks places =
    routes_are_isolated terms r t.events u.events t.moments u.moments a b ran ran'
    (same_items_are_taken terms terms r t.events u.events t.moments u.moments a b ran ran'
    ((as_if_nothing_happened secret schedules entries added requested t u r terms s h).2 served.none_missed served'.none_missed served.stays_open)
    ticks places served.none_left served'.none_left)
    served.sent_all served'.sent_all
