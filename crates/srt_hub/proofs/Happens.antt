-- An event changes one lane.
use Rattle.std.proofs.Common.{◌≡◌, ◌≢◌, Bool, true, false, cond, eqb, nat_lt, ℕ, ◌<◌, List, [], ◌∷◌, ◌++◌, length, map, set, get_or, refl}
use Rattle.std.proofs.Common.{sym, ap, subst, ◌∙◌, arith, inl, inr}
use Rattle.std.proofs.lemmas.Bool.{cases_eq, cases_lt, eq-eqb, ne_eqb}
use Rattle.std.proofs.lemmas.List.{get_or-set_same, get_or-set_other, length-set, get_or_append_left, get_or_push, length_push, length-map, map-append}
use Rattle.srt_lobby.specs.declared.classes.Class.TheVariants.{Answer, Route, Dropped}
use Rattle.srt_lobby.specs.declared.classes.Cause.{Cause}
use Rattle.srt_types.specs.Items.{Datagram, Received, Tick}
use Rattle.srt_types.specs.Terms.{Terms}
use Rattle.srt_hub.specs.World.{Event, Arrives, Ticks, Turns, Sends, Opens, Step, Offers, Turn, Send, Nothing, Sorting, Meaning, own_step}
use Rattle.srt_hub.specs.World.{step_for, after_step, places_after, after, empty, Lane, Place, World, opened, entry_in, names_in}
use Rattle.srt_hub.specs.Hubs.{AreLanes}
use Rattle.srt_hub.proofs.Places.{nowhere, at, there_in, entry_stays}

-- a step of an existing route
pub step_there : (class : Sorting) (w : World) (r : ℕ) (event : Event) → r < length w.places → step_for class w r event ≡ own_step class w r event
step_there class w r event below = ap (λ (b : Bool). cond b (own_step class w r event) Nothing) (there_in (length w.places) r below)

either_way : (b : Bool) → cond b Nothing Nothing ≡ Nothing
either_way true = refl
either_way false = refl

-- an event that wouldn't be a step of a route if it existed is none
pub no_step : (class : Sorting) (w : World) (k : ℕ) (event : Event) → own_step class w k event ≡ Nothing → step_for class w k event ≡ Nothing
no_step class w k event h = ap (λ (s : Step). cond (nat_lt k (length w.places)) s Nothing) h ∙ either_way (nat_lt k (length w.places))

-- an event that is no route's step, and opens and hides none, leaves all lanes as they are
pub nothing_happens : {X : Type 0} (Is : X → Terms → ℕ → Lane → Type 0) (class : Sorting) (reply : Meaning) (w : World) (lanes : List X)
    (event : Event)
    → places_after event w ≡ w.places → ((k : ℕ) → own_step class w k event ≡ Nothing) → AreLanes Is w lanes
    → AreLanes Is (after class reply event w) lanes
nothing_happens {X} Is class reply w lanes event places nothing h =
    record {
      as_many = h.as_many ∙ ap (λ (ps : List Place). length ps) (sym places);
      each = λ k x below. rw (places, no_step class w k event (nothing k)) (h.each k x below);
    }

-- an event that is a step of one route, and keeps the number of routes and their entries, changes that lane alone
pub lane_happens : {X : Type 0} (Is : X → Terms → ℕ → Lane → Type 0) (class : Sorting) (reply : Meaning) (w : World) (lanes : List X)
    (event : Event) (r : ℕ) (old lane : X) (step : Step)
    → r < length lanes → old ≡ get_or lanes r old → length (places_after event w) ≡ length w.places → own_step class w r event ≡ step
    → ((k : ℕ) → k ≢ r → own_step class w k event ≡ Nothing)
    → ((e : Terms) (i : ℕ) (m : Lane) → Is old e i m → Is lane e i (after_step reply e i step m)) → AreLanes Is w lanes
    → AreLanes Is (after class reply event w) (set lanes r lane)
lane_happens {X} Is class reply w lanes event r old lane step lt there many own others goes_on h =
    record {
      as_many = length-set lanes r lane ∙ h.as_many ∙ sym many;
      each = λ k d below. elim (cases_eq k r) [
        | inl here ↦
            let before : Is old (entry_in w r) r (w.lane r) = subst (λ (x : X). Is x (entry_in w r) r (w.lane r)) (sym there) (h.each r old lt) in
            let taken = goes_on (entry_in w r) r (w.lane r) before in
            let mine : step_for class w r event ≡ step = step_there class w r event (omega (arith, lt, h.as_many)) ∙ own in
            let entry : entry_in (after class reply event w) r ≡ entry_in w r = entry_stays event w r (omega (arith, lt, h.as_many)) in
            subst (λ (j : ℕ). Is (get_or (set lanes r lane) j d) (entry_in (after class reply event w) j) j ((after class reply event w).lane j)) (sym here)
            (rw (get_or-set_same lanes r lane d lt, entry, mine) taken)
        | inr other ↦
            let in_old : k < length lanes = omega (arith, length-set lanes r lane) in
            let entry : entry_in (after class reply event w) k ≡ entry_in w k = entry_stays event w k (omega (arith, in_old, h.as_many)) in
            rw (get_or-set_other lanes r k lane d other, entry, no_step class w k event (others k other)) (h.each k d in_old)
      ];
    }

pub event_happens : {X : Type 0} (Is : X → Terms → ℕ → Lane → Type 0) (class : Sorting) (reply : Meaning) (w : World) (lanes : List X)
    (event : Event) (r : ℕ) (old lane : X) (step : Step)
    → r < length lanes → old ≡ get_or lanes r old → places_after event w ≡ w.places → own_step class w r event ≡ step
    → ((k : ℕ) → k ≢ r → own_step class w k event ≡ Nothing)
    → ((e : Terms) (i : ℕ) (m : Lane) → Is old e i m → Is lane e i (after_step reply e i step m)) → AreLanes Is w lanes
    → AreLanes Is (after class reply event w) (set lanes r lane)
event_happens {X} Is class reply w lanes event r old lane step lt there places own others goes_on h =
    lane_happens Is class reply w lanes event r old lane step lt there (ap (λ (ps : List Place). length ps) places) own others goes_on h

-- one more route is opened, where no route was
pub route_opens : {X : Type 0} (Is : X → Terms → ℕ → Lane → Type 0) (class : Sorting) (reply : Meaning) (w : World) (lanes : List X)
    (e : Terms) (refused : Bool) (r : ℕ) (lane : X)
    → r ≡ length lanes → places_after (Opens e refused) w ≡ w.places ++ opened e ∷ [] → w.lane r ≡ empty → Is lane e r empty
    → AreLanes Is w lanes
    → AreLanes Is (after class reply (Opens e refused) w) (lanes ++ lane ∷ [])
route_opens {X} Is class reply w lanes e refused r lane index places blank new h =
    record {
      as_many = length_push lanes lane ∙ omega (arith, h.as_many, length_push w.places (opened e)) ∙ ap (λ (ps : List Place). length ps) (sym places);
      each = λ k d below. elim (cases_lt k (length lanes)) [
        | inl lt ↦
            let entry : entry_in (after class reply (Opens e refused) w) k ≡ entry_in w k = entry_stays (Opens e refused) w k (omega (arith, lt, h.as_many)) in
            rw (get_or_append_left lanes (lane ∷ []) d k lt, entry, no_step class w k (Opens e refused) refl) (h.each k d lt)
        | inr le ↦
            let at_end : length lanes ≡ k = omega (arith, le, below, length_push lanes lane) in
            let entry : entry_in (after class reply (Opens e refused) w) k ≡ e = ap (λ (ps : List Place). (at ps k).entry) places
            ∙ ap (λ (p : Place). p.entry) (get_or_push w.places (opened e) nowhere k (sym h.as_many ∙ at_end)) in
            let nothing_yet : w.lane k ≡ empty = ap w.lane (sym at_end ∙ sym index) ∙ blank in
            rw (get_or_push lanes lane d k at_end, entry, no_step class w k (Opens e refused) refl, nothing_yet)
            (subst (λ (j : ℕ). Is lane e j empty) (index ∙ at_end) new)
      ];
    }

-- from the result of a lane to the result of the hub
pub answer_is : {X A : Type 0} (Is : X → Terms → ℕ → Lane → Type 0) (w : World) (lanes : List X) (r : ℕ) (old : X)
    (answer : Terms → Lane → A) (result : A)
    → r < length lanes → old ≡ get_or lanes r old → ((e : Terms) (i : ℕ) (m : Lane) → Is old e i m → result ≡ answer e m) → AreLanes Is w lanes
    → result ≡ answer (entry_in w r) (w.lane r)
answer_is {X} {A} Is w lanes r old answer result lt there says h =
    says (entry_in w r) r (w.lane r) (subst (λ (x : X). Is x (entry_in w r) r (w.lane r)) (sym there) (h.each r old lt))

-- ticks, turns and sends are steps of one route
pub tick_here : (class : Sorting) (w : World) (r moment : ℕ) → own_step class w r (Ticks r moment) ≡ Offers (Tick moment)
tick_here class w r moment = rw (eq-eqb r r refl) refl

pub turn_here : (class : Sorting) (w : World) (r : ℕ) → own_step class w r (Turns r) ≡ Turn
turn_here class w r = rw (eq-eqb r r refl) refl

pub send_here : (class : Sorting) (w : World) (r : ℕ) → own_step class w r (Sends r) ≡ Send
send_here class w r = rw (eq-eqb r r refl) refl

pub other_way : (k r : ℕ) → k ≢ r → r ≢ k
other_way k r other same = other (sym same)

pub tick_elsewhere : (class : Sorting) (w : World) (r moment k : ℕ) → k ≢ r → own_step class w k (Ticks r moment) ≡ Nothing
tick_elsewhere class w r moment k other = rw (ne_eqb r k (other_way k r other)) refl

pub turn_elsewhere : (class : Sorting) (w : World) (r k : ℕ) → k ≢ r → own_step class w k (Turns r) ≡ Nothing
turn_elsewhere class w r k other = rw (ne_eqb r k (other_way k r other)) refl

pub send_elsewhere : (class : Sorting) (w : World) (r k : ℕ) → k ≢ r → own_step class w k (Sends r) ≡ Nothing
send_elsewhere class w r k other = rw (ne_eqb r k (other_way k r other)) refl

-- the world of these entries, before any event
abbrev pub start : List Terms → World
start entries = record { places = map opened entries; lane = λ r. empty }

-- one more lane that is empty
pub one_more : {X : Type 0} (Is : X → Terms → ℕ → Lane → Type 0) (entries : List Terms) (lanes : List X) (e : Terms) (lane : X)
    → Is lane e (length entries) empty → AreLanes Is (start entries) lanes → AreLanes Is (start (entries ++ e ∷ [])) (lanes ++ lane ∷ [])
one_more {X} Is entries lanes e lane new h =
    let places : map opened (entries ++ e ∷ []) ≡ map opened entries ++ opened e ∷ [] = map-append opened entries (e ∷ []) in
    let many : length lanes ≡ length entries = h.as_many ∙ length-map entries opened in
    record {
      as_many = length_push lanes lane ∙ omega (arith, h.as_many, length_push (map opened entries) (opened e))
          ∙ ap (λ (ps : List Place). length ps) (sym places);
      each = λ k d below. elim (cases_lt k (length lanes)) [
        | inl lt ↦
            let entry : entry_in (start (entries ++ e ∷ [])) k ≡ entry_in (start entries) k =
            ap (λ (ps : List Place). (at ps k).entry) places
            ∙ ap (λ (p : Place). p.entry)
            (get_or_append_left (map opened entries) (opened e ∷ []) nowhere k (omega (arith, lt, h.as_many))) in
            rw (get_or_append_left lanes (lane ∷ []) d k lt, entry) (h.each k d lt)
        | inr le ↦
            let at_end : length lanes ≡ k = omega (arith, length_push lanes lane) in
            let entry : entry_in (start (entries ++ e ∷ [])) k ≡ e = ap (λ (ps : List Place). (at ps k).entry) places
            ∙ ap (λ (p : Place). p.entry) (get_or_push (map opened entries) (opened e) nowhere k (sym h.as_many ∙ at_end)) in
            rw (get_or_push lanes lane d k at_end, entry) (subst (λ (j : ℕ). Is lane e j empty) (sym many ∙ at_end) new)
      ];
    }

-- an arrival that the lobby answers or drops is no route's step
pub answer_nowhere : (class : Sorting) (w : World) (d : Datagram) (moment : ℕ) (refused : Bool) (bytes : List ℕ) (k : ℕ)
    → class (names_in w) d moment ≡ Answer bytes → own_step class w k (Arrives d moment refused) ≡ Nothing
answer_nowhere class w d moment refused bytes k is = rw is refl

pub drop_nowhere : (class : Sorting) (w : World) (d : Datagram) (moment : ℕ) (refused : Bool) (cause : Cause) (k : ℕ)
    → class (names_in w) d moment ≡ Dropped cause → own_step class w k (Arrives d moment refused) ≡ Nothing
drop_nowhere class w d moment refused cause k is = rw is refl

-- an arrival whose copy couldn't be allocated is no route's step
pub refused_nowhere : (class : Sorting) (w : World) (d : Datagram) (moment r k : ℕ)
    → class (names_in w) d moment ≡ Route r → own_step class w k (Arrives d moment true) ≡ Nothing
refused_nowhere class w d moment r k is = rw is (either_way (eqb r k))

-- any other arrival is a step of its route
pub arrival_here : (class : Sorting) (w : World) (d : Datagram) (moment r : ℕ)
    → class (names_in w) d moment ≡ Route r → own_step class w r (Arrives d moment false) ≡ Offers (Received d moment)
arrival_here class w d moment r is = rw (is, eq-eqb r r refl) refl

pub arrival_elsewhere : (class : Sorting) (w : World) (d : Datagram) (moment r k : ℕ)
    → class (names_in w) d moment ≡ Route r → k ≢ r → own_step class w k (Arrives d moment false) ≡ Nothing
arrival_elsewhere class w d moment r k is other = rw (is, ne_eqb r k (other_way k r other)) refl
