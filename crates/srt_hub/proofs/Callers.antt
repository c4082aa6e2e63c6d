-- Each item that entered a route's inbox is of a caller that may call the route.
use Rattle.std.proofs.Common.{◌≡◌, ℕ, ◌<◌, nat_lt, ◌==◌, Bool, true, false, cond, List, [], ◌∷◌, ◌++◌, length, refl, sym, ap, subst, ◌∙◌}
use Rattle.std.specs.Bool.{⊤}
use Rattle.std.specs.List.{AllByRecursion}
use Rattle.srt_types.specs.Access.{AccessTerms}
use Rattle.srt_types.specs.Items.{Datagram, Item, Received, Tick, Close}
use Rattle.srt_types.specs.Terms.{Terms}
use Rattle.srt_lobby.specs.declared.classes.Class.TheVariants.{Route}
use Rattle.srt_lobby.specs.Lobby.{class_of}
use Rattle.srt_lobby.proofs.Callers.{route_is_for_callers}
use Rattle.srt_route.specs.Route.{reply}
use Rattle.srt_hub.specs.World.{Event, Arrives, Ticks, Turns, Sends, Opens, Closes, Step, Offers, Turn, Send, Nothing, Lane, World, has_room, takes_in}
use Rattle.srt_hub.specs.World.{name_at, place_in, entry_in, is_shown_in, names_in, is_there, is_route, offer_unless, offer_if, own_step, step_for}
use Rattle.srt_hub.specs.World.{places_after, world_after}
use Rattle.srt_hub.specs.Gateways.{sorting, accepted_of, IsOfCaller, CallersMayCall}
use Rattle.srt_hub.proofs.Places.{at, below_of, there_in, there_stays, entry_stays}
use Rattle.srt_hub.proofs.Named.{named}
use Rattle.srt_hub.proofs.Own.{is_routes}

-- the item that a step offers, if it offers one, is of a caller that may call
abbrev StepMay : AccessTerms → Step → Type 0
StepMay access (Offers item) = IsOfCaller access item
StepMay access Turn = ⊤
StepMay access Send = ⊤
StepMay access Nothing = ⊤

taken : (access : AccessTerms) (e : Terms) (step : Step) (m : Lane) → StepMay access step → AllByRecursion (IsOfCaller access) (takes_in e step m)
taken access e (Offers item) m h = by (has_room e m)
  where
    by : (b : Bool) → AllByRecursion (IsOfCaller access) (cond b (item ∷ []) [])
    by true = (h, tt)
    by false = tt
taken access e Turn m h = tt
taken access e Send m h = tt
taken access e Nothing m h = tt

-- a datagram of an existing route is of a caller that may call it
arrival_may : (secret : List ℕ) (w : World) (r : ℕ) (d : Datagram) (moment : ℕ)
    → r < length w.places → class_of secret (names_in w) d moment ≡ Route r → IsOfCaller (entry_in w r).access (Received d moment)
arrival_may secret w r d moment below h = route_is_for_callers secret (names_in w) d moment r (name_at (place_in w r)) (named w.places r below) h

step_may : (secret : List ℕ) (w : World) (r : ℕ) (event : Event)
    → r < length w.places → StepMay (entry_in w r).access (own_step (sorting secret) w r event)
step_may secret w r (Arrives d moment refused) below = by (is_route r (sorting secret (names_in w) d moment)) refl refused
  where
    by : (b : Bool) → is_route r (sorting secret (names_in w) d moment) ≡ b → (refused : Bool)
        → StepMay (entry_in w r).access (cond b (offer_unless refused (Received d moment)) Nothing)
    by true h true = tt
    by true h false = arrival_may secret w r d moment below (is_routes r (sorting secret (names_in w) d moment) h)
    by false h refused = tt
step_may secret w r (Ticks s moment) below = by (s == r)
  where
    by : (b : Bool) → StepMay (entry_in w r).access (cond b (Offers (Tick moment)) Nothing)
    by true = tt
    by false = tt
step_may secret w r (Turns s) below = by (s == r)
  where
    by : (b : Bool) → StepMay (entry_in w r).access (cond b Turn Nothing)
    by true = tt
    by false = tt
step_may secret w r (Sends s) below = by (s == r)
  where
    by : (b : Bool) → StepMay (entry_in w r).access (cond b Send Nothing)
    by true = tt
    by false = tt
step_may secret w r (Opens e refused) below = tt
step_may secret w r (Closes s moment) below = by (s == r) (is_shown_in w r)
  where
    by : (b shown : Bool) → StepMay (entry_in w r).access (cond b (offer_if shown (Close moment)) Nothing)
    by true true = tt
    by true false = tt
    by false shown = tt

-- a route that doesn't exist accepts nothing
no_more : (secret : List ℕ) (w : World) (r : ℕ) (event : Event) (rest : List Item)
    → (nat_lt r (length w.places) ≡ false → rest ≡ []) → nat_lt r (length (places_after event w)) ≡ false
    → takes_in (entry_in w r) (step_for (sorting secret) w r event) (w.lane r) ++ rest ≡ []
no_more secret w r event rest none h = by (nat_lt r (length w.places)) refl
  where
    by : (b : Bool) → nat_lt r (length w.places) ≡ b
        → takes_in (entry_in w r) (cond b (own_step (sorting secret) w r event) Nothing) (w.lane r) ++ rest ≡ []
    by true e =
        let there = there_in (length (places_after event w)) r (there_stays event w r (below_of (length w.places) r e)) in
        let bad : true ≡ false = sym there ∙ h in
        absurd (let never : ⊥ = cc in never)
    by false e = none e

none_yet : (secret : List ℕ) (entries : List Terms) (r : ℕ) (events : List Event)
    → is_there (world_after (sorting secret) reply entries events) r ≡ false → accepted_of secret entries r events ≡ []
none_yet secret entries r [] h = refl
none_yet secret entries r (event ∷ events) h =
    no_more secret (world_after (sorting secret) reply entries events) r event (accepted_of secret entries r events)
    (none_yet secret entries r events) h

both_all : (access : AccessTerms) (xs ys : List Item)
    → AllByRecursion (IsOfCaller access) xs → AllByRecursion (IsOfCaller access) ys → AllByRecursion (IsOfCaller access) (xs ++ ys)
both_all access [] ys p q = q
both_all access (x ∷ xs) ys p q = (p.0, both_all access xs ys p.1 q)

-- one more event
grown : (secret : List ℕ) (w : World) (r : ℕ) (event : Event) (rest : List Item)
    → AllByRecursion (IsOfCaller (entry_in w r).access) rest → (nat_lt r (length w.places) ≡ false → rest ≡ [])
    → AllByRecursion (IsOfCaller (at (places_after event w) r).entry.access)
    (takes_in (entry_in w r) (step_for (sorting secret) w r event) (w.lane r) ++ rest)
grown secret w r event rest all none = by (nat_lt r (length w.places)) refl
  where
    by : (b : Bool) → nat_lt r (length w.places) ≡ b
        → AllByRecursion (IsOfCaller (at (places_after event w) r).entry.access)
        (takes_in (entry_in w r) (cond b (own_step (sorting secret) w r event) Nothing) (w.lane r) ++ rest)
    by true e =
        let below : r < length w.places = below_of (length w.places) r e in
        subst
        (λ (t : Terms). AllByRecursion (IsOfCaller t.access) (takes_in (entry_in w r) (own_step (sorting secret) w r event) (w.lane r) ++ rest))
        (sym (entry_stays event w r below))
        (both_all (entry_in w r).access (takes_in (entry_in w r) (own_step (sorting secret) w r event) (w.lane r)) rest
        (taken (entry_in w r).access (entry_in w r) (own_step (sorting secret) w r event) (w.lane r) (step_may secret w r event below))
        all)
    by false e = subst (λ (items : List Item). AllByRecursion (IsOfCaller (at (places_after event w) r).entry.access) items) (sym (none e)) tt

pub callers_may_call : CallersMayCall
callers_may_call secret entries r [] = tt
callers_may_call secret entries r (event ∷ events) =
    grown secret (world_after (sorting secret) reply entries events) r event (accepted_of secret entries r events)
    (callers_may_call secret entries r events) (none_yet secret entries r events)
