-- The places of routes, and how events change them.
use Rattle.std.proofs.Common.{◌≡◌, ℕ, zero, suc, ◌<◌, nat_lt, Bool, true, false, not, ◌&&◌, cond, eqb, List, [], ◌∷◌, length, map, get_or}
use Rattle.std.proofs.Common.{Result, Ok, Err, refl, sym, ap, subst, ◌∙◌, arith, inl, inr}
use Rattle.std.proofs.lemmas.Bool.{cases_eq, eq-eqb, ne_eqb}
use Rattle.std.proofs.lemmas.Bool.Decides.{nat_tests}
use Rattle.std.proofs.lemmas.List.{get_or_append_left, length_push, length-map}
use Rattle.srt_types.specs.declared.shared.Mode.TheVariants.{Live}
use Rattle.srt_types.specs.declared.shared.OpenFault.{OpenFault}
use Rattle.srt_types.specs.Access.{anyone}
use Rattle.srt_types.specs.Entries.{draft_rules}
use Rattle.srt_types.specs.Terms.{Terms}
use Rattle.srt_hub.specs.declared.answers.Closing.{Closing}
use Rattle.srt_hub.specs.declared.answers.Closing.TheVariants as closings
use Rattle.srt_hub.specs.World.{Event, Arrives, Ticks, Turns, Sends, Opens, Closes, Sorting, Meaning, Place, World, opened, place_in}
use Rattle.srt_hub.specs.World.{entry_in, is_shown_in, hidden, hidden_at, opening, places_opened, closing_of, closing, places_closed}
use Rattle.srt_hub.specs.World.{places_after, world_after, has_room}
use Rattle.srt_hub.specs.Hubs.{terms_at, entry_at}

-- the place at an index without a route
abbrev pub nowhere : Place
nowhere =
    record {
      entry =
          record { name = []; mode = Live; latency_ms = 0; buffer = 0; sessions = 0; inbox = 0; outbox = 0; access = anyone; rules = draft_rules };
      is_shown = false;
    }

abbrev pub at : List Place → ℕ → Place
at places r = get_or places r nowhere

pub there_in : (n r : ℕ) → r < n → nat_lt r n ≡ true
there_in n r h = grind (arith, nat_tests)

pub below_of : (n r : ℕ) → nat_lt r n ≡ true → r < n
below_of n r h = grind (arith, nat_tests)

-- a place that is hidden
pub hidden_same : (places : List Place) (r : ℕ) → at (hidden_at r places) r ≡ hidden (at places r)
hidden_same [] r = refl
hidden_same (p ∷ places) zero = refl
hidden_same (p ∷ places) (suc r) = hidden_same places r

pub hidden_other : (places : List Place) (s r : ℕ) → (r ≡ s → ⊥) → at (hidden_at s places) r ≡ at places r
hidden_other [] s r other = refl
hidden_other (p ∷ places) zero zero other = absurd (other refl)
hidden_other (p ∷ places) zero (suc r) other = refl
hidden_other (p ∷ places) (suc s) zero other = refl
hidden_other (p ∷ places) (suc s) (suc r) other = hidden_other places s r (λ e. other (ap suc e))

pub length-hidden : (places : List Place) (r : ℕ) → length (hidden_at r places) ≡ length places
length-hidden [] r = refl
length-hidden (p ∷ places) zero = refl
length-hidden (p ∷ places) (suc r) = ap suc (length-hidden places r)

-- a closing keeps all other places, and all entries
closed_other : (places : List Place) (s r : ℕ) (c : Closing) → (r ≡ s → ⊥) → at (places_closed s places c) r ≡ at places r
closed_other places s r closings.Accepted other = hidden_other places s r other
closed_other places s r closings.Full other = refl
closed_other places s r closings.Closed other = refl

closed_entry : (places : List Place) (s r : ℕ) (c : Closing) → (at (places_closed s places c) r).entry ≡ (at places r).entry
closed_entry places s r closings.Accepted = elim (cases_eq r s) [
  | inl here ↦ subst (λ (i : ℕ). (at (hidden_at i places) r).entry ≡ (at places r).entry) here (ap (λ (p : Place). p.entry) (hidden_same places r))
  | inr other ↦ ap (λ (p : Place). p.entry) (hidden_other places s r other)
]
closed_entry places s r closings.Full = refl
closed_entry places s r closings.Closed = refl

pub length-closed : (places : List Place) (s : ℕ) (c : Closing) → length (places_closed s places c) ≡ length places
length-closed places s closings.Accepted = length-hidden places s
length-closed places s closings.Full = refl
length-closed places s closings.Closed = refl

-- an opening keeps all places
opened_place : (places : List Place) (e : Terms) (result : Result ℕ OpenFault) (r : ℕ) → r < length places → at (places_opened e places result) r ≡ at places r
opened_place places e (Ok next) r below = get_or_append_left places (opened e ∷ []) nowhere r below
opened_place places e (Err fault) r below = refl

opened_length : (places : List Place) (e : Terms) (result : Result ℕ OpenFault) (r : ℕ) → r < length places → r < length (places_opened e places result)
opened_length places e (Ok next) r below = omega (arith, below, length_push places (opened e))
opened_length places e (Err fault) r below = below

-- a route that exists continues to exist
pub there_stays : (event : Event) (w : World) (r : ℕ) → r < length w.places → r < length (places_after event w)
there_stays (Arrives d moment refused) w r h = h
there_stays (Ticks s moment) w r h = h
there_stays (Turns s) w r h = h
there_stays (Sends s) w r h = h
there_stays (Opens e refused) w r h = opened_length w.places e (opening w e refused) r h
there_stays (Closes s moment) w r h = omega (arith, h, length-closed w.places s (closing w s))

-- an existing route keeps its entry
pub entry_stays : (event : Event) (w : World) (r : ℕ) → r < length w.places → (at (places_after event w) r).entry ≡ entry_in w r
entry_stays (Arrives d moment refused) w r h = refl
entry_stays (Ticks s moment) w r h = refl
entry_stays (Turns s) w r h = refl
entry_stays (Sends s) w r h = refl
entry_stays (Opens e refused) w r h = ap (λ (p : Place). p.entry) (opened_place w.places e (opening w e refused) r h)
entry_stays (Closes s moment) w r h = closed_entry w.places s r (closing w s)

-- the opening of a route keeps the existing places, and a closing keeps all other places
pub opening_keeps : (w : World) (e : Terms) (refused : Bool) (r : ℕ) → r < length w.places → at (places_after (Opens e refused) w) r ≡ place_in w r
opening_keeps w e refused r h = opened_place w.places e (opening w e refused) r h

pub closing_keeps : (w : World) (s moment r : ℕ) → (r ≡ s → ⊥) → at (places_after (Closes s moment) w) r ≡ place_in w r
closing_keeps w s moment r other = closed_other w.places s r (closing w s) other

-- whether a route is visible after an event, from whether it was visible and whether its inbox had room
abbrev pub shows_on : Event → (r : ℕ) → (shown room : Bool) → Bool
shows_on (Arrives d moment refused) r shown room = shown
shows_on (Ticks s moment) r shown room = shown
shows_on (Turns s) r shown room = shown
shows_on (Sends s) r shown room = shown
shows_on (Opens e refused) r shown room = shown
shows_on (Closes s moment) r shown room = cond (eqb s r) (shown && not room) shown

closed_shows : (places : List Place) (r : ℕ) (shown room : Bool)
    → (at places r).is_shown ≡ shown → (at (places_closed r places (closing_of shown room)) r).is_shown ≡ (shown && not room)
closed_shows places r true true h = ap (λ (p : Place). p.is_shown) (hidden_same places r)
closed_shows places r true false h = h
closed_shows places r false room h = h

closing_shows : (w : World) (s r moment : ℕ)
    → (at (places_after (Closes s moment) w) r).is_shown
    ≡ shows_on (Closes s moment) r (is_shown_in w r) (has_room (entry_in w r) (w.lane r))
closing_shows w s r moment = elim (cases_eq r s) [
  | inl here ↦
      subst
      (λ (i : ℕ). (at (places_after (Closes i moment) w) r).is_shown
      ≡ shows_on (Closes i moment) r (is_shown_in w r) (has_room (entry_in w r) (w.lane r)))
      here
      (rw (eq-eqb r r refl) (closed_shows w.places r (is_shown_in w r) (has_room (entry_in w r) (w.lane r)) refl))
  | inr other ↦ rw (ne_eqb s r (λ e. other (sym e))) (ap (λ (p : Place). p.is_shown) (closing_keeps w s moment r other))
]

pub shows_next : (event : Event) (w : World) (r : ℕ)
    → r < length w.places → (at (places_after event w) r).is_shown ≡ shows_on event r (is_shown_in w r) (has_room (entry_in w r) (w.lane r))
shows_next (Arrives d moment refused) w r h = refl
shows_next (Ticks s moment) w r h = refl
shows_next (Turns s) w r h = refl
shows_next (Sends s) w r h = refl
shows_next (Opens e refused) w r h = ap (λ (p : Place). p.is_shown) (opening_keeps w e refused r h)
shows_next (Closes s moment) w r h = closing_shows w s r moment

-- a route that the gateway was opened with
pub start_at : (entries : List Terms) (r : ℕ) → r < length entries → at (map opened entries) r ≡ opened (terms_at entries r)
start_at [] r h = absurd (omega (arith, h))
start_at (e ∷ entries) zero h = refl
start_at (e ∷ entries) (suc r) h = start_at entries r (omega (arith, h))

pub always_there : (class : Sorting) (reply : Meaning) (entries : List Terms) (r : ℕ) (events : List Event)
    → r < length entries → r < length (world_after class reply entries events).places
always_there class reply entries r [] h = omega (arith, h, length-map entries opened)
always_there class reply entries r (event ∷ events) h =
    there_stays event (world_after class reply entries events) r (always_there class reply entries r events h)

pub always_entry : (class : Sorting) (reply : Meaning) (entries : List Terms) (r : ℕ) (events : List Event)
    → r < length entries → entry_at class reply entries r events ≡ terms_at entries r
always_entry class reply entries r [] h = ap (λ (p : Place). p.entry) (start_at entries r h)
always_entry class reply entries r (event ∷ events) h =
    entry_stays event (world_after class reply entries events) r (always_there class reply entries r events h)
    ∙ always_entry class reply entries r events h
