-- A route's own steps determine its lane, and what it accepts and sends.
use Rattle.std.proofs.Common.{◌≡◌, ℕ, ◌<◌, nat_lt, Bool, true, false, cond, List, [], ◌∷◌, ◌++◌, length, refl, sym, ap, ◌∙◌}
use Rattle.std.proofs.lemmas.List.{append-nil}
use Rattle.srt_types.specs.Items.{Datagram, Item, Received}
use Rattle.srt_types.specs.Terms.{Terms}
use Rattle.srt_hub.specs.World.{Event, Arrives, Ticks, Turns, Sends, Opens, Closes, Sorting, Meaning, Lane, empty, World, Place, names_in}
use Rattle.srt_hub.specs.World.{entry_in, is_shown_in, Step, Offers, Turn, Send, Nothing, offer_unless, is_route, own_step, step_for}
use Rattle.srt_hub.specs.World.{after_step, takes_in, sends_out, has_room, world_after, accepted, sent}
use Rattle.srt_hub.specs.Laws.{and_own, own_steps, OwnStepsDecide, SortingDecides}
use Rattle.srt_hub.specs.Hubs.{terms_at, names_at, entry_at, is_shown_at, lane_at}
use Rattle.srt_hub.proofs.Places.{below_of, there_in, there_stays, entry_stays, shows_on, shows_next, start_at, always_there, always_entry}

-- a route after its steps, the newest first
unfoldable pub lane_by : Meaning → Terms → ℕ → List Step → Lane
lane_by reply e r [] = empty
lane_by reply e r (step ∷ steps) = after_step reply e r step (lane_by reply e r steps)

unfoldable pub accepted_by : Meaning → Terms → ℕ → List Step → List Item
accepted_by reply e r [] = []
accepted_by reply e r (step ∷ steps) = takes_in e step (lane_by reply e r steps) ++ accepted_by reply e r steps

unfoldable pub sent_by : Meaning → Terms → ℕ → List Step → List Datagram
sent_by reply e r [] = []
sent_by reply e r (step ∷ steps) = sent_by reply e r steps ++ sends_out step (lane_by reply e r steps)

pub record AreBy (reply : Meaning) (e : Terms) (r : ℕ) (steps : List Step) (m : Lane) (items : List Item) (out : List Datagram) : Type 0 where
  pub lane : m ≡ lane_by reply e r steps
  pub items_are : items ≡ accepted_by reply e r steps
  pub out_is : out ≡ sent_by reply e r steps

more : (reply : Meaning) (e : Terms) (r : ℕ) (step : Step) (steps : List Step) (m : Lane) (items : List Item) (out : List Datagram)
    → AreBy reply e r steps m items out
    → AreBy reply e r (and_own step steps) (after_step reply e r step m) (takes_in e step m ++ items) (out ++ sends_out step m)
unfolding lane_by accepted_by sent_by
more reply e r (Offers item) steps m items out h = rw (h.lane, h.items_are, h.out_is) (record { lane = refl; items_are = refl; out_is = refl })
more reply e r Turn steps m items out h = rw (h.lane, h.items_are, h.out_is) (record { lane = refl; items_are = refl; out_is = refl })
more reply e r Send steps m items out h = rw (h.lane, h.items_are, h.out_is) (record { lane = refl; items_are = refl; out_is = refl })
more reply e r Nothing steps m items out h = rw append-nil h

-- a route that doesn't exist makes no step, and one that exists has its entry
more_there : (reply : Meaning) (e f : Terms) (r : ℕ) (there : Bool) → (there ≡ true → f ≡ e)
    → (step : Step) (steps : List Step) (m : Lane) (items : List Item) (out : List Datagram) → AreBy reply e r steps m items out
    →
    AreBy reply e r (and_own (cond there step Nothing) steps) (after_step reply f r (cond there step Nothing) m)
    (takes_in f (cond there step Nothing) m ++ items) (out ++ sends_out (cond there step Nothing) m)
more_there reply e f r true same step steps m items out h = rw (same refl) (more reply e r step steps m items out h)
more_there reply e f r false same step steps m items out h = more reply e r Nothing steps m items out h

pub by_own : (class : Sorting) (reply : Meaning) (entries : List Terms) (r : ℕ) (events : List Event) (e : Terms) →
    (r < length (world_after class reply entries events).places → entry_at class reply entries r events ≡ e) →
    AreBy reply e r (own_steps class reply entries r events) (lane_at class reply entries r events) (accepted class reply entries r events)
    (sent class reply entries r events)
unfolding lane_by accepted_by sent_by
by_own class reply entries r [] e same = record { lane = refl; items_are = refl; out_is = refl }
by_own class reply entries r (event ∷ events) e same =
    let w = world_after class reply entries events in
    let before : r < length w.places → entry_in w r ≡ e = λ below. sym (entry_stays event w r below) ∙ same (there_stays event w r below) in
    more_there reply e (entry_in w r) r (nat_lt r (length w.places)) (λ there. before (below_of (length w.places) r there))
    (own_step class w r event) (own_steps class reply entries r events) _ _ _ (by_own class reply entries r events e before)

pub own_steps_decide : OwnStepsDecide
own_steps_decide class class' reply entries entries' r events events' entry same =
    let e = entry_at class reply entries r events in
    let h = by_own class reply entries r events e (λ below. refl) in
    let h' = by_own class' reply entries' r events' e (λ below. sym entry) in (
      h.lane ∙ ap (lane_by reply e r) same ∙ sym h'.lane,
      h.items_are ∙ ap (accepted_by reply e r) same ∙ sym h'.items_are,
      h.out_is ∙ ap (sent_by reply e r) same ∙ sym h'.out_is,
    )

-- in two gateways with a route that is visible in both or hidden in both, and has the same datagrams, an event is the
-- same step for it
same_own : (class class' : Sorting) (w w' : World) (r : ℕ) (event : Event) → is_shown_in w r ≡ is_shown_in w' r →
    ((d : Datagram) (moment : ℕ) → is_route r (class (names_in w) d moment) ≡ is_route r (class' (names_in w') d moment)) →
    own_step class w r event ≡ own_step class' w' r event
same_own class class' w w' r (Arrives d moment refused) shown agree =
    ap (λ (b : Bool). cond b (offer_unless refused (Received d moment)) Nothing) (agree d moment)
same_own class class' w w' r (Ticks s moment) shown agree = refl
same_own class class' w w' r (Turns s) shown agree = refl
same_own class class' w w' r (Sends s) shown agree = refl
same_own class class' w w' r (Opens e refused) shown agree = refl
same_own class class' w w' r (Closes s moment) shown agree = rw shown refl

record AreAlike (class class' : Sorting) (reply : Meaning) (entries entries' : List Terms) (r : ℕ) (events : List Event) : Type 0 where
  steps : own_steps class reply entries r events ≡ own_steps class' reply entries' r events
  shown : is_shown_at class reply entries r events ≡ is_shown_at class' reply entries' r events

alike : (class class' : Sorting) (reply : Meaning) (entries entries' : List Terms) (r : ℕ) (events : List Event) →
    r < length entries → r < length entries' → terms_at entries r ≡ terms_at entries' r →
    ((earlier : List Event) → is_shown_at class reply entries r earlier ≡ is_shown_at class' reply entries' r earlier →
    (d : Datagram) (moment : ℕ)
    → is_route r (class (names_at class reply entries earlier) d moment)
    ≡ is_route r (class' (names_at class' reply entries' earlier) d moment))
    →
    AreAlike class class' reply entries entries' r events
alike class class' reply entries entries' r [] below below' same agree =
    record {
      steps = refl;
      shown = ap (λ (p : Place). p.is_shown) (start_at entries r below) ∙ ap (λ (p : Place). p.is_shown) (sym (start_at entries' r below'));
    }
alike class class' reply entries entries' r (event ∷ events) below below' same agree =
    let w = world_after class reply entries events in
    let w' = world_after class' reply entries' events in
    let h = alike class class' reply entries entries' r events below below' same agree in
    let here = always_there class reply entries r events below in
    let there = always_there class' reply entries' r events below' in
    let entry : entry_in w r ≡ entry_in w' r =
    always_entry class reply entries r events below ∙ same ∙ sym (always_entry class' reply entries' r events below') in
    let lanes = (own_steps_decide class class' reply entries entries' r events events entry h.steps).0 in
    let step : step_for class w r event ≡ step_for class' w' r event =
    ap (λ (b : Bool). cond b (own_step class w r event) Nothing) (there_in (length w.places) r here)
    ∙ same_own class class' w w' r event h.shown (agree events h.shown)
    ∙ ap (λ (b : Bool). cond b (own_step class' w' r event) Nothing) (sym (there_in (length w'.places) r there)) in
    record {
      steps = ap (λ (s : Step). and_own s (own_steps class reply entries r events)) step ∙ ap (and_own (step_for class' w' r event)) h.steps;
      shown =
          shows_next event w r here
          ∙ ap (λ (b : Bool). shows_on event r b (has_room (entry_in w r) (w.lane r))) h.shown
          ∙ ap (λ (e : Terms). shows_on event r (is_shown_in w' r) (has_room e (w.lane r))) entry
          ∙ ap (λ (m : Lane). shows_on event r (is_shown_in w' r) (has_room (entry_in w' r) m)) lanes
          ∙ sym (shows_next event w' r there);
    }

pub sorting_decides : SortingDecides
sorting_decides class class' reply entries entries' r events below below' same agree =
    (alike class class' reply entries entries' r events below below' same agree).steps
