-- The changes by the opening of a route.
use Rattle.std.proofs.Common.{◌≡◌, ℕ, ◌≤◌, nat_lt, Bool, true, false, ◌⊎◌, Option, None}
use Rattle.std.proofs.Common.{Some, Ok, Err, List, [], ◌∷◌, ◌++◌, length, refl, sym, ap, ◌∙◌, arith, inl, inr}
use Rattle.std.proofs.lemmas.Bool.{cases_lt}
use Rattle.std.proofs.lemmas.Bool.Decides.{nat_tests}
use Rattle.std.proofs.lemmas.List.{get_or_push, length_push, append-nil}
use Rattle.srt_types.specs.declared.shared.OpenFault.{OpenFault}
use Rattle.srt_types.specs.declared.shared.OpenFault.TheVariants as faults
use Rattle.srt_lobby.specs.Changing.{fault_of_adding}
use Rattle.srt_types.specs.Terms.{Terms}
use Rattle.srt_hub.specs.World.{Event, Opens, Sorting, Meaning, empty}
use Rattle.srt_hub.specs.World.{Nothing, World, Place, opened, names_in, step_for}
use Rattle.srt_hub.specs.World.{opening_of, places_opened}
use Rattle.srt_hub.specs.World.{places_after, world_after, sent}
use Rattle.srt_hub.specs.Hubs.{entry_at, lane_at}
use Rattle.srt_hub.specs.Laws.{own_steps}
use Rattle.srt_hub.specs.Refusals.{FaultOpensNothing, OpeningIsNext}
use Rattle.srt_hub.proofs.Places.{nowhere, at, there_stays}
use Rattle.srt_hub.proofs.OwnSteps.{by_own, lane_by, accepted_by, sent_by}
use Rattle.srt_hub.proofs.Happens.{no_step}
use Rattle.srt_hub.proofs.Unchanged.{nothing}

-- a fault of an opening
opening_fault : (next : ℕ) (refused : Bool) (o : Option OpenFault) (fault : OpenFault)
    → opening_of next refused o ≡ Err fault → (o ≡ Some fault) ⊎ ((o ≡ None) × (fault ≡ faults.OutOfMemory) × (refused ≡ true))
opening_fault next refused (Some f) fault h = inl (ap Some (let same : f ≡ fault = cc in same))
opening_fault next true None fault h = inr (refl, (let same : fault ≡ faults.OutOfMemory = cc in same), refl)
opening_fault next false None fault h = absurd (let bad : Ok next ≡ Err fault = h in cc)

pub fault_opens_nothing : FaultOpensNothing
fault_opens_nothing class reply entries events e refused fault h =
    let w = world_after class reply entries events in (
      opening_fault _ refused (fault_of_adding (names_in w) e) fault h,
      nothing class reply entries events (Opens e refused) (ap (places_opened e w.places) h) (λ k. refl),
    )

opening_index : (next : ℕ) (refused : Bool) (o : Option OpenFault) (r : ℕ) → opening_of next refused o ≡ Ok r → r ≡ next
opening_index next refused (Some f) r h = absurd (let bad : Err f ≡ Ok r = h in cc)
opening_index next true None r h = absurd (let bad : Err faults.OutOfMemory ≡ Ok r = h in cc)
opening_index next false None r h = let same : r ≡ next = cc in same

-- a route that doesn't exist yet made no step
no_steps : (class : Sorting) (reply : Meaning) (entries : List Terms) (r : ℕ) (events : List Event)
    → length (world_after class reply entries events).places ≤ r → own_steps class reply entries r events ≡ []
no_steps class reply entries r [] h = refl
no_steps class reply entries r (event ∷ events) h =
    let w = world_after class reply entries events in
    let fewer : length w.places ≤ r = not_there event w r h in
    let away : nat_lt r (length w.places) ≡ false = grind (arith, nat_tests) in
    rw (away, no_steps class reply entries r events fewer) refl
  where
    not_there : (event : Event) (w : World) (r : ℕ) → length (places_after event w) ≤ r → length w.places ≤ r
    not_there event w r h = elim (cases_lt r (length w.places)) [
      | inl lt ↦ absurd (let more = there_stays event w r lt in omega (arith, more, h))
      | inr le ↦ le
    ]

-- a route that doesn't exist yet holds nothing
pub empty_before : (class : Sorting) (reply : Meaning) (entries : List Terms) (r : ℕ) (events : List Event)
    → length (world_after class reply entries events).places ≤ r → lane_at class reply entries r events ≡ empty
unfolding lane_by accepted_by sent_by
empty_before class reply entries r events h =
    let e = entry_at class reply entries r events in
    (by_own class reply entries r events e (λ below. refl)).lane ∙ ap (lane_by reply e r) (no_steps class reply entries r events h)

pub opening_is_next : OpeningIsNext
unfolding lane_by accepted_by sent_by
opening_is_next class reply entries events e refused r h =
    let w = world_after class reply entries events in
    let index : r ≡ length w.places = opening_index _ refused (fault_of_adding (names_in w) e) r h in
    let places : places_after (Opens e refused) w ≡ w.places ++ opened e ∷ [] = ap (places_opened e w.places) h in
    let none : own_steps class reply entries r events ≡ [] = no_steps class reply entries r events (omega (arith, index)) in
    let by = by_own class reply entries r events (entry_at class reply entries r events) (λ below. refl) in
    let step : step_for class w r (Opens e refused) ≡ Nothing = no_step class w r (Opens e refused) refl in
    let here : at (places_after (Opens e refused) w) r ≡ opened e =
    ap (λ (ps : List Place). at ps r) places ∙ get_or_push w.places (opened e) nowhere r (sym index) in
    record {
      index = index;
      one_more = ap (λ (ps : List Place). length ps) places ∙ omega (arith, length_push w.places (opened e), index);
      entry = ap (λ (p : Place). p.entry) here;
      shown = ap (λ (p : Place). p.is_shown) here;
      lane = rw step (by.lane ∙ ap (lane_by reply (entry_at class reply entries r events) r) none);
      none_accepted = rw step (by.items_are ∙ ap (accepted_by reply (entry_at class reply entries r events) r) none);
      none_sent = rw step (append-nil (sent class reply entries r events) ∙ by.out_is ∙ ap (sent_by reply (entry_at class reply entries r events) r) none);
    }
