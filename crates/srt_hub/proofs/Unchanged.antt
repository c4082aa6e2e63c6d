-- Events that change no route: those that are no route's step, and those that leave the route whose step they are.
use Rattle.std.proofs.Common.{◌≡◌, ◌≢◌, ℕ, ◌≤◌, ltb, nat_lt, Bool, true, false, cond}
use Rattle.std.proofs.Common.{List, ◌∷◌, length, refl, sym, subst, arith, inl, inr}
use Rattle.std.proofs.lemmas.Bool.{cases_eq}
use Rattle.std.proofs.lemmas.Bool.Decides.{nat_tests}
use Rattle.srt_types.specs.Terms.{Terms}
use Rattle.srt_hub.specs.World.{Event, Sorting, Meaning, Lane, Step}
use Rattle.srt_hub.specs.World.{Nothing, entry_in, own_step, after_step}
use Rattle.srt_hub.specs.World.{places_after, world_after}
use Rattle.srt_hub.specs.Hubs.{lane_at}
use Rattle.srt_hub.specs.Refusals.{ChangesNoRoute}
use Rattle.srt_hub.proofs.Happens.{no_step}

pub at_capacity : (n room : ℕ) → n ≤ room → ltb n room ≡ false → n ≡ room
at_capacity n room fits full = grind (arith, nat_tests)

-- an event that is no route's step, and opens and hides none, changes no route
pub nothing : (class : Sorting) (reply : Meaning) (entries : List Terms) (events : List Event) (event : Event) →
    let w = world_after class reply entries events in
    places_after event w ≡ w.places → ((k : ℕ) → own_step class w k event ≡ Nothing) → ChangesNoRoute class reply entries events event
nothing class reply entries events event places none =
    record { lanes = λ k. rw (no_step class (world_after class reply entries events) k event (none k)) refl; places = places }

stays_so : (reply : Meaning) (e : Terms) (r : ℕ) (there : Bool) (step : Step) (m : Lane)
    → after_step reply e r step m ≡ m → after_step reply e r (cond there step Nothing) m ≡ m
stays_so reply e r true step m h = h
stays_so reply e r false step m h = refl

-- an event that is a step of one route and leaves it as it is changes no route
pub leaves : (class : Sorting) (reply : Meaning) (entries : List Terms) (events : List Event) (event : Event) (r : ℕ) (step : Step) →
    let w = world_after class reply entries events in
    places_after event w ≡ w.places → own_step class w r event ≡ step → ((k : ℕ) → k ≢ r → own_step class w k event ≡ Nothing)
    → after_step reply (entry_in w r) r step (w.lane r) ≡ w.lane r
    → ChangesNoRoute class reply entries events event
leaves class reply entries events event r step places own others same =
    let w = world_after class reply entries events in
    record {
      lanes = λ k. elim (cases_eq k r) [
        | inl here ↦
            subst (λ (j : ℕ). lane_at class reply entries j (event ∷ events) ≡ lane_at class reply entries j events) (sym here)
            (stays_so reply (entry_in w r) r (nat_lt r (length w.places)) (own_step class w r event) (w.lane r) (rw own same))
        | inr other ↦ rw (no_step class w k event (others k other)) refl
      ];
      places = places;
    }
