-- The changes by the closing of a route.
use Rattle.std.proofs.Common.{◌≡◌, ℕ, zero, suc, ◌<◌, Bool, true, false, not, ◌&&◌, cond, eqb}
use Rattle.std.proofs.Common.{List, [], ◌∷◌, length, refl, ap, ◌∙◌, arith}
use Rattle.srt_hub.specs.declared.answers.Closing.TheVariants as closings
use Rattle.srt_types.specs.Items.{Close}
use Rattle.srt_hub.specs.World.{Event, Arrives, Ticks, Turns, Sends, Opens, Closes, Offers}
use Rattle.srt_hub.specs.World.{Nothing, Place, entry_in, is_shown_in, offer_if, step_for}
use Rattle.srt_hub.specs.World.{has_room, closing_of, places_closed}
use Rattle.srt_hub.specs.World.{world_after}
use Rattle.srt_hub.specs.Refusals.{ClosedIsHidden}
use Rattle.srt_hub.specs.Refusals.{FullClosingIsAtCapacity, AcceptedClosingHides, HiddenStays}
use Rattle.srt_hub.proofs.Places.{at, below_of, hidden_same, entry_stays, shows_on, shows_next}
use Rattle.srt_hub.proofs.Isolation.{kept}
use Rattle.srt_hub.proofs.Happens.{step_there}
use Rattle.srt_hub.proofs.Unchanged.{at_capacity, leaves}
use Rattle.srt_hub.proofs.OtherRoutes.{close_elsewhere, close_here}

closed_from : (shown room : Bool) → closing_of shown room ≡ closings.Closed → shown ≡ false
closed_from true true h = absurd (let bad : closings.Accepted ≡ closings.Closed = h in cc)
closed_from true false h = absurd (let bad : closings.Full ≡ closings.Closed = h in cc)
closed_from false room h = refl

full_closing_from : (shown room : Bool) → closing_of shown room ≡ closings.Full → (shown ≡ true) × (room ≡ false)
full_closing_from true true h = absurd (let bad : closings.Accepted ≡ closings.Full = h in cc)
full_closing_from true false h = (refl, refl)
full_closing_from false room h = absurd (let bad : closings.Closed ≡ closings.Full = h in cc)

accepted_from : (shown room : Bool) → closing_of shown room ≡ closings.Accepted → (shown ≡ true) × (room ≡ true)
accepted_from true true h = (refl, refl)
accepted_from true false h = absurd (let bad : closings.Full ≡ closings.Accepted = h in cc)
accepted_from false room h = absurd (let bad : closings.Closed ≡ closings.Accepted = h in cc)

pub closed_is_hidden : ClosedIsHidden
closed_is_hidden class reply entries events r moment h =
    let w = world_after class reply entries events in
    let shown : is_shown_in w r ≡ false = closed_from (is_shown_in w r) (has_room (entry_in w r) (w.lane r)) h in (
      shown,
      leaves class reply entries events (Closes r moment) r Nothing (ap (places_closed r w.places) h)
          (close_here class w r moment ∙ ap (λ (b : Bool). offer_if b (Close moment)) shown) (close_elsewhere class w r moment) refl,
    )

pub full_closing_is : FullClosingIsAtCapacity
full_closing_is class reply entries events r moment h =
    let w = world_after class reply entries events in
    let from = full_closing_from (is_shown_in w r) (has_room (entry_in w r) (w.lane r)) h in (
      from.0,
      at_capacity _ _ (kept class reply entries r events).inbox_fits from.1,
      leaves class reply entries events (Closes r moment) r (Offers (Close moment)) (ap (places_closed r w.places) h)
          (close_here class w r moment ∙ ap (λ (b : Bool). offer_if b (Close moment)) from.0) (close_elsewhere class w r moment) (rw from.1 refl),
    )

-- a visible route exists
shown_there : (places : List Place) (r : ℕ) → (at places r).is_shown ≡ true → r < length places
shown_there [] r h = absurd (let bad : false ≡ true = h in cc)
shown_there (p ∷ places) zero h = omega arith
shown_there (p ∷ places) (suc r) h = omega (arith, shown_there places r h)

pub accepted_closing_hides : AcceptedClosingHides
accepted_closing_hides class reply entries events r moment h =
    let w = world_after class reply entries events in
    let from = accepted_from (is_shown_in w r) (has_room (entry_in w r) (w.lane r)) h in
    let step : step_for class w r (Closes r moment) ≡ Offers (Close moment) =
    step_there class w r (Closes r moment) (shown_there w.places r from.0) ∙ close_here class w r moment
    ∙ ap (λ (b : Bool). offer_if b (Close moment)) from.0 in (
      ap (λ (ps : List Place). (at ps r).is_shown) (ap (places_closed r w.places) h) ∙ ap (λ (p : Place). p.is_shown) (hidden_same w.places r),
      rw (step, from.1) refl,
    )

hides_on : (event : Event) (r : ℕ) (shown room : Bool) → shown ≡ false → shows_on event r shown room ≡ false
hides_on (Arrives d moment refused) r shown room h = h
hides_on (Ticks s moment) r shown room h = h
hides_on (Turns s) r shown room h = h
hides_on (Sends s) r shown room h = h
hides_on (Opens e refused) r shown room h = h
hides_on (Closes s moment) r shown room h = either_false (eqb s r) (shown && not room) shown (ap (λ (b : Bool). b && not room) h) h
  where
    either_false : (t a b : Bool) → a ≡ false → b ≡ false → cond t a b ≡ false
    either_false true a b p q = p
    either_false false a b p q = q

pub hidden_stays : HiddenStays
hidden_stays class reply entries events r event there h =
    let w = world_after class reply entries events in
    let below = below_of (length w.places) r there in
    (shows_next event w r below ∙ hides_on event r (is_shown_in w r) (has_room (entry_in w r) (w.lane r)) h, entry_stays event w r below)
