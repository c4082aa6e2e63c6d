-- The round trip of a route's active publisher, slot by slot.
use Rattle.std.proofs.Common.{◌≡◌, ℕ, zero, suc, ◌+◌, ◌<◌, ◌≤◌, List, [], ◌∷◌, length, drop, get_or, refl, ap, arith, add-one, Option, None, Some}
use Rattle.srt_route.specs.declared.view.SessionView.{SessionView}
use Rattle.srt_status.specs.History.{trip_in, trip_or, round_trip_in}

pub found : (slots : List (Option SessionView)) (i micros : ℕ) (d : Option SessionView) → i < length slots → trip_in (get_or slots i d) ≡ Some micros
    → round_trip_in (drop i slots) ≡ Some micros
found [] i micros d within h = absurd (omega arith)
found (slot ∷ slots) zero micros d within h = ap (λ (o : Option ℕ). trip_or o (round_trip_in slots)) h
found (slot ∷ slots) (suc i) micros d within h = found slots i micros d (omega arith) h

after : (slots : List (Option SessionView)) (i : ℕ) (d : Option SessionView) → i < length slots → trip_in (get_or slots i d) ≡ None
    → round_trip_in (drop i slots) ≡ round_trip_in (drop (suc i) slots)
after [] i d within h = absurd (omega arith)
after (slot ∷ slots) zero d within h = ap (λ (o : Option ℕ). trip_or o (round_trip_in slots)) h
after (slot ∷ slots) (suc i) d within h = after slots i d (omega arith) h

pub not_here : (slots : List (Option SessionView)) (i : ℕ) (d : Option SessionView) → i < length slots → trip_in (get_or slots i d) ≡ None
    → round_trip_in (drop i slots) ≡ round_trip_in (drop (i + 1) slots)
not_here slots i d within h = rw add-one (after slots i d within h)

pub nowhere : (slots : List (Option SessionView)) (n : ℕ) → length slots ≤ n → round_trip_in (drop n slots) ≡ None
nowhere [] zero passed = refl
nowhere [] (suc n) passed = refl
nowhere (slot ∷ slots) zero passed = absurd (omega arith)
nowhere (slot ∷ slots) (suc n) passed = nowhere slots n (omega arith)
