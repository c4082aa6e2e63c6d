-- A letter without a field after it isn't an event.
use Rattle.std.proofs.Common.{◌≡◌, ℕ, Bool, true, false, List, [], ◌∷◌, None, refl, if◌then◌else◌}
use Rattle.srt_replay.specs.Events.{arrival_in, tick_in, turn_in, send_in, opening_in, closing_in, is_letter, event_in}

by_tests : (routes : ℕ) (a t u s o c : Bool) →
    (if a then arrival_in [] else if t then tick_in routes [] else if u then turn_in routes [] else
    if s then send_in routes [] else if o then opening_in [] else if c then closing_in routes [] else None) ≡ None
unfolding opening_in
by_tests routes true t u s o c = refl
by_tests routes false true u s o c = refl
by_tests routes false false true s o c = refl
by_tests routes false false false true o c = refl
by_tests routes false false false false true c = refl
by_tests routes false false false false false true = refl
by_tests routes false false false false false false = refl

pub letter_alone : (routes : ℕ) (letter : List ℕ) → event_in routes (letter ∷ []) ≡ None
unfolding event_in
letter_alone routes letter =
    by_tests routes (is_letter 65 letter) (is_letter 84 letter) (is_letter 85 letter) (is_letter 83 letter) (is_letter 79 letter) (is_letter 67 letter)
