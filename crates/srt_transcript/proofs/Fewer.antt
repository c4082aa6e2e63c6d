-- Lines that are events for fewer routes.
use Rattle.std.proofs.Common.{◌≡◌, ℕ, ◌≤◌, nat_le, nat_lt, Bool, true, false, cond, List, [], ◌∷◌, length, Option, None, Some, refl, arith}
use Rattle.std.specs.Prelude.{is_some}
use Rattle.std.proofs.lemmas.Bool.Decides.{nat_tests}
use Rattle.srt_config.specs.Numbers.{number_in, below, has_leading_zero, digits_from}
use Rattle.srt_replay.specs.Events.{tick_of, turn_of, send_of, closing_of, tick_in, turn_in, send_in, closing_in, moment_in, is_letter}
use Rattle.srt_replay.specs.Events.{arrival_in, opening_in, event_in, event_of}
use Rattle.srt_replay.specs.Tape.{fields_of}
use Rattle.srt_replay.specs.Replay.{event_at}

-- if the first is something, so is the second
abbrev pub More : {A : Type 0} → (x y : Option A) → Type 0
More x y = is_some x ≡ true → is_some y ≡ true

both : {A : Type 0} (test : Bool) (x x' y y' : Option A) → More x x' → More y y' → More (cond test x y) (cond test x' y')
both true x x' y y' h k e = h e
both false x x' y y' h k e = k e

below_test : (test : Bool) (n : ℕ) → is_some (cond test (Some n) None) ≡ test
below_test true n = refl
below_test false n = refl

lt_more : (n a b : ℕ) → a ≤ b → nat_lt n a ≡ true → nat_lt n b ≡ true
lt_more n a b h e = grind (arith, nat_tests)

below_more : (a b : ℕ) → a ≤ b → (o : Option ℕ) → More (below a o) (below b o)
below_more a b h None e = e
below_more a b h (Some n) e = rw (below_test (nat_lt n b) n) (lt_more n a b h (rw (below_test (nat_lt n a) n) at e))

number_more : (a b : ℕ) → a ≤ b → (text : List ℕ) → More (number_in a text) (number_in b text)
unfolding number_in
number_more a b h [] e = e
number_more a b h (x ∷ xs) e =
    both (has_leading_zero (x ∷ xs)) None None (below a (digits_from 0 (x ∷ xs))) (below b (digits_from 0 (x ∷ xs))) (λ k. k)
    (below_more a b h (digits_from 0 (x ∷ xs))) e

none : false ≡ true → ⊥
none e = cc

tick_more : (x y moment : Option ℕ) → More x y → More (tick_of x moment) (tick_of y moment)
tick_more None y moment h e = absurd (none e)
tick_more (Some r) None moment h e = absurd (none (h refl))
tick_more (Some r) (Some q) (Some moment) h e = refl
tick_more (Some r) (Some q) None h e = e

closing_more : (x y moment : Option ℕ) → More x y → More (closing_of x moment) (closing_of y moment)
closing_more None y moment h e = absurd (none e)
closing_more (Some r) None moment h e = absurd (none (h refl))
closing_more (Some r) (Some q) (Some moment) h e = refl
closing_more (Some r) (Some q) None h e = e

turn_more : (x y : Option ℕ) → More x y → More (turn_of x) (turn_of y)
turn_more None y h e = absurd (none e)
turn_more (Some r) None h e = absurd (none (h refl))
turn_more (Some r) (Some q) h e = refl

send_more : (x y : Option ℕ) → More x y → More (send_of x) (send_of y)
send_more None y h e = absurd (none e)
send_more (Some r) None h e = absurd (none (h refl))
send_more (Some r) (Some q) h e = refl

ticks : (a b : ℕ) → a ≤ b → (fields : List (List ℕ)) → More (tick_in a fields) (tick_in b fields)
ticks a b h [] e = e
ticks a b h (x ∷ []) e = e
ticks a b h (x ∷ y ∷ []) e = tick_more (number_in a x) (number_in b x) (moment_in y) (number_more a b h x) e
ticks a b h (x ∷ y ∷ z ∷ fields) e = e

closings : (a b : ℕ) → a ≤ b → (fields : List (List ℕ)) → More (closing_in a fields) (closing_in b fields)
closings a b h [] e = e
closings a b h (x ∷ []) e = e
closings a b h (x ∷ y ∷ []) e = closing_more (number_in a x) (number_in b x) (moment_in y) (number_more a b h x) e
closings a b h (x ∷ y ∷ z ∷ fields) e = e

turns : (a b : ℕ) → a ≤ b → (fields : List (List ℕ)) → More (turn_in a fields) (turn_in b fields)
turns a b h [] e = e
turns a b h (x ∷ []) e = turn_more (number_in a x) (number_in b x) (number_more a b h x) e
turns a b h (x ∷ y ∷ fields) e = e

sends : (a b : ℕ) → a ≤ b → (fields : List (List ℕ)) → More (send_in a fields) (send_in b fields)
sends a b h [] e = e
sends a b h (x ∷ []) e = send_more (number_in a x) (number_in b x) (number_more a b h x) e
sends a b h (x ∷ y ∷ fields) e = e

kinds : (a b : ℕ) → a ≤ b → (fields : List (List ℕ)) → More (event_in a fields) (event_in b fields)
unfolding event_in
kinds a b h [] e = e
kinds a b h (letter ∷ fields) e =
    let c = cond (is_letter 67 letter) (closing_in a fields) None in
    let c' = cond (is_letter 67 letter) (closing_in b fields) None in
    let o = cond (is_letter 79 letter) (opening_in fields) c in
    let o' = cond (is_letter 79 letter) (opening_in fields) c' in
    let s = cond (is_letter 83 letter) (send_in a fields) o in
    let s' = cond (is_letter 83 letter) (send_in b fields) o' in
    let u = cond (is_letter 85 letter) (turn_in a fields) s in
    let u' = cond (is_letter 85 letter) (turn_in b fields) s' in
    let t = cond (is_letter 84 letter) (tick_in a fields) u in
    let t' = cond (is_letter 84 letter) (tick_in b fields) u' in
    both (is_letter 65 letter) (arrival_in fields) (arrival_in fields) t t' (λ k. k)
    (both (is_letter 84 letter) (tick_in a fields) (tick_in b fields) u u' (ticks a b h fields)
    (both (is_letter 85 letter) (turn_in a fields) (turn_in b fields) s s' (turns a b h fields)
    (both (is_letter 83 letter) (send_in a fields) (send_in b fields) o o' (sends a b h fields)
    (both (is_letter 79 letter) (opening_in fields) (opening_in fields) c c' (λ k. k)
    (both (is_letter 67 letter) (closing_in a fields) (closing_in b fields) None None (closings a b h fields) (λ k. k)))))) e

lines : (a b : ℕ) → a ≤ b → (line : List ℕ) → More (event_of a line) (event_of b line)
unfolding event_of
lines a b h line e =
    both (nat_le (length line) 4096) (event_in a (fields_of line)) (event_in b (fields_of line)) None None (kinds a b h (fields_of line)) (λ k. k) e

-- a line that is an event for some routes is one for more
pub numbered : (a b : ℕ) → a ≤ b → (number : ℕ) (line : List ℕ) → More (event_at a number line) (event_at b number line)
unfolding event_at
numbered a b h number line e =
    both (nat_le number 1_000_000) (event_of a line) (event_of b line) None None (lines a b h line) (λ k. k) e
