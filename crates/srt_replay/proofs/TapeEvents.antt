-- No event of a tape runs out of memory.
use Rattle.std.proofs.Common.{◌≡◌, ℕ, ◌+◌, ◌^◌, nat_le, Bool, true, false, List, [], ◌∷◌, length, Option, None, Some, option_and_then, refl}
use Rattle.std.proofs.Common.{subst, if◌then◌else◌}
use Rattle.srt_types.specs.declared.shared.Mode.{Mode}
use Rattle.srt_types.specs.Terms.{Terms}
use Rattle.srt_hub.specs.World.{Event, Arrives, Ticks, Turns, Sends, Opens, Closes, Sorting, Meaning}
use Rattle.srt_hub.specs.Hubs.{routes_at}
use Rattle.srt_config.specs.Routes.{Numbers, terms_with}
use Rattle.srt_config.specs.Numbers.{number_in}
use Rattle.srt_replay.specs.Tape.{max_line, max_lines, fields_of, address_in, bytes_in}
use Rattle.srt_replay.specs.Events.{arrival_of as line_arrival, tick_of, turn_of, send_of, closing_of, moment_in, text_in, mode_in}
use Rattle.srt_replay.specs.Events.{numbers_in, arrival_in, tick_in, turn_in, send_in, opening_in, closing_in, is_letter, event_in}
use Rattle.srt_replay.specs.Events.{event_of}
use Rattle.srt_replay.specs.Replay.{event_at, events_on, events_from}

-- memory suffices for the arrival or opening of a tape
abbrev pub Unrefused : Event → Type 0
Unrefused (Arrives d moment refused) = refused ≡ false
Unrefused (Ticks r moment) = Unit {0}
Unrefused (Turns r) = Unit {0}
Unrefused (Sends r) = Unit {0}
Unrefused (Opens e refused) = refused ≡ false
Unrefused (Closes r moment) = Unit {0}

abbrev OnlyUnrefused : Option Event → Type 0
OnlyUnrefused o = (event : Event) → o ≡ Some event → Unrefused event

no_event : OnlyUnrefused None
no_event event e = absurd cc

one_event : (e : Event) → Unrefused e → OnlyUnrefused (Some e)
one_event e u event is = subst Unrefused (own e event is) u
  where
    own : (e event : Event) → Some e ≡ Some event → e ≡ event
    own e event is = cc

either : (t : Bool) (o p : Option Event) → OnlyUnrefused o → OnlyUnrefused p → OnlyUnrefused (if t then o else p)
either true o p h k = h
either false o p h k = k

arrival_unrefused : (moment : Option ℕ) (ip : Option (List ℕ)) (port : Option ℕ) (bytes : Option (List ℕ)) → OnlyUnrefused (line_arrival moment ip port bytes)
arrival_unrefused (Some moment) (Some ip) (Some port) (Some bytes) =
    one_event (Arrives (record { peer = record { ip = ip; port = port }; bytes = bytes }) moment false) refl
arrival_unrefused (Some moment) (Some ip) (Some port) None = no_event
arrival_unrefused (Some moment) (Some ip) None bytes = no_event
arrival_unrefused (Some moment) None port bytes = no_event
arrival_unrefused None ip port bytes = no_event

tick_unrefused : (route moment : Option ℕ) → OnlyUnrefused (tick_of route moment)
tick_unrefused (Some r) (Some moment) = one_event (Ticks r moment) tt
tick_unrefused (Some r) None = no_event
tick_unrefused None moment = no_event

turn_unrefused : (route : Option ℕ) → OnlyUnrefused (turn_of route)
turn_unrefused (Some r) = one_event (Turns r) tt
turn_unrefused None = no_event

send_unrefused : (route : Option ℕ) → OnlyUnrefused (send_of route)
send_unrefused (Some r) = one_event (Sends r) tt
send_unrefused None = no_event

arrivals_unrefused : (fields : List (List ℕ)) → OnlyUnrefused (arrival_in fields)
arrivals_unrefused [] = no_event
arrivals_unrefused (a ∷ []) = no_event
arrivals_unrefused (a ∷ b ∷ []) = no_event
arrivals_unrefused (a ∷ b ∷ c ∷ []) = no_event
arrivals_unrefused (a ∷ b ∷ c ∷ d ∷ []) = arrival_unrefused (moment_in a) (address_in b) (number_in (2 ^ 16) c) (bytes_in d)
arrivals_unrefused (a ∷ b ∷ c ∷ d ∷ e ∷ fields) = no_event

ticks_unrefused : (routes : ℕ) (fields : List (List ℕ)) → OnlyUnrefused (tick_in routes fields)
ticks_unrefused routes [] = no_event
ticks_unrefused routes (a ∷ []) = no_event
ticks_unrefused routes (a ∷ b ∷ []) = tick_unrefused (number_in routes a) (moment_in b)
ticks_unrefused routes (a ∷ b ∷ c ∷ fields) = no_event

turns_unrefused : (routes : ℕ) (fields : List (List ℕ)) → OnlyUnrefused (turn_in routes fields)
turns_unrefused routes [] = no_event
turns_unrefused routes (a ∷ []) = turn_unrefused (number_in routes a)
turns_unrefused routes (a ∷ b ∷ fields) = no_event

sends_unrefused : (routes : ℕ) (fields : List (List ℕ)) → OnlyUnrefused (send_in routes fields)
sends_unrefused routes [] = no_event
sends_unrefused routes (a ∷ []) = send_unrefused (number_in routes a)
sends_unrefused routes (a ∷ b ∷ fields) = no_event

opens_unrefused : (name : Option (List ℕ)) (mode : Option Mode) (numbers : Option Numbers)
    → OnlyUnrefused
    (option_and_then (λ n. option_and_then (λ m. option_and_then (λ k. Some (Opens (terms_with n m k) false)) numbers) mode) name)
opens_unrefused (Some n) (Some m) (Some k) = one_event (Opens (terms_with n m k) false) refl
opens_unrefused (Some n) (Some m) None = no_event
opens_unrefused (Some n) None numbers = no_event
opens_unrefused None mode numbers = no_event

openings_unrefused : (fields : List (List ℕ)) → OnlyUnrefused (opening_in fields)
unfolding opening_in
openings_unrefused [] = no_event
openings_unrefused (a ∷ []) = no_event
openings_unrefused (a ∷ b ∷ fields) = opens_unrefused (text_in a) (mode_in b) (numbers_in fields)

closes_unrefused : (route moment : Option ℕ) → OnlyUnrefused (closing_of route moment)
closes_unrefused (Some r) (Some moment) = one_event (Closes r moment) tt
closes_unrefused (Some r) None = no_event
closes_unrefused None moment = no_event

closings_unrefused : (routes : ℕ) (fields : List (List ℕ)) → OnlyUnrefused (closing_in routes fields)
closings_unrefused routes [] = no_event
closings_unrefused routes (a ∷ []) = no_event
closings_unrefused routes (a ∷ b ∷ []) = closes_unrefused (number_in routes a) (moment_in b)
closings_unrefused routes (a ∷ b ∷ c ∷ fields) = no_event

fields_unrefused : (routes : ℕ) (fields : List (List ℕ)) → OnlyUnrefused (event_in routes fields)
unfolding event_in
fields_unrefused routes [] = no_event
fields_unrefused routes (letter ∷ fields) =
    either (is_letter 65 letter) _ _ (arrivals_unrefused fields)
    (either (is_letter 84 letter) _ _ (ticks_unrefused routes fields)
    (either (is_letter 85 letter) _ _ (turns_unrefused routes fields)
    (either (is_letter 83 letter) _ _ (sends_unrefused routes fields)
    (either (is_letter 79 letter) _ _ (openings_unrefused fields)
    (either (is_letter 67 letter) _ _ (closings_unrefused routes fields) no_event)))))

line_unrefused : (routes number : ℕ) (line : List ℕ) → OnlyUnrefused (event_at routes number line)
unfolding event_at event_of
line_unrefused routes number line =
    either (nat_le number max_lines) _ _ (either (nat_le (length line) max_line) _ _ (fields_unrefused routes (fields_of line)) no_event) no_event

abbrev pub AllUnrefused : List Event → Type 0
AllUnrefused [] = Unit {0}
AllUnrefused (event ∷ events) = Unrefused event × AllUnrefused events

and_on : (o : Option Event) (events : Event → List Event)
    → OnlyUnrefused o → ((event : Event) → AllUnrefused (events event)) → AllUnrefused (events_on o events)
and_on None events h k = tt
and_on (Some e) events h k = (h e refl, k e)

pub lines_unrefused : (class : Sorting) (reply : Meaning) (entries : List Terms) (past : List Event) (number : ℕ) (lines : List (List ℕ))
    → AllUnrefused (events_from class reply entries past number lines)
lines_unrefused class reply entries past number [] = tt
lines_unrefused class reply entries past number (line ∷ lines) =
    let routes = routes_at class reply entries past in
    and_on (event_at routes number line) (λ event. events_from class reply entries (event ∷ past) (number + 1) lines) (line_unrefused routes number line)
    (λ (event : Event). lines_unrefused class reply entries (event ∷ past) (number + 1) lines)
