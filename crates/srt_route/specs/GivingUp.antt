-- Sessions that are given up, since their subscribers don't confirm the keys that they are sent (our choice).
use Rattle.std.specs.Prelude.{ℕ, Bool, true, false, Option, None, Some, List, map, ◌&&◌}
use Rattle.srt_session_keys.specs.Announced.{is_given_up}
use Rattle.srt_session_keys.specs.Subscriber.{Subscriber as Keys}
use Rattle.srt_route.specs.Sessions.{Session, is_subscriber, time_in}

-- whether the next key of a session was announced for the first time five seconds ago and isn't confirmed; time counts
-- from the session's opening
abbrev pub is_unconfirmed : Option Keys → (time : ℕ) → Bool
is_unconfirmed None time = false
is_unconfirmed (Some keys) time = is_given_up time keys.announced

abbrev pub given_up_at : (late : Bool) → Session → Session
given_up_at true s = record s { is_given_up = true }
given_up_at false s = s

-- a session after that: an open subscriber's with such a key is given up
abbrev pub is_late : (keys : Option Keys) → (clock : ℕ) → Session → Bool
is_late keys clock s = is_subscriber s && is_unconfirmed keys (time_in s clock)

abbrev pub given_up : (own : (slot : ℕ) → Option Keys) → (clock : ℕ) → Session → Session
given_up own clock s = given_up_at (is_late (own s.slot) clock s) s

-- all sessions after that; the same if subscribers' sessions aren't encrypted
abbrev pub given_up_if : (encrypted : Bool) → (own : (slot : ℕ) → Option Keys) → (clock : ℕ) → List Session → List Session
given_up_if true own clock sessions = map (given_up own clock) sessions
given_up_if false own clock sessions = sessions
