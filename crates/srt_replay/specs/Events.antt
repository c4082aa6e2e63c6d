-- The events of a tape's lines, for a gateway with this number of routes (our choice).
use Rattle.std.specs.Prelude.{ℕ, ◌^◌, List, [], ◌∷◌, length, nat_le, Option, None, Some, option_and_then, codes, if◌then◌else◌, ◌==◌, Bool, false}
use Rattle.std.specs.Str.{bytes_eq, is_utf8}
use Rattle.srt_types.specs.declared.shared.Mode.{Mode}
use Rattle.srt_types.specs.declared.shared.Mode.TheVariants.{Live, Buffer}
use Rattle.srt_hub.specs.World.{Event, Arrives, Ticks, Turns, Sends, Opens, Closes}
use Rattle.srt_config.specs.Routes.{Numbers, terms_with}
use Rattle.srt_config.specs.Numbers.{number_in}
use Rattle.srt_replay.specs.Tape.{fields_of, max_line, address_in, bytes_in}

-- an arrival, if each of its fields has its form
abbrev pub arrival_of : (moment : Option ℕ) (address : Option (List ℕ)) (port : Option ℕ) (bytes : Option (List ℕ)) → Option Event
arrival_of (Some moment) (Some ip) (Some port) (Some bytes) = Some (Arrives (record { peer = record { ip = ip; port = port }; bytes = bytes }) moment false)
arrival_of (Some moment) (Some ip) (Some port) None = None
arrival_of (Some moment) (Some ip) None bytes = None
arrival_of (Some moment) None port bytes = None
arrival_of None ip port bytes = None

abbrev pub tick_of : (route moment : Option ℕ) → Option Event
tick_of (Some r) (Some moment) = Some (Ticks r moment)
tick_of (Some r) None = None
tick_of None moment = None

abbrev pub turn_of : (route : Option ℕ) → Option Event
turn_of (Some r) = Some (Turns r)
turn_of None = None

abbrev pub send_of : (route : Option ℕ) → Option Event
send_of (Some r) = Some (Sends r)
send_of None = None

abbrev pub closing_of : (route moment : Option ℕ) → Option Event
closing_of (Some r) (Some moment) = Some (Closes r moment)
closing_of (Some r) None = None
closing_of None moment = None

-- times are below 2^62 microseconds
abbrev pub moment_in : List ℕ → Option ℕ
moment_in text = number_in (2 ^ 62) text

-- the fields of an arrival: time, address, port and bytes; ports are below 2^16
abbrev pub arrival_in : List (List ℕ) → Option Event
arrival_in (moment ∷ address ∷ port ∷ bytes ∷ []) = arrival_of (moment_in moment) (address_in address) (number_in (2 ^ 16) port) (bytes_in bytes)
arrival_in _ = None

-- the fields of a tick: route and time; a route's number is below the number of routes
abbrev pub tick_in : (routes : ℕ) → List (List ℕ) → Option Event
tick_in routes (route ∷ moment ∷ []) = tick_of (number_in routes route) (moment_in moment)
tick_in routes _ = None

abbrev pub turn_in : (routes : ℕ) → List (List ℕ) → Option Event
turn_in routes (route ∷ []) = turn_of (number_in routes route)
turn_in routes _ = None

abbrev pub send_in : (routes : ℕ) → List (List ℕ) → Option Event
send_in routes (route ∷ []) = send_of (number_in routes route)
send_in routes _ = None

infixl 10 ◌>>=◌
abbrev ◌>>=◌ : {A B : Type 0} → Option A → (A → Option B) → Option B
o >>= f = option_and_then f o

-- a name is any text in UTF-8, including the empty one; its form is checked when the route is opened
abbrev pub text_in : List ℕ → Option (List ℕ)
text_in name = if is_utf8 name then Some name else None

abbrev pub mode_in : List ℕ → Option Mode
mode_in text = if bytes_eq text (codes "live") then Some Live else if bytes_eq text (codes "buffer") then Some Buffer else None

-- a route's numbers are below 2^32; their limits are those of the opening
unfoldable pub numbers_in : List (List ℕ) → Option Numbers
numbers_in (latency ∷ buffer ∷ sessions ∷ inbox ∷ outbox ∷ []) =
    number_in (2 ^ 32) latency >>= λ l. number_in (2 ^ 32) buffer >>= λ b. number_in (2 ^ 32) sessions >>= λ s.
    number_in (2 ^ 32) inbox >>= λ i. number_in (2 ^ 32) outbox >>= λ o.
    Some (record { latency_ms = l; buffer = b; sessions = s; inbox = i; outbox = o })
numbers_in _ = None

-- the fields of an opening: name, mode, latency, buffer, sessions, inbox and outbox
unfoldable pub opening_in : List (List ℕ) → Option Event
opening_in (name ∷ mode ∷ numbers) = text_in name >>= λ n. mode_in mode >>= λ m. numbers_in numbers >>= λ k. Some (Opens (terms_with n m k) false)
opening_in _ = None

-- the fields of a closing: route and time; the route may be hidden
abbrev pub closing_in : (routes : ℕ) → List (List ℕ) → Option Event
closing_in routes (route ∷ moment ∷ []) = closing_of (number_in routes route) (moment_in moment)
closing_in routes _ = None

-- whether a field is this one letter
abbrev pub is_letter : ℕ → List ℕ → Bool
is_letter letter [] = false
is_letter letter (b ∷ []) = b == letter
is_letter letter (b ∷ c ∷ bytes) = false

-- the event of a line's fields: `A` begins an arrival, `T` a tick, `U` a turn, `S` a send, `O` an opening and `C` a
-- closing
unfoldable pub event_in : (routes : ℕ) → List (List ℕ) → Option Event
event_in routes [] = None
event_in routes (letter ∷ fields) =
    if is_letter 65 letter then arrival_in fields else
    if is_letter 84 letter then tick_in routes fields else
    if is_letter 85 letter then turn_in routes fields else
    if is_letter 83 letter then send_in routes fields else
    if is_letter 79 letter then opening_in fields else
    if is_letter 67 letter then closing_in routes fields else None

-- the event of a line; memory suffices for every arrival and every opening of a tape
unfoldable pub event_of : (routes : ℕ) → List ℕ → Option Event
event_of routes line = if nat_le (length line) max_line then event_in routes (fields_of line) else None
