-- Which payloads the packets of a session carry. They count from 0, in the order in which they were queued.
use Rattle.std.specs.Prelude.{◌≡◌, ℕ, ◌-◌, ◌^◌, ◌<◌, ◌≤◌, ⊤, Bool, Option, None, Some, List, ◌∷◌, length, slice_get}
use Rattle.srt_types.specs.Capped.{capped}
use Rattle.srt_sendbuf.specs.Sending.{Queued, Sending, front}
use Rattle.srt_sub.specs.Subscribing.{Terms, Subscribing, Report, Acked, Dropped, Media, KeepAlive, expired}
use Rattle.srt_sub.specs.Stands.{StandsIn}
use Rattle.srt_sub.specs.Emission.{Emitting}
use Rattle.srt_sub.specs.declared.payloads.Emitted.{Emitted}
use Rattle.srt_sub.specs.declared.payloads.Emitted.TheVariants as emitted
use Rattle.srt_sub.specs.declared.session.Subscriber.{Subscriber}

-- a data packet has the payload with its number in the queue, and the time at which that was queued
abbrev pub HasPayload : List Queued → Report → Type 0
HasPayload queue (Acked mark) = ⊤
HasPayload queue (Dropped run) = ⊤
HasPayload queue (Media number again origin payload) = slice_get queue number ≡ Some (record { origin = origin; payload = payload })
HasPayload queue KeepAlive = ⊤

-- the number of a data packet isn't below this one
abbrev pub IsFrom : (low : ℕ) → Report → Type 0
IsFrom low (Acked mark) = ⊤
IsFrom low (Dropped run) = ⊤
IsFrom low (Media number again origin payload) = low ≤ number
IsFrom low KeepAlive = ⊤

-- the number of a data packet is below this one
abbrev pub IsBelow : (high : ℕ) → Report → Type 0
IsBelow high (Acked mark) = ⊤
IsBelow high (Dropped run) = ⊤
IsBelow high (Media number again origin payload) = number < high
IsBelow high KeepAlive = ⊤

-- a data packet has a payload of the queue that is neither acknowledged nor expired
abbrev pub IsStored : Sending → Report → Type 0
IsStored s report = HasPayload s.queue report × IsFrom (front s) report × IsBelow (length s.queue) report

-- the packets of an event's end as the call returns them that wrote them; an ACKACK is none of these
abbrev pub emitted_as : Report → Option Emitted
emitted_as (Acked mark) = None
emitted_as (Dropped run) = Some emitted.DropRequest
emitted_as (Media number again origin payload) = Some (emitted.Data number)
emitted_as KeepAlive = Some emitted.KeepAlive

-- a call at the clock's time `now` returned which packet is the first of the remaining reports. If that is a data packet,
-- its payload is stored. Fewer than 2^64 payloads were queued
abbrev pub TellsNext : (now : ℕ) → (recent : Bool) → (before : Subscriber) → (told : Option Emitted) → Type 0
TellsNext now recent before told =
    (terms : Terms) (initial opening caller : ℕ) (m : Subscribing) (report : Report) (rest : List Report)
    → Emitting terms initial opening caller now recent before m (report ∷ rest)
    → length m.sending.queue < 2 ^ 64
    → (told ≡ emitted_as report) × IsStored (expired terms (now - opening) m).sending report

-- a call returned how many payloads were queued, at any time, also between the packets of an event's end
abbrev pub CountsQueued : Subscriber → (count : ℕ) → Type 0
CountsQueued s count =
    (terms : Terms) (initial opening caller time given : ℕ) (m : Subscribing)
    → StandsIn terms initial opening caller time given s m → count ≡ capped (length m.sending.queue)
