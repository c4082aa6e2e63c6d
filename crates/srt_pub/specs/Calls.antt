-- The results of one call of a publisher, and of a sequence of calls.
use Rattle.std.specs.Prelude.{ℕ, zero, suc, ◌-◌, Option, None, Some, List, [], ◌∷◌, map, Bool, true, false, nat_le}
use Rattle.srt_types.specs.Limits.{keep_alive_after_us}
use Rattle.srt_types.specs.declared.shared.Mode.{Mode}
use Rattle.srt_types.specs.declared.shared.Mode.TheVariants.{Live, Buffer}
use Rattle.srt_packet.specs.Grammar.{Body, Shutdown}
use Rattle.srt_packet.specs.declared.encoded.EncodedPacket.{EncodedPacket}
use Rattle.srt_packet.specs.Encoded.{bytes_of}
use Rattle.srt_recvbuf.specs.Receiving.{Arrival, passed}
use Rattle.srt_pub.specs.Heard.{heard_from}
use Rattle.srt_pub.specs.Publishing.{Terms, Publishing, deliveries, loses_window, Note, Report, keep_alive_if, last_sent}
use Rattle.srt_pub.specs.declared.ends.PubEnd.{PubEnd}
use Rattle.srt_pub.specs.declared.ends.PubEnd.TheVariants as ends

-- the reason for the end of a session whose window is lost, if it is
abbrev pub lost_if : Bool → Option PubEnd
lost_if true = Some ends.WindowLost
lost_if false = None

-- the reason why a packet ends the session; None if the session continues
abbrev pub ended : Terms → (initial : ℕ) → Body → Publishing → Option PubEnd
ended terms initial Shutdown p = Some ends.Shutdown
ended terms initial body p = lost_if (loses_window terms.mode terms (heard_from initial body) p)

-- the first element of a list, if there is one
abbrev pub first_of : List Arrival → Option Arrival
first_of [] = None
first_of (a ∷ arrivals) = Some a

-- the payload that is delivered next
abbrev pub next_delivery : Terms → (time room : ℕ) → Publishing → Option Arrival
next_delivery terms time room p = first_of (deliveries terms.mode terms time (Some room) p)

-- the session after the delivery of that payload
abbrev pub after_delivery : Terms → Option Arrival → Publishing → Publishing
after_delivery terms None p = p
after_delivery terms (Some a) p = record p { receiving = passed terms.width (a ∷ []) p.receiving }

-- the room after a payload was delivered: in buffer mode it occupies a place of each subscriber
abbrev pub room_after : Mode → (room : ℕ) → ℕ
room_after Live room = room
room_after Buffer room = room - 1

-- the payloads of `calls` calls, up to the first call that returns none
abbrev pub gives : Terms → (time room calls : ℕ) → Publishing → List Arrival
gives terms time room zero p = []
gives terms time room (suc calls) p = elim (next_delivery terms time room p) [
  | None ↦ []
  | Some a ↦ a ∷ gives terms time (room_after terms.mode room) calls (after_delivery terms (Some a) p)
]

-- the session after these calls
abbrev pub leaves : Terms → (time room calls : ℕ) → Publishing → Publishing
leaves terms time room zero p = p
leaves terms time room (suc calls) p = elim (next_delivery terms time room p) [
  | None ↦ p
  | Some a ↦ leaves terms time (room_after terms.mode room) calls (after_delivery terms (Some a) p)
]

-- the bytes of each packet
abbrev pub texts : List EncodedPacket → List (List ℕ)
texts packets = map bytes_of packets

-- an optional value as a list
abbrev pub listed : {A : Type 0} → Option A → List A
listed None = []
listed (Some a) = a ∷ []

-- the KEEPALIVE that is due after an ACK or a NAK was sent or not: none if either was sent
abbrev pub keep_alive_after : (ack nak : Bool) → (time : ℕ) → List Note → List Report
keep_alive_after true nak time notes = []
keep_alive_after false true time notes = []
keep_alive_after false false time notes = keep_alive_if (nat_le keep_alive_after_us (time - last_sent notes))
