-- One packet of an event's end.
use Rattle.std.specs.Prelude.{◌≡◌, ℕ, ◌+◌, ◌-◌, ◌≤◌, Bool, false, length, nat_lt, Option, None, Some, List, [], ◌∷◌, map, ◌==◌, if◌then◌else◌}
use Rattle.std.specs.Option.{option_to_list}
use Rattle.srt_packet.specs.Encoded.{bytes_of}
use Rattle.srt_packet.specs.declared.encoded.EncodedPacket.{EncodedPacket}
use Rattle.srt_sendbuf.specs.Sending.{Sending, Due, due, lost, due_new, after_due, after_new, sent}
use Rattle.srt_sendbuf.specs.declared.buffer.SendBuf.{SendBuf}
use Rattle.srt_sendbuf.specs.Stands as places
use Rattle.srt_sub.specs.Subscribing.{Terms, Subscribing, Note, Media, Sent, flow_window, may_resend, prepared}
use Rattle.srt_sub.specs.Says.{says}
use Rattle.srt_sub.specs.Stands.{StandsIn, HasBytes}
use Rattle.srt_sub.specs.declared.session.Subscriber.{Subscriber}
use Rattle.srt_sub.specs.declared.session.Phase.{Phase}
use Rattle.srt_sub.specs.declared.session.Phase.TheVariants.{Lost, New}

-- the data packets that are sent next: lost ones first, or only new ones, because the credit is used up or this event
-- has already sent a new one
abbrev pub phase_now : Phase → Option ℕ → List Note → Phase
phase_now New percent notes = New
phase_now Lost percent notes = if may_resend percent notes then Lost else New

-- the next data packet of a buffer
abbrev pub next_in : Phase → (window : ℕ) → Sending → Option Due
next_in Lost window r = due window r
next_in New window r = due_new window r

-- whether that packet was sent before
abbrev pub sends_lost : Phase → Sending → Bool
sends_lost Lost r = nat_lt 0 (length (lost r))
sends_lost New r = false

-- the buffer after that packet is sent
abbrev pub after_next : Phase → (window : ℕ) → Sending → Sending
after_next Lost window r = after_due window r
after_next New window r = after_new window r

-- the next data packet, if at most `places` more may be sent
abbrev pub due_in : (places : ℕ) → Phase → Terms → Subscribing → Option Due
due_in places phase terms s =
    if places == 0 then None else next_in (phase_now phase terms.resend_percent s.notes) (flow_window terms.window s.notes) s.sending

-- the phase after that packet is sent
abbrev pub phase_after : Option Due → Phase → Phase
phase_after None phase = phase
phase_after (Some d) phase = if d.again then phase else New

-- the session after that packet is sent
abbrev pub with_due : (time : ℕ) → Option Due → Subscribing → Subscribing
with_due time None s = s
with_due time (Some d) s = record s { sending = sent d.number s.sending; notes = Sent time (Media d.number d.again d.origin d.payload) ∷ s.notes }

-- the number of data packets that were sent, including that packet
abbrev pub given_with : Option Due → ℕ → ℕ
given_with None given = given
given_with (Some d) given = given + 1

-- the bytes of a packet, if there is one
abbrev pub texts : Option EncodedPacket → List (List ℕ)
texts None = []
texts (Some p) = bytes_of p ∷ []

-- the bytes of a data packet that is due, if there is one
abbrev pub due_texts : (caller initial time : ℕ) → Option Due → List (List ℕ)
due_texts caller initial time due = map (λ d. says caller initial time (Media d.number d.again d.origin d.payload)) (option_to_list due)

-- a call wrote the next data packet of a buffer, for this flow window
abbrev pub WritesDue : Phase → (window caller : ℕ) → (before : SendBuf) → (written : List (List ℕ)) → Type 0
WritesDue phase window caller before written =
    (width initial time : ℕ) (r : Sending) → places.StandsFor width initial before r → HasBytes r
    → written ≡ due_texts caller initial time (next_in phase window r)

-- a call wrote the data packet that is due in a session, at a time since its opening
abbrev pub WritesMedia : (time : ℕ) → (before : Subscriber) → (written : List (List ℕ)) → Type 0
WritesMedia time before written =
    (terms : Terms) (initial opening caller given : ℕ) (m : Subscribing)
    → StandsIn terms initial opening caller time given before m → given ≤ 64
    → written ≡ due_texts caller initial time (due_in (64 - given) before.phase terms m)

-- after a call, the data packet that was due at a time since the opening is sent
abbrev pub SendsMedia : (time : ℕ) → (before after : Subscriber) → Type 0
SendsMedia time before after =
    (terms : Terms) (initial opening caller given : ℕ) (m : Subscribing)
    → StandsIn terms initial opening caller time given before m → given ≤ 64
    → StandsIn terms initial opening caller time (given_with (due_in (64 - given) before.phase terms m) given) after
    (with_due time (due_in (64 - given) before.phase terms m) m)
    × (after.phase ≡ phase_after (due_in (64 - given) before.phase terms m) before.phase)

-- after a call, the credit for resends is raised if that was due, and all packets in flight are lost if that was due
abbrev pub PreparesAt : (time : ℕ) → (recent : Bool) → (before after : Subscriber) → Type 0
PreparesAt time recent before after =
    (terms : Terms) (initial opening caller given : ℕ) (m : Subscribing)
    → StandsIn terms initial opening caller time given before m
    → StandsIn terms initial opening caller time given after (prepared terms time recent m) × (after.phase ≡ before.phase)
