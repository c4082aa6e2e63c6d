-- A packet as a subscriber's session processes it. Its sequence numbers count from the session's initial one.
use Rattle.std.specs.Prelude.{ℕ, Option, None, Some, Result, Ok, Err, List, [], ◌∷◌, length, nat_le, if◌then◌else◌}
use Rattle.srt_types.specs.Words.{word_at}
use Rattle.srt_types.specs.Window.{counted_from}
use Rattle.srt_types.specs.Runs.{Range, ranges_from}
use Rattle.srt_packet.specs.Grammar as grammar
use Rattle.srt_packet.specs.View.{body_of}
use Rattle.srt_packet.specs.declared.reading.Kind.{Kind}
use Rattle.srt_loss.specs.Reading.{losses_in}
use Rattle.srt_loss.specs.declared.reading.LossFault.{LossFault}

-- an ACK, a NAK, a data packet, or another kind
pub data Heard : Type 0 where
  -- an ACK: its own number (0 in a Light ACK), the sequence number that it acknowledges up to, and the words after
  -- that
  Ack : (mark number : ℕ) (more : List ℕ) → Heard
  -- a NAK: the ranges of its loss list; None if the list is invalid
  Nak : (requested : Option (List Range)) → Heard
  -- a data packet, which is ignored: the session sends data, and its caller receives
  Data : Heard
  -- all other kinds, which change nothing
  Other : Heard

-- the words of an ACK's body after the first: from 12 bytes on a round-trip time and its variance, from 16 on a flow
-- window (section 3.2.4). The bytes after these aren't read, and the last word may be incomplete (our choice)
abbrev pub more_of : List ℕ → List ℕ
more_of info =
    if nat_le 16 (length info) then word_at info 4 ∷ word_at info 8 ∷ word_at info 12 ∷ []
    else if nat_le 12 (length info) then word_at info 4 ∷ word_at info 8 ∷ []
    else []

-- the ranges of a loss list, counted from the initial number
abbrev pub requested_from : (initial : ℕ) → Result (List Range) LossFault → Option (List Range)
requested_from initial (Ok ranges) = Some (ranges_from initial ranges)
requested_from initial (Err fault) = None

-- the contents of a decoded packet body. An ACK without a complete first word changes nothing, but no such packet is
-- decoded
abbrev pub heard_from : (initial : ℕ) → grammar.Body → Heard
heard_from initial (grammar.Ack mark info) =
    if nat_le 4 (length info) then Ack mark (counted_from initial (word_at info 0)) (more_of info) else Other
heard_from initial (grammar.Nak info) = Nak (requested_from initial (losses_in info))
heard_from initial (grammar.Data number encryption payload) = Data
heard_from initial _ = Other

-- the contents of a decoded packet
abbrev pub heard_of : (initial : ℕ) → Kind → Heard
heard_of initial kind = heard_from initial (body_of kind)
