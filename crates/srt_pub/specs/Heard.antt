-- A packet as a publisher's session processes it, its sequence numbers counted from the session's initial one.
use Rattle.std.specs.Prelude.{ℕ, List}
use Rattle.srt_types.specs.Window.{counted_from}
use Rattle.srt_types.specs.Runs.{Range, range_from}
use Rattle.srt_packet.specs.Grammar as grammar

-- a data packet, an ACKACK, a drop request, or another kind
pub data Heard : Type 0 where
  Data : (number encryption : ℕ) (payload : List ℕ) → Heard
  AckAck : (number : ℕ) → Heard
  DropRequest : (range : Range) → Heard
  -- all other kinds, which change nothing
  Other : Heard

-- the contents of a decoded packet body
abbrev pub heard_from : (initial : ℕ) → grammar.Body → Heard
heard_from initial (grammar.Data number encryption payload) = Data (counted_from initial number) encryption payload
heard_from initial (grammar.AckAck number) = AckAck number
heard_from initial (grammar.DropRequest message first last) = DropRequest (range_from initial (record { first = first; last = last }))
heard_from initial _ = Other
