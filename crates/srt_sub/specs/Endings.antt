-- The end of a session by a packet, and the maximum length of payloads.
use Rattle.std.specs.Prelude.{ℕ, ◌-◌, Bool, true, false, List, length, nat_le}
use Rattle.srt_types.specs.declared.shared.Mode.{Mode}
use Rattle.srt_types.specs.declared.shared.Mode.TheVariants.{Live, Buffer}
use Rattle.srt_packet.specs.Grammar as grammar
use Rattle.srt_sub.specs.declared.hearing.Took.{Took}
use Rattle.srt_sub.specs.declared.hearing.Took.TheVariants.{Nothing, Answer, Ended}

-- whether the session ended
abbrev pub is_ended : Took → Bool
is_ended Ended = true
is_ended Nothing = false
is_ended Answer = false

-- whether the packet is a SHUTDOWN (section 3.2.7)
abbrev pub is_shutdown : grammar.Body → Bool
is_shutdown grammar.Shutdown = true
is_shutdown _ = false

-- whether a payload with 44 bytes of headers fits in the agreed MTU; in buffer mode every payload does
abbrev pub is_short : Mode → (mtu : ℕ) → List ℕ → Bool
is_short Live mtu payload = nat_le (length payload) (mtu - 44)
is_short Buffer mtu payload = true
