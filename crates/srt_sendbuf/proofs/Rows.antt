-- Computed examples of the definitions.
use Rattle.std.proofs.Common.{◌≡◌, ℕ, pos, true, false, None, Some, List, [], ◌∷◌, refl}
use Rattle.std.specs.Prelude.{option_map}
use Rattle.srt_types.specs.Window.{in_window, counted_from}
use Rattle.srt_types.specs.Runs.{Range, ranges_from}
use Rattle.srt_sendbuf.specs.Sending.{Sending, nothing_yet, base, queued, lost, due, after_due, requested, acknowledged_by, expired_before}
use Rattle.srt_sendbuf.specs.Outgoing.{Outgoing, outgoing, gone_for}

-- one payload, queued at 1000000 and sent
abbrev one : Sending
one = queued 1_000_000 (0x61 ∷ []) nothing_yet

abbrev flying : Sending
flying = after_due 8192 one

abbrev packet : (number message : ℕ) → Outgoing
packet number message = record { number = number; message = message; again = false; origin = 1_000_000; payload = 0x61 ∷ [] }

abbrev again : Outgoing
again = record { number = 9; message = 1; again = true; origin = 1_000_000; payload = 0x61 ∷ [] }

abbrev nine : List Range
nine = ranges_from 9 (record { first = 9; last = 9 } ∷ [])

sent_first : option_map (outgoing 9) (due 8192 one) ≡ Some (packet 9 1)
sent_first = refl

then_nothing : due 8192 flying ≡ None
then_nothing = refl

-- if a NAK reports it, it is sent again, even with a flow window of 0
sent_again : option_map (outgoing 9) (due 0 (requested nine flying)) ≡ Some again
sent_again = refl

sent_again_once : due 8192 (after_due 8192 (requested nine flying)) ≡ None
sent_again_once = refl

-- it expires a microsecond after its queueing time; then a NAK of it causes a drop request
not_yet : gone_for 9 nine (expired_before (pos 1_000_000) flying) ≡ None
not_yet = refl

now_gone : gone_for 9 nine (expired_before (pos 1_000_001) flying) ≡ Some (record { first = 9; last = 9; message = 1 })
now_gone = refl

-- the greatest number that an ACK may have is the first number not sent
brought : acknowledged_by (counted_from 9 10) flying ≡ Some 1
unfolding in_window
brought = refl

outside : acknowledged_by (counted_from 9 10) one ≡ None
unfolding in_window
outside = refl

-- across the wrap of sequence numbers
abbrev two : Sending
two = after_due 8192 (queued 1_000_000 (0x61 ∷ []) (after_due 8192 one))

abbrev across : List Range
across = ranges_from 0x7fff_ffff (record { first = 0x7fff_ffff; last = 0 } ∷ [])

both_lost : lost (requested across two) ≡ 0 ∷ 1 ∷ []
both_lost = refl

second : option_map (outgoing 0x7fff_ffff) (due 8192 (queued 1_000_000 (0x61 ∷ []) flying)) ≡ Some (packet 0 2)
second = refl

-- an ACK's number may be 8192 before the front
far : base (record { queue = []; acked = 5; expired = 9000; marks = [] }) ≡ 808
far = refl
