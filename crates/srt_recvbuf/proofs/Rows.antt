-- Computed examples.
use Rattle.std.proofs.Common.{◌≡◌, ℕ, ◌+◌, ◌^◌, pos, true, false, None, Some, [], ◌∷◌, length, refl}
use Rattle.srt_types.specs.Window.{counted_from, in_window, number_word}
use Rattle.srt_recvbuf.specs.declared.buffer.Put.TheVariants.{New, Repeat, Outside}
use Rattle.srt_recvbuf.specs.Receiving.{Receiving, nothing_yet, received, put_of, requested, is_dropped, deliverable, passed, gaps, ack_point, available}
use Rattle.srt_recvbuf.specs.Stands.{said_runs}

-- numbers 0 and 2 of a stream, due at 10 and 20
abbrev two_received : Receiving
two_received = received 32 2 (2 ∷ []) (pos 20) (received 32 0 (1 ∷ []) (pos 10) nothing_yet)

waits : (gaps 32 two_received ≡ 1 ∷ []) × (deliverable 9 two_received ≡ []) × (length (deliverable 19 two_received) ≡ 1)
unfolding in_window
waits = (refl, refl, refl)

abbrev both_delivered : Receiving
both_delivered = passed 32 (deliverable 20 two_received) two_received

passes : (both_delivered.front ≡ 3) × (gaps 32 both_delivered ≡ []) × (available 32 both_delivered ≡ 32)
unfolding in_window
passes = (refl, refl, refl)

-- the window of a receiver whose front is 5
width : (in_window 36 5 32 ≡ Some 36) × (in_window 37 5 32 ≡ None) × (in_window 4 5 32 ≡ None) × (in_window (2 ^ 31 + 36) 5 32 ≡ None)
unfolding in_window
width = (refl, refl, refl, refl)

-- the second copy changes nothing
repeats : (received 32 2 (7 ∷ []) (pos 1) two_received ≡ two_received) × (put_of (Some 2) two_received ≡ Repeat) ×
    (put_of (Some 1) two_received ≡ New) × (put_of None two_received ≡ Outside)
unfolding in_window
repeats = (refl, refl, refl, refl)

-- sequence numbers counted from 7fffffff
abbrev round_end : ℕ → ℕ
round_end word = counted_from 0x7fff_ffff word

abbrev two_round_end : Receiving
two_round_end = received 32 (round_end 0) (2 ∷ []) (pos 20) (received 32 (round_end 0x7fff_ffff) (1 ∷ []) (pos 10) nothing_yet)

goes_round : (number_word 0x7fff_ffff (ack_point 32 two_round_end) ≡ 1) × (in_window (round_end 0x1e) 0 32 ≡ Some 31) × (in_window (round_end 0x1f) 0 32 ≡ None)
unfolding in_window
goes_round = (refl, refl, refl)

-- a gap across the wrap of sequence numbers
says : said_runs 32 0x7fff_ffff 0x7fff_ffff (received 32 3 (9 ∷ []) (pos 0) nothing_yet) ≡ (0x7fff_ffff, 1) ∷ []
unfolding in_window
says = refl

-- a dropped number that arrives later is received; the front moves past dropped numbers
abbrev two_dropped : Receiving
two_dropped = requested 32 (record { first = 1; last = 4 }) two_received

drops : (gaps 32 two_dropped ≡ []) × (ack_point 32 two_dropped ≡ 5) × ((passed 32 (deliverable 20 two_dropped) two_dropped).front ≡ 5) ×
    (is_dropped 32 two_dropped 3 ≡ true) × (is_dropped 32 (received 32 3 (1 ∷ []) (pos 0) two_dropped) 3 ≡ false)
unfolding in_window
drops = (refl, refl, refl, refl, refl)
