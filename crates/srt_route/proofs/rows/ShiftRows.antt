-- Computed examples of renumbered and restamped bytes.
use Rattle.std.proofs.Common.{◌≡◌, [], ◌∷◌, ◌++◌, refl}
use Rattle.std.specs.Prelude.{replicate}
use Rattle.srt_types.specs.Words.{words}
use Rattle.srt_hs.specs.Reading.{handshake_in}
use Rattle.srt_route.specs.Shifted.{shifted_handshake, renumbered, restamped}

-- the number of a data packet wraps at 2^31, and its payload stays
data_goes_round : renumbered 3 (words (0x7fff_ffff ∷ 0xe000_0001 ∷ 5 ∷ 0x0010_0000 ∷ 0xfefe_fefe ∷ []))
    ≡ words (2 ∷ 0xe000_0001 ∷ 5 ∷ 0x0010_0000 ∷ 0xfefe_fefe ∷ [])
unfolding renumbered
data_goes_round = refl

-- in an acknowledgement only the first word changes
first_word_of_ack : renumbered 16 (words (0x8002_0000 ∷ 1 ∷ 5 ∷ 9 ∷ 0x7fff_fff8 ∷ 100 ∷ 50 ∷ [])) ≡ words (0x8002_0000 ∷ 1 ∷ 5 ∷ 9 ∷ 8 ∷ 100 ∷ 50 ∷ [])
unfolding renumbered
first_word_of_ack = refl

-- in a loss list each whole word changes, its top bit kept, and not the rest of an incomplete one
words_of_nak : renumbered 2 (words (0x8003_0000 ∷ 0 ∷ 5 ∷ 9 ∷ 0xffff_fffe ∷ 1 ∷ 7 ∷ []) ++ 1 ∷ 2 ∷ [])
    ≡ words (0x8003_0000 ∷ 0 ∷ 5 ∷ 9 ∷ 0x8000_0000 ∷ 3 ∷ 9 ∷ []) ++ 1 ∷ 2 ∷ []
unfolding renumbered
words_of_nak = refl

-- in a drop request both words change, and not its message number
words_of_drop_request : renumbered 1 (words (0x8007_0000 ∷ 3 ∷ 5 ∷ 9 ∷ 0x7fff_ffff ∷ 4 ∷ 6 ∷ [])) ≡ words (0x8007_0000 ∷ 3 ∷ 5 ∷ 9 ∷ 0 ∷ 5 ∷ 6 ∷ [])
unfolding renumbered
words_of_drop_request = refl

-- an ACKACK stays
ack_ack_stays : renumbered 1 (words (0x8006_0000 ∷ 3 ∷ 5 ∷ 9 ∷ [])) ≡ words (0x8006_0000 ∷ 3 ∷ 5 ∷ 9 ∷ [])
unfolding renumbered
ack_ack_stays = refl

-- in a handshake that reads the third word changes, its top bit kept
initial_of_handshake : renumbered 1 (words (0x8000_0000 ∷ 0 ∷ 0 ∷ 0 ∷ 4 ∷ 2 ∷ 0xffff_ffff ∷ 1500 ∷ 8192 ∷ 1 ∷ 7 ∷ 0 ∷ []) ++ replicate 16 0)
    ≡ words (0x8000_0000 ∷ 0 ∷ 0 ∷ 0 ∷ 4 ∷ 2 ∷ 0x8000_0000 ∷ 1500 ∷ 8192 ∷ 1 ∷ 7 ∷ 0 ∷ []) ++ replicate 16 0
unfolding renumbered shifted_handshake handshake_in
initial_of_handshake = refl

-- a handshake that doesn't read stays
short_handshake_stays : renumbered 1 (words (0x8000_0000 ∷ 0 ∷ 0 ∷ 0 ∷ 4 ∷ 2 ∷ 7 ∷ [])) ≡ words (0x8000_0000 ∷ 0 ∷ 0 ∷ 0 ∷ 4 ∷ 2 ∷ 7 ∷ [])
unfolding renumbered shifted_handshake handshake_in
short_handshake_stays = refl

-- a data packet without a payload stays, since it isn't a packet
no_packet_stays : renumbered 1 (words (7 ∷ 0 ∷ 0 ∷ 0 ∷ [])) ≡ words (7 ∷ 0 ∷ 0 ∷ 0 ∷ [])
unfolding renumbered
no_packet_stays = refl

-- a timestamp wraps at 2^32, also in bytes that aren't a packet but have a whole header
stamp_goes_round : restamped 2 (words (7 ∷ 0 ∷ 0xffff_ffff ∷ 9 ∷ [])) ≡ words (7 ∷ 0 ∷ 1 ∷ 9 ∷ [])
unfolding restamped
stamp_goes_round = refl

no_header_stays : restamped 2 (words (7 ∷ 0 ∷ 1 ∷ [])) ≡ words (7 ∷ 0 ∷ 1 ∷ [])
unfolding restamped
no_header_stays = refl
