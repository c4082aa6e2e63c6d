-- Replies of routes, computed from bytes to bytes.
use Rattle.std.proofs.Common.{◌≡◌, ℕ, zero, suc, ◌+◌, Bool, true, false, List, [], ◌∷◌, ◌++◌, map, refl}
use Rattle.srt_types.specs.declared.shared.Peer.{Peer}
use Rattle.srt_types.specs.declared.shared.Mode.TheVariants.{Live, Buffer}
use Rattle.srt_types.specs.Access.{anyone}
use Rattle.srt_types.specs.Entries.{draft_rules}
use Rattle.srt_types.specs.Terms.{Terms}
use Rattle.srt_types.specs.Items.{Item, Received, Tick, Datagram}
use Rattle.srt_types.specs.Words.{words}
use Rattle.srt_hs.specs.Reading.{handshake_in, blocks_in, with_first, with_block}
use Rattle.srt_hs.specs.Text.{answer_text}
use Rattle.srt_streamid.specs.Reading.{ask_in, list_in, with_part}
use Rattle.std.specs.Str.{is_utf8, chars}
use lib.Utf8.{encode}
use Rattle.srt_types.specs.Window.{in_window}
use Rattle.srt_pub.specs.Publishing.{confirmed_by, is_full_due, acks_at, naks, reports, deliveries}
use Rattle.srt_pub.specs.Says.{says, body_bytes}
use Rattle.srt_types.specs.Lift.{lift}
use Rattle.srt_route.specs.Conclusions.{conclusion_in, conclusion_of}
use Rattle.srt_route.specs.Sessions.{Session, id_of}
use Rattle.srt_route.specs.Route.{reply, after}
use Rattle.srt_route.specs.Shifted.{renumbered_items, shifted_handshake, renumbered}

abbrev studio : Terms
studio = record { name = []; mode = Live; latency_ms = 120; buffer = 1024; sessions = 5; inbox = 16; outbox = 16; access = anyone; rules = draft_rules }

abbrev peer : ℕ → Peer
peer port = record { ip = 0 ∷ 0 ∷ 0 ∷ 0 ∷ 0 ∷ 0 ∷ 0 ∷ 0 ∷ 0 ∷ 0 ∷ 255 ∷ 255 ∷ 127 ∷ 0 ∷ 0 ∷ 1 ∷ []; port = port }

abbrev from : ℕ → List ℕ → Datagram
from port bytes = record { peer = peer port; bytes = bytes }

abbrev arrived : (port moment : ℕ) → List ℕ → Item
arrived port moment bytes = Received (from port bytes) moment

-- a conclusion: the caller's socket ID, its initial number, flow window, flags and delays, and its Stream ID
abbrev conclusion : (caller initial window flags delays : ℕ) → List ℕ → List ℕ
conclusion caller initial window flags delays stream_id =
    words (0x80000000 ∷ 0 ∷ 0 ∷ 0 ∷ 5 ∷ 5 ∷ initial ∷ 0x5dc ∷ window ∷ 0xffffffff ∷ caller ∷ 0x12345678 ∷ 0 ∷ 0 ∷ 0 ∷ 0 ∷ 0x10003 ∷ 0x10500
    ∷ flags ∷ delays ∷ stream_id)

-- #!::r=studio,m=publish and #!::r=studio
abbrev publish_studio : List ℕ
publish_studio = 0x50006 ∷ 0x3a3a2123 ∷ 0x74733d72 ∷ 0x6f696475 ∷ 0x703d6d2c ∷ 0x696c6275 ∷ 0x6873 ∷ []

abbrev request_studio : List ℕ
request_studio = 0x50003 ∷ 0x3a3a2123 ∷ 0x74733d72 ∷ 0x6f696475 ∷ []

abbrev opens_publisher : (moment initial : ℕ) → Item
opens_publisher moment initial = arrived 5000 moment (conclusion 1 initial 0x2000 0xbf 0x780078 publish_studio)

abbrev opens_subscriber : (moment initial delays : ℕ) → Item
opens_subscriber moment initial delays = arrived 5001 moment (conclusion 2 initial 0x2000 0xbf delays request_studio)

abbrev answer : (port caller initial id delays : ℕ) → Datagram
answer port caller initial id delays =
    from port
    (words (0x80000000 ∷ 0 ∷ 0 ∷ caller ∷ 5 ∷ 1 ∷ initial ∷ 0x5dc ∷ 0x400 ∷ 0xffffffff ∷ id ∷ 0 ∷ 0 ∷ 0 ∷ 0 ∷ 0 ∷ 0x20003 ∷ 0x10500 ∷ 0x3f
    ∷ delays ∷ []))

abbrev publisher_opens : Item
publisher_opens = opens_publisher 1_000_000 5

-- a publisher has the session 00100000
first_answer : reply studio 0 (publisher_opens ∷ []) ≡ answer 5000 1 5 0x100000 0x780078 ∷ []
unfolding handshake_in blocks_in with_first with_block answer_text ask_in list_in with_part conclusion_in conclusion_of is_utf8 chars encode
    in_window lift confirmed_by is_full_due acks_at naks reports deliveries says body_bytes
first_answer = refl

-- a second publisher is the standby, with the session 00100001
abbrev standby_opens : (moment : ℕ) → Item
standby_opens moment = arrived 5001 moment (conclusion 2 9 0x2000 0xbf 0x780078 publish_studio)

second_answer : reply studio 0 (standby_opens 1_000_000 ∷ publisher_opens ∷ []) ≡ answer 5001 2 9 0x100001 0x780078 ∷ []
unfolding handshake_in blocks_in with_first with_block answer_text ask_in list_in with_part conclusion_in conclusion_of is_utf8 chars encode
    in_window lift confirmed_by is_full_due acks_at naks reports deliveries says body_bytes
second_answer = refl

-- a third publisher is refused with 1002
abbrev third_opens : (moment : ℕ) → Item
third_opens moment = arrived 5003 moment (conclusion 4 7 0x2000 0xbf 0x780078 publish_studio)

third_answer : reply studio 0 (third_opens 1_000_000 ∷ standby_opens 1_000_000 ∷ publisher_opens ∷ [])
    ≡ from 5003 (words (0x80000000 ∷ 0 ∷ 0 ∷ 4 ∷ 5 ∷ 0 ∷ 7 ∷ 0x5dc ∷ 0x2000 ∷ 0x3ea ∷ 1 ∷ 0 ∷ 0 ∷ 0 ∷ 0 ∷ 0 ∷ [])) ∷ []
unfolding handshake_in blocks_in with_first with_block answer_text ask_in list_in with_part conclusion_in conclusion_of is_utf8 chars encode
    in_window lift confirmed_by is_full_due acks_at naks reports deliveries says body_bytes
third_answer = refl

-- the same conclusion is answered with the same bytes
same_answer : reply studio 0 (publisher_opens ∷ publisher_opens ∷ []) ≡ answer 5000 1 5 0x100000 0x780078 ∷ []
unfolding handshake_in blocks_in with_first with_block answer_text ask_in list_in with_part conclusion_in conclusion_of is_utf8 chars encode
    in_window lift confirmed_by is_full_due acks_at naks reports deliveries says body_bytes
same_answer = refl

-- after a shutdown the next session of the slot is 00100100
next_answer : reply studio 0 (publisher_opens ∷ arrived 5000 1_003_000 (words (0x80050000 ∷ 0 ∷ 0 ∷ 0x100000 ∷ [])) ∷ publisher_opens ∷ [])
    ≡ answer 5000 1 5 0x100100 0x780078 ∷ []
unfolding handshake_in blocks_in with_first with_block answer_text ask_in list_in with_part conclusion_in conclusion_of is_utf8 chars encode
    in_window lift confirmed_by is_full_due acks_at naks reports deliveries says body_bytes
next_answer = refl

-- a packet is forwarded from the publisher to a subscriber that opens before it is due
abbrev packet_comes : List Item
packet_comes = arrived 5000 1_002_000 (words (5 ∷ 0xe0000001 ∷ 0x3e8 ∷ 0x100000 ∷ []) ++ 0x68 ∷ 0x69 ∷ []) ∷ publisher_opens ∷ []

abbrev subscriber_comes : List Item
subscriber_comes = opens_subscriber 1_010_000 9 0x780078 ∷ packet_comes

packet_waits : reply studio 0 packet_comes ≡ []
unfolding handshake_in blocks_in with_first with_block answer_text ask_in list_in with_part conclusion_in conclusion_of is_utf8 chars encode
    in_window lift confirmed_by is_full_due acks_at naks reports deliveries says body_bytes
packet_waits = refl

subscriber_is_answered : reply studio 0 subscriber_comes
    ≡ answer 5001 2 9 0x100001 0x780078 ∷ from 5000 (words (0x80020000 ∷ 1 ∷ 0x2710 ∷ 1 ∷ 6 ∷ 0x186a0 ∷ 0xc350 ∷ 0x3ff ∷ 0 ∷ 0 ∷ 0 ∷ []))
    ∷ []
unfolding handshake_in blocks_in with_first with_block answer_text ask_in list_in with_part conclusion_in conclusion_of is_utf8 chars encode
    in_window lift confirmed_by is_full_due acks_at naks reports deliveries says body_bytes
subscriber_is_answered = refl

packet_is_delivered : reply studio 0 (Tick 1_121_000 ∷ subscriber_comes)
    ≡ from 5000 (words (0x80020000 ∷ 2 ∷ 0x1d8a8 ∷ 1 ∷ 6 ∷ 0x186a0 ∷ 0xc350 ∷ 0x400 ∷ 0 ∷ 0 ∷ 0 ∷ []))
    ∷ from 5001 (words (9 ∷ 0xe0000001 ∷ 0x1b198 ∷ 2 ∷ []) ++ 0x68 ∷ 0x69 ∷ []) ∷ []
unfolding handshake_in blocks_in with_first with_block answer_text ask_in list_in with_part conclusion_in conclusion_of is_utf8 chars encode
    in_window lift confirmed_by is_full_due acks_at naks reports deliveries says body_bytes
packet_is_delivered = refl

-- the same with numbers that wrap
abbrev numbers_end : List Item
numbers_end = arrived 5000 1_002_000 (words (0x7fffffff ∷ 0xe0000001 ∷ 0x3e8 ∷ 0x100000 ∷ []) ++ 0x68 ∷ 0x69 ∷ []) ∷ opens_publisher 1_000_000 0x7fffffff ∷ []

abbrev subscriber_at_the_end : List Item
subscriber_at_the_end = opens_subscriber 1_010_000 3 0x780078 ∷ numbers_end

acknowledged_round_the_end : reply studio 0 subscriber_at_the_end
    ≡ answer 5001 2 3 0x100001 0x780078 ∷ from 5000 (words (0x80020000 ∷ 1 ∷ 0x2710 ∷ 1 ∷ 0 ∷ 0x186a0 ∷ 0xc350 ∷ 0x3ff ∷ 0 ∷ 0 ∷ 0 ∷ []))
    ∷ []
unfolding handshake_in blocks_in with_first with_block answer_text ask_in list_in with_part conclusion_in conclusion_of is_utf8 chars encode
    in_window lift confirmed_by is_full_due acks_at naks reports deliveries says body_bytes
acknowledged_round_the_end = refl

delivered_round_the_end : reply studio 0 (Tick 1_121_000 ∷ subscriber_at_the_end)
    ≡ from 5000 (words (0x80020000 ∷ 2 ∷ 0x1d8a8 ∷ 1 ∷ 0 ∷ 0x186a0 ∷ 0xc350 ∷ 0x400 ∷ 0 ∷ 0 ∷ 0 ∷ []))
    ∷ from 5001 (words (3 ∷ 0xe0000001 ∷ 0x1b198 ∷ 2 ∷ []) ++ 0x68 ∷ 0x69 ∷ []) ∷ []
unfolding handshake_in blocks_in with_first with_block answer_text ask_in list_in with_part conclusion_in conclusion_of is_utf8 chars encode
    in_window lift confirmed_by is_full_due acks_at naks reports deliveries says body_bytes
delivered_round_the_end = refl

-- the same tape with 7ffffffa added to its numbers
numbers_are_shifted : renumbered_items 0x7ffffffa subscriber_comes ≡ subscriber_at_the_end
unfolding handshake_in blocks_in with_first with_block renumbered shifted_handshake
numbers_are_shifted = refl

-- the clock never decreases
clock_stays : (after studio 0 (Tick 4_990_000 ∷ arrived 5001 5_000_000 (words (0x80010000 ∷ 0 ∷ 0 ∷ 0x100000 ∷ [])) ∷ [])).clock ≡ 5_000_000
unfolding handshake_in blocks_in with_first with_block answer_text ask_in list_in with_part conclusion_in conclusion_of is_utf8 chars encode
    in_window lift confirmed_by is_full_due acks_at naks reports deliveries says body_bytes
clock_stays = refl

-- numbers 7 and 9 arrive; 8 is reported lost, and given up when 9 is due
abbrev gap_opens : List Item
gap_opens =
    arrived 5000 1_002_000 (words (9 ∷ 0xe0000001 ∷ 0x7d0 ∷ 0x100000 ∷ []) ++ 0x39 ∷ [])
    ∷ arrived 5000 1_001_500 (words (7 ∷ 0xe0000001 ∷ 0x3e8 ∷ 0x100000 ∷ []) ++ 0x37 ∷ []) ∷ opens_subscriber 1_001_000 9 0x780078
    ∷ opens_publisher 1_000_000 7 ∷ []

gap_is_reported : reply studio 0 gap_opens ≡ from 5000 (words (0x80030000 ∷ 0 ∷ 0x7d0 ∷ 1 ∷ 8 ∷ [])) ∷ []
unfolding handshake_in blocks_in with_first with_block answer_text ask_in list_in with_part conclusion_in conclusion_of is_utf8 chars encode
    in_window lift confirmed_by is_full_due acks_at naks reports deliveries says body_bytes
gap_is_reported = refl

gap_is_passed : reply studio 0 (Tick 1_122_000 ∷ gap_opens)
    ≡ from 5000 (words (0x80020000 ∷ 1 ∷ 0x1dc90 ∷ 1 ∷ 0xa ∷ 0x186a0 ∷ 0xc350 ∷ 0x400 ∷ 0 ∷ 0 ∷ 0 ∷ []))
    ∷ from 5001 (words (9 ∷ 0xe0000001 ∷ 0x1d8a8 ∷ 2 ∷ []) ++ 0x37 ∷ []) ∷ from 5001 (words (0xa ∷ 0xe0000002 ∷ 0x1d8a8 ∷ 2 ∷ []) ++ 0x39 ∷ [])
    ∷ []
unfolding handshake_in blocks_in with_first with_block answer_text ask_in list_in with_part conclusion_in conclusion_of is_utf8 chars encode
    in_window lift confirmed_by is_full_due acks_at naks reports deliveries says body_bytes
gap_is_passed = refl

-- a subscriber that opened at 4000000 is fed at 5000000
abbrev fed : (delays : ℕ) → List Item
fed delays =
    arrived 5000 5_000_000 (words (5 ∷ 0xe0000001 ∷ 0xd6d80 ∷ 0x100000 ∷ []) ++ 0x61 ∷ []) ∷ opens_subscriber 4_000_000 9 delays
    ∷ opens_publisher 4_000_000 5 ∷ []

abbrev asks_again : (moment : ℕ) → Item
asks_again moment = arrived 5001 moment (words (0x80030000 ∷ 0 ∷ 0 ∷ 0x100001 ∷ 9 ∷ []))

is_fed : reply studio 0 (fed 0x780078)
    ≡ from 5000 (words (0x80020000 ∷ 1 ∷ 0xf4240 ∷ 1 ∷ 6 ∷ 0x186a0 ∷ 0xc350 ∷ 0x400 ∷ 0 ∷ 0 ∷ 0 ∷ []))
    ∷ from 5001 (words (9 ∷ 0xe0000001 ∷ 0xf4240 ∷ 2 ∷ []) ++ 0x61 ∷ []) ∷ []
unfolding handshake_in blocks_in with_first with_block answer_text ask_in list_in with_part conclusion_in conclusion_of is_utf8 chars encode
    in_window lift confirmed_by is_full_due acks_at naks reports deliveries says body_bytes
is_fed = refl

is_sent_again : reply studio 0 (asks_again 6_000_000 ∷ fed 0x780078)
    ≡ from 5000 (words (0x80020000 ∷ 2 ∷ 0x1e8480 ∷ 1 ∷ 6 ∷ 0x186a0 ∷ 0xc350 ∷ 0x400 ∷ 0 ∷ 0 ∷ 0 ∷ []))
    ∷ from 5001 (words (9 ∷ 0xe4000001 ∷ 0xf4240 ∷ 2 ∷ []) ++ 0x61 ∷ []) ∷ []
unfolding handshake_in blocks_in with_first with_block answer_text ask_in list_in with_part conclusion_in conclusion_of is_utf8 chars encode
    in_window lift confirmed_by is_full_due acks_at naks reports deliveries says body_bytes
is_sent_again = refl

is_gone : reply studio 0 (asks_again 6_000_001 ∷ asks_again 6_000_000 ∷ fed 0x780078) ≡ from 5001 (words (0x80070000 ∷ 1 ∷ 0x1e8481 ∷ 2 ∷ 9 ∷ 9 ∷ [])) ∷ []
unfolding handshake_in blocks_in with_first with_block answer_text ask_in list_in with_part conclusion_in conclusion_of is_utf8 chars encode
    in_window lift confirmed_by is_full_due acks_at naks reports deliveries says body_bytes
is_gone = refl

-- with a delay of 2 s the payload is kept for 2.5 s
is_kept : reply studio 0 (asks_again 7_500_000 ∷ fed 0x7d00078)
    ≡ from 5000 (words (0x80020000 ∷ 2 ∷ 0x3567e0 ∷ 1 ∷ 6 ∷ 0x186a0 ∷ 0xc350 ∷ 0x400 ∷ 0 ∷ 0 ∷ 0 ∷ []))
    ∷ from 5001 (words (9 ∷ 0xe4000001 ∷ 0xf4240 ∷ 2 ∷ []) ++ 0x61 ∷ []) ∷ []
unfolding handshake_in blocks_in with_first with_block answer_text ask_in list_in with_part conclusion_in conclusion_of is_utf8 chars encode
    in_window lift confirmed_by is_full_due acks_at naks reports deliveries says body_bytes
is_kept = refl

is_gone_later : reply studio 0 (asks_again 7_500_001 ∷ fed 0x7d00078)
    ≡ from 5000 (words (0x80020000 ∷ 2 ∷ 0x3567e1 ∷ 1 ∷ 6 ∷ 0x186a0 ∷ 0xc350 ∷ 0x400 ∷ 0 ∷ 0 ∷ 0 ∷ []))
    ∷ from 5001 (words (0x80070000 ∷ 1 ∷ 0x3567e1 ∷ 2 ∷ 9 ∷ 9 ∷ [])) ∷ []
unfolding handshake_in blocks_in with_first with_block answer_text ask_in list_in with_part conclusion_in conclusion_of is_utf8 chars encode
    in_window lift confirmed_by is_full_due acks_at naks reports deliveries says body_bytes
is_gone_later = refl

-- 64 data packets are answered with a Light ACK
abbrev row_of : (count : ℕ) → List Item
row_of zero = opens_publisher 1_000_000 0 ∷ []
row_of (suc n) = arrived 5000 1_009_000 (words (n ∷ 0xe0000001 ∷ 0 ∷ 0x100000 ∷ []) ++ 0x61 ∷ []) ∷ row_of n

sixty_three_packets : reply studio 0 (row_of 63) ≡ []
unfolding handshake_in blocks_in with_first with_block answer_text ask_in list_in with_part conclusion_in conclusion_of is_utf8 chars encode
    in_window lift confirmed_by is_full_due acks_at naks reports deliveries says body_bytes
sixty_three_packets = refl

sixty_four_packets : reply studio 0 (row_of 64) ≡ from 5000 (words (0x80020000 ∷ 0 ∷ 0x2328 ∷ 1 ∷ 0x40 ∷ [])) ∷ []
unfolding handshake_in blocks_in with_first with_block answer_text ask_in list_in with_part conclusion_in conclusion_of is_utf8 chars encode
    in_window lift confirmed_by is_full_due acks_at naks reports deliveries says body_bytes
sixty_four_packets = refl

-- a packet is in flight since 1000000, and no acknowledgement arrives
abbrev in_flight : List Item
in_flight =
    arrived 5000 1_000_000 (words (5 ∷ 0xe0000001 ∷ 0x13880 ∷ 0x100000 ∷ []) ++ 0x61 ∷ []) ∷ opens_subscriber 900_000 9 0x780078
    ∷ opens_publisher 800_000 5 ∷ []

is_in_flight : reply studio 0 in_flight
    ≡ from 5000 (words (0x80020000 ∷ 1 ∷ 0x30d40 ∷ 1 ∷ 6 ∷ 0x186a0 ∷ 0xc350 ∷ 0x400 ∷ 0 ∷ 0 ∷ 0 ∷ []))
    ∷ from 5001 (words (9 ∷ 0xe0000001 ∷ 0x186a0 ∷ 2 ∷ []) ++ 0x61 ∷ []) ∷ []
unfolding handshake_in blocks_in with_first with_block answer_text ask_in list_in with_part conclusion_in conclusion_of is_utf8 chars encode
    in_window lift confirmed_by is_full_due acks_at naks reports deliveries says body_bytes
is_in_flight = refl

still_in_flight : reply studio 0 (Tick 1_319_999 ∷ in_flight)
    ≡ from 5000 (words (0x80020000 ∷ 2 ∷ 0x7ef3f ∷ 1 ∷ 6 ∷ 0x186a0 ∷ 0xc350 ∷ 0x400 ∷ 0 ∷ 0 ∷ 0 ∷ [])) ∷ []
unfolding handshake_in blocks_in with_first with_block answer_text ask_in list_in with_part conclusion_in conclusion_of is_utf8 chars encode
    in_window lift confirmed_by is_full_due acks_at naks reports deliveries says body_bytes
still_in_flight = refl

presumed_lost : reply studio 0 (Tick 1_320_000 ∷ Tick 1_319_999 ∷ in_flight) ≡ from 5001 (words (9 ∷ 0xe4000001 ∷ 0x186a0 ∷ 2 ∷ []) ++ 0x61 ∷ []) ∷ []
unfolding handshake_in blocks_in with_first with_block answer_text ask_in list_in with_part conclusion_in conclusion_of is_utf8 chars encode
    in_window lift confirmed_by is_full_due acks_at naks reports deliveries says body_bytes
presumed_lost = refl

-- a subscriber that sends nothing
abbrev alone : List Item
alone = Tick 2_000_000 ∷ opens_subscriber 1_000_000 9 0x780078 ∷ []

keep_alive_comes : reply studio 0 alone ≡ from 5001 (words (0x80010000 ∷ 0 ∷ 0xf4240 ∷ 2 ∷ [])) ∷ []
unfolding handshake_in blocks_in with_first with_block answer_text ask_in list_in with_part conclusion_in conclusion_of is_utf8 chars encode
    in_window lift confirmed_by is_full_due acks_at naks reports deliveries says body_bytes
keep_alive_comes = refl

still_open : reply studio 0 (opens_subscriber 5_999_999 9 0x780078 ∷ alone)
    ≡ answer 5001 2 9 0x100000 0x780078 ∷ from 5001 (words (0x80010000 ∷ 0 ∷ 0x4c4b3f ∷ 2 ∷ [])) ∷ []
unfolding handshake_in blocks_in with_first with_block answer_text ask_in list_in with_part conclusion_in conclusion_of is_utf8 chars encode
    in_window lift confirmed_by is_full_due acks_at naks reports deliveries says body_bytes
still_open = refl

ended : reply studio 0 (opens_subscriber 6_000_000 9 0x780078 ∷ alone) ≡ answer 5001 2 9 0x100100 0x780078 ∷ []
unfolding handshake_in blocks_in with_first with_block answer_text ask_in list_in with_part conclusion_in conclusion_of is_utf8 chars encode
    in_window lift confirmed_by is_full_due acks_at naks reports deliveries says body_bytes
ended = refl

abbrev files : Terms
files = record { name = []; mode = Buffer; latency_ms = 120; buffer = 32; sessions = 3; inbox = 16; outbox = 16; access = anyone; rules = draft_rules }

-- #!::r=files,m=publish and #!::r=files; the first with the text "file" as its congestion control
abbrev publish_files : List ℕ
publish_files = 0x50006 ∷ 0x3a3a2123 ∷ 0x69663d72 ∷ 0x2c73656c ∷ 0x75703d6d ∷ 0x73696c62 ∷ 0x68 ∷ []

abbrev request_files : List ℕ
request_files = 0x50003 ∷ 0x3a3a2123 ∷ 0x69663d72 ∷ 0x73656c ∷ []

congestion_is_repeated : reply files 1
    (arrived 5000 1_000_000 (conclusion 1 5 0x6400 0x74 0 (publish_files ++ 0x60001 ∷ 0x656c6966 ∷ [])) ∷ [])
    ≡ from 5000
    (words (0x80000000 ∷ 0 ∷ 0 ∷ 1 ∷ 5 ∷ 5 ∷ 5 ∷ 0x5dc ∷ 0x20 ∷ 0xffffffff ∷ 0x200000 ∷ 0 ∷ 0 ∷ 0 ∷ 0 ∷ 0 ∷ 0x20003 ∷ 0x10500 ∷ 0x74 ∷ 0
    ∷ 0x60001 ∷ 0x656c6966 ∷ []))
    ∷ []
unfolding handshake_in blocks_in with_first with_block answer_text ask_in list_in with_part conclusion_in conclusion_of is_utf8 chars encode
    in_window lift confirmed_by is_full_due acks_at naks reports deliveries says body_bytes
congestion_is_repeated = refl

-- 32 packets arrive before there is a subscriber
abbrev filled : (count : ℕ) → List Item
filled zero = arrived 5000 1_000_000 (conclusion 1 100 0x6400 0x74 0 publish_files) ∷ []
filled (suc n) = arrived 5000 1_001_000 (words ((100 + n) ∷ 0xe0000001 ∷ 0 ∷ 0x200000 ∷ []) ++ n ∷ []) ∷ filled n

abbrev sent_from : (from_number count : ℕ) → List Datagram
sent_from number zero = []
sent_from number (suc n) = from 5001 (words (number ∷ (0xe0000001 + number) ∷ 0 ∷ 2 ∷ []) ++ number ∷ []) ∷ sent_from (number + 1) n

window_is_full : reply files 1 (Tick 1_010_000 ∷ filled 32)
    ≡ from 5000 (words (0x80020000 ∷ 1 ∷ 0x2710 ∷ 1 ∷ 0x84 ∷ 0x186a0 ∷ 0xc350 ∷ 0 ∷ 0 ∷ 0 ∷ 0 ∷ [])) ∷ []
unfolding handshake_in blocks_in with_first with_block answer_text ask_in list_in with_part conclusion_in conclusion_of is_utf8 chars encode
    in_window lift confirmed_by is_full_due acks_at naks reports deliveries says body_bytes
window_is_full = refl

all_are_delivered : reply files 1 (arrived 5001 1_020_000 (conclusion 2 0 0x6400 0x74 0 request_files) ∷ Tick 1_010_000 ∷ filled 32)
    ≡ from 5001
    (words (0x80000000 ∷ 0 ∷ 0 ∷ 2 ∷ 5 ∷ 1 ∷ 0 ∷ 0x5dc ∷ 0x20 ∷ 0xffffffff ∷ 0x200001 ∷ 0 ∷ 0 ∷ 0 ∷ 0 ∷ 0 ∷ 0x20003 ∷ 0x10500 ∷ 0x74 ∷ 0
    ∷ []))
    ∷ from 5000 (words (0x80020000 ∷ 2 ∷ 0x4e20 ∷ 1 ∷ 0x84 ∷ 0x186a0 ∷ 0xc350 ∷ 0x20 ∷ 0 ∷ 0 ∷ 0 ∷ [])) ∷ sent_from 0 32
unfolding handshake_in blocks_in with_first with_block answer_text ask_in list_in with_part conclusion_in conclusion_of is_utf8 chars encode
    in_window lift confirmed_by is_full_due acks_at naks reports deliveries says body_bytes
all_are_delivered = refl

-- a number past the window ends a session in which nothing waits: the next conclusion has another session
abbrev narrow : Terms
narrow = record studio { buffer = 32 }

abbrev narrow_answer : (id : ℕ) → Datagram
narrow_answer id =
    from 5000
    (words (0x80000000 ∷ 0 ∷ 0 ∷ 1 ∷ 5 ∷ 1 ∷ 5 ∷ 0x5dc ∷ 0x20 ∷ 0xffffffff ∷ id ∷ 0 ∷ 0 ∷ 0 ∷ 0 ∷ 0 ∷ 0x20003 ∷ 0x10500 ∷ 0x3f ∷ 0x780078
    ∷ []))

abbrev number_comes : (number : ℕ) → Item
number_comes number = arrived 5000 1_001_000 (words (number ∷ 0xe0000001 ∷ 0 ∷ 0x100000 ∷ []) ++ 0x61 ∷ [])

window_is_lost : reply narrow 0 (publisher_opens ∷ number_comes 37 ∷ publisher_opens ∷ []) ≡ narrow_answer 0x100100 ∷ []
unfolding handshake_in blocks_in with_first with_block answer_text ask_in list_in with_part conclusion_in conclusion_of is_utf8 chars encode
    in_window lift confirmed_by is_full_due acks_at naks reports deliveries says body_bytes
window_is_lost = refl

window_is_kept : reply narrow 0 (publisher_opens ∷ number_comes 37 ∷ number_comes 36 ∷ publisher_opens ∷ []) ≡ narrow_answer 0x100000 ∷ []
unfolding handshake_in blocks_in with_first with_block answer_text ask_in list_in with_part conclusion_in conclusion_of is_utf8 chars encode
    in_window lift confirmed_by is_full_due acks_at naks reports deliveries says body_bytes
window_is_kept = refl

-- a socket ID has the generation modulo 4096, of which 65536 is a multiple
ids_go_round : (id_of 0 4095 3 ≡ 0x1f_ff03) × (id_of 0 4096 3 ≡ 0x10_0003) × (id_of 0 4097 3 ≡ 0x10_0103) × (id_of 0 65535 3 ≡ 0x1f_ff03) ×
    (id_of 0 65536 3 ≡ 0x10_0003) × (id_of 0 65537 3 ≡ 0x10_0103)
ids_go_round = (refl, refl, refl, refl, refl, refl)

-- a handshake to a session's ID is a sign of life
abbrev greets : (moment : ℕ) → Item
greets moment = arrived 5000 moment (words (0x80000000 ∷ 0 ∷ 0 ∷ 0x100000 ∷ 5 ∷ 5 ∷ 5 ∷ 0x5dc ∷ 0x2000 ∷ 0xffffffff ∷ 1 ∷ 0 ∷ 0 ∷ 0 ∷ 0 ∷ 0 ∷ []))

abbrev are_open : List Item → List Bool
are_open items = map (λ (s : Session). s.is_open) (after studio 0 items).sessions

greeted : (are_open (Tick 6_500_000 ∷ greets 5_000_000 ∷ publisher_opens ∷ []) ≡ true ∷ []) × (are_open (Tick 6_500_000 ∷ publisher_opens ∷ []) ≡ false ∷ [])
unfolding handshake_in blocks_in with_first with_block answer_text ask_in list_in with_part conclusion_in conclusion_of is_utf8 chars encode
    in_window lift confirmed_by is_full_due acks_at naks reports deliveries says body_bytes
greeted = (refl, refl)

-- a publisher is the standby of another one, and acknowledges what it receives
abbrev viewer_opens : (moment delays : ℕ) → Item
viewer_opens moment delays = arrived 5002 moment (conclusion 3 20 0x2000 0xbf delays request_studio)

abbrev stands_by : List Item
stands_by =
    arrived 5001 1_021_000 (words (9 ∷ 0xe0000001 ∷ 0x3e8 ∷ 0x100001 ∷ []) ++ 0x68 ∷ 0x69 ∷ []) ∷ viewer_opens 1_020_000 0x780078
    ∷ standby_opens 1_010_000 ∷ publisher_opens ∷ []

standby_is_acknowledged : reply studio 0 stands_by ≡ from 5001 (words (0x80020000 ∷ 1 ∷ 0x2af8 ∷ 2 ∷ 0xa ∷ 0x186a0 ∷ 0xc350 ∷ 0x3ff ∷ 0 ∷ 0 ∷ 0 ∷ [])) ∷ []
unfolding handshake_in blocks_in with_first with_block answer_text ask_in list_in with_part conclusion_in conclusion_of is_utf8 chars encode
    in_window lift confirmed_by is_full_due acks_at naks reports deliveries says body_bytes
standby_is_acknowledged = refl

-- the active one ends before the packet is due, so the standby takes over
abbrev shuts_down : (moment : ℕ) → Item
shuts_down moment = arrived 5000 moment (words (0x80050000 ∷ 0 ∷ 0 ∷ 0x100000 ∷ []))

shutdown_delivers_nothing : reply studio 0 (shuts_down 1_100_000 ∷ stands_by)
    ≡ from 5001 (words (0x80020000 ∷ 2 ∷ 0x15f90 ∷ 2 ∷ 0xa ∷ 0x186a0 ∷ 0xc350 ∷ 0x3ff ∷ 0 ∷ 0 ∷ 0 ∷ [])) ∷ []
unfolding handshake_in blocks_in with_first with_block answer_text ask_in list_in with_part conclusion_in conclusion_of is_utf8 chars encode
    in_window lift confirmed_by is_full_due acks_at naks reports deliveries says body_bytes
shutdown_delivers_nothing = refl

standby_takes_over : reply studio 0 (Tick 1_131_000 ∷ shuts_down 1_100_000 ∷ stands_by)
    ≡ from 5001 (words (0x80020000 ∷ 3 ∷ 0x1d8a8 ∷ 2 ∷ 0xa ∷ 0x186a0 ∷ 0xc350 ∷ 0x400 ∷ 0 ∷ 0 ∷ 0 ∷ []))
    ∷ from 5002 (words (0x14 ∷ 0xe0000001 ∷ 0x1b198 ∷ 3 ∷ []) ++ 0x68 ∷ 0x69 ∷ []) ∷ []
unfolding handshake_in blocks_in with_first with_block answer_text ask_in list_in with_part conclusion_in conclusion_of is_utf8 chars encode
    in_window lift confirmed_by is_full_due acks_at naks reports deliveries says body_bytes
standby_takes_over = refl

-- the standby is active in the event in which the other one ends
takes_over_at_once : reply studio 0 (shuts_down 1_131_000 ∷ stands_by)
    ≡ from 5001 (words (0x80020000 ∷ 2 ∷ 0x1d8a8 ∷ 2 ∷ 0xa ∷ 0x186a0 ∷ 0xc350 ∷ 0x400 ∷ 0 ∷ 0 ∷ 0 ∷ []))
    ∷ from 5002 (words (0x14 ∷ 0xe0000001 ∷ 0x1b198 ∷ 3 ∷ []) ++ 0x68 ∷ 0x69 ∷ []) ∷ []
unfolding handshake_in blocks_in with_first with_block answer_text ask_in list_in with_part conclusion_in conclusion_of is_utf8 chars encode
    in_window lift confirmed_by is_full_due acks_at naks reports deliveries says body_bytes
takes_over_at_once = refl

-- a packet that was due before is delivered to nobody
standby_delivers_to_nobody : reply studio 0 (Tick 1_131_000 ∷ stands_by)
    ≡ from 5001 (words (0x80020000 ∷ 2 ∷ 0x1d8a8 ∷ 2 ∷ 0xa ∷ 0x186a0 ∷ 0xc350 ∷ 0x400 ∷ 0 ∷ 0 ∷ 0 ∷ [])) ∷ []
unfolding handshake_in blocks_in with_first with_block answer_text ask_in list_in with_part conclusion_in conclusion_of is_utf8 chars encode
    in_window lift confirmed_by is_full_due acks_at naks reports deliveries says body_bytes
standby_delivers_to_nobody = refl

nothing_is_left : reply studio 0 (Tick 1_141_000 ∷ shuts_down 1_131_000 ∷ Tick 1_131_000 ∷ stands_by)
    ≡ from 5001 (words (0x80020000 ∷ 3 ∷ 0x1ffb8 ∷ 2 ∷ 0xa ∷ 0x186a0 ∷ 0xc350 ∷ 0x400 ∷ 0 ∷ 0 ∷ 0 ∷ [])) ∷ []
unfolding handshake_in blocks_in with_first with_block answer_text ask_in list_in with_part conclusion_in conclusion_of is_utf8 chars encode
    in_window lift confirmed_by is_full_due acks_at naks reports deliveries says body_bytes
nothing_is_left = refl

-- a publisher that reconnects is the standby, whatever its slot is
abbrev comes_back : List Item
comes_back = arrived 5000 1_024_000 (words (5 ∷ 0xe0000001 ∷ 0 ∷ 0x100100 ∷ []) ++ 0x61 ∷ []) ∷ opens_publisher 1_023_000 5 ∷ shuts_down 1_022_000 ∷ stands_by

other_one_is_active : reply studio 0 (Tick 1_131_000 ∷ comes_back)
    ≡ from 5000 (words (0x80020000 ∷ 1 ∷ 0x1a5e0 ∷ 1 ∷ 0x6 ∷ 0x186a0 ∷ 0xc350 ∷ 0x3ff ∷ 0 ∷ 0 ∷ 0 ∷ []))
    ∷ from 5001 (words (0x80020000 ∷ 2 ∷ 0x1d8a8 ∷ 2 ∷ 0xa ∷ 0x186a0 ∷ 0xc350 ∷ 0x400 ∷ 0 ∷ 0 ∷ 0 ∷ []))
    ∷ from 5002 (words (0x14 ∷ 0xe0000001 ∷ 0x1b198 ∷ 3 ∷ []) ++ 0x68 ∷ 0x69 ∷ []) ∷ []
unfolding handshake_in blocks_in with_first with_block answer_text ask_in list_in with_part conclusion_in conclusion_of is_utf8 chars encode
    in_window lift confirmed_by is_full_due acks_at naks reports deliveries says body_bytes
other_one_is_active = refl

that_one_stands_by : reply studio 0 (Tick 1_143_000 ∷ Tick 1_131_000 ∷ comes_back)
    ≡ from 5000 (words (0x80020000 ∷ 2 ∷ 0x1d4c0 ∷ 1 ∷ 0x6 ∷ 0x186a0 ∷ 0xc350 ∷ 0x400 ∷ 0 ∷ 0 ∷ 0 ∷ []))
    ∷ from 5001 (words (0x80020000 ∷ 3 ∷ 0x20788 ∷ 2 ∷ 0xa ∷ 0x186a0 ∷ 0xc350 ∷ 0x400 ∷ 0 ∷ 0 ∷ 0 ∷ [])) ∷ []
unfolding handshake_in blocks_in with_first with_block answer_text ask_in list_in with_part conclusion_in conclusion_of is_utf8 chars encode
    in_window lift confirmed_by is_full_due acks_at naks reports deliveries says body_bytes
that_one_stands_by = refl

-- an active publisher that sends nothing ends, and the standby takes over, also if a third one opens then
abbrev goes_silent : List Item
goes_silent =
    arrived 5001 5_900_000 (words (9 ∷ 0xe0000001 ∷ 0x4a4f70 ∷ 0x100001 ∷ []) ++ 0x68 ∷ 0x69 ∷ []) ∷ viewer_opens 1_020_000 0x780078
    ∷ standby_opens 1_010_000 ∷ publisher_opens ∷ []

third_opens_for_it : reply studio 0 (third_opens 6_000_000 ∷ goes_silent)
    ≡ answer 5003 4 7 0x100100 0x780078
    ∷ from 5001 (words (0x80020000 ∷ 2 ∷ 0x4c2430 ∷ 2 ∷ 0xa ∷ 0x186a0 ∷ 0xc350 ∷ 0x400 ∷ 0 ∷ 0 ∷ 0 ∷ []))
    ∷ from 5002 (words (0x14 ∷ 0xe0000001 ∷ 0x4bfd20 ∷ 3 ∷ []) ++ 0x68 ∷ 0x69 ∷ []) ∷ []
unfolding handshake_in blocks_in with_first with_block answer_text ask_in list_in with_part conclusion_in conclusion_of is_utf8 chars encode
    in_window lift confirmed_by is_full_due acks_at naks reports deliveries says body_bytes
third_opens_for_it = refl

-- in buffer mode what a standby received waits
abbrev file_stands_by : List Item
file_stands_by =
    Tick 1_013_000 ∷ arrived 5001 1_003_000 (words (0xc8 ∷ 0xe0000001 ∷ 0 ∷ 0x200001 ∷ []) ++ 0x61 ∷ [])
    ∷ arrived 5002 1_002_000 (conclusion 3 0 0x6400 0x74 0 request_files) ∷ arrived 5001 1_001_000 (conclusion 2 0xc8 0x6400 0x74 0 publish_files)
    ∷ arrived 5000 1_000_000 (conclusion 1 0x64 0x6400 0x74 0 publish_files) ∷ []

file_waits : reply files 1 file_stands_by ≡ from 5001 (words (0x80020000 ∷ 1 ∷ 0x2ee0 ∷ 2 ∷ 0xc9 ∷ 0x186a0 ∷ 0xc350 ∷ 0x1f ∷ 0 ∷ 0 ∷ 0 ∷ [])) ∷ []
unfolding handshake_in blocks_in with_first with_block answer_text ask_in list_in with_part conclusion_in conclusion_of is_utf8 chars encode
    in_window lift confirmed_by is_full_due acks_at naks reports deliveries says body_bytes
file_waits = refl

file_goes_on : reply files 1 (arrived 5000 1_014_000 (words (0x80050000 ∷ 0 ∷ 0 ∷ 0x200000 ∷ [])) ∷ file_stands_by)
    ≡ from 5002 (words (0 ∷ 0xe0000001 ∷ 0x2ee0 ∷ 3 ∷ []) ++ 0x61 ∷ []) ∷ []
unfolding handshake_in blocks_in with_first with_block answer_text ask_in list_in with_part conclusion_in conclusion_of is_utf8 chars encode
    in_window lift confirmed_by is_full_due acks_at naks reports deliveries says body_bytes
file_goes_on = refl
