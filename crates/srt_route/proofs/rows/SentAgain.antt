-- What a route sends a subscriber again without a NAK, computed from bytes to bytes.
use Rattle.std.proofs.Common.{◌≡◌, ℕ, None, List, [], ◌∷◌, ◌++◌, refl}
use Rattle.srt_types.specs.declared.shared.Callers.{Callers}
use Rattle.srt_types.specs.declared.shared.Callers.TheVariants.{Draft, Libsrt}
use Rattle.srt_types.specs.declared.shared.Mode.TheVariants.{Live}
use Rattle.srt_types.specs.Access.{anyone}
use Rattle.srt_types.specs.Terms.{Terms}
use Rattle.srt_types.specs.Items.{Item, Received, Tick, Datagram}
use Rattle.srt_types.specs.Words.{words}
use Rattle.srt_hs.specs.Reading.{handshake_in, blocks_in, with_first, with_block}
use Rattle.srt_hs.specs.Text.{answer_text}
use Rattle.srt_streamid.specs.Reading.{ask_in, list_in, with_part}
use Rattle.std.specs.Str.{is_utf8, chars}
use lib.Utf8.{encode}
use Rattle.srt_types.specs.Window.{in_window}
use Rattle.srt_pub.specs.Publishing.{confirmed_by, is_full_due, acks_at, naks, reports, deliveries}
use Rattle.srt_pub.specs.Says.{says, body_bytes}
use Rattle.srt_types.specs.Lift.{lift}
use Rattle.srt_route.specs.Conclusions.{conclusion_in, conclusion_of}
use Rattle.srt_route.specs.Route.{reply}

abbrev studio : Callers → Terms
studio callers =
    record {
      name = [];
      mode = Live;
      latency_ms = 120;
      buffer = 1024;
      sessions = 5;
      inbox = 16;
      outbox = 16;
      access = anyone;
      rules = record { callers = callers; reserved = 0; sessions_per_address = None; takeover_ms = None; resend_percent = None };
    }

abbrev from : ℕ → List ℕ → Datagram
from port bytes = record { peer = record { ip = 0 ∷ 0 ∷ 0 ∷ 0 ∷ 0 ∷ 0 ∷ 0 ∷ 0 ∷ 0 ∷ 0 ∷ 255 ∷ 255 ∷ 127 ∷ 0 ∷ 0 ∷ 1 ∷ []; port = port }; bytes = bytes }

-- a conclusion: the caller's socket ID, its initial number and its flags, and its Stream ID
abbrev conclusion : (caller initial flags : ℕ) → List ℕ → List ℕ
conclusion caller initial flags stream_id =
    words (0x80000000 ∷ 0 ∷ 0 ∷ 0 ∷ 5 ∷ 5 ∷ initial ∷ 0x5dc ∷ 0x2000 ∷ 0xffffffff ∷ caller ∷ 0x12345678 ∷ 0 ∷ 0 ∷ 0 ∷ 0 ∷ 0x10003 ∷ 0x10500
    ∷ flags ∷ 0x780078 ∷ stream_id)

-- #!::r=studio,m=publish and #!::r=studio
abbrev publisher_opens : Item
publisher_opens =
    Received (from 5000 (conclusion 1 5 0xbf (0x50006 ∷ 0x3a3a2123 ∷ 0x74733d72 ∷ 0x6f696475 ∷ 0x703d6d2c ∷ 0x696c6275 ∷ 0x6873 ∷ []))) 800_000

abbrev subscriber_opens : (flags : ℕ) → Item
subscriber_opens flags = Received (from 5001 (conclusion 2 0x64 flags (0x50003 ∷ 0x3a3a2123 ∷ 0x74733d72 ∷ 0x6f696475 ∷ []))) 1_000_000

abbrev data_arrives : (moment number stamp : ℕ) → Item
data_arrives moment number stamp = Received (from 5000 (words (number ∷ 0xe0000001 ∷ stamp ∷ 0x100000 ∷ []) ++ 0x68 ∷ 0x69 ∷ [])) moment

-- a subscriber with these flags acknowledged the number 100, with a round-trip time of 1 ms and a variance of 0.5 ms;
-- 101 to 103 are sent at 1100000
abbrev in_flight : (flags : ℕ) → List Item
in_flight flags =
    Tick 1_100_000 ∷ data_arrives 1_040_000 8 0x2bf20 ∷ data_arrives 1_040_000 7 0x2bf20 ∷ data_arrives 1_040_000 6 0x2bf20
    ∷ Received (from 5001 (words (0x80020000 ∷ 1 ∷ 0 ∷ 0x100001 ∷ 0x65 ∷ 0x3e8 ∷ 0x1f4 ∷ 0x2000 ∷ 0 ∷ 0 ∷ 0 ∷ []))) 1_030_000 ∷ Tick 1_020_000
    ∷ data_arrives 1_010_000 5 0x186a0 ∷ subscriber_opens flags ∷ publisher_opens ∷ []

-- a Full ACK to the publisher
abbrev full_ack : (number stamp : ℕ) → Datagram
full_ack number stamp = from 5000 (words (0x80020000 ∷ number ∷ stamp ∷ 1 ∷ 9 ∷ 0x186a0 ∷ 0xc350 ∷ 0x400 ∷ 0 ∷ 0 ∷ 0 ∷ []))

-- 101 to 103 again
abbrev all_again : List Datagram
all_again =
    from 5001 (words (0x65 ∷ 0xe4000002 ∷ 0x186a0 ∷ 2 ∷ []) ++ 0x68 ∷ 0x69 ∷ [])
    ∷ from 5001 (words (0x66 ∷ 0xe4000003 ∷ 0x186a0 ∷ 2 ∷ []) ++ 0x68 ∷ 0x69 ∷ [])
    ∷ from 5001 (words (0x67 ∷ 0xe4000004 ∷ 0x186a0 ∷ 2 ∷ []) ++ 0x68 ∷ 0x69 ∷ []) ∷ []

-- on a route for libsrt callers, to one that sends periodic NAKs: once, after half of the delay
waits_for_half_of_the_delay : reply (studio Libsrt) 0 (Tick 1_159_999 ∷ in_flight 0xbf) ≡ full_ack 6 0x57e3f ∷ []
unfolding handshake_in blocks_in with_first with_block answer_text ask_in list_in with_part conclusion_in conclusion_of is_utf8 chars encode
    in_window lift confirmed_by is_full_due acks_at naks reports deliveries says body_bytes
waits_for_half_of_the_delay = refl

after_half_of_the_delay : reply (studio Libsrt) 0 (Tick 1_160_000 ∷ in_flight 0xbf) ≡ full_ack 6 0x57e40 ∷ all_again
unfolding handshake_in blocks_in with_first with_block answer_text ask_in list_in with_part conclusion_in conclusion_of is_utf8 chars encode
    in_window lift confirmed_by is_full_due acks_at naks reports deliveries says body_bytes
after_half_of_the_delay = refl

not_a_second_time : reply (studio Libsrt) 0 (Tick 1_599_999 ∷ Tick 1_160_000 ∷ in_flight 0xbf) ≡ full_ack 7 0xc34ff ∷ []
unfolding handshake_in blocks_in with_first with_block answer_text ask_in list_in with_part conclusion_in conclusion_of is_utf8 chars encode
    in_window lift confirmed_by is_full_due acks_at naks reports deliveries says body_bytes
not_a_second_time = refl

-- to one that sends none, and on a route whose callers follow the draft: after the timeout
without_the_flag : reply (studio Libsrt) 0 (Tick 1_123_000 ∷ in_flight 0xaf) ≡ full_ack 6 0x4edb8 ∷ all_again
unfolding handshake_in blocks_in with_first with_block answer_text ask_in list_in with_part conclusion_in conclusion_of is_utf8 chars encode
    in_window lift confirmed_by is_full_due acks_at naks reports deliveries says body_bytes
without_the_flag = refl

by_the_draft : reply (studio Draft) 0 (Tick 1_123_000 ∷ in_flight 0xbf) ≡ full_ack 6 0x4edb8 ∷ all_again
unfolding handshake_in blocks_in with_first with_block answer_text ask_in list_in with_part conclusion_in conclusion_of is_utf8 chars encode
    in_window lift confirmed_by is_full_due acks_at naks reports deliveries says body_bytes
by_the_draft = refl
