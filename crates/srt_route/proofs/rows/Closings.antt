-- Replies of a route that is closed, computed from bytes to bytes.
use Rattle.std.proofs.Common.{◌≡◌, ℕ, false, Bool, List, [], ◌∷◌, map, refl}
use Rattle.srt_types.specs.declared.shared.Mode.TheVariants.{Live}
use Rattle.srt_types.specs.Access.{anyone}
use Rattle.srt_types.specs.Entries.{draft_rules}
use Rattle.srt_types.specs.Terms.{Terms}
use Rattle.srt_types.specs.Items.{Item, Received, Tick, Close, Datagram}
use Rattle.srt_types.specs.Words.{words}
use Rattle.srt_hs.specs.Reading.{handshake_in, blocks_in, with_first, with_block}
use Rattle.srt_hs.specs.Text.{answer_text}
use Rattle.srt_streamid.specs.Reading.{ask_in, list_in, with_part}
use Rattle.std.specs.Str.{is_utf8, chars}
use lib.Utf8.{encode}
use Rattle.srt_types.specs.Window.{in_window}
use Rattle.srt_pub.specs.Publishing.{confirmed_by, is_full_due, acks_at, naks, reports, deliveries}
use Rattle.srt_pub.specs.Says.{says, body_bytes}
use Rattle.srt_types.specs.Lift.{lift}
use Rattle.srt_route.specs.Conclusions.{conclusion_in, conclusion_of}
use Rattle.srt_route.specs.Sessions.{Session}
use Rattle.srt_route.specs.Route.{reply, after}

abbrev studio : Terms
studio = record { name = []; mode = Live; latency_ms = 120; buffer = 1024; sessions = 5; inbox = 16; outbox = 16; access = anyone; rules = draft_rules }

abbrev from : ℕ → List ℕ → Datagram
from port bytes = record { peer = record { ip = 0 ∷ 0 ∷ 0 ∷ 0 ∷ 0 ∷ 0 ∷ 0 ∷ 0 ∷ 0 ∷ 0 ∷ 255 ∷ 255 ∷ 127 ∷ 0 ∷ 0 ∷ 1 ∷ []; port = port }; bytes = bytes }

-- a conclusion: the caller's socket ID and its initial number, and its Stream ID
abbrev conclusion : (caller initial : ℕ) → List ℕ → List ℕ
conclusion caller initial stream_id =
    words (0x80000000 ∷ 0 ∷ 0 ∷ 0 ∷ 5 ∷ 5 ∷ initial ∷ 0x5dc ∷ 0x2000 ∷ 0xffffffff ∷ caller ∷ 0x12345678 ∷ 0 ∷ 0 ∷ 0 ∷ 0 ∷ 0x10003 ∷ 0x10500
    ∷ 0xbf ∷ 0x780078 ∷ stream_id)

-- #!::r=studio,m=publish and #!::r=studio
abbrev publisher_opens : (moment : ℕ) → Item
publisher_opens moment = Received (from 5000 (conclusion 1 5 (0x50006 ∷ 0x3a3a2123 ∷ 0x74733d72 ∷ 0x6f696475 ∷ 0x703d6d2c ∷ 0x696c6275 ∷ 0x6873 ∷ []))) moment

abbrev subscriber_opens : (moment : ℕ) → Item
subscriber_opens moment = Received (from 5001 (conclusion 2 9 (0x50003 ∷ 0x3a3a2123 ∷ 0x74733d72 ∷ 0x6f696475 ∷ []))) moment

-- 500 ms after a publisher's session opened, the route is closed: the session ends, and its peer is sent a SHUTDOWN
abbrev is_closed : List Item
is_closed = Close 1_500_000 ∷ publisher_opens 1_000_000 ∷ []

abbrev are_open : List Item → List Bool
are_open items = map (λ (s : Session). s.is_open) (after studio 0 items).sessions

publisher_is_notified : (reply studio 0 is_closed ≡ from 5000 (words (0x80050000 ∷ 0 ∷ 0x7a120 ∷ 1 ∷ [])) ∷ []) × (are_open is_closed ≡ false ∷ [])
unfolding handshake_in blocks_in with_first with_block answer_text ask_in list_in with_part conclusion_in conclusion_of is_utf8 chars encode
    in_window lift confirmed_by is_full_due acks_at naks reports deliveries says body_bytes
publisher_is_notified = (refl, refl)

-- afterwards only the clock advances: no conclusion is answered, no SHUTDOWN is sent again, nothing opens
abbrev later : List Item
later = Close 1_600_000 ∷ subscriber_opens 1_580_000 ∷ publisher_opens 1_570_000 ∷ Tick 1_560_000 ∷ is_closed

nothing_more : (reply studio 0 later ≡ []) × (reply studio 0 (subscriber_opens 1_580_000 ∷ publisher_opens 1_570_000 ∷ is_closed) ≡ []) ×
    (reply studio 0 (publisher_opens 1_570_000 ∷ is_closed) ≡ []) × (are_open later ≡ false ∷ []) × ((after studio 0 later).clock ≡ 1_600_000)
unfolding handshake_in blocks_in with_first with_block answer_text ask_in list_in with_part conclusion_in conclusion_of is_utf8 chars encode
    in_window lift confirmed_by is_full_due acks_at naks reports deliveries says body_bytes
nothing_more = (refl, refl, refl, refl, refl)

-- a Close that is older than the clock closes at the clock
at_the_clock : reply studio 0 (Close 0 ∷ Tick 1_500_000 ∷ publisher_opens 1_000_000 ∷ []) ≡ from 5000 (words (0x80050000 ∷ 0 ∷ 0x7a120 ∷ 1 ∷ [])) ∷ []
unfolding handshake_in blocks_in with_first with_block answer_text ask_in list_in with_part conclusion_in conclusion_of is_utf8 chars encode
    in_window lift confirmed_by is_full_due acks_at naks reports deliveries says body_bytes
at_the_clock = refl

-- a session that is idle at the clock of the Close has ended before it, and is sent no SHUTDOWN
idle_one_is_not_reported : (reply studio 0 (Close 6_000_000 ∷ publisher_opens 1_000_000 ∷ []) ≡ []) ×
    (reply studio 0 (Close 5_999_999 ∷ publisher_opens 1_000_000 ∷ []) ≡ from 5000 (words (0x80050000 ∷ 0 ∷ 0x4c4b3f ∷ 1 ∷ [])) ∷ [])
unfolding handshake_in blocks_in with_first with_block answer_text ask_in list_in with_part conclusion_in conclusion_of is_utf8 chars encode
    in_window lift confirmed_by is_full_due acks_at naks reports deliveries says body_bytes
idle_one_is_not_reported = (refl, refl)

-- ascending slots: the subscriber, which opened first, has slot 0
slots_upwards : reply studio 0 (Close 1_500_000 ∷ publisher_opens 1_400_000 ∷ subscriber_opens 1_000_000 ∷ [])
    ≡ from 5001 (words (0x80050000 ∷ 0 ∷ 0x7a120 ∷ 2 ∷ [])) ∷ from 5000 (words (0x80050000 ∷ 0 ∷ 0x186a0 ∷ 1 ∷ [])) ∷ []
unfolding handshake_in blocks_in with_first with_block answer_text ask_in list_in with_part conclusion_in conclusion_of is_utf8 chars encode
    in_window lift confirmed_by is_full_due acks_at naks reports deliveries says body_bytes
slots_upwards = refl

-- a second Close closes nothing more
second_close : reply studio 0 (Close 1_600_000 ∷ is_closed) ≡ []
unfolding handshake_in blocks_in with_first with_block answer_text ask_in list_in with_part conclusion_in conclusion_of is_utf8 chars encode
    in_window lift confirmed_by is_full_due acks_at naks reports deliveries says body_bytes
second_close = refl
