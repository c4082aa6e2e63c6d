-- Computed examples of what a session delivers and sends.
use Rattle.std.proofs.Common.{◌≡◌, ℕ, zero, suc, ◌+◌, true, false, Option, None, Some, List, [], ◌∷◌, length, ◌++◌, ℤ, pos, refl}
use Rattle.std.specs.Prelude.{map, option_map}
use Rattle.srt_types.specs.declared.shared.Mode.TheVariants.{Live, Buffer}
use Rattle.srt_types.specs.declared.shared.Callers.{Callers}
use Rattle.srt_types.specs.declared.shared.Callers.TheVariants.{Draft, Libsrt}
use Rattle.srt_types.specs.Window.{in_window}
use Rattle.srt_types.specs.Lift.{lift, stamped_from}
use Rattle.srt_packet.specs.Grammar.{Body, Data, KeepAlive, AckAck, DropRequest}
use Rattle.srt_recvbuf.specs.Receiving.{Arrival, gaps, is_dropped}
use Rattle.srt_pub.specs.declared.ends.PubEnd.{PubEnd}
use Rattle.srt_pub.specs.declared.ends.PubEnd.TheVariants as ends
use Rattle.srt_pub.specs.Heard.{heard_from}
use Rattle.srt_pub.specs.Publishing.{Terms, Publishing, opened, took, deliveries, delivered, reports, reported, Full, latest_confirmed}
use Rattle.srt_pub.specs.Publishing.{round_trip, confirmed_by, is_full_due, acks_at, naks, correction_of, clock_of}
use Rattle.srt_timing.specs.Clock.{sampled}
use Rattle.srt_timing.specs.declared.drift_windows.Clock.{Clock}
use Rattle.srt_pub.specs.Publishing.{shorter, longest_up_to_median, median_interval, packet_rate}
use Rattle.srt_pub.specs.Calls.{ended}
use Rattle.srt_pub.specs.Says.{says}

-- an event of a session that was opened with the timestamp 0: its time since the opening, the packet that arrived, and
-- the subscribers' least room
record Event : Type 0 where
  time : ℕ
  stamp : ℕ
  body : Body
  room : Option ℕ

abbrev heard : Terms → (initial : ℕ) → Event → Publishing → Publishing
heard terms initial e p = took terms e.time (stamped_from 0 e.stamp) (heard_from initial e.body) p

abbrev before_reports : Terms → (initial : ℕ) → Event → Publishing → Publishing
before_reports terms initial e p = delivered terms e.time e.room (heard terms initial e p)

-- the session after events, the newest first. Below it: the payloads and the datagrams of the newest event
abbrev after : Terms → (initial : ℕ) → List Event → Publishing
after terms initial [] = opened
after terms initial (e ∷ events) = reported terms e.time (before_reports terms initial e (after terms initial events))

abbrev delivers : Terms → (initial : ℕ) → List Event → List (List ℕ)
delivers terms initial [] = []
delivers terms initial (e ∷ events) =
    map (λ (a : Arrival). a.payload) (deliveries terms.mode terms e.time e.room (heard terms initial e (after terms initial events)))

abbrev sends : Terms → (initial : ℕ) → List Event → List (List ℕ)
sends terms initial [] = []
sends terms initial (e ∷ events) = map (says 1 initial e.time) (reports terms e.time (before_reports terms initial e (after terms initial events)))

abbrev live : (width delay : ℕ) → Terms
live width delay = record { mode = Live; width = width; delay = delay; callers = Draft }

abbrev in_buffer : (width : ℕ) → Terms
in_buffer width = record { mode = Buffer; width = width; delay = 0; callers = Draft }

abbrev still : (time : ℕ) → Event
still time = record { time = time; stamp = 0; body = KeepAlive; room = None }

abbrev comes : (time stamp number byte : ℕ) → Event
comes time stamp number byte = record { time = time; stamp = stamp; body = Data number 0 (byte ∷ []); room = None }

abbrev confirms : (time number : ℕ) → Event
confirms time number = record { time = time; stamp = 0; body = AckAck number; room = None }

abbrev gives_up : (time first last : ℕ) → Event
gives_up time first last = record { time = time; stamp = 0; body = DropRequest 0 first last; room = None }

-- numbers from `first` on arrive at 9 ms
abbrev many : (first count : ℕ) → List Event
many first zero = []
many first (suc n) = comes 9_000 9_000 (first + n) 0x61 ∷ many first n

-- a gap, an acknowledgement and its confirmation
abbrev two : List Event
two = comes 1_000 1_000 9 0x61 ∷ comes 1_000 1_000 7 0x61 ∷ []

no_gap : sends (live 1024 1_000_000) 7 (comes 1_000 1_000 7 0x61 ∷ []) ≡ []
unfolding in_window lift confirmed_by is_full_due acks_at naks reports deliveries says
no_gap = refl

gap : sends (live 1024 1_000_000) 7 two ≡ (0x80 ∷ 3 ∷ 0 ∷ 0 ∷ 0 ∷ 0 ∷ 0 ∷ 0 ∷ 0 ∷ 0 ∷ 3 ∷ 0xe8 ∷ 0 ∷ 0 ∷ 0 ∷ 1 ∷ 0 ∷ 0 ∷ 0 ∷ 8 ∷ []) ∷ []
unfolding in_window lift confirmed_by is_full_due acks_at naks reports deliveries says
gap = refl

acknowledged : sends (live 1024 1_000_000) 7 (still 150_000 ∷ two)
    ≡ (0x80 ∷ 2 ∷ 0 ∷ 0 ∷ 0 ∷ 0 ∷ 0 ∷ 1 ∷ 0 ∷ 2 ∷ 0x49 ∷ 0xf0 ∷ 0 ∷ 0 ∷ 0 ∷ 1 ∷ 0 ∷ 0 ∷ 0 ∷ 8 ∷ 0 ∷ 1 ∷ 0x86 ∷ 0xa0 ∷ 0 ∷ 0 ∷ 0xc3 ∷ 0x50
    ∷ 0 ∷ 0 ∷ 3 ∷ 0xff ∷ 0 ∷ 0 ∷ 0 ∷ 0 ∷ 0 ∷ 0 ∷ 0 ∷ 0 ∷ 0 ∷ 0 ∷ 0 ∷ 0 ∷ [])
    ∷ (0x80 ∷ 3 ∷ 0 ∷ 0 ∷ 0 ∷ 0 ∷ 0 ∷ 0 ∷ 0 ∷ 2 ∷ 0x49 ∷ 0xf0 ∷ 0 ∷ 0 ∷ 0 ∷ 1 ∷ 0 ∷ 0 ∷ 0 ∷ 8 ∷ []) ∷ []
unfolding in_window lift confirmed_by is_full_due acks_at naks reports deliveries says
acknowledged = refl

abbrev confirmed : List Event
confirmed = confirms 170_000 1 ∷ still 150_000 ∷ two

confirmation : (sends (live 1024 1_000_000) 7 confirmed ≡ []) ×
    (round_trip Draft (after (live 1024 1_000_000) 7 confirmed).notes ≡ record { time = 90_000; variance = 57_500 })
unfolding in_window lift confirmed_by is_full_due acks_at naks reports deliveries says
confirmation = (refl, refl)

-- a second confirmation changes nothing
confirmation_again : (after (live 1024 1_000_000) 7 (confirms 180_000 1 ∷ confirmed)).notes ≡ (after (live 1024 1_000_000) 7 confirmed).notes
unfolding in_window lift confirmed_by is_full_due acks_at naks reports deliveries says
confirmation_again = refl

too_early : sends (live 1024 1_000_000) 7 (still 309_999 ∷ confirmed) ≡ []
unfolding in_window lift confirmed_by is_full_due acks_at naks reports deliveries says
too_early = refl

in_time : sends (live 1024 1_000_000) 7 (still 310_000 ∷ still 309_999 ∷ confirmed)
    ≡ (0x80 ∷ 3 ∷ 0 ∷ 0 ∷ 0 ∷ 0 ∷ 0 ∷ 0 ∷ 0 ∷ 4 ∷ 0xba ∷ 0xf0 ∷ 0 ∷ 0 ∷ 0 ∷ 1 ∷ 0 ∷ 0 ∷ 0 ∷ 8 ∷ []) ∷ []
unfolding in_window lift confirmed_by is_full_due acks_at naks reports deliveries says
in_time = refl

-- of two packets the later one is delivered when it is due, although a number between them is missing
abbrev waits : List Event
waits = comes 1_000 1_000 9 0x62 ∷ comes 1_000 500 7 0x61 ∷ []

lost : sends (live 1024 100_000) 7 waits ≡ (0x80 ∷ 3 ∷ 0 ∷ 0 ∷ 0 ∷ 0 ∷ 0 ∷ 0 ∷ 0 ∷ 0 ∷ 3 ∷ 0xe8 ∷ 0 ∷ 0 ∷ 0 ∷ 1 ∷ 0 ∷ 0 ∷ 0 ∷ 8 ∷ []) ∷ []
unfolding in_window lift confirmed_by is_full_due acks_at naks reports deliveries says
lost = refl

first_delivered : (delivers (live 1024 100_000) 7 (still 100_499 ∷ waits) ≡ []) × (delivers (live 1024 100_000) 7 (still 100_500 ∷ waits) ≡ (0x61 ∷ []) ∷ [])
unfolding in_window lift confirmed_by is_full_due acks_at naks reports deliveries says
first_delivered = (refl, refl)

both_delivered : delivers (live 1024 100_000) 7 (still 101_000 ∷ waits) ≡ (0x61 ∷ []) ∷ (0x62 ∷ []) ∷ []
unfolding in_window lift confirmed_by is_full_due acks_at naks reports deliveries says
both_delivered = refl

passed_the_gap : ((after (live 1024 100_000) 7 (still 101_000 ∷ waits)).receiving.front ≡ 3) ×
    (gaps 1024 (after (live 1024 100_000) 7 (still 101_000 ∷ waits)).receiving ≡ [])
unfolding in_window lift confirmed_by is_full_due acks_at naks reports deliveries says
passed_the_gap = (refl, refl)

-- a dropped number is delivered if it arrives
abbrev comes_late : List Event
comes_late = comes 3_000 900 8 0x63 ∷ gives_up 2_000 8 8 ∷ waits

given_up : (is_dropped 1024 (after (live 1024 100_000) 7 (gives_up 2_000 8 8 ∷ waits)).receiving 1 ≡ true) ×
    (is_dropped 1024 (after (live 1024 100_000) 7 comes_late).receiving 1 ≡ false)
unfolding in_window lift confirmed_by is_full_due acks_at naks reports deliveries says
given_up = (refl, refl)

late_delivered : delivers (live 1024 100_000) 7 (still 101_000 ∷ comes_late) ≡ (0x61 ∷ []) ∷ (0x63 ∷ []) ∷ (0x62 ∷ []) ∷ []
unfolding in_window lift confirmed_by is_full_due acks_at naks reports deliveries says
late_delivered = refl

-- after 64 packets a Light ACK
no_light_ack : sends (live 1024 120_000) 0 (many 0 63) ≡ []
unfolding in_window lift confirmed_by is_full_due acks_at naks reports deliveries says
no_light_ack = refl

light_ack : sends (live 1024 120_000) 0 (many 0 64) ≡ (0x80 ∷ 2 ∷ 0 ∷ 0 ∷ 0 ∷ 0 ∷ 0 ∷ 0 ∷ 0 ∷ 0 ∷ 0x23 ∷ 0x28 ∷ 0 ∷ 0 ∷ 0 ∷ 1 ∷ 0 ∷ 0 ∷ 0 ∷ 0x40 ∷ []) ∷ []
unfolding in_window lift confirmed_by is_full_due acks_at naks reports deliveries says
light_ack = refl

-- sequence numbers wrap
round_ack : sends (live 32 120_000) 0x7fff_ffff (still 10_000 ∷ comes 1_000 1_000 0 0x61 ∷ comes 1_000 1_000 0x7fff_ffff 0x61 ∷ [])
    ≡ (0x80 ∷ 2 ∷ 0 ∷ 0 ∷ 0 ∷ 0 ∷ 0 ∷ 1 ∷ 0 ∷ 0 ∷ 0x27 ∷ 0x10 ∷ 0 ∷ 0 ∷ 0 ∷ 1 ∷ 0 ∷ 0 ∷ 0 ∷ 1 ∷ 0 ∷ 1 ∷ 0x86 ∷ 0xa0 ∷ 0 ∷ 0 ∷ 0xc3 ∷ 0x50
    ∷ 0 ∷ 0 ∷ 0 ∷ 0x1e ∷ 0 ∷ 0 ∷ 0 ∷ 0 ∷ 0 ∷ 0 ∷ 0 ∷ 0 ∷ 0 ∷ 0 ∷ 0 ∷ 0 ∷ [])
    ∷ []
unfolding in_window lift confirmed_by is_full_due acks_at naks reports deliveries says
round_ack = refl

-- a number past an empty window ends the session
abbrev past : List Event → Event → Option PubEnd
past events e = ended (live 32 120_000) 0 e.body (after (live 32 120_000) 0 events)

window_lost : (past [] (comes 0 0 31 0x61) ≡ None) × (past [] (comes 0 0 32 0x61) ≡ Some ends.WindowLost) ×
    (past (comes 0 0 31 0x61 ∷ []) (comes 0 0 32 0x61) ≡ None)
unfolding in_window lift confirmed_by is_full_due acks_at naks reports deliveries says
window_lost = (refl, refl, refl)

past_ignored : (after (live 32 120_000) 0 (comes 0 0 32 0x61 ∷ comes 0 0 31 0x61 ∷ [])).receiving
    ≡ (after (live 32 120_000) 0 (comes 0 0 31 0x61 ∷ [])).receiving
unfolding in_window lift confirmed_by is_full_due acks_at naks reports deliveries says
past_ignored = refl

-- a window without a subscriber fills up
full_window : (delivers (in_buffer 32) 100 (still 10_000 ∷ many 100 32) ≡ []) ×
    (sends (in_buffer 32) 100 (still 10_000 ∷ many 100 32)
    ≡ (0x80 ∷ 2 ∷ 0 ∷ 0 ∷ 0 ∷ 0 ∷ 0 ∷ 1 ∷ 0 ∷ 0 ∷ 0x27 ∷ 0x10 ∷ 0 ∷ 0 ∷ 0 ∷ 1 ∷ 0 ∷ 0 ∷ 0 ∷ 0x84 ∷ 0 ∷ 1 ∷ 0x86 ∷ 0xa0 ∷ 0 ∷ 0 ∷ 0xc3 ∷ 0x50
    ∷ 0 ∷ 0 ∷ 0 ∷ 0 ∷ 0 ∷ 0 ∷ 0 ∷ 0 ∷ 0 ∷ 0 ∷ 0 ∷ 0 ∷ 0 ∷ 0 ∷ 0 ∷ 0 ∷ [])
    ∷ [])
unfolding in_window lift confirmed_by is_full_due acks_at naks reports deliveries says
full_window = (refl, refl)

-- a KEEPALIVE after a second
alive : (sends (in_buffer 32) 0 (still 999_999 ∷ []) ≡ []) ×
    (sends (in_buffer 32) 0 (still 1_000_000 ∷ still 999_999 ∷ [])
    ≡ (0x80 ∷ 1 ∷ 0 ∷ 0 ∷ 0 ∷ 0 ∷ 0 ∷ 0 ∷ 0 ∷ 0xf ∷ 0x42 ∷ 0x40 ∷ 0 ∷ 0 ∷ 0 ∷ 1 ∷ []) ∷ [])
unfolding in_window lift confirmed_by is_full_due acks_at naks reports deliveries says
alive = (refl, refl)

-- in buffer mode the window is never lost
window_stays : ended (in_buffer 32) 0 (comes 0 0 32 0x61).body (after (in_buffer 32) 0 []) ≡ None
unfolding in_window lift confirmed_by is_full_due acks_at naks reports deliveries says
window_stays = refl

-- in buffer mode an event delivers 64 payloads at most
abbrev takes : (time : ℕ) → Event
takes time = record { time = time; stamp = 0; body = KeepAlive; room = Some 1000 }

sixty_four : (length (delivers (in_buffer 128) 0 (takes 10_000 ∷ many 0 66)) ≡ 64) ×
    (length (delivers (in_buffer 128) 0 (takes 10_001 ∷ takes 10_000 ∷ many 0 66)) ≡ 2)
unfolding in_window lift confirmed_by is_full_due acks_at naks reports deliveries says
sixty_four = (refl, refl)

-- of two Full ACKs the later one is the latest confirmed, although the earlier one is confirmed after it
abbrev two_acked : List Event
two_acked = still 170_000 ∷ comes 160_000 1_000 8 0x63 ∷ still 150_000 ∷ two

last_confirmed : option_map (λ (f : Full). f.index)
    (latest_confirmed (after (live 1024 1_000_000) 7 (confirms 190_000 1 ∷ confirms 180_000 2 ∷ two_acked)).notes)
    ≡ Some 1
unfolding in_window lift confirmed_by is_full_due acks_at naks reports deliveries says
last_confirmed = refl

first_confirmed : option_map (λ (f : Full). f.index) (latest_confirmed (after (live 1024 1_000_000) 7 (confirms 190_000 1 ∷ two_acked)).notes) ≡ Some 0
unfolding in_window lift confirmed_by is_full_due acks_at naks reports deliveries says
first_confirmed = refl

abbrev then_after : (interval : ℕ) → List ℕ → List ℕ
then_after interval [] = []
then_after interval (time ∷ times) = (time + interval) ∷ time ∷ times

-- the times of packets after the first one, at these intervals, the newest first
abbrev times_after : (first : ℕ) → (intervals : List ℕ) → List ℕ
times_after first [] = first ∷ []
times_after first (interval ∷ earlier) = then_after interval (times_after first earlier)

abbrev twice : List ℕ → List ℕ
twice xs = xs ++ xs

-- the pauses between bursts have no effect
bursts : packet_rate (times_after 0 (twice (10_000 ∷ 100 ∷ 100 ∷ 100 ∷ 100 ∷ 100 ∷ 100 ∷ 100 ∷ []))) ≡ 10_000
unfolding shorter longest_up_to_median
bursts = refl

-- with eight short intervals and eight long ones the ninth by length is a long one; with nine short ones it is a short
-- one
as_many_short : packet_rate (times_after 0 (twice (twice (twice (400 ∷ 50 ∷ []))))) ≡ 2_500
unfolding shorter longest_up_to_median
as_many_short = refl

more_short : packet_rate (times_after 0 (50 ∷ 50 ∷ (twice (twice (400 ∷ 50 ∷ [])) ++ twice (400 ∷ 50 ∷ []) ++ (400 ∷ 50 ∷ 400 ∷ 400 ∷ []))))
    ≡ 20_000
unfolding shorter longest_up_to_median
more_short = refl

-- sixteen different intervals, of 100 to 1600 in no order: the ninth is 900
abbrev mixed : List ℕ
mixed = 1_600 ∷ 300 ∷ 900 ∷ 100 ∷ 1_200 ∷ 800 ∷ 500 ∷ 1_100 ∷ 200 ∷ 1_400 ∷ 700 ∷ 1_000 ∷ 400 ∷ 1_500 ∷ 600 ∷ 1_300 ∷ []

different : median_interval (times_after 7 mixed) ≡ 900
unfolding shorter longest_up_to_median
different = refl

-- with nine packets the median interval is a missing one, and the minimum rate is reported; with ten it is their
-- longest
too_few : packet_rate (times_after 0 (1 ∷ 1 ∷ 1 ∷ 1 ∷ 1 ∷ 1 ∷ 1 ∷ 1 ∷ [])) ≡ 1_000
unfolding shorter longest_up_to_median
too_few = refl

just_enough : packet_rate (times_after 0 (40 ∷ 40 ∷ 40 ∷ 50 ∷ 40 ∷ 40 ∷ 40 ∷ 40 ∷ 40 ∷ [])) ≡ 20_000
unfolding shorter longest_up_to_median
just_enough = refl

-- a live session follows the clock of a sender that uses libsrt: an ACK is sent with each data packet, and the second
-- window moves the correction
abbrev answers_at : (time stamp number : ℕ) → Event
answers_at time stamp number = record { time = time; stamp = stamp; body = AckAck number; room = None }

abbrev first_second : List Event
first_second =
    answers_at 2_010_000 5 3 ∷ answers_at 2_009_999 2_004_599 4 ∷ comes 2_000_999 2_000_999 3 0x61 ∷ comes 1_980_000 1_980_000 2 0x61
    ∷ answers_at 1_508_000 1_503_250 2 ∷ comes 1_500_000 1_500_000 1 0x61 ∷ answers_at 1_010_000 1_004_500 1 ∷ comes 1_000_000 1_000_000 0 0x61 ∷ []

abbrev second_second : List Event
second_second =
    answers_at 3_110_000 3_103_300 6 ∷ comes 3_100_000 3_100_000 5 0x61 ∷ answers_at 2_110_000 2_103_750 5 ∷ comes 2_100_000 2_100_000 4 0x61
    ∷ first_second

abbrev following : Callers → Terms
following callers = record { mode = Live; width = 32; delay = 120_000; callers = callers }

abbrev corrected : Callers → List Event → ℤ
corrected callers events = correction_of (following callers) (after (following callers) 0 events).notes

referenced : option_map (λ (c : Clock). c.reference) (clock_of (following Libsrt) (after (following Libsrt) 0 first_second).notes) ≡ Some (Some (pos 750))
unfolding in_window lift confirmed_by is_full_due acks_at naks reports deliveries sampled
referenced = refl

corrections : (corrected Libsrt first_second ≡ pos 0) × (corrected Libsrt second_second ≡ pos 950) × (corrected Draft second_second ≡ pos 0)
unfolding in_window lift confirmed_by is_full_due acks_at naks reports deliveries sampled
corrections = (refl, refl, refl)

-- a later packet is due by that much later
due_corrected : (delivers (following Libsrt) 0 (still 5_120_949 ∷ comes 3_300_000 5_000_000 6 0x62 ∷ second_second) ≡ []) ×
    (delivers (following Libsrt) 0 (still 5_120_950 ∷ comes 3_300_000 5_000_000 6 0x62 ∷ second_second) ≡ (0x62 ∷ []) ∷ []) ×
    (delivers (following Draft) 0 (still 5_120_000 ∷ comes 3_300_000 5_000_000 6 0x62 ∷ second_second) ≡ (0x62 ∷ []) ∷ [])
unfolding in_window lift confirmed_by is_full_due acks_at naks reports deliveries sampled
due_corrected = (refl, refl, refl)
