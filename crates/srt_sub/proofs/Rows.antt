-- Computed examples of what a session sends, as bytes.
use Rattle.std.proofs.Common.{◌≡◌, ℕ, Bool, true, false, None, List, [], ◌∷◌, ◌++◌, refl}
use Rattle.std.specs.Prelude.{map}
use Rattle.srt_types.specs.declared.shared.Mode.TheVariants.{Live}
use Rattle.srt_types.specs.Window.{in_window}
use Rattle.srt_packet.specs.Grammar.{Body, Ack, Nak, KeepAlive}
use Rattle.srt_sendbuf.specs.Sending.{front}
use Rattle.srt_sub.specs.Heard.{heard_from}
use Rattle.srt_sub.specs.Subscribing.{Terms, Subscribing, opened, expired, took, answers, fed_all, reports, reported}
use Rattle.srt_sub.specs.Says.{says}
use Rattle.srt_sub.specs.declared.resend_all.Resending.{Resending}
use Rattle.srt_sub.specs.declared.resend_all.Resending.TheVariants.{AtEachTimeout, Once, BackingOff}

-- an event: its time since the opening, the packet that was received, the payloads that are fed, and whether a packet
-- from the caller was received less than a second ago
record Event : Type 0 where
  time : ℕ
  body : Body
  payloads : List (List ℕ)
  recent : Bool

abbrev before_reports : Terms → (initial : ℕ) → Event → Subscribing → Subscribing
before_reports terms initial e s = fed_all terms e.time e.payloads (took e.time (heard_from initial e.body) (expired terms e.time s))

-- the session after events, the newest first. Below it: the datagrams of the newest event
abbrev after : Terms → (initial : ℕ) → List Event → Subscribing
after terms initial [] = opened
after terms initial (e ∷ events) = reported terms e.time e.recent (before_reports terms initial e (after terms initial events))

abbrev sends : Terms → (initial caller : ℕ) → List Event → List (List ℕ)
sends terms initial caller [] = []
sends terms initial caller (e ∷ events) =
    map (says caller initial e.time)
    (answers (heard_from initial e.body) ++ reports terms e.time e.recent (before_reports terms initial e (after terms initial events)))

abbrev live : (delay : ℕ) → Terms
live delay = record { mode = Live; width = 1024; delay = delay; mtu = 1500; window = 8192; resend_percent = None; resending = AtEachTimeout }

abbrev still : (time : ℕ) → Event
still time = record { time = time; body = KeepAlive; payloads = []; recent = true }

abbrev feeds : (time : ℕ) → Event
feeds time = record { time = time; body = KeepAlive; payloads = (0x68 ∷ 0x69 ∷ []) ∷ []; recent = true }

abbrev asks : (time : ℕ) → Event
asks time = record { time = time; body = Nak (0 ∷ 0 ∷ 0 ∷ 9 ∷ []); payloads = []; recent = true }

-- a packet, and its resend
fed_packet : sends (live 120_000) 9 2 (feeds 1_000_000 ∷ [])
    ≡ (0 ∷ 0 ∷ 0 ∷ 9 ∷ 0xe0 ∷ 0 ∷ 0 ∷ 1 ∷ 0 ∷ 0xf ∷ 0x42 ∷ 0x40 ∷ 0 ∷ 0 ∷ 0 ∷ 2 ∷ 0x68 ∷ 0x69 ∷ []) ∷ []
unfolding in_window
fed_packet = refl

resent_packet : sends (live 120_000) 9 2 (asks 2_000_000 ∷ feeds 1_000_000 ∷ [])
    ≡ (0 ∷ 0 ∷ 0 ∷ 9 ∷ 0xe4 ∷ 0 ∷ 0 ∷ 1 ∷ 0 ∷ 0xf ∷ 0x42 ∷ 0x40 ∷ 0 ∷ 0 ∷ 0 ∷ 2 ∷ 0x68 ∷ 0x69 ∷ []) ∷ []
unfolding in_window
resent_packet = refl

-- a microsecond later it has expired
gone_packet : sends (live 120_000) 9 2 (asks 2_000_001 ∷ asks 2_000_000 ∷ feeds 1_000_000 ∷ [])
    ≡ (0x80 ∷ 7 ∷ 0 ∷ 0 ∷ 0 ∷ 0 ∷ 0 ∷ 1 ∷ 0 ∷ 0x1e ∷ 0x84 ∷ 0x81 ∷ 0 ∷ 0 ∷ 0 ∷ 2 ∷ 0 ∷ 0 ∷ 0 ∷ 9 ∷ 0 ∷ 0 ∷ 0 ∷ 9 ∷ []) ∷ []
unfolding in_window
gone_packet = refl

-- the last time at which it is stored and the first at which it has expired, with a delay of 2 s
kept_then_gone : (front (after (live 2_000_000) 9 (still 3_500_000 ∷ feeds 1_000_000 ∷ [])).sending ≡ 0) ×
    (front (after (live 2_000_000) 9 (still 3_500_001 ∷ feeds 1_000_000 ∷ [])).sending ≡ 1)
unfolding in_window
kept_then_gone = (refl, refl)

-- then it is given up, and counted once
given_up_once : ((after (live 2_000_000) 9 (still 3_500_000 ∷ feeds 1_000_000 ∷ [])).given_up ≡ 0) ×
    ((after (live 2_000_000) 9 (still 3_500_002 ∷ still 3_500_001 ∷ feeds 1_000_000 ∷ [])).given_up ≡ 1)
unfolding in_window
given_up_once = (refl, refl)

abbrev full_ack : (time mark number : ℕ) → Event
full_ack time mark number =
    record {
      time = time;
      body = Ack mark
          (0 ∷ 0 ∷ 0 ∷ number ∷ 0 ∷ 0 ∷ 0x4e ∷ 0x20 ∷ 0 ∷ 0 ∷ 0x27 ∷ 0x10 ∷ 0 ∷ 0 ∷ 0 ∷ 0x10 ∷ 0 ∷ 0 ∷ 0 ∷ 0 ∷ 0 ∷ 0 ∷ 0 ∷ 0 ∷ 0 ∷ 0 ∷ 0 ∷ 0 ∷ []);
      payloads = [];
      recent = true;
    }

abbrev acknowledged : List Event
acknowledged = full_ack 1_020_000 1 10 ∷ feeds 1_000_000 ∷ []

-- Full ACKs are answered, even if their number is outside the range that an ACK may have and they change nothing
answered : sends (live 120_000) 9 2 acknowledged ≡ (0x80 ∷ 6 ∷ 0 ∷ 0 ∷ 0 ∷ 0 ∷ 0 ∷ 1 ∷ 0 ∷ 0xf ∷ 0x90 ∷ 0x60 ∷ 0 ∷ 0 ∷ 0 ∷ 2 ∷ []) ∷ []
unfolding in_window
answered = refl

abbrev answered_twice : List Event
answered_twice = full_ack 1_020_000 2 12 ∷ acknowledged

outside : sends (live 120_000) 9 2 answered_twice ≡ (0x80 ∷ 6 ∷ 0 ∷ 0 ∷ 0 ∷ 0 ∷ 0 ∷ 2 ∷ 0 ∷ 0xf ∷ 0x90 ∷ 0x60 ∷ 0 ∷ 0 ∷ 0 ∷ 2 ∷ []) ∷ []
unfolding in_window
outside = refl

abbrev second : List Event
second = feeds 1_030_000 ∷ answered_twice

second_packet : sends (live 120_000) 9 2 second ≡ (0 ∷ 0 ∷ 0 ∷ 10 ∷ 0xe0 ∷ 0 ∷ 0 ∷ 2 ∷ 0 ∷ 0xf ∷ 0xb7 ∷ 0x70 ∷ 0 ∷ 0 ∷ 0 ∷ 2 ∷ 0x68 ∷ 0x69 ∷ []) ∷ []
unfolding in_window
second_packet = refl

-- the round-trip time in an ACK determines when all packets are sent again
too_early : sends (live 120_000) 9 2 (still 1_109_999 ∷ second) ≡ []
unfolding in_window
too_early = refl

in_time : sends (live 120_000) 9 2 (still 1_110_000 ∷ still 1_109_999 ∷ second)
    ≡ (0 ∷ 0 ∷ 0 ∷ 10 ∷ 0xe4 ∷ 0 ∷ 0 ∷ 2 ∷ 0 ∷ 0xf ∷ 0xb7 ∷ 0x70 ∷ 0 ∷ 0 ∷ 0 ∷ 2 ∷ 0x68 ∷ 0x69 ∷ []) ∷ []
unfolding in_window
in_time = refl

-- the same without any ACK
not_yet : sends (live 120_000) 9 2 (still 319_999 ∷ feeds 0 ∷ []) ≡ []
unfolding in_window
not_yet = refl

all_again : sends (live 120_000) 9 2 (still 320_000 ∷ still 319_999 ∷ feeds 0 ∷ [])
    ≡ (0 ∷ 0 ∷ 0 ∷ 9 ∷ 0xe4 ∷ 0 ∷ 0 ∷ 1 ∷ 0 ∷ 0 ∷ 0 ∷ 0 ∷ 0 ∷ 0 ∷ 0 ∷ 2 ∷ 0x68 ∷ 0x69 ∷ []) ∷ []
unfolding in_window
all_again = refl

-- a KEEPALIVE after a second
alive : sends (live 120_000) 9 2 (still 1_000_000 ∷ still 999_999 ∷ []) ≡ (0x80 ∷ 1 ∷ 0 ∷ 0 ∷ 0 ∷ 0 ∷ 0 ∷ 0 ∷ 0 ∷ 0xf ∷ 0x42 ∷ 0x40 ∷ 0 ∷ 0 ∷ 0 ∷ 2 ∷ []) ∷ []
unfolding in_window
alive = refl

-- a loss list of 2^30 numbers requests it, and a longer one is invalid
abbrev asks_many : (last : ℕ) → Event
asks_many last = record { time = 1_100_000; body = Nak (0x80 ∷ 0 ∷ 0 ∷ 9 ∷ 0x40 ∷ 0 ∷ 0 ∷ last ∷ []); payloads = []; recent = true }

many_requested : sends (live 120_000) 9 2 (asks_many 8 ∷ feeds 1_000_000 ∷ [])
    ≡ (0 ∷ 0 ∷ 0 ∷ 9 ∷ 0xe4 ∷ 0 ∷ 0 ∷ 1 ∷ 0 ∷ 0xf ∷ 0x42 ∷ 0x40 ∷ 0 ∷ 0 ∷ 0 ∷ 2 ∷ 0x68 ∷ 0x69 ∷ []) ∷ []
unfolding in_window
many_requested = refl

too_many_requested : sends (live 120_000) 9 2 (asks_many 9 ∷ feeds 1_000_000 ∷ []) ≡ []
unfolding in_window
too_many_requested = refl

-- an ACK that acknowledges more delays the resending of all, even if the numbers that it acknowledges have already
-- expired
abbrev gone_first : List Event
gone_first = still 2_000_001 ∷ feeds 1_900_000 ∷ feeds 1_000_000 ∷ []

abbrev light_ack : (time number : ℕ) → Event
light_ack time number = record { time = time; body = Ack 0 (0 ∷ 0 ∷ 0 ∷ number ∷ []); payloads = []; recent = true }

abbrev second_again : List (List ℕ)
second_again = (0 ∷ 0 ∷ 0 ∷ 10 ∷ 0xe4 ∷ 0 ∷ 0 ∷ 2 ∷ 0 ∷ 0x1c ∷ 0xfd ∷ 0xe0 ∷ 0 ∷ 0 ∷ 0 ∷ 2 ∷ 0x68 ∷ 0x69 ∷ []) ∷ []

not_put_off : (sends (live 120_000) 9 2 (still 2_219_999 ∷ gone_first) ≡ []) × (sends (live 120_000) 9 2 (still 2_220_000 ∷ gone_first) ≡ second_again)
unfolding in_window
not_put_off = (refl, refl)

put_off : (sends (live 120_000) 9 2 (still 2_419_999 ∷ light_ack 2_100_000 10 ∷ gone_first) ≡ []) ×
    (sends (live 120_000) 9 2 (still 2_420_000 ∷ light_ack 2_100_000 10 ∷ gone_first) ≡ second_again)
unfolding in_window
put_off = (refl, refl)

-- the other rules for resending all, with a delay of 120 ms. Number 100 is acknowledged with a round-trip time of 1 ms
-- and a variance of 0.5 ms, so the timeout is 23 ms; 101 and 102 are sent at 100,000
abbrev by_rule : Resending → Terms
by_rule rule = record (live 120_000) { resending = rule }

abbrev small_ack : (time number : ℕ) → Event
small_ack time number =
    record {
      time = time;
      body = Ack 0 (0 ∷ 0 ∷ 0 ∷ number ∷ 0 ∷ 0 ∷ 3 ∷ 0xe8 ∷ 0 ∷ 0 ∷ 1 ∷ 0xf4 ∷ []);
      payloads = [];
      recent = true;
    }

abbrev two_sent : List Event
two_sent =
    record { time = 100_000; body = KeepAlive; payloads = (0x68 ∷ []) ∷ (0x69 ∷ []) ∷ []; recent = true }
    ∷ small_ack 60_000 101 ∷ feeds 50_000 ∷ []

abbrev of_101 : List ℕ
of_101 = 0 ∷ 0 ∷ 0 ∷ 101 ∷ 0xe4 ∷ 0 ∷ 0 ∷ 2 ∷ 0 ∷ 1 ∷ 0x86 ∷ 0xa0 ∷ 0 ∷ 0 ∷ 0 ∷ 2 ∷ 0x68 ∷ []

abbrev of_102 : List ℕ
of_102 = 0 ∷ 0 ∷ 0 ∷ 102 ∷ 0xe4 ∷ 0 ∷ 0 ∷ 3 ∷ 0 ∷ 1 ∷ 0x86 ∷ 0xa0 ∷ 0 ∷ 0 ∷ 0 ∷ 2 ∷ 0x69 ∷ []

abbrev quiet : (time : ℕ) → Event
quiet time = record (still time) { recent = false }

-- once: after half the delay, and again only after an ACK that acknowledges more
once_early : sends (by_rule Once) 100 2 (still 159_999 ∷ two_sent) ≡ []
unfolding in_window
once_early = refl

once_due : sends (by_rule Once) 100 2 (still 160_000 ∷ still 159_999 ∷ two_sent) ≡ of_101 ∷ of_102 ∷ []
unfolding in_window
once_due = refl

once_silent : sends (by_rule Once) 100 2 (quiet 160_000 ∷ still 159_999 ∷ two_sent) ≡ []
unfolding in_window
once_silent = refl

once_only : sends (by_rule Once) 100 2 (still 599_999 ∷ small_ack 400_000 101 ∷ still 160_000 ∷ two_sent) ≡ []
unfolding in_window
once_only = refl

once_after_growth : (sends (by_rule Once) 100 2 (still 659_999 ∷ light_ack 600_000 102 ∷ still 160_000 ∷ two_sent) ≡ []) ×
    (sends (by_rule Once) 100 2 (still 660_000 ∷ light_ack 600_000 102 ∷ still 160_000 ∷ two_sent) ≡ of_102 ∷ [])
unfolding in_window
once_after_growth = (refl, refl)

-- backing off: after 23 ms and then 46 ms
abbrev resent : List Event
resent = still 123_000 ∷ two_sent

backing_due : (sends (by_rule BackingOff) 100 2 (still 122_999 ∷ two_sent) ≡ []) ×
    (sends (by_rule BackingOff) 100 2 resent ≡ of_101 ∷ of_102 ∷ [])
unfolding in_window
backing_due = (refl, refl)

backing_again : (sends (by_rule BackingOff) 100 2 (still 168_999 ∷ resent) ≡ []) ×
    (sends (by_rule BackingOff) 100 2 (still 169_000 ∷ resent) ≡ of_101 ∷ of_102 ∷ [])
unfolding in_window
backing_again = (refl, refl)

backing_silent : sends (by_rule BackingOff) 100 2 (quiet 169_000 ∷ resent) ≡ []
unfolding in_window
backing_silent = refl

backing_after_growth : (sends (by_rule BackingOff) 100 2 (still 185_000 ∷ light_ack 162_001 102 ∷ resent) ≡ []) ×
    (sends (by_rule BackingOff) 100 2 (still 185_001 ∷ light_ack 162_001 102 ∷ resent) ≡ of_102 ∷ [])
unfolding in_window
backing_after_growth = (refl, refl)

-- at each timeout, however often, and also in silence
at_each : sends (by_rule AtEachTimeout) 100 2 (quiet 146_000 ∷ resent) ≡ of_101 ∷ of_102 ∷ []
unfolding in_window
at_each = refl
