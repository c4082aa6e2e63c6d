-- Counters that start at 1 and return to 1 (sections 3.1 and 3.2.4).
use Rattle.std.specs.Prelude.{ℕ, ◌+◌, ◌-◌, ◌%◌, ◌^◌}
use Rattle.srt_types.specs.declared.numbers.Msg26.{Msg26}

-- the k-th value, from k = 0, of a counter that runs from 1 to many and then starts at 1 again
abbrev pub round_number : (many k : ℕ) → ℕ
round_number many k = 1 + k % many

-- the message number of a subscriber's k-th packet, from k = 0: 1 follows 2^26 - 1 (section 3.1)
abbrev pub message_number : ℕ → ℕ
message_number k = round_number (2 ^ 26 - 1) k

-- the acknowledgement number of the k-th Full ACK of a publisher's session, from k = 0: 1 follows 2^32 - 1 (our choice)
abbrev pub ack_number : ℕ → ℕ
ack_number k = round_number (2 ^ 32 - 1) k

-- the value of a message number
abbrev pub message_of : Msg26 → ℕ
message_of m = m.number
