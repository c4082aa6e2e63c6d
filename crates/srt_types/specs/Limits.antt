-- The limits and intervals that definitions name, with their units. `src/protocol_limits.rt` has more about each.
use Rattle.std.specs.Prelude.{ℕ}

-- the minimum time between two NAKs of all gaps, in microseconds (section 4.8.2)
abbrev pub nak_interval_min_us : ℕ
nak_interval_min_us = 20_000

-- the margin added to RTT + 4 x RTTVar before all packets in flight are retransmitted, in microseconds (our choice)
abbrev pub resend_margin_us : ℕ
resend_margin_us = 20_000

-- the time without a sent packet after which a KEEPALIVE is sent, in microseconds (section 3.2.3)
abbrev pub keep_alive_after_us : ℕ
keep_alive_after_us = 1_000_000

-- the time without a packet from a caller after which its session ends, in microseconds (our choice)
abbrev pub peer_idle_timeout_us : ℕ
peer_idle_timeout_us = 5_000_000

-- the minimum threshold of too-late packet drop, in microseconds (section 4.6)
abbrev pub tlpktdrop_min_us : ℕ
tlpktdrop_min_us = 1_000_000

-- the minimum time between two Full ACKs, in microseconds (section 4.8.1)
abbrev pub full_ack_interval_us : ℕ
full_ack_interval_us = 10_000

-- the number of data packets after which a Light ACK is sent (section 4.8.1)
abbrev pub light_ack_packets : ℕ
light_ack_packets = 64
