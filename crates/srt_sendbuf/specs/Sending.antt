-- The record of a sender's stream, and all results computed from it. Numbers count from the initial sequence number,
-- without a wrap.
use Rattle.std.specs.Prelude.{ℕ, ◌+◌, ◌-◌, ℤ, pos, int_lt, Bool, true, false, Option, None, Some, List, [], ◌∷◌, ◌++◌, All, filter, length}
use Rattle.std.specs.Prelude.{count_by, slice_get, max, nat_lt, nat_le, ◌==◌, ◌&&◌, ◌||◌, if◌then◌else◌, ◌≤◌}
use Rattle.std.specs.List.{list_any}
use Rattle.srt_types.specs.Window.{in_window, counted_from}
use Rattle.srt_types.specs.Runs.{Range, is_in, is_requested, numbers_from}

-- a payload and its queueing time in microseconds
pub record Queued : Type 0 where
  pub origin : ℕ
  pub payload : List ℕ

-- the events that decide which numbers are lost
pub data Mark : Type 0 where
  -- a number was sent
  Sent : (number : ℕ) → Mark
  -- a NAK reported these ranges; only numbers from `low` on and before `high` are marked
  Requested : (low high : ℕ) (ranges : List Range) → Mark
  -- all numbers from `low` on and before `high` are marked as lost
  All_of : (low high : ℕ) → Mark

-- the queue, where the k-th payload has the number k; the least number not acknowledged, the least number not expired,
-- and the marks, newest first
pub record Sending : Type 0 where
  pub queue : List Queued
  pub acked : ℕ
  pub expired : ℕ
  pub marks : List Mark

-- the record of a stream before its first payload
abbrev pub nothing_yet : Sending
nothing_yet = record { queue = []; acked = 0; expired = 0; marks = [] }

-- the front: the least number that is neither acknowledged nor expired
abbrev pub front : Sending → ℕ
front s = max s.acked s.expired

-- the base: the least number that an ACK may have, at most 8192 before the front (our choice)
abbrev pub base : Sending → ℕ
base s = max s.acked (front s - 8192)

-- one more than the highest number sent; 0 if none was
abbrev pub sent_end : List Mark → ℕ
sent_end [] = 0
sent_end (Sent n ∷ marks) = max (n + 1) (sent_end marks)
sent_end (Requested low high ranges ∷ marks) = sent_end marks
sent_end (All_of low high ∷ marks) = sent_end marks

-- the first number not yet sent; never below the front
abbrev pub next : Sending → ℕ
next s = max (front s) (sent_end s.marks)

-- the number of payloads that can still be queued
abbrev pub room : (width : ℕ) → Sending → ℕ
room width s = width - (length s.queue - front s)

-- whether all queued payloads are acknowledged
abbrev pub is_all_acknowledged : Sending → Bool
is_all_acknowledged s = s.acked == length s.queue

-- the number of packets in flight: sent, and neither acknowledged nor expired
abbrev pub in_flight : Sending → ℕ
in_flight s = next s - front s

-- whether a number is at or above `low` and below `high`
abbrev pub is_in_span : (low high n : ℕ) → Bool
is_in_span low high n = nat_le low n && nat_lt n high

-- whether a number was marked as lost since it was last sent (section 4.8.2)
abbrev pub is_marked : List Mark → ℕ → Bool
is_marked [] n = false
is_marked (Sent k ∷ marks) n = if k == n then false else is_marked marks n
is_marked (Requested low high ranges ∷ marks) n = (is_in_span low high n && is_requested ranges n) || is_marked marks n
is_marked (All_of low high ∷ marks) n = is_in_span low high n || is_marked marks n

-- the lost numbers in flight, lowest first
abbrev pub lost : Sending → List ℕ
lost s = filter (is_marked s.marks) (numbers_from (front s) (in_flight s))

-- the record after a payload is queued at the time `origin`
abbrev pub queued : (origin : ℕ) → List ℕ → Sending → Sending
queued origin payload s = record s { queue = s.queue ++ record { origin = origin; payload = payload } ∷ [] }

-- the number of an ACK; `word` is its sequence number, counted from the initial one. None if it is outside base..=next
-- (section 3.2.4)
abbrev pub acknowledged_by : (word : ℕ) → Sending → Option ℕ
acknowledged_by word s = in_window word (base s) (next s - base s + 1)

-- the same for a sequence number of a stream with this initial number
abbrev pub acknowledged_at : (initial word : ℕ) → Sending → Option ℕ
acknowledged_at initial word s = acknowledged_by (counted_from initial word) s

-- the record after all numbers below n are acknowledged
abbrev pub acknowledged : ℕ → Sending → Sending
acknowledged n s = record s { acked = max s.acked n }

-- the record after an ACK; unchanged if the ACK's number is outside base..=next (None)
abbrev pub after_ack : Option ℕ → Sending → Sending
after_ack None s = s
after_ack (Some n) s = acknowledged n s

-- whether an ACK acknowledges more than all earlier ones
abbrev pub is_growth : Option ℕ → Sending → Bool
is_growth None s = false
is_growth (Some n) s = nat_lt s.acked n

-- the number of payloads that were queued before a time (section 4.6)
abbrev pub queued_before : ℤ → List Queued → ℕ
queued_before before queue = count_by (λ q. int_lt (pos q.origin) before) queue

-- the record after the expiry of all payloads that were queued before this time
abbrev pub expired_before : ℤ → Sending → Sending
expired_before before s = record s { expired = queued_before before s.queue }

-- the record after a loss list: its numbers in flight are marked (section 3.2.5)
abbrev pub requested : List Range → Sending → Sending
requested ranges s = record s { marks = Requested (front s) (next s) ranges ∷ s.marks }

-- whether a range contains a number from the base up to the front
abbrev pub range_asks_for_gone : Range → Sending → Bool
range_asks_for_gone range s = list_any (is_in range) (numbers_from (base s) (front s - base s))

-- whether a loss list contains a number from the base up to the front
abbrev pub asks_for_gone : List Range → Sending → Bool
asks_for_gone ranges s = list_any (is_requested ranges) (numbers_from (base s) (front s - base s))

-- the record after all numbers in flight are marked as lost
abbrev pub all_lost : Sending → Sending
all_lost s = record s { marks = All_of (front s) (next s) ∷ s.marks }

-- the record after a number is sent
abbrev pub sent : ℕ → Sending → Sending
sent n s = record s { marks = Sent n ∷ s.marks }

-- the next number to send, and whether it was sent before: the lowest lost number, or if none is lost, the next new
-- one if the flow window has room for it (sections 3.2.4 and 4.8.2)
abbrev pub due_number : (window : ℕ) → (lost_ones : List ℕ) → Sending → Option (ℕ × Bool)
due_number window [] s = if nat_lt (in_flight s) window && nat_lt (next s) (length s.queue) then Some (next s, false) else None
due_number window (n ∷ ns) s = Some (n, true)

-- a packet to be sent
pub record Due : Type 0 where
  pub number : ℕ
  pub again : Bool
  pub origin : ℕ
  pub payload : List ℕ

abbrev pub due_of : ℕ → Bool → Option Queued → Option Due
due_of n again None = None
due_of n again (Some q) = Some (record { number = n; again = again; origin = q.origin; payload = q.payload })

abbrev pub due_at : List Queued → Option (ℕ × Bool) → Option Due
due_at queue None = None
due_at queue (Some p) = due_of p.0 p.1 (slice_get queue p.0)

-- the next packet to send
abbrev pub due : (window : ℕ) → Sending → Option Due
due window s = due_at s.queue (due_number window (lost s) s)

-- the next new packet to send, also if others are lost
abbrev pub due_new : (window : ℕ) → Sending → Option Due
due_new window s = due_at s.queue (due_number window [] s)

-- the packet `at` numbers after the front, as one to be sent
abbrev pub due_past : (at : ℕ) → (again : Bool) → Sending → Option Due
due_past at again s = due_of (front s + at) again (slice_get s.queue (front s + at))

abbrev pub sent_number : Option (ℕ × Bool) → Sending → Sending
sent_number None s = s
sent_number (Some p) s = sent p.0 s

-- the record after the next packet is sent
abbrev pub after_due : (window : ℕ) → Sending → Sending
after_due window s = sent_number (due_number window (lost s) s) s

-- the record after the next new packet is sent
abbrev pub after_new : (window : ℕ) → Sending → Sending
after_new window s = sent_number (due_number window [] s) s

-- no payload was queued later than `now`
abbrev pub IsTimely : (now : ℕ) → Sending → Type 0
IsTimely now s = All (λ q. q.origin ≤ now) s.queue

-- all expired payloads were queued before this time
abbrev pub IsLater : (before : ℤ) → Sending → Type 0
IsLater before s = s.expired ≤ queued_before before s.queue
