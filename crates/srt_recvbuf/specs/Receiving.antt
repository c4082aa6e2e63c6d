-- The record of everything that a receiver received of one stream, and all results computed from it. Numbers count
-- from the initial sequence number, without a wrap. Lists have the newest first.
use Rattle.std.specs.Prelude.{ℕ, ◌+◌, ◌-◌, ◌^◌, ℤ, pos, int_le, Bool, false, Option, None, Some, List, [], ◌∷◌, filter, find, filter_map}
use Rattle.std.specs.Prelude.{take, take_while, min, max, not, is_some, nat_lt, nat_le, ◌==◌, ◌&&◌, ◌||◌, if◌then◌else◌}
use Rattle.srt_types.specs.Window.{in_window}
use Rattle.srt_types.specs.Runs.{Range, span, is_in, numbers_from, least_from, Run, runs}
use Rattle.srt_recvbuf.specs.declared.buffer.Put.{Put}
use Rattle.srt_recvbuf.specs.declared.buffer.Put.TheVariants.{New, Repeat, Outside}

-- a received packet: its number, its payload and its due time in microseconds
pub record Arrival : Type 0 where
  pub number : ℕ
  pub payload : List ℕ
  pub due : ℤ

-- a drop request (section 3.2.9): the front at its arrival, and its range
pub record Request : Type 0 where
  pub front : ℕ
  pub range : Range

-- all arrivals and drop requests, and the front: the first number that is still accepted
pub record Receiving : Type 0 where
  pub arrivals : List Arrival
  pub requests : List Request
  pub front : ℕ

-- the record of a stream before its first packet
abbrev pub nothing_yet : Receiving
nothing_yet = record { arrivals = []; requests = []; front = 0 }

-- the packet with the number `n`, if it was received
abbrev pub arrival_of : List Arrival → ℕ → Option Arrival
arrival_of arrivals n = find (λ a. a.number == n) arrivals

-- whether a number was received
abbrev pub is_received : Receiving → ℕ → Bool
is_received r n = is_some (arrival_of r.arrivals n)

-- whether a drop request covers a number. It covers only numbers of the window at its arrival
abbrev pub names : (width : ℕ) → Request → ℕ → Bool
names width q n = nat_le q.front n && nat_lt n (q.front + width) && is_in q.range n

-- whether any drop request covers a number
abbrev pub is_requested : (width : ℕ) → List Request → ℕ → Bool
is_requested width [] n = false
is_requested width (q ∷ qs) n = names width q n || is_requested width qs n

-- covered by a drop request and not received (section 3.2.9)
abbrev pub is_dropped : (width : ℕ) → Receiving → ℕ → Bool
is_dropped width r n = is_requested width r.requests n && not (is_received r n)

-- neither received nor covered by a drop request
abbrev pub is_missing : (width : ℕ) → Receiving → ℕ → Bool
is_missing width r n = not (is_received r n || is_requested width r.requests n)

-- one more than the highest received number; 0 if there is none
abbrev pub end_of : List Arrival → ℕ
end_of [] = 0
end_of (a ∷ arrivals) = max (a.number + 1) (end_of arrivals)

-- one more than the highest received number, or the front if that is greater
abbrev pub top : Receiving → ℕ
top r = max r.front (end_of r.arrivals)

-- the gaps: the missing numbers from the front to the highest received one (section 4.8.2)
abbrev pub gaps : (width : ℕ) → Receiving → List ℕ
gaps width r = filter (is_missing width r) (numbers_from r.front (end_of r.arrivals - r.front))

-- the gaps at or above `from`
abbrev pub gaps_from : (width from : ℕ) → Receiving → List ℕ
gaps_from width from r = gaps width (record r { front = from })

-- the acknowledgement point: the least missing number of the window, or the window's end (section 4.8.1)
abbrev pub ack_point : (width : ℕ) → Receiving → ℕ
ack_point width r = least_from (is_missing width r) r.front width

-- the available buffer size in packets: the window's places from the acknowledgement point on (section 3.2.4)
abbrev pub available : (width : ℕ) → Receiving → ℕ
available width r = r.front + width - ack_point width r

-- whether any received number is at or above the front
abbrev pub is_waiting : Receiving → Bool
is_waiting r = nat_lt r.front (end_of r.arrivals)

-- the received packets at or above the front, lowest number first
abbrev pub waiting : Receiving → List Arrival
waiting r = filter_map (arrival_of r.arrivals) (numbers_from r.front (end_of r.arrivals - r.front))

-- the maximum number of payloads that one event delivers (our choice)
abbrev pub most : ℕ
most = 64

-- the packets that an event delivers in live mode: the first waiting packets that are due, up to the first that isn't
-- (sections 4.5 and 4.6)
abbrev pub deliverable : (time : ℕ) → Receiving → List Arrival
deliverable time r = take most (take_while (λ a. int_le a.due (pos time)) (waiting r))

-- the received packets from the front on without a gap
abbrev pub unbroken : (width : ℕ) → Receiving → List Arrival
unbroken width r = filter_map (arrival_of r.arrivals) (numbers_from r.front (ack_point width r - r.front))

-- the packets that an event delivers in buffer mode: those without a gap, at most `room` of them (section 4.2.2)
abbrev pub in_order : (width room : ℕ) → Receiving → List Arrival
in_order width room r = take (min most room) (unbroken width r)

-- the front after the delivery of these packets: the number after the last of them
abbrev pub next_after : ℕ → List Arrival → ℕ
next_after front [] = front
next_after front (a ∷ arrivals) = next_after (a.number + 1) arrivals

-- the same record with another front
abbrev pub moved_to : ℕ → Receiving → Receiving
moved_to front r = record r { front = front }

-- the record with its front moved past dropped numbers
abbrev pub settled : (width : ℕ) → Receiving → Receiving
settled width r = moved_to (least_from (λ n. not (is_dropped width r n)) r.front width) r

-- the record after the delivery of these packets. Missing numbers before the last of them are given up (section 4.6),
-- and the front moves past dropped numbers
abbrev pub passed : (width : ℕ) → List Arrival → Receiving → Receiving
passed width arrivals r = settled width (moved_to (next_after r.front arrivals) r)

-- the record after a packet with the number `Some n` of the window. None means a number outside the window
abbrev pub with_number : Option ℕ → List ℕ → ℤ → Receiving → Receiving
with_number None payload due r = r
with_number (Some n) payload due r = if is_received r n then r else record r { arrivals = record { number = n; payload = payload; due = due } ∷ r.arrivals }

-- the record after a data packet: only the first copy of a number of the window is stored (section 3.1)
abbrev pub received : (width word : ℕ) → List ℕ → ℤ → Receiving → Receiving
received width word payload due r = with_number (in_window word r.front width) payload due r

-- the result of `put` for a packet with the number `Some n` of the window; None means a number outside the window
abbrev pub put_of : Option ℕ → Receiving → Put
put_of None r = Outside
put_of (Some n) r = if is_received r n then Repeat else New

-- the record after a drop request. A range with a top bit set, or whose last number is 2^30 or more past its first,
-- changes nothing (section 3.2.9; our choice)
abbrev pub requested : (width : ℕ) → Range → Receiving → Receiving
requested width q r =
    if nat_lt q.first (2 ^ 31) && nat_lt q.last (2 ^ 31) && nat_lt (span q) (2 ^ 30)
    then settled width (record r { requests = record { front = r.front; range = q } ∷ r.requests })
    else r

-- the first waiting packet, if it is due at `time`
abbrev pub first_due : (time : ℕ) → List Arrival → Option Arrival
first_due time [] = None
first_due time (a ∷ more) = if int_le a.due (pos time) then Some a else None

-- the next packet to deliver, if there is room
abbrev pub next_due : (time room : ℕ) → Receiving → Option Arrival
next_due time room r = if room == 0 then None else first_due time (waiting r)

-- the record after the delivery of that packet
abbrev pub after_next : (width : ℕ) → Option Arrival → Receiving → Receiving
after_next width None r = r
after_next width (Some a) r = passed width (a ∷ []) r

-- the runs that a NAK reports from a number on: the first 32 runs of gaps. None means a number that is outside
-- the window and isn't its end (section 4.8.2; our choice)
abbrev pub runs_from : (width : ℕ) → Option ℕ → Receiving → List Run
runs_from width None r = []
runs_from width (Some n) r = take 32 (runs (gaps_from width n r))
