-- The forms of the publisher's clauses: how a call changes the session that it represents, which facts hold of the
-- session, and which packets are written.
use Rattle.std.specs.Prelude.{◌≡◌, ℕ, ◌+◌, ◌<◌, ◌≤◌, ℤ, pos, ◌+ℤ◌, Bool, true, false, Option, List, map, length, IfSome}
use Rattle.srt_types.specs.Window.{word_of, counted_from, number_word}
use Rattle.srt_types.specs.Lift.{stamped_from}
use Rattle.srt_types.specs.declared.shared.Mode.TheVariants.{Live}
use Rattle.srt_types.specs.declared.numbers.Seq31.{Seq31}
use Rattle.srt_types.specs.Runs.{Range, range_from}
use Rattle.srt_packet.specs.declared.encoded.EncodedPacket.{EncodedPacket}
use Rattle.srt_packet.specs.Encoded.{bytes_of, IsPacketText}
use Rattle.srt_recvbuf.specs.Receiving.{Receiving, ack_point, next_due, requested}
use Rattle.srt_recvbuf.specs.Stands.{run_words}
use Rattle.srt_pub.specs.Heard.{Heard}
use Rattle.srt_pub.specs.Heard.Heard.{Data}
use Rattle.srt_pub.specs.Publishing.{Terms, Publishing, Report, opened, noted, runs_said, gaps_reported}
use Rattle.srt_pub.specs.Publishing.{due_in, took, with_data, loses_window, confirmed_at, confirmed_by}
use Rattle.srt_pub.specs.Says.{says}
use Rattle.srt_pub.specs.Calls.{lost_if, texts, next_delivery}
use Rattle.srt_pub.specs.Counting.{Passes}
use Rattle.srt_pub.specs.Stands.{StandsFor, IsAhead}
use Rattle.srt_pub.specs.declared.due_times.Agreed.{Agreed}
use Rattle.srt_pub.specs.declared.ends.PubEnd.{PubEnd}
use Rattle.srt_pub.specs.declared.opening.Opening.{Opening}
use Rattle.srt_pub.specs.declared.session.Publisher.{Publisher}

-- the publisher represents a session that has just begun, with this opening and this width of its window
abbrev pub HasBegun : Opening → (width : ℕ) → Publisher → Type 0
HasBegun o width p =
    StandsFor (record { mode = o.mode; width = width; delay = o.delay; callers = o.callers }) (word_of o.initial) o.now o.stamp.word o.caller p opened

-- if the old publisher represents a session, the new one represents it after the change
abbrev pub Becomes : (old new : Publisher) → (change : (terms : Terms) (initial : ℕ) → Publishing → Publishing) → Type 0
Becomes old new change =
    (terms : Terms) (initial opening stamp caller : ℕ) (m : Publishing) → StandsFor terms initial opening stamp caller old m
    → StandsFor terms initial opening stamp caller new (change terms initial m)

-- the same at the clock's time `now`, which is the opening plus `time`
abbrev pub BecomesAt : (now : ℕ) → (old new : Publisher) → (change : (terms : Terms) (time : ℕ) → Publishing → Publishing) → Type 0
BecomesAt now old new change =
    (terms : Terms) (initial opening stamp caller time : ℕ) (m : Publishing) → now ≡ opening + time → StandsFor terms initial opening stamp caller old m
    → StandsFor terms initial opening stamp caller new (change terms time m)

-- a packet with this timestamp arrives at the clock's time `now`; `heard` is its contents, counted from the initial
-- number
abbrev pub HearsAt : (now stamp : ℕ) → (old new : Publisher) → (heard : (initial : ℕ) → Heard) → Type 0
HearsAt now stamp old new heard =
    (terms : Terms) (initial opening begun caller time : ℕ) (m : Publishing) → now ≡ opening + time → StandsFor terms initial opening begun caller old m
    → StandsFor terms initial opening begun caller new (took terms time (stamped_from begun stamp) (heard initial) m)

-- an unencrypted data packet arrives at the clock's time `now`
abbrev pub ReceivesAt : (now stamp word : ℕ) → (payload : List ℕ) → (old new : Publisher) → Type 0
ReceivesAt now stamp word payload old new =
    (terms : Terms) (initial opening begun caller time : ℕ) (m : Publishing) → now ≡ opening + time → StandsFor terms initial opening begun caller old m
    → StandsFor terms initial opening begun caller new (with_data terms time (stamped_from begun stamp) (counted_from initial word) payload m)

-- if the publisher represents a session, the fact holds of the session
abbrev pub HoldsOf : Publisher → (fact : (terms : Terms) (initial : ℕ) → Publishing → Type 0) → Type 0
HoldsOf p fact = (terms : Terms) (initial opening stamp caller : ℕ) (m : Publishing) → StandsFor terms initial opening stamp caller p m → fact terms initial m

-- the same at the clock's time `now`, which is the opening plus `time`
abbrev pub HoldsOfAt : (now : ℕ) → Publisher → (fact : (terms : Terms) (time : ℕ) → Publishing → Type 0) → Type 0
HoldsOfAt now p fact =
    (terms : Terms) (initial opening stamp caller time : ℕ) (m : Publishing) → now ≡ opening + time → StandsFor terms initial opening stamp caller p m
    → fact terms time m

-- the packets are the session's reports at a time after its opening
abbrev pub Writes : (time : ℕ) → Publisher → List EncodedPacket → (due : (terms : Terms) (time : ℕ) → Publishing → List Report) → Type 0
Writes time p packets due =
    (terms : Terms) (initial opening stamp caller : ℕ) (m : Publishing) → StandsFor terms initial opening stamp caller p m
    → texts packets ≡ map (says caller initial time) (due terms time m)

-- the packets are the session's reports at the clock's time `now`
abbrev pub WritesAt : (now : ℕ) → Publisher → List EncodedPacket → (due : (terms : Terms) (time : ℕ) → Publishing → List Report) → Type 0
WritesAt now p packets due =
    (terms : Terms) (initial opening stamp caller time : ℕ) (m : Publishing) → now ≡ opening + time → StandsFor terms initial opening stamp caller p m
    → texts packets ≡ map (says caller initial time) (due terms time m)

-- a payload that is returned isn't empty
abbrev pub GivesNoneEmpty : (now : ℕ) → Publisher → (payload : Option (List ℕ)) → Type 0
GivesNoneEmpty now p payload =
    (terms : Terms) (initial opening stamp caller : ℕ) (m : Publishing) → opening ≤ now → StandsFor terms initial opening stamp caller p m
    → IfSome payload (λ bytes. 0 < length bytes)

-- with this room, the payload that is delivered next is the one that the buffer yields with the room `counted`
abbrev pub CountsAs : Terms → (room counted : ℕ) → Publishing → Type 0
CountsAs terms room counted m = (time : ℕ) → next_delivery terms time room m ≡ next_due time counted m.receiving

-- the range between two numbers of a drop request, counted from the initial number
abbrev pub range_between : (initial first last : ℕ) → Range
range_between initial first last = range_from initial (record { first = first; last = last })

-- a data packet, whose number counts from the initial number
abbrev pub data_from : (initial word encryption : ℕ) → (payload : List ℕ) → Heard
data_from initial word encryption payload = Data (counted_from initial word) encryption payload

-- whether this packet ends the session because the window is lost
abbrev pub loses_window_by : Terms → Heard → Publishing → Bool
loses_window_by terms heard m = loses_window terms.mode terms heard m

-- the reason for the session's end, if this packet loses the window
abbrev pub lost_by : Terms → Heard → Publishing → Option PubEnd
lost_by terms heard m = lost_if (loses_window_by terms heard m)

-- the session after these packets were sent
abbrev pub with_sent : (time : ℕ) → List Report → Publishing → Publishing
with_sent time reports m = record m { notes = noted time reports m.notes }

-- the runs that a NAK reports, as pairs of sequence numbers: of all gaps or of new ones
abbrev pub nak_words : (all : Bool) → Terms → (initial : ℕ) → Publishing → List (ℕ × ℕ)
nak_words all terms initial m = map (run_words initial) (runs_said (gaps_reported all terms.width m.seen m.receiving))

-- a packet that was written is a valid packet
abbrev pub IsPacketIf : (written : Bool) → EncodedPacket → Type 0
IsPacketIf written packet = written ≡ true → IsPacketText (bytes_of packet)

-- a packet that wasn't written is unchanged
abbrev pub KeptIfNot : (written : Bool) → (old new : EncodedPacket) → Type 0
KeptIfNot written old new = written ≡ false → new ≡ old

-- with this correction, `due` is the due time of a packet with this timestamp that arrives at `now`, on the route's clock
abbrev pub IsDueTime : Agreed → (correction : ℤ) → (stamp now : ℕ) → (due : ℤ) → Type 0
IsDueTime agreed correction stamp now due =
    (terms : Terms) (time : ℕ) → agreed.mode ≡ terms.mode → agreed.delay ≡ terms.delay → now ≡ agreed.opening + time
    → due ≡ pos agreed.opening +ℤ due_in terms.mode terms correction time (stamped_from agreed.first.word stamp)

-- an ACKACK with this number and timestamp arrives at the clock's time `now`
abbrev pub ConfirmsAt : (now stamp number : ℕ) → (old new : Publisher) → Type 0
ConfirmsAt now stamp number old new =
    (terms : Terms) (initial opening begun caller time : ℕ) (m : Publishing) → now ≡ opening + time → StandsFor terms initial opening begun caller old m
    → StandsFor terms initial opening begun caller new (confirmed_at time (stamped_from begun stamp) (confirmed_by number m.notes) m)

-- in live mode, the numbers from `first` to `last` are dropped
abbrev pub DropsInLiveMode : (first last : ℕ) → (old new : Publisher) → Type 0
DropsInLiveMode first last old new =
    (terms : Terms) (initial opening stamp caller : ℕ) (m : Publishing) → terms.mode ≡ Live → StandsFor terms initial opening stamp caller old m
    → StandsFor terms initial opening stamp caller new (record m { receiving = requested terms.width (range_between initial first last) m.receiving })

-- the notes and the counters catch up with a buffer that is ahead. `front` and `point` are the previous front and
-- acknowledgement point, and the front passed a delivered packet if `is_due`
abbrev pub CatchesUp : (front point : Seq31) → (is_due : Bool) → (old new : Publisher) → Type 0
CatchesUp front point is_due old new =
    (terms : Terms) (initial opening stamp caller : ℕ) (m : Publishing) (r : Receiving) → word_of front ≡ number_word initial m.receiving.front
    → word_of point ≡ number_word initial (ack_point terms.width m.receiving) → Passes is_due m.receiving r → IsAhead terms initial opening stamp caller old m r
    → StandsFor terms initial opening stamp caller new (record m { receiving = r })
