-- The forms of clauses about the log and the ACKs: how they change, which facts hold of the notes that they represent,
-- and which ACK is due.
use Rattle.std.specs.Prelude.{◌≡◌, ℕ, ◌+◌, ◌-◌, ◌≤◌, Bool, List, [], ◌∷◌, map, length}
use Rattle.srt_types.specs.Window.{word_of, number_word}
use Rattle.srt_types.specs.declared.numbers.Seq31.{Seq31}
use Rattle.srt_timing.specs.declared.round_trip.Rtt.{Rtt}
use Rattle.srt_packet.specs.declared.writing.Body.{Body}
use Rattle.srt_pub.specs.Publishing.{Terms, Note, LightAck, acks_at, full_ack, noted, rates_of}
use Rattle.srt_pub.specs.Says.{says, body_bytes}
use Rattle.srt_pub.specs.Kept.{AcksStandFor, LogStandsFor, IsRoundTrip, Measures}
use Rattle.srt_pub.specs.Counting.{full_window_acks_in, one_if}
use Rattle.srt_pub.specs.declared.acknowledgements.Acks.{Acks}
use Rattle.srt_pub.specs.declared.log.Log.{Log}
use Rattle.srt_pub.specs.declared.rates.Meter.{Meter}
use Rattle.srt_packet.specs.declared.writing.Rates.{Rates}

-- if the old log represents notes, the new one represents them after the change
abbrev pub LogBecomes : (old new : Log) → (change : List Note → List Note) → Type 0
LogBecomes old new change =
    (terms : Terms) (front point seen : ℕ) (notes : List Note) → LogStandsFor terms front point old notes seen
    → LogStandsFor terms front point new (change notes) seen

-- if the log represents notes, the fact holds of them
abbrev pub LogHoldsOf : Log → (fact : Terms → List Note → Type 0) → Type 0
LogHoldsOf log fact = (terms : Terms) (front point seen : ℕ) (notes : List Note) → LogStandsFor terms front point log notes seen → fact terms notes

-- the front and the acknowledgement point move on by these numbers of packets
abbrev pub LogMoves : (front_steps point_steps : ℕ) → (old new : Log) → Type 0
LogMoves front_steps point_steps old new =
    (terms : Terms) (front a seen : ℕ) (notes : List Note) → a + point_steps ≤ front + front_steps + terms.width → LogStandsFor terms front a old notes seen
    → LogStandsFor terms (front + front_steps) (a + point_steps) new notes seen

-- the received numbers end `seen` packets past the front
abbrev pub LogSees : (seen : ℕ) → (old new : Log) → Type 0
LogSees seen old new =
    (terms : Terms) (front point before end : ℕ) (notes : List Note) → seen ≡ end - front → LogStandsFor terms front point old notes before
    → LogStandsFor terms front point new notes end

-- the ACK that is due is recorded
abbrev pub LogNotesAck : (time available : ℕ) → (old new : Log) → Type 0
LogNotesAck time available old new =
    (terms : Terms) (front a seen : ℕ) (notes : List Note) → available ≡ front + terms.width - a → LogStandsFor terms front a old notes seen
    → LogStandsFor terms front a new (noted time (acks_at terms a available time notes) notes) seen

-- the bodies are those of the ACK that is due
abbrev pub LogWritesAck : (time : ℕ) → (point : Seq31) → (available : ℕ) → Log → List Body → Type 0
LogWritesAck time point available log bodies =
    (terms : Terms) (front a seen initial caller : ℕ) (notes : List Note) → available ≡ front + terms.width - a → word_of point ≡ number_word initial a
    → LogStandsFor terms front a log notes seen → map (body_bytes caller time) bodies ≡ map (says caller initial time) (acks_at terms a available time notes)

-- whether a Full ACK is due that reports no available place
abbrev pub ReportsFullWindow : (time available : ℕ) → Log → (answer : Bool) → Type 0
ReportsFullWindow time available log answer =
    (terms : Terms) (front a seen : ℕ) (notes : List Note) → available ≡ front + terms.width - a → LogStandsFor terms front a log notes seen
    → full_window_acks_in (noted time (acks_at terms a available time notes) notes) ≡ full_window_acks_in notes + one_if answer

-- if the old ACKs represent notes, the new ones represent the notes after the change
abbrev pub AcksBecome : (old new : Acks) → (change : (point : ℕ) → List Note → List Note) → Type 0
AcksBecome old new change =
    (width front point : ℕ) (notes : List Note) → AcksStandFor width front point old notes → AcksStandFor width front point new (change point notes)

-- if the ACKs represent notes, the fact holds of them
abbrev pub AcksHoldOf : Acks → (fact : (width front point : ℕ) → List Note → Type 0) → Type 0
AcksHoldOf acks fact = (width front point : ℕ) (notes : List Note) → AcksStandFor width front point acks notes → fact width front point notes

-- the front and the acknowledgement point move on by these numbers of packets
abbrev pub AcksMove : (front_steps point_steps : ℕ) → (old new : Acks) → Type 0
AcksMove front_steps point_steps old new =
    (width front a : ℕ) (notes : List Note) → a + point_steps ≤ front + front_steps + width → AcksStandFor width front a old notes
    → AcksStandFor width (front + front_steps) (a + point_steps) new notes

-- a Full ACK is recorded
abbrev pub NotesFullAck : (time available : ℕ) → Rtt → Rates → (old new : Acks) → Type 0
NotesFullAck time available rtt rates old new =
    (terms : Terms) (front a : ℕ) (notes : List Note) → IsRoundTrip terms rtt notes → rates ≡ rates_of terms notes
    → available ≡ front + terms.width - a → AcksStandFor terms.width front a old notes
    → AcksStandFor terms.width front a new (noted time (full_ack terms a available notes ∷ []) notes)

-- the body is that of this Full ACK
abbrev pub WritesFullAck : (time : ℕ) → (point : Seq31) → (available : ℕ) → Rtt → Rates → Acks → Body → Type 0
WritesFullAck time point available rtt rates acks body =
    (terms : Terms) (front a initial caller : ℕ) (notes : List Note) → IsRoundTrip terms rtt notes → rates ≡ rates_of terms notes
    → word_of point ≡ number_word initial a
    → AcksStandFor terms.width front a acks notes → body_bytes caller time body ≡ says caller initial time (full_ack terms a available notes)

-- the body is that of a Light ACK
abbrev pub WritesLightAck : (time : ℕ) → (point : Seq31) → Body → Type 0
WritesLightAck time point body =
    (a initial caller : ℕ) → word_of point ≡ number_word initial a → body_bytes caller time body ≡ says caller initial time (LightAck a)

-- the ACK that is due is recorded
abbrev pub NotesAck : (time available : ℕ) → Rtt → Meter → (old new : Acks) → Type 0
NotesAck time available rtt meter old new =
    (terms : Terms) (front a : ℕ) (notes : List Note) → IsRoundTrip terms rtt notes → Measures terms meter notes
    → available ≡ front + terms.width - a → AcksStandFor terms.width front a old notes
    → AcksStandFor terms.width front a new (noted time (acks_at terms a available time notes) notes)

-- the bodies are those of the ACK that is due
abbrev pub WritesAck : (time : ℕ) → (point : Seq31) → (available : ℕ) → Rtt → Meter → Acks → List Body → Type 0
WritesAck time point available rtt meter acks bodies =
    (terms : Terms) (front a initial caller : ℕ) (notes : List Note) → IsRoundTrip terms rtt notes → Measures terms meter notes
    → available ≡ front + terms.width - a
    → word_of point ≡ number_word initial a → AcksStandFor terms.width front a acks notes
    → map (body_bytes caller time) bodies ≡ map (says caller initial time) (acks_at terms a available time notes)

-- there is a body if and only if an ACK is due
abbrev pub CountsAcks : (time available : ℕ) → Acks → List Body → Type 0
CountsAcks time available acks bodies =
    (terms : Terms) (front a : ℕ) (notes : List Note) → available ≡ front + terms.width - a → AcksStandFor terms.width front a acks notes
    → length bodies ≡ length (acks_at terms a available time notes)
