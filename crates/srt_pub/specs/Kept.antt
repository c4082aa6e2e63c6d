-- How a session's fields represent its notes: the ACKs, the measured rates, and the rest.
use Rattle.std.specs.Prelude.{◌≡◌, ℕ, ◌+◌, ◌-◌, ◌%◌, ◌<◌, ◌≤◌, min, Bool, false, nat_lt, Option, None, Some, List, length, map, slice_get}
use Rattle.std.specs.Prelude.{slice_index_or, option_map}
use Rattle.srt_timing.specs.Book as book
use Rattle.srt_timing.specs.RoundTrip as times
use Rattle.srt_timing.specs.declared.round_trip.Rtt.{Rtt}
use Rattle.srt_timing.specs.Drift as clocks
use Rattle.srt_timing.specs.declared.drift_windows.Clock.{Clock}
use Rattle.srt_timing.specs.declared.session_drift.Drift.{Drift}
use Rattle.srt_pub.specs.Publishing.{Terms, Full, Note, fulls, is_confirmed, latest_confirmed, says_pair, is_known, arrived_since_ack, time_of}
use Rattle.srt_pub.specs.Publishing.{samples, last_sent, last_nak_of_all, last_arrival, received_at, rating, round_trip, clock_of}
use Rattle.srt_pub.specs.declared.acknowledgements.Acks.{Acks}
use Rattle.srt_pub.specs.declared.log.Log.{Log}
use Rattle.srt_pub.specs.declared.rates.Meter.{Meter}
use Rattle.srt_pub.specs.declared.rates.Rating.{Rating}
use Rattle.srt_pub.specs.declared.rates.Rating.TheVariants.{Measured}

-- a Full ACK as an entry of the book of sent Full ACKs
abbrev pub noted_of : List Note → Full → book.Noted
noted_of notes f = record { index = f.index; moment = f.time; is_confirmed = is_confirmed notes f.index }

-- the book of all Full ACKs that were sent
unfoldable pub book_of : List Note → List book.Noted
book_of notes = map (noted_of notes) (fulls notes)

-- neither the acknowledgement point nor the window's end of the first Full ACK is past that of the second
pub record IsNotPast (f g : Full) : Type 0 where
  pub point : f.point ≤ g.point
  pub window : f.point + f.available ≤ g.point + g.available

-- Full ACKs are numbered in order, what they report never decreases, and it isn't past the current state
pub record AreFulls (width front point : ℕ) (fs : List Full) : Type 0 where
  pub numbered : (d : ℕ) (f : Full) → slice_get fs d ≡ Some f → f.index + (d + 1) ≡ length fs
  pub rising : (d e : ℕ) (f g : Full) → d ≤ e → slice_get fs d ≡ Some f → slice_get fs e ≡ Some g → IsNotPast g f
  pub low : (d : ℕ) (f : Full) → slice_get fs d ≡ Some f → width ≤ f.point + f.available
  pub high : (d : ℕ) (f : Full) → slice_get fs d ≡ Some f → (f.point ≤ point) × (f.point + f.available ≤ front + width)

-- every confirmed Full ACK was sent
pub record AreConfirmed (notes : List Note) : Type 0 where
  pub latest : (f : Full) → latest_confirmed notes ≡ Some f → (d : ℕ) × (slice_get (fulls notes) d ≡ Some f)
  pub below : (index : ℕ) → length (fulls notes) ≤ index → is_confirmed notes index ≡ false

-- the fields have the values that the notes define: whether the current pair is confirmed, how many of the last 64
-- Full ACKs reported it, the time of the last Full ACK, and the number of data packets since the last ACK, at most 64
pub record AreAcks (width front point : ℕ) (notes : List Note) (known : Bool) (same last arrived : ℕ) : Type 0 where
  pub inside : point ≤ front + width
  pub sent : AreFulls width front point (fulls notes)
  pub confirmed : AreConfirmed notes
  pub known_is : known ≡ is_known width point (front + width - point) (latest_confirmed notes)
  pub same_is : (d : ℕ) (f : Full) → d < 64 → slice_get (fulls notes) d ≡ Some f → nat_lt d same ≡ says_pair point (front + width - point) f
  pub last_is : last ≡ time_of (fulls notes)
  pub arrived_is : arrived ≡ min (arrived_since_ack notes) 64

-- the fields represent the ACKs of these notes, for a window of this width at this front and acknowledgement point
abbrev pub AcksStandFor : (width front point : ℕ) → Acks → List Note → Type 0
AcksStandFor width front point a notes = book.StandsFor a.book (book_of notes) × AreAcks width front point notes a.known a.same a.last a.arrived

-- a ring stores the last 17 of these times, the newest at the index before `at`
pub record AreLatest (at : ℕ) (kept : List (Option ℕ)) (times : List ℕ) : Type 0 where
  pub are : (place : ℕ) → place < 17 → slice_index_or kept ((at + (16 - place)) % 17) None ≡ slice_get times place

-- the meter has this rating, and if it measures, it stores the last of these times
pub record MeterStandsFor (rating : Rating) (m : Meter) (times : List ℕ) : Type 0 where
  pub rating_is : m.rating ≡ rating
  pub latest : rating ≡ Measured → AreLatest m.at m.times.items times

-- the meter stores the times that a session of these terms measures
abbrev pub Measures : Terms → Meter → List Note → Type 0
Measures terms meter notes = MeterStandsFor (rating terms.mode terms.callers) meter (received_at notes)

-- a round-trip time and its variance are those of a session of these terms
abbrev pub IsRoundTrip : Terms → Rtt → List Note → Type 0
IsRoundTrip terms rtt notes = times.round_trip_of rtt ≡ round_trip terms.callers notes

-- the sender's clock, if it is followed
abbrev pub clock_in : Option Drift → Option Clock
clock_in drift = option_map clocks.clock_of drift

-- the fields represent these notes: the ACKs, the round trips, the times at which data packets were received, and the
-- times of the last data packet, of the last NAK of all gaps and of the last packet sent, and the sender's clock. `seen`
-- is the end of the received numbers at the end of the previous event
pub record LogStandsFor (terms : Terms) (front point : ℕ) (log : Log) (notes : List Note) (seen : ℕ) : Type 0 where
  pub acks : AcksStandFor terms.width front point log.acks notes
  pub times : times.StandsFor terms.callers log.rtt (samples notes)
  pub rates : Measures terms log.meter notes
  pub arrived_is : log.arrived ≡ last_arrival notes
  pub nak_is : log.nak ≡ last_nak_of_all notes
  pub sent_is : log.sent ≡ last_sent notes
  pub seen_is : log.seen ≡ seen - front
  pub clock_is : clock_in log.drift ≡ clock_of terms notes
