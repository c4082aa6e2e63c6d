-- The log's fields represent the notes after each event.
use Rattle.std.proofs.Common.{◌≡◌, ℕ, Bool, true, false, if◌then◌else◌, Option, None, Some, List, [], ◌∷◌, length, refl, sym, subst, ap, ◌∙◌, arith}
use Rattle.std.specs.Prelude.{option_map}
use Rattle.srt_timing.specs.Book as book
use Rattle.srt_timing.specs.RoundTrip as times
use Rattle.srt_timing.specs.declared.sampled.SampledRtt.{SampledRtt}
use Rattle.srt_types.specs.Runs.{Run}
use Rattle.srt_pub.specs.Publishing.{Terms, Full, Note, Sent, Report, FullAck, LightAck, KeepAlive, samples, last_sent, last_nak_of_all, ack_of, acks_at}
use Rattle.srt_pub.specs.Publishing.{is_full_due, is_light_due, noted, nak_report, last_arrival, received_at, sample_of}
use Rattle.srt_pub.specs.Publishing.{confirmed_notes, rating, follows, clock_samples, clock_if, clock_of}
use Rattle.srt_timing.specs.Clock.{Sample, sampled}
use Rattle.srt_timing.specs.declared.session_drift.Drift.{Drift}
use Rattle.srt_packet.specs.declared.writing.Rates.{Rates}
use Rattle.srt_pub.specs.Kept.{AcksStandFor, LogStandsFor, MeterStandsFor, clock_in}
use Rattle.srt_pub.specs.declared.acknowledgements.Acks.{Acks}
use Rattle.srt_pub.specs.declared.log.Log.{Log}
use Rattle.srt_pub.proofs.Books.{book_sent}
use Rattle.srt_pub.proofs.Fulls.{acks_other, IsNoAck}

-- the fields after an ACK
pub record IsAfterAcks (time : ℕ) (rs : List Report) (notes : List Note) : Type 0 where
  pub samples_are : samples (noted time rs notes) ≡ samples notes
  pub nak_is : last_nak_of_all (noted time rs notes) ≡ last_nak_of_all notes
  pub received_are : received_at (noted time rs notes) ≡ received_at notes
  pub arrived_is : last_arrival (noted time rs notes) ≡ last_arrival notes
  pub clocked_are : clock_samples (noted time rs notes) ≡ clock_samples notes
  pub nothing : length rs ≡ 0 → last_sent (noted time rs notes) ≡ last_sent notes
  pub something : length rs ≡ 1 → last_sent (noted time rs notes) ≡ time

one_is_none : {P : Type 0} (n : ℕ) → n ≡ 1 → n ≡ 0 → P
one_is_none n k e = absurd (omega (arith, k, e))

none_is_one : {P : Type 0} (n : ℕ) → n ≡ 0 → n ≡ 1 → P
none_is_one n k e = absurd (omega (arith, k, e))

after_ack : (full light : Bool) (index point rtt variance room : ℕ) (rates : Rates) (a time : ℕ) (notes : List Note)
    → IsAfterAcks time (ack_of full light (FullAck index point rtt variance room rates) (LightAck a)) notes
after_ack true light index point rtt variance room rates a time notes =
    record {
      samples_are = refl;
      nak_is = refl;
      received_are = refl;
      arrived_is = refl;
      clocked_are = refl;
      nothing = λ e. one_is_none _ refl e;
      something = λ e. refl;
    }
after_ack false true index point rtt variance room rates a time notes =
    record {
      samples_are = refl;
      nak_is = refl;
      received_are = refl;
      arrived_is = refl;
      clocked_are = refl;
      nothing = λ e. one_is_none _ refl e;
      something = λ e. refl;
    }
after_ack false false index point rtt variance room rates a time notes =
    record {
      samples_are = refl;
      nak_is = refl;
      received_are = refl;
      arrived_is = refl;
      clocked_are = refl;
      nothing = λ e. refl;
      something = λ e. none_is_one _ refl e;
    }

pub after_acks : (terms : Terms) (a available time : ℕ) (notes : List Note) → IsAfterAcks time (acks_at terms a available time notes) notes
unfolding acks_at
after_acks terms a available time notes = after_ack (is_full_due terms.width a available time notes) (is_light_due notes) _ _ _ _ _ _ _ time notes

no_ack : (all : Bool) (time : ℕ) (rs : List Run) (notes : List Note) → IsNoAck time (nak_report all rs) notes
no_ack true time rs notes = record { fulls_are = refl; arrived_is = refl }
no_ack false time rs notes = record { fulls_are = refl; arrived_is = refl }

acks_after : (width front point time : ℕ) (r : Report) (acks : Acks) (notes : List Note)
    → IsNoAck time r notes → AcksStandFor width front point acks notes → AcksStandFor width front point acks (Sent time r ∷ notes)
acks_after width front point time r acks notes n h = (
  subst (book.StandsFor acks.book) (sym (book_sent time r notes n.fulls_are)) h.0,
  acks_other width front point time r notes _ _ _ _ n h.1,
)

pub log_nak : (terms : Terms) (front point seen time nak' : ℕ) (all : Bool) (rs : List Run) (log : Log) (notes : List Note)
    → nak' ≡ (if all then time else log.nak) → LogStandsFor terms front point log notes seen
    → LogStandsFor terms front point (record log { nak = nak'; sent = time }) (Sent time (nak_report all rs) ∷ notes) seen
log_nak terms front point seen time nak' true rs log notes e h =
    record {
      acks = acks_after terms.width front point time (nak_report true rs) log.acks notes (no_ack true time rs notes) h.acks;
      times = h.times;
      rates = h.rates;
      arrived_is = h.arrived_is;
      nak_is = e;
      sent_is = refl;
      seen_is = h.seen_is;
      clock_is = h.clock_is;
    }
log_nak terms front point seen time nak' false rs log notes e h =
    record {
      acks = acks_after terms.width front point time (nak_report false rs) log.acks notes (no_ack false time rs notes) h.acks;
      times = h.times;
      rates = h.rates;
      arrived_is = h.arrived_is;
      nak_is = e ∙ h.nak_is;
      sent_is = refl;
      seen_is = h.seen_is;
      clock_is = h.clock_is;
    }

pub log_alive : (terms : Terms) (front point seen time : ℕ) (log : Log) (notes : List Note) → LogStandsFor terms front point log notes seen
    → LogStandsFor terms front point (record log { sent = time }) (Sent time KeepAlive ∷ notes) seen
log_alive terms front point seen time log notes h =
    record {
      acks = acks_after terms.width front point time KeepAlive log.acks notes (record { fulls_are = refl; arrived_is = refl }) h.acks;
      times = h.times;
      rates = h.rates;
      arrived_is = h.arrived_is;
      nak_is = h.nak_is;
      sent_is = refl;
      seen_is = h.seen_is;
      clock_is = h.clock_is;
    }

-- the clock after one more sample, if it is followed
clock_sampled : (followed : Bool) (s : Sample) (samples : List Sample) → option_map (sampled s) (clock_if followed samples) ≡ clock_if followed (s ∷ samples)
clock_sampled true s samples = refl
clock_sampled false s samples = refl

-- a Full ACK is confirmed, which yields a sample
pub log_confirmed : (terms : Terms) (front point seen time stamp sample : ℕ) (full : Option Full) (log : Log) (acks : Acks) (rtt : SampledRtt)
    (drift : Option Drift) (notes : List Note)
    → Some sample ≡ option_map (sample_of time) full → AcksStandFor terms.width front point acks (confirmed_notes time stamp full notes)
    → times.StandsFor terms.callers rtt (sample ∷ samples notes)
    → clock_in drift ≡ option_map (sampled (record { time = time; stamp = stamp; round_trip = sample })) (clock_in log.drift)
    → LogStandsFor terms front point log notes seen
    → LogStandsFor terms front point (record log { acks = acks; rtt = rtt; drift = drift }) (confirmed_notes time stamp full notes) seen
log_confirmed terms front point seen time stamp sample None log acks rtt drift notes e a t d h = absurd cc
log_confirmed terms front point seen time stamp sample (Some full) log acks rtt drift notes e a t d h =
    let same : sample ≡ sample_of time full = cc in
    let s : Sample = record { time = time; stamp = stamp; round_trip = sample_of time full } in
    record {
      acks = a;
      times = subst (λ (s : ℕ). times.StandsFor terms.callers rtt (s ∷ samples notes)) same t;
      rates = h.rates;
      arrived_is = h.arrived_is;
      nak_is = h.nak_is;
      sent_is = h.sent_is;
      seen_is = h.seen_is;
      clock_is = d
          ∙ ap (λ (n : ℕ). option_map (sampled (record { time = time; stamp = stamp; round_trip = n })) (clock_in log.drift)) same
          ∙ ap (option_map (sampled s)) h.clock_is
          ∙ clock_sampled (follows terms.mode terms.callers) s (clock_samples notes);
    }

-- the log before the first event
pub log_first : (terms : Terms) (log : Log) → AcksStandFor terms.width 0 0 log.acks [] → times.StandsFor terms.callers log.rtt []
    → MeterStandsFor (rating terms.mode terms.callers) log.meter [] → log.arrived ≡ 0 → log.nak ≡ 0 → log.sent ≡ 0 → log.seen ≡ 0
    → clock_in log.drift ≡ clock_of terms []
    → LogStandsFor terms 0 0 log [] 0
log_first terms log acks rtt meter arrived nak sent seen clock =
    record {
      acks = acks;
      times = rtt;
      rates = meter;
      arrived_is = arrived;
      nak_is = nak;
      sent_is = sent;
      seen_is = seen;
      clock_is = clock;
    }
