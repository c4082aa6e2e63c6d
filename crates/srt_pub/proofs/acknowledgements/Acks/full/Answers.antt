use Rattle.std.proofs.Common.{ap, sym, subst, ◌∙◌, length, arith}
use Rattle.srt_timing.specs.Book as book
use Rattle.srt_types.specs.Counts.{ack_number}
use Rattle.srt_timing.specs.RoundTrip.{RoundTrip}
use Rattle.srt_pub.specs.Publishing.{fulls, round_trip, rates_of}
use Rattle.srt_pub.proofs.Books.{book_full, length_book}
use Rattle.srt_pub.proofs.Fulls.{acks_full}
use Rattle.srt_pub.proofs.Bytes.{full_bytes}
use Rattle.srt_pub.proofs.acknowledgements.Acks.full.Goals as goal

pub returns-clause-stands : goal.returns-clause-stands
returns-clause-stands c terms front a notes t rates is h =
    let s = c.args.self.now in
    let rtt = round_trip terms.callers notes in
    let n = c.note.new.self in
    let b = c.note.ensures.stands _ h.0 in (
      subst (book.StandsFor n)
          (sym (book_full c.args.time a rtt.time rtt.variance c.args.state.available (rates_of terms notes) notes
          (h.1.confirmed.below (length (fulls notes)) (omega arith))))
          b,
      acks_full terms.width front a c.args.time rtt.time rtt.variance c.args.state.available _ (rates_of terms notes) notes _ _ _ _ is
          (omega (arith, c.saturating_add.ensures, c.min-self.ensures)) h.1,
    )

pub returns-clause-bytes : goal.returns-clause-bytes
returns-clause-bytes c terms front a initial caller notes t rates p h =
    let rtt = round_trip terms.callers notes in
    full_bytes caller initial c.args.time c.note.result (length (fulls notes)) a _ _ c.args.state.available rtt.time
    rtt.variance c.args.rates (rates_of terms notes) c.args.state.point (c.note.ensures.number _ h.0 ∙ ap ack_number (length_book notes)) p
    (c.rtt.ensures ∙ ap (λ (r : RoundTrip). r.time) t) (c.variance.ensures ∙ ap (λ (r : RoundTrip). r.variance) t) rates
