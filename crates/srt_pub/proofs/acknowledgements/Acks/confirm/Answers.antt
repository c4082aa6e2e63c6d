use Rattle.std.proofs.Common.{Option, ap, sym, subst, ◌∙◌}
use Rattle.srt_timing.specs.Book as book
use Rattle.srt_pub.specs.Publishing.{Full, sample_of, confirmed_notes}
use Rattle.std.specs.Prelude.{option_map}
use Rattle.srt_pub.specs.Kept.{AcksStandFor, AreAcks}
use Rattle.srt_pub.proofs.Books.{confirms_none, confirms_some, book_confirmed, same_sample}
use Rattle.srt_pub.proofs.Fulls.{acks_confirmed}
use Rattle.srt_pub.proofs.acknowledgements.Acks.confirm.Goals as goal

pub returns-in_err-place-clause-sample : goal.returns-in_err-place-clause-sample
returns-in_err-place-clause-sample c width front point notes h =
    let none = confirms_none c.args.number notes (sym (c.in_err-place.ensures.value _ h.0)) in
    c.from_residual.ensures ∙ sym (ap (option_map (sample_of c.args.time)) none)

pub returns-in_err-place-clause-stands : goal.returns-in_err-place-clause-stands
returns-in_err-place-clause-stands c stamp width front point notes h =
    let none = confirms_none c.args.number notes (sym (c.in_err-place.ensures.value _ h.0)) in
    let P : Option Full → Type 0 = λ o. AcksStandFor width front point c.args.self.now (confirmed_notes c.args.time stamp o notes) in
    subst P (sym none) h

pub returns-clause-sample : goal.returns-clause-sample
returns-clause-sample c width front point notes h = c.confirm.ensures.reply _ h.0 ∙ same_sample c.args.number c.args.time notes

pub returns-clause-stands : goal.returns-clause-stands
returns-clause-stands c stamp width front point notes h =
    let s = c.args.self.now in
    let k = confirms_some c.args.number c.in_ok-place.place notes (sym (c.in_ok-place.ensures.value _ h.0)) in
    let P : Option Full → Type 0 =
    λ o. AreAcks width front point (confirmed_notes c.args.time stamp o notes) c.is_known_after-self.result s.same s.last s.arrived in (
      subst (book.StandsFor c.confirm.new.self) (book_confirmed c.args.number c.args.time stamp notes) (c.confirm.ensures.stands _ h.0),
      subst P (sym k.it_is)
          (acks_confirmed width front point c.in_ok-place.place c.args.time stamp (sample_of c.args.time k.full) k.full notes _ _ _ _ _ k.last k.stands
          c.is_known_after-self.ensures h.1),
    )
