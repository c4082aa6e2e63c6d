use Rattle.std.proofs.Common.{ℕ, min, Some, ap, sym, ◌∙◌, arith}
use Rattle.srt_timing.proofs.Places.{read_at}
use Rattle.srt_timing.proofs.Confirmed.{book_confirmed, sample_found, sample_none, confirmed_none, has_moment}
use Rattle.srt_timing.proofs.book.AckBook.confirm.Goals as goal

pub returns-in_err-place-clause-reply : goal.returns-in_err-place-clause-reply
returns-in_err-place-clause-reply c h b = c.from_residual.ensures ∙ sym (sample_none h c.args.number c.args.now (sym (c.in_err-place.ensures.value h b)))

pub returns-in_err-place-clause-stands : goal.returns-in_err-place-clause-stands
returns-in_err-place-clause-stands c h b = rw (confirmed_none h c.args.number (sym (c.in_err-place.ensures.value h b))) b

pub returns-in_err-moment-clause-reply : goal.returns-in_err-moment-clause-reply
returns-in_err-moment-clause-reply c h b =
    let s = c.args.self.now in
    let place = sym (c.in_ok-place.ensures.value h b) in
    let none = read_at s.next s.at s.moments.items h c.in_ok-place.place _ _ (omega (arith, s.moments.ok.0)) c.in_ok-place.ensures.below
    c.index_of-index.ensures.value b c.index.ensures
    ∙ c.in_err-moment.was in
    absurd (has_moment h c.args.number _ place none)

pub returns-in_err-moment-clause-stands : goal.returns-in_err-moment-clause-stands
returns-in_err-moment-clause-stands c h b =
    let s = c.args.self.now in
    let place = sym (c.in_ok-place.ensures.value h b) in
    let none = read_at s.next s.at s.moments.items h c.in_ok-place.place _ _ (omega (arith, s.moments.ok.0)) c.in_ok-place.ensures.below
    c.index_of-index.ensures.value b c.index.ensures
    ∙ c.in_err-moment.was in
    absurd (has_moment h c.args.number _ place none)

pub returns-clause-reply : goal.returns-clause-reply
returns-clause-reply c h b =
    let s = c.args.self.now in
    let place = sym (c.in_ok-place.ensures.value h b) in
    let m = read_at s.next s.at s.moments.items h c.in_ok-place.place _ _ (omega (arith, s.moments.ok.0)) c.in_ok-place.ensures.below
    c.index_of-index.ensures.value b c.index.ensures
    ∙ c.in_ok-moment.was in
    ap Some (c.min.ensures ∙ ap (λ (k : ℕ). min k 10_000_000) c.saturating_sub.ensures) ∙ sym (sample_found h c.args.number c.args.now _ _ place m)

pub returns-clause-stands : goal.returns-clause-stands
returns-clause-stands c h b =
    let s = c.args.self.now in
    let place = sym (c.in_ok-place.ensures.value h b) in
    book_confirmed s.next s.at s.moments.items h c.args.number c.in_ok-place.place _ (omega (arith, s.moments.ok.0)) s.at_in
    c.in_ok-place.ensures.below c.index_of-index.ensures.value b place
