use Rattle.std.proofs.Common.{sym, ◌∙◌, arith}
use Rattle.srt_timing.proofs.Places.{place_none, place_stale, place_some, read_at}
use Rattle.srt_timing.proofs.book.AckBook.place_of.Goals as goal

pub returns-in_err-place-clause-value : goal.returns-in_err-place-clause-value
returns-in_err-place-clause-value c h b = c.from_residual.ensures ∙ sym (place_none h c.args.number b.numbered (c.in_err-place.ensures.back _ b.next_is))

pub returns-in-Some-clause-value : goal.returns-in-Some-clause-value
returns-in-Some-clause-value c h b =
    let s = c.args.self.now in
    let small = c.in_ok-place.ensures.below in
    let m = read_at s.next s.at s.moments.items h c.in_ok-place.place _ _ (omega (arith, s.moments.ok.0)) small c.index_of.ensures.value b
    c.index.ensures
    ∙ c.in-Some.is in
    sym (place_some h c.args.number _ _ small b.numbered (c.in_ok-place.ensures.back _ b.next_is) m)

pub returns-in-None-clause-value : goal.returns-in-None-clause-value
returns-in-None-clause-value c h b =
    let s = c.args.self.now in
    let small = c.in_ok-place.ensures.below in
    let m = read_at s.next s.at s.moments.items h c.in_ok-place.place _ _ (omega (arith, s.moments.ok.0)) small c.index_of.ensures.value b
    c.index.ensures
    ∙ c.in-None.is in
    sym (place_stale h c.args.number _ b.numbered (c.in_ok-place.ensures.back _ b.next_is) m)
