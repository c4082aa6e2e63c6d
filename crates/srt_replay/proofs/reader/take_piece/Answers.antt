use Rattle.std.proofs.Common.{◌+◌, length, take, subst, arith, length-take-le, le_refl}
use Rattle.std.proofs.lemmas.List.{take_all}
use Rattle.std.specs.Io.BufRead.{FillKeeps}
use Rattle.std.proofs.BufReadLemmas.{Consumes_shown}
use Rattle.srt_replay.specs.Known.{Took}
use Rattle.srt_replay.proofs.Taking.{no_lf, no_lf_whole, through_lf, begins, begins_whole, took_from}
use Rattle.srt_replay.proofs.reader.take_piece.Goals as goal

pub returns-then-end-len-clause-took : goal.returns-then-end-len-clause-took
returns-then-end-len-clause-took g c =
    let shown = c.in-Ok.available.now in
    let end = c.in-Some.end in
    let h = c.in-Some.ensures in (
      take end shown,
      begins _ shown end c.in-Ok.ensures.front,
      no_lf shown end (omega (arith, h.0.high)) h.0.before,
      omega (arith, length-take-le end shown (omega (arith, h.0.high)), length-take-le c.args.len c.args.line.now (omega arith)),
    )

pub returns-then-end-len-2-clause-took : goal.returns-then-end-len-2-clause-took
returns-then-end-len-2-clause-took g c =
    let shown = c.in-Ok.available.now in (
      shown,
      begins_whole _ shown c.in-Ok.ensures.front,
      no_lf_whole shown c.in-None.ensures,
      omega (arith, length-take-le c.args.len c.args.line.now (omega arith)),
    )

pub returns-else-end-len-clause-took : goal.returns-else-end-len-clause-took
returns-else-end-len-clause-took g c =
    let shown = c.in-Ok.available.now in
    let end = c.in-Some.end in
    let h = c.in-Some.ensures in
    let rested = c.look.follows.lender-at-none in
    let filled = subst (FillKeeps _ (g.R.Read.remaining rested) (g.R.BufRead.consumable_len rested)) c.in-Ok.is c.look.follows.holds-at-none in
    let moved = Consumes_shown _ _ _ _ shown (end + 1) (omega (arith, h.0.high)) c.in-Ok.ensures.front c.in-Ok.ensures.end filled.0 filled.1
    c.consume.ensures.bytes in (
      take end shown,
      subst (Took (g.R.Read.remaining c.args.reader.now) (g.R.Read.remaining c.consume.new.self)) (through_lf shown end h.0.high h.1)
          (took_from _ _ (take (end + 1) shown) moved.0),
      c.write_at-new_len.ensures.written,
      no_lf shown end (omega (arith, h.0.high)) h.0.before,
      omega (arith, c.write_at-new_len.ensures.end, length-take-le end shown (omega (arith, h.0.high))),
    )

pub returns-else-end-len-2-clause-took : goal.returns-else-end-len-2-clause-took
returns-else-end-len-2-clause-took g c =
    let shown = c.in-Ok.available.now in
    let rested = c.look.follows.lender-at-none in
    let filled = subst (FillKeeps _ (g.R.Read.remaining rested) (g.R.BufRead.consumable_len rested)) c.in-Ok.is c.look.follows.holds-at-none in
    let moved = Consumes_shown _ _ _ _ shown (length shown) (le_refl _) c.in-Ok.ensures.front c.in-Ok.ensures.end filled.0 filled.1
    c.consume-in-None.ensures.bytes in (
      shown,
      subst (Took (g.R.Read.remaining c.args.reader.now) (g.R.Read.remaining c.consume-in-None.new.self))
          (take_all (length shown) shown (le_refl _)) (took_from _ _ (take (length shown) shown) moved.0),
      c.write_at-new_len-in-None.ensures.written,
      no_lf_whole shown c.in-None.ensures,
      omega (arith, c.write_at-new_len-in-None.ensures.end),
    )
