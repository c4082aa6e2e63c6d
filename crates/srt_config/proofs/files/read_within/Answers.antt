use Rattle.std.proofs.Common.{subst, arith, IfSome, ◌≡◌}
use Rattle.srt_config.proofs.Known.{of_known, all_read}
use Rattle.srt_config.proofs.files.read_within.Goals as goal

pub returns-in-Err-clause-reported : goal.returns-in-Err-clause-reported
returns-in-Err-clause-reported g c = c.of_error.ensures.reported c.args.limit

pub returns-in-Err-clause-larger : goal.returns-in-Err-clause-larger
returns-in-Err-clause-larger g c = of_known (g.R.Read.remaining c.args.reader) _ (λ known. c.of_error.ensures.larger c.args.limit known)

pub returns-clause-whole : goal.returns-clause-whole
returns-clause-whole g c =
    subst (λ r. IfSome (g.R.Read.remaining r) (λ known. c.read_to_end.new.buf.items ≡ known)) c.take.ensures.inner
    (all_read c.args.limit c.take.result.limit _ _ c.read_to_end.new.buf.items (omega (arith, c.take.ensures.limit, c.from.ensures))
    c.new-bytes.ensures.items c.in-Ok.ensures.bytes
    (omega (arith, c.if-len-limit.false, c.len.ensures, c.read_to_end.new.buf.ok.0)))
