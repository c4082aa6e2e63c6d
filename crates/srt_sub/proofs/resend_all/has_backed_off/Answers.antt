use Rattle.std.proofs.Common.{◌/◌, ◌^◌, min, ap, ◌∙◌}
use Rattle.std.specs.Prelude.{nat_le}
use Rattle.srt_sub.proofs.Doubling.{divided, power_some}
use Rattle.srt_sub.proofs.resend_all.has_backed_off.Goals as goal

pub returns : goal.returns
returns c =
    ap (λ k. nat_le c.args.timeout (c.args.quiet / 2 ^ k)) c.min.ensures
    ∙ divided c.args.timeout c.args.quiet (2 ^ min c.args.tries 6) (power_some (min c.args.tries 6))
