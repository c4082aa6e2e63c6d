use Rattle.std.proofs.Common.{◌≡◌, ◌-◌, ◌∙◌, arith}
use Rattle.std.specs.Prelude.{nat_lt}
use Rattle.std.proofs.lemmas.Bool.Decides.{nat_tests}
use Rattle.srt_sendbuf.proofs.Steps.{is_any_lost}
use Rattle.srt_sendbuf.proofs.buffer.SendBuf.any_lost.Goals as goal

pub returns : goal.returns
returns c width initial r h =
    let s = c.args.self.now in
    let same : nat_lt 0 (s.high - s.low) ≡ nat_lt s.low s.high = grind (arith, nat_tests) in
    same ∙ is_any_lost initial _ _ _ _ _ _ _ _ _ _ r h.fields s.high_in
