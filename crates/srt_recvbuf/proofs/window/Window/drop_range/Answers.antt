use Rattle.std.proofs.Common.{◌≡◌, ℕ, ◌+◌, ◌≤◌, ◌==◌, if◌then◌else◌, ◌&&◌, ◌∙◌, arith}
use Rattle.std.specs.Prelude.{nat_le, nat_lt}
use Rattle.std.proofs.lemmas.Bool.Decides.{nat_tests}
use Rattle.srt_recvbuf.specs.Cells.{Cell, after_drop}
use Rattle.srt_recvbuf.proofs.window.Window.drop_range.Goals as goal

one_more : (from at d : ℕ) (old mid new : Cell) → from ≤ at → mid ≡ (if nat_le from d && nat_lt d at then after_drop old else old)
    → new ≡ (if d == at then after_drop mid else mid)
    → new ≡ (if nat_le from d && nat_lt d (at + 1) then after_drop old else old)
one_more from at d old mid new le m n = grind (arith, nat_tests)

pub loop-at-preserved : goal.loop-at-preserved
loop-at-preserved c = (
  c.drop_at.ensures.width ∙ c.loop-at.invariant.0,
  λ d. one_more c.args.from c.loop-at.at d _ _ _ c.loop-at.auto.at (c.loop-at.invariant.1 d) (c.drop_at.ensures.cells d),
)
