use Rattle.std.proofs.Common.{inl, inr}
use Rattle.srt_poller.proofs.Endings.{as_reported}
use Rattle.srt_poller.proofs.pumping.pump.Goals as goal

pub returns : goal.returns
returns g c =
    elim c.pump_under-pumping.ensures.whole [
      | inl same ↦ as_reported same c.pump_under-pumping.ensures.pumped
      | inr never ↦ absurd never
    ]
