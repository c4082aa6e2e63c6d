use Rattle.std.proofs.Common.{◌≡◌, ◌++◌, take}
use Rattle.std.specs.List.{flat_map}
use Rattle.srt_samples.specs.Samples.{loss_bytes}
use Rattle.srt_samples.proofs.writing.put_losses.Given as goal

abbrev pub invariant-loop-loss : goal.invariant-loop-loss
invariant-loop-loss l = l.out.items ≡ l.fn.out.items ++ flat_map loss_bytes (take l.loss-index l.losses)
