use Rattle.std.proofs.Common.{◌≡◌, take}
use Rattle.srt_mailbox.specs.Places.{arrived}
use Rattle.srt_serve.proofs.settling.reached_all.Given as goal

abbrev pub invariant-loop-r : goal.invariant-loop-r
invariant-loop-r g l = take l.r (arrived l.routes) ≡ take l.r (arrived l.arrivals)
