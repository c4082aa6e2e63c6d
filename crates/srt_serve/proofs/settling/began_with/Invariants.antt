use Rattle.std.proofs.Common.{◌≡◌, map, take}
use Rattle.srt_mailbox.specs.Identities.{identity_in}
use Rattle.srt_mailbox.specs.Places.{arrived}
use Rattle.srt_serve.proofs.settling.began_with.Given as goal

abbrev pub invariant-loop-r : goal.invariant-loop-r
invariant-loop-r g l = take l.r (map (λ t. identity_in t.value.cell) l.put.items) ≡ take l.r (arrived l.routes)
