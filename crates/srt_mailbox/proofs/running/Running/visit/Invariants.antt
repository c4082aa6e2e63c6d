use Rattle.std.proofs.Common.{◌≡◌, ◌≤◌, ◌+◌, length, option_map}
use Rattle.srt_mailbox.specs.Queried.{passes}
use Rattle.srt_mailbox.specs.Cells.{CellIdentity, Bears}
use Rattle.srt_mailbox.specs.Visits.{turns_of}
use Rattle.srt_mailbox.proofs.running.Running.visit.Given as goal

abbrev pub invariant-loop-turns : goal.invariant-loop-turns
invariant-loop-turns g l =
    ((n : CellIdentity) → Bears n l.fn.self → Bears n l.self)
    × (l.moved ≤ l.turns)
    × (length l.self.outbox.put ≡ length l.fn.self.outbox.put + l.moved)
    × (turns_of l.self ≡ turns_of l.fn.self + l.turns)
    × (g.G.Gate.held l.gate ≡ g.G.Gate.held l.fn.gate)
    × (l.self.refusals ≡ l.fn.self.refusals)
    × (g.G.Gate.requested l.gate ≡ option_map (passes l.fn.route l.turns) (g.G.Gate.requested l.fn.gate))
