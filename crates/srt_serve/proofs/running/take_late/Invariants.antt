use Rattle.std.proofs.Common.{◌≡◌, ◌≤◌}
use Rattle.std.specs.Vec.{vec_len, vec_capacity}
use Rattle.srt_poller.specs.Openings.{route_reports}
use Rattle.srt_serve.proofs.Latecomers.{TakenLate}
use Rattle.srt_serve.proofs.running.take_late.Given as goal

abbrev pub invariant-loop-at : goal.invariant-loop-at
invariant-loop-at g l = record {
  room : vec_capacity l.fn.ends ≤ vec_capacity l.ends;
  places : vec_len l.ends ≡ l.at;
  taken :
      TakenLate (route_reports (g.O.Openings.added l.fn.openings) (g.O.Openings.requested l.fn.openings))
      (route_reports (g.O.Openings.added l.openings) (g.O.Openings.requested l.openings)) l.fn.ends.items l.ends.items;
}
