use Rattle.std.proofs.Common.{◌≡◌, ◌≤◌, List, ◌++◌}
use Rattle.std.specs.Vec.{vec_len, vec_capacity}
use Rattle.srt_serve.proofs.ticking.take_new.Given as goal

abbrev pub invariant-loop-at : goal.invariant-loop-at
invariant-loop-at g l = record {
  room : vec_capacity l.fn.ends ≤ vec_capacity l.ends;
  places : vec_len l.ends ≡ l.at;
  same : g.A.TickEnds.places l.arrivals ≡ g.A.TickEnds.places l.fn.arrivals;
  added :
      (more : List _)
      × (g.A.TickEnds.added l.arrivals ≡ g.A.TickEnds.added l.fn.arrivals ++ more) × (l.ends.items ≡ l.fn.ends.items ++ more);
}
