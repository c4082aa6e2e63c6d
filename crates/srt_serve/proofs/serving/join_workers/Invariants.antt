use Rattle.std.proofs.Common.{◌≡◌, ◌≤◌, length, drop}
use Rattle.std.specs.Vec.{vec_capacity}
use Rattle.std.specs.Vec.Iter.{into_iter_items}
use Rattle.srt_serve.specs.inside.Ended.{AreNumbered}
use Rattle.srt_serve.proofs.serving.join_workers.Given as goal

abbrev pub invariant-loop-number : goal.invariant-loop-number
invariant-loop-number g l = record {
  left : drop l.number l.fn.handles.items ≡ into_iter_items l.handles;
  many : length l.ended.items ≡ l.number;
  room : vec_capacity l.fn.ended ≤ vec_capacity l.ended;
  numbered : AreNumbered (λ w. w.number) l.ended.items;
}
