use Rattle.std.proofs.Common.{◌≡◌, ◌≤◌, [], ◌+◌, length}
use Rattle.std.specs.Vec.{vec_capacity}
use Rattle.std.specs.Vec.Iter.{into_iter_items}
use Rattle.srt_serve.specs.inside.Ended.{AreNumbered}
use Rattle.srt_serve.proofs.serving.fn.start_workers.scope.Given as goal

abbrev pub invariant-loop-number : goal.invariant-loop-number
invariant-loop-number g l = record {
  left : length (into_iter_items l.gates) + l.number ≡ l.number-end;
  many : length l.handles.items ≡ l.number;
  numbered : AreNumbered (λ h. h.promise.number) l.handles.items;
}
