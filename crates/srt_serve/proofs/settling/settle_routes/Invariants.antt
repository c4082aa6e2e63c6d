use Rattle.std.proofs.Common.{◌≡◌, ◌≤◌, true, List, ◌++◌, drop, length}
use Rattle.std.specs.Vec.{vec_capacity}
use Rattle.std.specs.Vec.Iter.{into_iter_items}
use Rattle.srt_mailbox.specs.Places.{arrived}
use Rattle.srt_mailbox.specs.declared.accounts.Account.{Account}
use Rattle.srt_serve.specs.Settled.{AreJoined, AreSettled, AreLastShown}
use Rattle.srt_serve.proofs.settling.settle_routes.Given as goal

abbrev pub invariant-loop-r : goal.invariant-loop-r
invariant-loop-r g l = record {
  joined : AreJoined (drop l.r (arrived l.routes)) (into_iter_items l.ends) (into_iter_items l.clocks);
  many : length l.accounts.items ≡ l.r;
  room : vec_capacity l.fn.accounts ≤ vec_capacity l.accounts;
  looks : l.viewer.looks ≡ l.fn.viewer.looks;
  shown : l.fn.viewer.looks ≡ true → AreLastShown g.T.Watch.shown 0 l.accounts.items;
  settled : (more : List Account) → AreSettled more (drop l.r (arrived l.routes)) (into_iter_items l.ends) (into_iter_items l.clocks)
      → AreSettled (l.accounts.items ++ more) (arrived l.routes) l.fn.ends.items l.fn.clocks.items;
}
