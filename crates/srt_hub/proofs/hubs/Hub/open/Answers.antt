use Rattle.std.proofs.Common.{◌+◌, ℕ, ap, arith, map}
use Rattle.std.proofs.lemmas.List.{take_all}
use Rattle.srt_types.specs.Terms.{terms_of}
use Rattle.srt_hub.proofs.Opened.{lanes_grow, right_at}
use Rattle.srt_hub.proofs.Named.{start_names}
use Rattle.srt_hub.proofs.hubs.Hub.open.Goals as goal

pub open-requires-in-loop-entry-clause-name : goal.open-requires-in-loop-entry-clause-name
open-requires-in-loop-entry-clause-name g c =
    (right_at c.args.entries.now c.loop-entry.entry-index c.entry-item.result c.in_ok-lobby.ensures.sound c.loop-entry-test.true
    c.entry-item.is).name

pub open-requires-in-loop-entry-clause-limits : goal.open-requires-in-loop-entry-clause-limits
open-requires-in-loop-entry-clause-limits g c =
    (right_at c.args.entries.now c.loop-entry.entry-index c.entry-item.result c.in_ok-lobby.ensures.sound c.loop-entry-test.true
    c.entry-item.is).limits

pub open-requires-in-loop-entry-clause-index : goal.open-requires-in-loop-entry-clause-index
open-requires-in-loop-entry-clause-index g c =
    let right = right_at c.args.entries.now c.loop-entry.entry-index c.entry-item.result c.in_ok-lobby.ensures.sound c.loop-entry-test.true c.entry-item.is in
    omega (arith, right.index_below, c.loop-entry.invariant.index)

pub loop-entry-preserved : goal.loop-entry-preserved
loop-entry-preserved g c = record {
  lanes_are = rw (c.in-Ok-push.ensures.items)
      (lanes_grow _ c.args.entries.now c.loop-entry.r c.loop-entry.entry-index c.entry-item.result c.loop-entry.lanes.items
      c.in-Ok-open.lane c.loop-entry.invariant.index c.loop-entry-test.true c.entry-item.is c.in-Ok-open.ensures.empty
      c.loop-entry.invariant.lanes_are);
  index = ap (λ (n : ℕ). n + 1) c.loop-entry.invariant.index;
}

pub returns-clause-stands : goal.returns-clause-stands
returns-clause-stands g c = record {
  lobby_knows = rw (start_names (map terms_of c.args.entries.now)) c.in_ok-lobby.ensures.knows;
  lanes_are = rw (take_all c.loop-entry.entry-index c.args.entries.now c.loop-entry-test.false) at c.loop-entry.invariant.lanes_are;
}
