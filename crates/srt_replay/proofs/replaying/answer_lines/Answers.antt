use Rattle.std.proofs.Common.{◌+◌, List, map, arith, le_refl}
use Rattle.srt_hub.specs.World.{Event, names_in, world_after}
use Rattle.srt_hub.specs.inside.Queued.{item_in, reply_in}
use Rattle.srt_hub.specs.inside.Stands.{IsLane}
use Rattle.srt_hub.specs.Hubs.{AreLanes, IsHub}
use Rattle.srt_replay.proofs.Replays.{started, goes_on, stops, no_more}
use Rattle.srt_replay.specs.Counted.{source}
use Rattle.srt_replay.specs.Tries.{sink}
use Rattle.srt_replay.proofs.replaying.answer_lines.Goals as goal

pub loop-before-init : goal.loop-before-init
loop-before-init g c = record {
  short = omega arith;
  fewer = le_refl _;
  replays = λ secret entries h. started (g.L.Lobby.class secret) g.R.RouteStep.reply entries _
      (g.B.Read.remaining (source c.args.reader.now)) (g.W.Write.contents (sink c.args.writer.now)) h;
}

pub returns-in-Ok-false-clause-replays : goal.returns-in-Ok-false-clause-replays
returns-in-Ok-false-clause-replays g c secret entries h =
    no_more (g.L.Lobby.class secret) g.R.RouteStep.reply entries _ (λ (events : List Event). Unit {0})
    (g.B.Read.remaining (source c.args.reader.now)) (g.W.Write.contents (sink c.args.writer.now))
    (g.B.Read.remaining (source c.loop-before.reader)) (g.W.Write.contents (sink c.loop-before.writer))
    (g.B.Read.remaining (source c.answer_next.new.reader)) (g.W.Write.contents (sink c.answer_next.new.writer)) (c.loop-before.before + 1)
    (c.loop-before.invariant.replays secret entries h)
    (λ past s. rw c.in-Ok-false.field-0-test at (c.in-Ok-false.ensures.answered secret entries past s))

pub returns-in-Err-clause-replays : goal.returns-in-Err-clause-replays
returns-in-Err-clause-replays g c secret entries h =
    stops (g.L.Lobby.class secret) g.R.RouteStep.reply entries _
    (λ (events : List Event). IsHub
    (g.L.Lobby.knows c.answer_next.new.hub.lobby secret
    (names_in (world_after (g.L.Lobby.class secret) g.R.RouteStep.reply entries events)))
    (AreLanes
    (λ lane e r m. IsLane e (λ items. g.R.RouteStep.stands lane.route e r items) (g.R.RouteStep.waiting lane.route)
    (map item_in lane.inbox.items) (map reply_in lane.outbox.items) lane.inbox_room lane.outbox_room m)
    (world_after (g.L.Lobby.class secret) g.R.RouteStep.reply entries events) c.answer_next.new.hub.lanes.items))
    (g.B.Read.remaining (source c.args.reader.now)) (g.W.Write.contents (sink c.args.writer.now))
    (g.B.Read.remaining (source c.loop-before.reader)) (g.W.Write.contents (sink c.loop-before.writer))
    (g.B.Read.remaining (source c.answer_next.new.reader)) (g.W.Write.contents (sink c.answer_next.new.writer)) (c.loop-before.before + 1)
    c.in-Err.fault (c.loop-before.invariant.replays secret entries h)
    (λ past s. c.in-Err.ensures.answered secret entries past s)

pub loop-before-preserved : goal.loop-before-preserved
loop-before-preserved g c = record {
  short = rw c.in-Ok-true.field-0-test at c.in-Ok-true.ensures.reads;
  fewer = omega (arith, c.in-Ok-true.ensures.fewer, c.loop-before.invariant.fewer);
  replays = λ secret entries h.
      goes_on (g.L.Lobby.class secret) g.R.RouteStep.reply entries _ _ (g.B.Read.remaining (source c.args.reader.now))
      (g.W.Write.contents (sink c.args.writer.now)) (g.B.Read.remaining (source c.loop-before.reader))
      (g.W.Write.contents (sink c.loop-before.writer)) (g.B.Read.remaining (source c.answer_next.new.reader))
      (g.W.Write.contents (sink c.answer_next.new.writer)) (c.loop-before.before + 1) (c.loop-before.invariant.replays secret entries h)
      (λ past s. rw c.in-Ok-true.field-0-test at (c.in-Ok-true.ensures.answered secret entries past s));
}
