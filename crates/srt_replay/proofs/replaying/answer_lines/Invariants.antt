use Rattle.std.proofs.Common.{ℕ, ◌≤◌, ◌+◌, List, [], map}
use Rattle.srt_types.specs.Terms.{Terms}
use Rattle.srt_hub.specs.World.{Event, names_in, world_after}
use Rattle.srt_hub.specs.inside.Queued.{item_in, reply_in}
use Rattle.srt_hub.specs.inside.Stands.{IsLane}
use Rattle.srt_hub.specs.Hubs.{AreLanes, IsHub}
use Rattle.srt_replay.specs.Tape.{max_lines}
use Rattle.srt_replay.specs.Counted.{source, reads_left}
use Rattle.srt_replay.specs.Tries.{sink}
use Rattle.srt_replay.specs.inside.Step.{IsReplaying}
use Rattle.srt_replay.proofs.replaying.answer_lines.Given as goal

abbrev pub invariant-loop-before : goal.invariant-loop-before
invariant-loop-before g l = record {
  short : l.before ≤ max_lines;
  fewer : reads_left l.reader ≤ reads_left l.fn.reader;
  replays :
      (secret : List ℕ) (entries : List Terms) →
      IsHub (g.L.Lobby.knows l.fn.hub.lobby secret (names_in (world_after (g.L.Lobby.class secret) g.R.RouteStep.reply entries [])))
      (AreLanes
      (λ lane e r m. IsLane e (λ items. g.R.RouteStep.stands lane.route e r items) (g.R.RouteStep.waiting lane.route)
      (map item_in lane.inbox.items) (map reply_in lane.outbox.items) lane.inbox_room lane.outbox_room m)
      (world_after (g.L.Lobby.class secret) g.R.RouteStep.reply entries []) l.fn.hub.lanes.items)
      →
      IsReplaying (g.L.Lobby.class secret) g.R.RouteStep.reply entries
      (λ (events : List Event).
      IsHub (g.L.Lobby.knows l.hub.lobby secret (names_in (world_after (g.L.Lobby.class secret) g.R.RouteStep.reply entries events)))
      (AreLanes
      (λ lane e r m. IsLane e (λ items. g.R.RouteStep.stands lane.route e r items) (g.R.RouteStep.waiting lane.route)
      (map item_in lane.inbox.items) (map reply_in lane.outbox.items) lane.inbox_room lane.outbox_room m)
      (world_after (g.L.Lobby.class secret) g.R.RouteStep.reply entries events) l.hub.lanes.items))
      (g.B.Read.remaining (source l.fn.reader)) (g.W.Write.contents (sink l.fn.writer)) (g.B.Read.remaining (source l.reader))
      (g.W.Write.contents (sink l.writer)) (l.before + 1);
}
