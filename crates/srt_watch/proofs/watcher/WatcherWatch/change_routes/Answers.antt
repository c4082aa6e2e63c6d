use Rattle.std.proofs.Common.{refl, rules}
use Rattle.srt_supervision.specs.Answers.{Closes, Opens}
use Rattle.srt_watch.specs.Outcomes.{Polled}
use Rattle.srt_watch.proofs.watcher.WatcherWatch.change_routes.Goals as goal

pub follow-requires-clause-closings : goal.follow-requires-clause-closings
follow-requires-clause-closings g c = λ r k. c.requires (Closes r) k

pub follow-requires-clause-openings : goal.follow-requires-clause-openings
follow-requires-clause-openings g c = λ t k. c.requires (Opens t) k

pub returns-clause-polled : goal.returns-clause-polled
returns-clause-polled g c = record {
  when = c.now-when.result;
  now_is = c.now-when.ensures.time;
  is_done = Polled _ _ (search rules) refl c.follow.ensures.followed c.follow.ensures.told;
}
