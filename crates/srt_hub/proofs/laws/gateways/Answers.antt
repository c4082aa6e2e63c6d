use Rattle.srt_hub.proofs.Own.{arrivals_are_own, sorts_by_own_name, steps_are_own, sent_by_own_steps, sent_by_accepted, solo_is_the_routes, sent_are_packets}
use Rattle.srt_hub.proofs.Callers.{callers_may_call}
use Rattle.srt_hub.proofs.laws.gateways.Goals as goal

pub returns : goal.returns
returns c =
    record {
      arrivals = arrivals_are_own;
      own_name = sorts_by_own_name;
      steps = steps_are_own;
      own_steps = sent_by_own_steps;
      accepted = sent_by_accepted;
      solo = solo_is_the_routes;
      packets = sent_are_packets;
      callers = callers_may_call;
    }
