use Rattle.srt_serve.proofs.Isolation.{sent_is_front, sent_is_whole, routes_are_isolated, same_items_are_taken, runs_are_isolated}
use Rattle.srt_serve.proofs.laws.isolation.Goals as goal

pub returns : goal.returns
returns c =
    record {
      front = sent_is_front;
      whole = sent_is_whole;
      routes = routes_are_isolated;
      items = same_items_are_taken;
      runs = runs_are_isolated;
    }
