use Rattle.std.proofs.Common.{sym, ap, ◌∙◌}
use Rattle.srt_route.specs.Sessions.{publishes}
use Rattle.srt_route.proofs.steps.Views.{notified_publisher, notified_subscriber}
use Rattle.srt_route.proofs.view.traffic_of.Goals as goal

pub returns-in-Publish : goal.returns-in-Publish
returns-in-Publish c e clock s role seated =
    notified_publisher e clock c.args.publisher.now c.args.subscriber.now s c.statistics.result s.past seated.past_is
    (sym (ap publishes role) ∙ ap publishes c.in-Publish.is) c.statistics.ensures

pub returns-in-Request : goal.returns-in-Request
returns-in-Request c e clock s role seated =
    notified_subscriber e clock c.args.publisher.now c.args.subscriber.now s c.statistics-in-Request.result s.past seated.past_is
    (sym (ap publishes role) ∙ ap publishes c.in-Request.is) c.statistics-in-Request.ensures
