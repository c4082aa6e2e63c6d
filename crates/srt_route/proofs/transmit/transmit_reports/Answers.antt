use Rattle.std.proofs.Common.{map}
use Rattle.srt_route.specs.Waits.{replies_of}
use Rattle.srt_types.specs.Given.{given}
use Rattle.srt_pub.specs.Calls.{listed}
use Rattle.srt_pub.specs.Publishing as publishing
use Rattle.srt_pub.specs.Says as publisher_text
use Rattle.srt_route.proofs.steps.Saying.{three_said}
use Rattle.srt_route.proofs.transmit.transmit_reports.Goals as goal

pub returns-clause-said : goal.returns-clause-said
returns-clause-said c terms initial opening stamp caller time m moment stands =
    three_said (replies_of c.args.waiting.now) (replies_of c.put_to_if.new.self) (replies_of c.put_to_if-2.new.self)
    (replies_of c.put_to_if-3.new.self) _ _ _ _ c.args.peer
    (listed (given c.transmit-reports.result.ack c.transmit-reports.new.ack))
    (listed (given c.transmit-reports.result.nak c.transmit-reports.new.nak))
    (listed (given c.transmit-reports.result.keep_alive c.transmit-reports.new.keep_alive))
    (map (publisher_text.says caller initial time) (publishing.reports terms time m))
    (c.transmit-reports.ensures.bytes terms initial opening stamp caller time m moment stands)
    c.put_to_if.ensures c.put_to_if-2.ensures c.put_to_if-3.ensures
