use Rattle.std.proofs.Common.{◌*◌, subst, arith}
use Rattle.srt_types.specs.Window.{word_of}
use Rattle.srt_sub.specs.Stands.{StandsFor}
use Rattle.srt_sub.specs.Subscribing.{Terms, opened}
use Rattle.srt_route.proofs.steps.Starting.{subscriber_terms}
use Rattle.srt_route.proofs.start.start_subscriber.Goals as goal

pub returns : goal.returns
returns c e same wide =
    subst (λ (t : Terms). StandsFor t (word_of c.args.initial) c.args.clock c.args.c.now.caller c.args.clock c.start.new.self opened)
    (subscriber_terms e c.args.c.now c.args.agreement (c.from-delay.result * 1000) c.resending.result same (omega (arith, c.from-delay.ensures))
    c.resending.ensures)
    (c.start.ensures e.buffer wide)
