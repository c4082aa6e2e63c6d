use Rattle.std.proofs.Common.{ℕ, ◌*◌, subst, arith}
use Rattle.srt_types.specs.Window.{word_of}
use Rattle.srt_pub.specs.Stands.{StandsFor, width_of}
use Rattle.srt_pub.specs.Publishing.{Terms, opened}
use Rattle.srt_route.specs.Sessions.{agreed_terms}
use Rattle.srt_route.proofs.steps.Starting.{published, publisher_terms}
use Rattle.srt_route.proofs.start.start_publisher.Goals as goal

pub returns : goal.returns
returns c e d same caller wide fits =
    subst
    (λ (n : ℕ).
    StandsFor (agreed_terms e d).publisher (word_of c.args.initial) c.args.arrival.clock c.args.arrival.stamp n c.start.new.self opened)
    caller
    (subst (λ (t : Terms). StandsFor t (word_of c.args.initial) c.args.arrival.clock c.args.arrival.stamp c.args.caller c.start.new.self opened)
    (publisher_terms e d c.args.agreement (width_of c.args.publisher.now) (c.from-delay.result * 1000) same wide (omega (arith, c.from-delay.ensures)))
    (subst
    (λ (n : ℕ).
    StandsFor
    (published c.args.agreement.mode (width_of c.args.publisher.now) (c.from-delay.result * 1000) c.args.agreement.rules)
    (word_of c.args.initial) c.args.arrival.clock n c.args.caller c.start.new.self opened)
    c.new.ensures
    c.start.ensures.stands))
