use Rattle.std.proofs.Common.{◌-◌, ◌∙◌, Bool, map, subst, sym, ap}
use Rattle.srt_sub.specs.Subscribing as subscribing
use Rattle.srt_sub.specs.Says as subscriber_text
use Rattle.srt_sub.specs.Stands.{StandsFor}
use Rattle.srt_route.specs.declared.seat.Session.{Session as StoredSession}
use Rattle.srt_route.specs.Buffers.{datagrams_to}
use Rattle.srt_route.specs.Tables.{hears_recently}
use Rattle.srt_route.proofs.steps.Saying.{same_said, some_same}
use Rattle.srt_route.proofs.transmit.transmit_seat.Goals as goal

pub returns-in-Some-clause-said : goal.returns-in-Some-clause-said
returns-in-Some-clause-said c h t is terms initial opening caller m stands fresh =
    let time = c.args.clock - opening in
    same_said (ap
    (λ (b : Bool). datagrams_to c.in-Some.session.peer
    (map (subscriber_text.says caller initial time) (subscribing.reports terms time b m)))
    c.hears_recently-recent.ensures
    ∙ ap
    (λ (u : StoredSession). datagrams_to u.peer
    (map (subscriber_text.says caller initial time)
    (subscribing.reports terms time (hears_recently c.args.clock c.args.seat.now) m)))
    (some_same c.in-Some.session t (sym c.in-Some.is ∙ is)))
    (c.transmit_subscriber.ensures.said terms initial opening caller m stands fresh)

pub returns-in-Some-clause-stands : goal.returns-in-Some-clause-stands
returns-in-Some-clause-stands c h terms initial opening caller m stands fresh =
    subst
    (λ (b : Bool).
    StandsFor terms initial opening caller c.args.clock c.transmit_subscriber.new.subscriber
    (subscribing.reported terms (c.args.clock - opening) b m))
    c.hears_recently-recent.ensures
    (c.transmit_subscriber.ensures.stands terms initial opening caller m stands fresh)
