use Rattle.std.proofs.Common.{◌≡◌, ◌∙◌, ◌+◌, ◌*◌, sym, ap, arith}
use Rattle.srt_packet.specs.View.{body_of}
use Rattle.srt_packet.specs.declared.reading.Kind.{Kind}
use Rattle.srt_hs.specs.declared.writing.HsAnswer.{HsAnswer}
use Rattle.srt_types.specs.declared.shared.Role.TheVariants.{Publish}
use Rattle.srt_route.specs.Past.{has_left, is_shutdown}
use Rattle.srt_route.specs.Sessions.{is_active, receiver_ms, terms_of}
use Rattle.srt_route.specs.Viewing.{latency_in}
use Rattle.srt_route.specs.inside.Drains.{left_in}
use Rattle.srt_route.proofs.stored.Kept.{some_buffers}
use Rattle.srt_route.proofs.steps.Draining.{active_here, drains_now, never_vacant, not_active, not_left, stored_at}
use Rattle.srt_route.proofs.draining.drains_from.Goals as goal

pub returns-then-not-is_active_by : goal.returns-then-not-is_active_by
returns-then-not-is_active_by c e index ss s h found publishing =
    let active = active_here e index c.args.clock c.args.table.now ss c.args.at c.index.result.now c.in-Some.session s
    c.active_buffers-active.result h c.requires.inside c.index.ensures c.in-Some.is found publishing c.active_buffers-active.ensures.none
    c.active_buffers-active.ensures.some in
    not_active (is_shutdown (body_of c.args.kind.now)) (is_active ss s) (has_left (terms_of e s) s.past)
    (c.args.clock + (terms_of e s).publisher.delay + 5_000_000)
    (sym active ∙ (sym c.is_active_by.ensures ∙ c.if-not-is_active_by.true))

pub returns-then-not-has_left : goal.returns-then-not-has_left
returns-then-not-has_left c e index ss s h found publishing =
    let d = c.index.result.now in
    let p = some_buffers c.args.table.now in
    let left = c.has_left.ensures d e index c.args.clock c.args.at p ss (h.seats_are c.args.at d p c.requires.inside)
    ∙ ap (left_in e) found in
    not_left (is_shutdown (body_of c.args.kind.now)) (is_active ss s) (has_left (terms_of e s) s.past)
    (c.args.clock + (terms_of e s).publisher.delay + 5_000_000) (sym left ∙ c.if-not-has_left.true)

pub returns-else-not-has_left : goal.returns-else-not-has_left
returns-else-not-has_left c e index ss s h found publishing =
    let d = c.index.result.now in
    let p = some_buffers c.args.table.now in
    let active = active_here e index c.args.clock c.args.table.now ss c.args.at d c.in-Some.session s
    c.active_buffers-active.result h c.requires.inside c.index.ensures c.in-Some.is found publishing c.active_buffers-active.ensures.none
    c.active_buffers-active.ensures.some in
    let left = c.has_left.ensures d e index c.args.clock c.args.at p ss (h.seats_are c.args.at d p c.requires.inside)
    ∙ ap (left_in e) found in
    let stored = stored_at e index c.args.clock c.args.table.now ss c.args.at d c.in-Some.session s h c.requires.inside c.index.ensures c.in-Some.is found in
    let latency : c.from-delay.result ≡ receiver_ms e s.conclusion =
    c.from-delay.ensures ∙ (c.latency_in.ensures ∙ ap (λ (a : HsAnswer). latency_in Publish a) stored.answer_is) in
    let same : c.args.clock + c.from-delay.result * 1000 + 5_000_000 ≡ c.args.clock + 1000 * receiver_ms e s.conclusion + 5_000_000 =
    omega (arith, latency) in
    drains_now (is_shutdown (body_of c.args.kind.now)) (is_active ss s) (has_left (terms_of e s) s.past)
    (c.args.clock + c.from-delay.result * 1000 + 5_000_000) (c.args.clock + (terms_of e s).publisher.delay + 5_000_000)
    (ap (λ (k : Kind). is_shutdown (body_of k)) c.in-Shutdown.is)
    (sym active ∙ (sym c.is_active_by.ensures ∙ c.if-not-is_active_by.false))
    (sym left ∙ c.if-not-has_left.false) same

pub returns-in-None : goal.returns-in-None
returns-in-None c e index ss s h found publishing =
    absurd (never_vacant e index c.args.clock c.args.table.now ss c.args.at c.index.result.now s h c.requires.inside c.index.ensures c.in-None.is found)
