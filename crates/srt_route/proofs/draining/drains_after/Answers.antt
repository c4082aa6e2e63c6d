use Rattle.std.proofs.Common.{◌∙◌, ◌+◌, ◌&&◌, sym, ap}
use Rattle.srt_types.specs.declared.shared.Callers.{Callers}
use Rattle.srt_types.specs.declared.shared.Rules.{Rules}
use Rattle.srt_packet.specs.View.{body_of}
use Rattle.srt_route.specs.Past.{has_left, is_shutdown}
use Rattle.srt_route.specs.Route.{drain_if}
use Rattle.srt_route.specs.Sessions.{is_active, terms_of}
use Rattle.srt_route.proofs.draining.drains_after.Goals as goal

pub returns-in-Libsrt : goal.returns-in-Libsrt
returns-in-Libsrt c e index ss s h found publishing =
    c.drains_from.ensures e index ss s h found publishing
    ∙ ap
    (λ (k : Callers). drain_if k (is_shutdown (body_of c.args.kind.now) && is_active ss s && has_left (terms_of e s) s.past)
    (c.args.clock + (terms_of e s).publisher.delay + 5_000_000))
    (sym c.in-Libsrt.is ∙ ap (λ (r : Rules). r.callers) h.rules_are)
