use Rattle.srt_pub.proofs.session.Publisher.drop_request.Goals as goal
use Rattle.std.proofs.Common.{◌≡◌, sym, subst, ◌∙◌}
use Rattle.srt_types.specs.declared.shared.Mode.{Mode}
use Rattle.srt_types.specs.declared.shared.Mode.TheVariants.{Live}
use Rattle.srt_types.specs.Runs.{range_from}
use Rattle.srt_pub.specs.Publishing.{with_request}
use Rattle.srt_pub.specs.Stands.{StandsFor}

pub returns-in-Live-clause-stands : goal.returns-in-Live-clause-stands
returns-in-Live-clause-stands c terms initial opening stamp caller m h =
    let live : terms.mode ≡ Live = sym h.agreed.mode_is ∙ c.in-Live.is in
    subst
    (λ (d : Mode). StandsFor terms initial opening stamp caller c.drop_range.new.self
    (with_request d terms (range_from initial (record { first = c.args.first; last = c.args.last })) m))
    (sym live) (c.drop_range.ensures.stands terms initial opening stamp caller m live h)
