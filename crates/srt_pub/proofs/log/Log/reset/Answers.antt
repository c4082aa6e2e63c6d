use Rattle.std.proofs.Common.{[], refl, sym, ap, subst, ◌∙◌}
use Rattle.srt_types.specs.declared.shared.Callers.{Callers}
use Rattle.srt_types.specs.declared.shared.Mode.{Mode}
use Rattle.srt_timing.specs.RoundTrip as times
use Rattle.srt_pub.specs.declared.rates.Rating.{Rating}
use Rattle.srt_pub.specs.Publishing.{rating}
use Rattle.srt_pub.specs.Kept.{MeterStandsFor}
use Rattle.srt_pub.proofs.Logs.{log_first}
use Rattle.srt_pub.proofs.log.Log.reset.Goals as goal

pub returns : goal.returns
returns c terms mode callers =
    log_first terms _ (c.clear.ensures terms.width)
    (subst (λ (k : Callers). times.StandsFor k c.start-self.result []) (sym callers) c.start-self.ensures)
    (subst (λ (r : Rating). MeterStandsFor r c.start.new.self [])
    (sym (ap (λ (m : Mode). rating m terms.callers) mode ∙ ap (rating c.args.mode) callers ∙ sym c.rating.ensures))
    c.start.ensures)
    refl refl refl refl (c.drift_at_first-self.ensures terms mode callers)
