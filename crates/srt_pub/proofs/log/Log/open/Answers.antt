use Rattle.std.proofs.Common.{[], refl, sym, ap, subst, ◌∙◌}
use Rattle.srt_types.specs.declared.shared.Callers.{Callers}
use Rattle.srt_types.specs.declared.shared.Mode.{Mode}
use Rattle.srt_types.specs.declared.shared.Mode.TheVariants.{Live}
use Rattle.srt_timing.specs.RoundTrip as times
use Rattle.srt_pub.specs.declared.rates.Rating.{Rating}
use Rattle.srt_pub.specs.Publishing.{rating, follows, clock_if}
use Rattle.srt_pub.specs.Kept.{MeterStandsFor}
use Rattle.srt_pub.proofs.Logs.{log_first}
use Rattle.srt_pub.proofs.log.Log.open.Goals as goal

pub returns : goal.returns
returns c terms mode callers =
    log_first terms _ (c.in_ok-open.ensures terms.width)
    (subst (λ (k : Callers). times.StandsFor k c.start.result []) (sym callers) c.start.ensures)
    (subst (λ (r : Rating). MeterStandsFor r c.in_ok-open-2.field-0 []) (sym (ap (λ (m : Mode). rating m terms.callers) mode)) c.in_ok-open-2.ensures)
    refl refl refl refl
    (sym (ap (λ (m : Mode). clock_if (follows m terms.callers) []) mode ∙ ap (λ (k : Callers). clock_if (follows Live k) []) callers))
