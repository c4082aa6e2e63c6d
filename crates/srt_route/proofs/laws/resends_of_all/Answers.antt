use Rattle.std.proofs.Common.{subst}
use Rattle.srt_route.specs.Past.{Past}
use Rattle.srt_route.specs.Buffers.{IsPast}
use Rattle.srt_route.proofs.model.SessionRules.{resends_once}
use Rattle.srt_route.proofs.steps.Closing.{seat_in}
use Rattle.srt_route.proofs.laws.resends_of_all.Goals as goal

pub returns : goal.returns
returns c e index slot items s m h libsrt live reports found past =
    let route = c.args.route.now in
    let seat = seat_in e index items route h slot s found in
    let stands = subst (λ (p : Past). IsPast e route.clock seat.0 seat.1 s p) past seat.2.past_is in
    stands.1.history_is.once (resends_once e.rules.callers e.mode s.conclusion.periodic_nak libsrt live reports)
