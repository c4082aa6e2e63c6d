use Rattle.std.proofs.Common.{Option, ◌∙◌, sym, ap, subst}
use Rattle.std.specs.Prelude.{option_map}
use Rattle.srt_route.specs.KeyRefresh.{Confirmation}
use Rattle.srt_route.specs.inside.Secured.{ConfirmsFor, confirmation_of}
use Rattle.srt_route.proofs.key_confirmation.take_datagram.Goals as goal

pub returns-in-Some-clause-confirmed : goal.returns-in-Some-clause-confirmed
returns-in-Some-clause-confirmed c =
    subst (λ (o : Option Confirmation). ConfirmsFor c.args.peer o c.args.table.now c.args.keys.now c.take_response.new.keys)
    (sym (ap (option_map confirmation_of) c.in-Some.is) ∙ c.response_in.ensures) c.take_response.ensures.confirmed
