use Rattle.std.proofs.Common.{List, ℕ, ◌++◌, sym, subst}
use Rattle.srt_types.specs.declared.shared.Item.{Item}
use Rattle.srt_types.specs.Items.{input_of}
use Rattle.srt_route.specs.KeyRefresh.{confirmation_in}
use Rattle.srt_route.specs.inside.Secured.{Confirms, ConfirmsFor}
use Rattle.srt_route.proofs.key_confirmation.confirm_keys.Goals as goal

pub returns-in-Datagram-clause-confirmed : goal.returns-in-Datagram-clause-confirmed
returns-in-Datagram-clause-confirmed c =
    let did = c.take_datagram in
    subst (λ (i : Item). Confirms (input_of i) c.args.table.now c.args.keys.now did.new.keys) (sym c.in-Datagram.is)
    (subst
    (λ (bytes : List ℕ). ConfirmsFor c.in-Datagram.peer (confirmation_in (c.in-Datagram.head ++ bytes)) c.args.table.now c.args.keys.now did.new.keys)
    c.deref.ensures.value did.ensures.confirmed)
