-- A route that a cell shows is one with some identity.
use Rattle.std.proofs.Common.{ℕ, Result, Ok, Err}
use Rattle.std.specs.Prelude.{OnOk}
use Rattle.srt_route.specs.declared.route.Route.{Route as TheRoute}
use Rattle.srt_mailbox.specs.Cells.{CellIdentity}
use Rattle.srt_mailbox.specs.Looks.{IsRouteWith}

pub with_identity : {T E : Type 0} (result : Result T E) (n : CellIdentity) (noted : TheRoute → ℕ → Type 0)
    → OnOk result ((route : TheRoute) × (waiting : ℕ) × IsRouteWith n route waiting × noted route waiting)
    → OnOk result ((route : TheRoute) × (waiting : ℕ) × ((m : CellIdentity) × IsRouteWith m route waiting) × noted route waiting)
with_identity (Ok v) n noted h = (h.0, h.1, (n, h.2), h.3)
with_identity (Err e) n noted h = h
