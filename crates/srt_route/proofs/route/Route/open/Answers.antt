use Rattle.std.proofs.Common.{ℕ, List, [], Result, Ok, Err, refl}
use Rattle.std.specs.Result.{IfOk}
use Rattle.srt_types.specs.Items.{Item}
use Rattle.srt_types.specs.Terms.{Terms, terms_of}
use Rattle.srt_route.specs.declared.route.Route.{Route}
use Rattle.srt_types.specs.declared.shared.OpenFault.{OpenFault}
use Rattle.srt_route.specs.Rests.{RestsAs}
use Rattle.srt_route.specs.Stands.{stands}
use Rattle.srt_route.proofs.route.Route.open.Goals as goal

-- a route is at rest after no items
fresh : (e : Terms) (index : ℕ) (result : Result Route OpenFault)
    → IfOk result (λ route. (items : List Item) → RestsAs e index items 0 [] → stands route e index items)
    → IfOk result (λ route. stands route e index [])
fresh e index (Ok route) h = h [] (record { none_open = refl; not_closed = refl; clock_is = refl; keys_are = refl; counts = λ slot below. refl })
fresh e index (Err fault) h = h

pub returns-clause-stands : goal.returns-clause-stands
returns-clause-stands c = fresh (terms_of c.args.entry.now) c.args.index c.open_checked.result c.open_checked.ensures.stands
