-- What giving up sessions makes of a table, for each route that it represents.
use Rattle.std.specs.Prelude.{◌≡◌, ℕ, true, false, List}
use Rattle.srt_types.specs.declared.shared.Role.TheVariants.{Request}
use Rattle.srt_types.specs.Terms.{Terms}
use Rattle.srt_route.specs.declared.route_keys.RouteKeys.{RouteKeys as TheRouteKeys}
use Rattle.srt_route.specs.declared.table.Table.{Table}
use Rattle.srt_route.specs.GivingUp.{given_up_if}
use Rattle.srt_route.specs.Route.{Route, giving_up}
use Rattle.srt_route.specs.RouteKeys.{RouteKeys, own_in, secures}
use Rattle.srt_route.specs.Sessions.{Session}
use Rattle.srt_route.specs.StoredKeys.{AreKeys}
use Rattle.srt_route.specs.Tables.{IsTable}

-- where subscribers' sessions are encrypted, those whose next key isn't confirmed in time are given up
abbrev pub GivesUpEncrypted : (clock : ℕ) → TheRouteKeys → (old new : Table) → Type 0
GivesUpEncrypted clock keys old new =
    (e : Terms) (index earlier : ℕ) (sessions : List Session) (m : RouteKeys)
    → IsTable e index earlier old sessions → AreKeys e keys m → secures e Request ≡ true
    → IsTable e index earlier new (given_up_if true (own_in e m) clock sessions)

-- the same of any open route
abbrev pub GivesUp : (clock : ℕ) → TheRouteKeys → (old new : Table) → Type 0
GivesUp clock keys old new =
    (e : Terms) (index : ℕ) (m : Route)
    → IsTable e index m.clock old m.sessions → AreKeys e keys m.keys → m.is_closed ≡ false
    → IsTable e index m.clock new (giving_up e clock m).sessions
