-- The names of the routes, in the order of their indexes.
pub use Rattle.srt_lobby.specs.RouteNames.{RouteName, shown, as_shown, hidden, as_hidden, name_of, is_requested, index_of, shows}
pub use Rattle.srt_lobby.specs.RouteNames.{is_shown_at, has_name, has_name_at, AreDistinct, knows_caller, knows_caller_at, admits_caller}
pub use Rattle.srt_lobby.specs.RouteNames.{secures}
use Rattle.std.specs.Prelude.{List, map}
use Rattle.srt_types.specs.Access.{access_of}
use Rattle.srt_lobby.specs.declared.names.Names.{Names}
use Rattle.srt_lobby.specs.declared.new_name.NewName.{NewName}
use Rattle.srt_lobby.specs.Tables.{name_in}

-- the names of all routes, visible or hidden
abbrev pub names_of : Names → List RouteName
names_of n = map name_in n.routes.items

-- the name of a route to be added, hidden
abbrev pub new_name : NewName → RouteName
new_name n = hidden n.text.items (access_of n.access)
