use Rattle.std.proofs.Common.{◌≡◌, ℕ, ◌-◌, List}
use Rattle.srt_types.specs.Terms.{Terms}
use Rattle.srt_route.specs.Sessions.{Session}
use Rattle.srt_route.specs.Route.{least_room}
use Rattle.srt_route.specs.Tables.{IsTable}
use Rattle.srt_route.proofs.steps.Feeding.{least_from}
use Rattle.srt_route.proofs.delivery.least_room.Given as goal

-- the smallest room of the seats below `at` and of the remaining ones is that of all
abbrev pub invariant-loop-at : goal.invariant-loop-at
invariant-loop-at l =
    (e : Terms) (index clock : ℕ) (sessions : List Session)
    → IsTable e index clock l.table sessions → least_from e sessions l.found l.at (e.sessions - l.at) ≡ least_room e sessions
