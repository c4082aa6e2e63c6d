use Rattle.std.proofs.Common.{◌≡◌, ℕ, List, length}
use Rattle.srt_types.specs.Terms.{Terms}
use Rattle.srt_route.specs.RouteKeys.{RouteKeys}
use Rattle.srt_route.specs.Sessions.{Session}
use Rattle.srt_route.specs.StoredKeys.{AreKeys}
use Rattle.srt_route.specs.Tables.{IsTable}
use Rattle.srt_route.specs.inside.Secured.{kept_to}
use Rattle.srt_route.proofs.secured.keep_open.Given as goal

-- the keys of the slots below `at` are those of open sessions
abbrev pub invariant-loop-at : goal.invariant-loop-at
invariant-loop-at l = record {
  kept : (e : Terms) (index clock : ℕ) (sessions : List Session) (keys : RouteKeys)
      → IsTable e index clock l.table sessions → AreKeys e l.fn.keys keys → AreKeys e l.keys (kept_to l.at sessions keys);
  places : length l.keys.slots.items ≡ length l.fn.keys.slots.items;
}
