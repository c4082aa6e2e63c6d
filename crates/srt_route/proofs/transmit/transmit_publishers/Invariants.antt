use Rattle.std.proofs.Common.{◌≡◌, ℕ, List, map, length}
use Rattle.srt_types.specs.Terms.{Terms}
use Rattle.srt_route.specs.Sessions.{Session, speaks}
use Rattle.srt_route.specs.Tables.{IsTable}
use Rattle.srt_route.specs.Waits.{replies_of, places_of}
use Rattle.srt_route.specs.inside.Delivery.{changed}
use Rattle.srt_route.proofs.steps.Saying.{IsReported, below_notified}
use Rattle.srt_route.proofs.transmit.transmit_publishers.Given as goal

-- the publishers of the seats below `at` have sent their packets
abbrev pub invariant-loop-at : goal.invariant-loop-at
invariant-loop-at l = record {
  seats : length l.table.seats.items ≡ length l.fn.table.seats.items;
  table : (e : Terms) (index : ℕ) (sessions : List Session)
      → IsTable e index l.clock l.fn.table sessions → IsTable e index l.clock l.table (map (changed (below_notified e l.clock l.at)) sessions);
  notified : (e : Terms) (index : ℕ) (sessions : List Session) → IsTable e index l.clock l.fn.table sessions
      → IsReported e l.clock speaks l.at sessions (replies_of l.fn.waiting) (replies_of l.waiting) (places_of l.fn.waiting) (places_of l.waiting);
}
