use Rattle.std.proofs.Common.{ℕ, List, None}
use Rattle.srt_route.specs.inside.Files.{none_own}
use Rattle.srt_types.specs.Terms.{Terms}
use Rattle.srt_route.specs.Sessions.{Session}
use Rattle.srt_route.specs.Tables.{IsTable}
use Rattle.srt_route.specs.Ledgers.{CountsStay}
use Rattle.srt_route.specs.Totals.{SumsGrow}
use Rattle.srt_route.specs.Waits.{replies_of, places_of}
use Rattle.srt_route.proofs.stored.Kept.{UpTo}
use Rattle.srt_route.proofs.steps.Serving.{EndsUpTo, Serves, serving}
use Rattle.srt_route.proofs.steps.Slots.{IsSaying}
use Rattle.srt_route.proofs.transmit.transmit_in_clear.Given as goal

-- the subscribers of the seats below `at` have sent their packets, or ended
abbrev pub invariant-loop-at : goal.invariant-loop-at
invariant-loop-at l = record {
  seats : UpTo (Serves None l.clock l.over) l.at l.fn.table l.table;
  notified : (e : Terms) (index : ℕ) (sessions : List Session) → IsTable e index l.clock l.fn.table sessions
      → IsSaying (serving none_own e l.clock l.over) e l.at sessions (replies_of l.fn.waiting) (replies_of l.waiting) (places_of l.fn.waiting)
      (places_of l.waiting);
  ends : (e : Terms) (index : ℕ) (sessions : List Session) → IsTable e index l.clock l.fn.table sessions
      → EndsUpTo e index l.over l.clock l.at sessions l.fn.ledger l.ledger;
  counts : CountsStay l.fn.ledger l.ledger;
  sums : SumsGrow l.fn.ledger.totals l.ledger.totals;
}
