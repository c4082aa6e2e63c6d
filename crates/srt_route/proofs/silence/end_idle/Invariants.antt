use Rattle.std.proofs.Common.{ℕ, List, ◌-◌, ◌≡◌, length}
use Rattle.srt_types.specs.Terms.{Terms}
use Rattle.srt_route.specs.Sessions.{Session}
use Rattle.srt_route.specs.Tables.{IsTable}
use Rattle.srt_route.specs.Waits.{replies_of, places_of}
use Rattle.srt_route.proofs.steps.Aging.{IsAged}
use Rattle.srt_route.proofs.steps.Slots.{IsSaying}
use Rattle.srt_route.proofs.steps.Telling.{notified_one}
use Rattle.srt_route.proofs.stored.Kept.{UpTo}
use Rattle.srt_route.proofs.silence.end_idle.Given as goal

-- the seats below `at` have aged, and their peers were sent a SHUTDOWN; nothing else changed
abbrev pub invariant-loop-at : goal.invariant-loop-at
invariant-loop-at l = record {
  places_are : l.places ≡ length l.fn.table.seats.items;
  aged : UpTo (IsAged l.clock) l.at l.fn.table l.table;
  notified : (e : Terms) (index earlier : ℕ) (sessions : List Session) → IsTable e index earlier l.fn.table sessions
      → IsSaying (notified_one e l.clock) e l.at sessions (replies_of l.fn.waiting) (replies_of l.waiting) (places_of l.fn.waiting) (places_of l.waiting);
}

abbrev pub decreases-loop-at : goal.decreases-loop-at
decreases-loop-at l = l.places - l.at
