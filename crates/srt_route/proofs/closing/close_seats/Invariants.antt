use Rattle.std.proofs.Common.{ℕ, List}
use Rattle.srt_types.specs.Terms.{Terms}
use Rattle.srt_route.specs.Sessions.{Session}
use Rattle.srt_route.specs.Tables.{IsTable}
use Rattle.srt_route.specs.Waits.{replies_of, places_of}
use Rattle.srt_route.proofs.stored.Kept.{UpTo}
use Rattle.srt_route.proofs.model.Ending.{IsEnded, IsEnding}
use Rattle.srt_route.proofs.closing.close_seats.Given as goal

-- the sessions of the seats below `at` have ended, and their peers were sent a SHUTDOWN
abbrev pub invariant-loop-at : goal.invariant-loop-at
invariant-loop-at l = record {
  seats : UpTo IsEnded l.at l.fn.table l.table;
  notified : (e : Terms) (index : ℕ) (sessions : List Session) → IsTable e index l.clock l.fn.table sessions
      → IsEnding e l.clock l.at sessions (replies_of l.fn.waiting) (replies_of l.waiting) (places_of l.fn.waiting) (places_of l.waiting);
}
