-- What is known between two rests of a watcher.
use Rattle.std.specs.Prelude.{◌≡◌, Bool, true, false, ℕ, nat_lt, ◌+◌, ◌-◌, ◌^◌, min, Result, Ok, Err, List, [], ◌∷◌}
use Rattle.srt_serve.specs.declared.evidence.FlagSet.{FlagSet}
use Rattle.srt_supervision.specs.declared.order.Order.{Order}
use Rattle.srt_supervision.specs.declared.report.Report.{Report}
use Rattle.srt_serve.specs.declared.shared_report.ReportNoted.{ReportNoted}
use Rattle.srt_supervision.specs.declared.watch.RunStatus.{RunStatus}
use Rattle.srt_serve.specs.declared.known.Known.{Known}

-- before the first report
abbrev pub known_first : Known
known_first =
    record {
      counts =
          record {
            read = 0;
            answered = 0;
            accepted = 0;
            full = 0;
            dropped = 0;
            not_allowed = 0;
            memory = 0;
            sent = 0;
            lost = 0;
            faults = 0;
          };
      reports = 0;
      quiet = 0;
    }

-- with one report more, which has these counts
abbrev pub known_with_report : Report → Known → Known
known_with_report report known = record { counts = report; reports = min (known.reports + 1) (2 ^ 64 - 1); quiet = known.quiet }

-- with the counts that were left since, if there are any
abbrev pub known_with : Result ReportNoted FlagSet → Known → Known
known_with (Err wanted) known = known
known_with (Ok noted) known = known_with_report noted.report known

-- after a check that found all quiet, or not
abbrev pub known_checked : (is_quiet : Bool) → Known → Known
known_checked true known = record { counts = known.counts; reports = known.reports; quiet = min (known.quiet + 1) (2 ^ 32 - 1) }
known_checked false known = record { counts = known.counts; reports = known.reports; quiet = 0 }

-- what the watcher gets, with the numbers of socket faults and of refusals for which there was no place
abbrev pub status_of : Known → (faults missed : ℕ) → RunStatus
status_of known faults missed =
    record {
      is_quiet = nat_lt 1 known.quiet;
      faults = faults;
      missed = missed;
      counts = known.counts;
      reports = known.reports;
    }

-- A turn of the watching thread: the watcher was given the status of what was known then, with the counts that had been left, and a check followed.
-- `rested` is what is known of a watcher that was given a status and returned an order
pub record IsTurn (rested : RunStatus → Order → Type 0) (old new : Known) : Type 0 where
  pub left : Result ReportNoted FlagSet
  pub faults : ℕ
  pub missed : ℕ
  pub order : Order
  pub is_quiet : Bool
  pub rested_is : rested (status_of (known_with left old) faults missed) order
  pub known_is : new ≡ known_checked is_quiet (known_with left old)

-- turns, one after another; this was known between them, the latest first
abbrev pub AreTurns : (rested : RunStatus → Order → Type 0) → (between : List Known) → (old new : Known) → Type 0
AreTurns rested [] old new = new ≡ old
AreTurns rested (known ∷ between) old new = AreTurns rested between old known × IsTurn rested known new
