-- How a worker paused after a round.
use Rattle.std.specs.Prelude.{◌≡◌, ℕ, Bool}
use Rattle.srt_serve.specs.declared.working.Round.{Round}
use Rattle.srt_serve.specs.declared.working.Pause.{Pause}
use Rattle.srt_serve.specs.declared.working.Pause.TheVariants.{Doze, Share, GoOn, Rest, Nap}
use Rattle.srt_serve.specs.inside.Working.{pause_after, sleeps}

-- what is known once there had been a number of notifications; of a nap and a rest that one after that number ends; of a doze, also by a number of
-- routes; and once a worker in reserve was woken
module _ {M : Type 0} (saw napped rested : M → ℕ → Type 0) (dozed : M → (seen routes : ℕ) → Type 0) (shared : M → Type 0) where
  -- it paused so, after this many notifications and a round that served this many routes
  abbrev pub IsPause : M → Pause → (seen served : ℕ) → Type 0
  IsPause marks Doze seen served = dozed marks seen served
  IsPause marks Share seen served = shared marks
  IsPause marks GoOn seen served = Unit {0}
  IsPause marks Rest seen served = rested marks seen
  IsPause marks Nap seen served = napped marks seen

  -- it paused as it has to after some round, before which it had slept or not, and slept or didn't
  abbrev pub Paused : M → (slept slept' : Bool) → Type 0
  Paused marks slept slept' = (round : Round) × (seen : ℕ) × saw marks seen × IsPause marks (pause_after round slept) seen round.served
      × (slept' ≡ sleeps (pause_after round slept))
