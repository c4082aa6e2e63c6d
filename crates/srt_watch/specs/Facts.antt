-- What a machine and a file say that happened: facts that only their own calls ensure.
use Rattle.std.specs.Prelude.{ℕ, List}
use Rattle.srt_config.specs.declared.config.Config.{Config}

-- of a time, that the routes' clock returned it; that a signal to stop was pending; of a number of microseconds, that the run was to last so long;
-- that the machine rested, and that it paused
pub record MachineFacts : Type 1 where
  pub was_moment : ℕ → Type 0
  pub was_signalled : Type 0
  pub was_lasting : ℕ → Type 0
  pub has_rested : Type 0
  pub has_paused : Type 0

-- of a configuration, that the run began with it; of a text, that it was read from the file
pub record FileFacts : Type 1 where
  pub was_first : Config → Type 0
  pub was_read : List ℕ → Type 0

-- of a machine and of a file that say nothing of this
abbrev pub any_machine : MachineFacts
any_machine = record {
  was_moment = λ moment. Unit {0};
  was_signalled = Unit {0};
  was_lasting = λ lasts. Unit {0};
  has_rested = Unit {0};
  has_paused = Unit {0};
}

abbrev pub any_file : FileFacts
any_file = record { was_first = λ config. Unit {0}; was_read = λ text. Unit {0} }
