-- What a watcher owes of a change of whose answers nothing has to be known.
use Rattle.std.specs.Prelude.{ℕ, List, [], ◌∷◌}
use Rattle.srt_types.specs.Terms.{Terms}
use Rattle.srt_supervision.specs.Answers.{Answer, Closes, Opens, AreClosings, AreOpenings}

pub all_closings : (answered : Answer → Type 0) → ((r : ℕ) → answered (Closes r)) → (closes : List ℕ) → AreClosings answered closes
all_closings answered known [] = tt
all_closings answered known (r ∷ closes) = (known r, all_closings answered known closes)

pub all_openings : (answered : Answer → Type 0) → ((t : Terms) → answered (Opens t)) → (opens : List Terms) → AreOpenings answered opens
all_openings answered known [] = tt
all_openings answered known (t ∷ opens) = (known t, all_openings answered known opens)
