-- The lines of a report (docs/PROTOCOL.md).
use Rattle.std.specs.Prelude.{ℕ, suc, List, [], ◌∷◌, ◌++◌, codes, decimal, Option}
use Rattle.std.specs.Io.KnownBytes.{Appends}
use Rattle.srt_supervision.specs.declared.report.Report.{Report}
use Rattle.srt_mailbox.specs.declared.accounts.Account.{Account}

-- the line of a report, in three parts
unfoldable pub report_front : Report → List ℕ
report_front r = codes "read " ++ decimal r.read ++ codes " answered " ++ decimal r.answered ++ codes " accepted " ++ decimal r.accepted

unfoldable pub report_middle : Report → List ℕ
report_middle r = codes " full " ++ decimal r.full ++ codes " dropped " ++ decimal r.dropped ++ codes " memory " ++ decimal r.memory

unfoldable pub report_rest : Report → List ℕ
report_rest r = codes " sent " ++ decimal r.sent ++ codes " lost " ++ decimal r.lost ++ codes " faults " ++ decimal r.faults ++ codes "\n"

abbrev pub report_line : Report → List ℕ
report_line r = report_front r ++ report_middle r ++ report_rest r

-- the line of a route of this name, in two parts
unfoldable pub account_front : (name : List ℕ) → Account → List ℕ
account_front name account = codes "route " ++ name ++ codes " taken " ++ decimal account.taken ++ codes " left " ++ decimal account.left

unfoldable pub account_rest : Account → List ℕ
account_rest account =
    codes " waiting " ++ decimal account.waiting ++ codes " queued " ++ decimal account.queued ++ codes " drained " ++ decimal account.drained
    ++ codes "\n"

abbrev pub account_line : (name : List ℕ) → Account → List ℕ
account_line name account = account_front name account ++ account_rest account

-- those of the routes from this index on, each with the name of its index
abbrev pub account_lines : (name_of : ℕ → List ℕ) → (index : ℕ) → List Account → List ℕ
account_lines name_of index [] = []
account_lines name_of index (account ∷ accounts) = account_line (name_of index) account ++ account_lines name_of (suc index) accounts

-- what a run prints at its end
abbrev pub end_lines : (name_of : ℕ → List ℕ) → Report → List Account → List ℕ
end_lines name_of report accounts = report_line report ++ account_lines name_of 0 accounts

-- a report and the accounts of routes were written behind what was there, in this form
abbrev pub HasReported : (old new : Option (List ℕ)) → Type 0
HasReported old new = (name_of : ℕ → List ℕ) × (report : Report) × (accounts : List Account) × Appends old new (end_lines name_of report accounts)
