-- Lines of routes, one after the other.
use Rattle.std.proofs.Common.{◌≡◌, ℕ, suc, ◌+◌, ◌<◌, List, [], ◌∷◌, ◌++◌, length, take, get_or, append_assoc, append-nil, Option, sym, ap, subst, ◌∙◌}
use Rattle.std.proofs.Common.{arith}
use Rattle.std.proofs.lemmas.List.{take_more, length-take}
use Rattle.std.specs.Io.KnownBytes.{Appends}
use Rattle.srt_mailbox.specs.declared.accounts.Account.{Account}
use Rattle.srt_offline.proofs.Written.{appends_both}
use Rattle.srtgw.specs.Reports.{account_line, account_lines}

lines_last : (name_of : ℕ → List ℕ) (from : ℕ) (xs : List Account) (a : Account) →
    account_lines name_of from (xs ++ a ∷ []) ≡ account_lines name_of from xs ++ account_line (name_of (from + length xs)) a
lines_last name_of from [] a = append-nil (account_line (name_of from) a) ∙ ap (λ n. account_line (name_of n) a) (omega arith)
lines_last name_of from (x ∷ xs) a =
    ap (λ l. account_line (name_of from) x ++ l) (lines_last name_of (suc from) xs a)
    ∙ sym (append_assoc (account_line (name_of from) x) (account_lines name_of (suc from) xs) _)
    ∙ ap (λ n. (account_line (name_of from) x ++ account_lines name_of (suc from) xs) ++ account_line (name_of n) a) (omega arith)

-- the line of one route more
next_line : (name_of : ℕ → List ℕ) (xs : List Account) (i : ℕ) (d : Account) → i < length xs →
    account_lines name_of 0 (take (i + 1) xs) ≡ account_lines name_of 0 (take i xs) ++ account_line (name_of i) (get_or xs i d)
next_line name_of xs i d within =
    ap (account_lines name_of 0) (take_more xs i d within) ∙ lines_last name_of 0 (take i xs) (get_or xs i d)
    ∙ ap (λ n. account_lines name_of 0 (take i xs) ++ account_line (name_of n) (get_or xs i d)) (omega (arith, length-take i xs, within))

pub one_more_line : (name_of : ℕ → List ℕ) (xs : List Account) (i : ℕ) (d : Account) (old middle new : Option (List ℕ)) → i < length xs
    → Appends old middle (account_lines name_of 0 (take i xs)) → Appends middle new (account_line (name_of i) (get_or xs i d))
    → Appends old new (account_lines name_of 0 (take (i + 1) xs))
one_more_line name_of xs i d old middle new within h k =
    subst (Appends old new) (sym (next_line name_of xs i d within)) (appends_both old middle new _ _ h k)
