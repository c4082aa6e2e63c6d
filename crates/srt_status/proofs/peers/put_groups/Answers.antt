use Rattle.std.proofs.Common.{◌≡◌, ℕ, ◌-◌, ◌≤◌, List, [], ◌∷◌, ◌++◌, length, take, drop, slice_index_or, ap, arith, subst}
use Rattle.std.proofs.lemmas.List.{take_rest}
use Rattle.std.specs.Prelude.{OnOk}
use Rattle.std.specs.Net.Text.{hex, groups_text}
use Rattle.srt_status.specs.Peers.{next_groups}
use Rattle.srt_status.proofs.Puts.{joined_last}
use Rattle.srt_status.proofs.peers.put_groups.Goals as goal

first_and_rest : (groups : List ℕ) → 1 ≤ length groups
    → hex (slice_index_or groups 0 0) ++ next_groups (take (length groups - 1) (drop 1 groups)) ≡ groups_text groups
first_and_rest [] some = absurd (omega (arith, some))
first_and_rest (group ∷ groups) some = ap (λ rest. hex group ++ next_groups rest) (take_rest (group ∷ groups) 1)

pub returns-in_ok-put_group-in-len1-up : goal.returns-in_ok-put_group-in-len1-up
returns-in_ok-put_group-in-len1-up c =
    subst (λ t. OnOk c.put_next_groups.result (c.put_next_groups.new.out.items ≡ c.args.out.now.items ++ t))
    (first_and_rest c.args.groups.now c.in-len1-up.len_at_least)
    (joined_last _ _ _ _ _ _ c.in_ok-put_group-in-len1-up.ensures c.put_next_groups.ensures)
