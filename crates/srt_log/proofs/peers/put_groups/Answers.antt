use Rattle.std.proofs.Common.{◌≡◌, ℕ, ◌-◌, ◌≤◌, List, [], ◌∷◌, ◌++◌, length, take, drop, slice_index_or, ap, ◌∙◌, arith}
use Rattle.std.proofs.lemmas.List.{take_rest}
use Rattle.std.specs.Net.Text.{hex, groups_text}
use Rattle.srt_log.specs.Texts.{put}
use Rattle.srt_log.specs.Peers.{next_groups}
use Rattle.srt_log.proofs.Puts.{followed}
use Rattle.srt_log.proofs.peers.put_groups.Goals as goal

first_and_rest : (groups : List ℕ) → 1 ≤ length groups
    → hex (slice_index_or groups 0 0) ++ next_groups (take (length groups - 1) (drop 1 groups)) ≡ groups_text groups
first_and_rest [] some = absurd (omega (arith, some))
first_and_rest (group ∷ groups) some = ap (λ rest. hex group ++ next_groups rest) (take_rest (group ∷ groups) 1)

pub returns-in-len1-up : goal.returns-in-len1-up
returns-in-len1-up c =
    followed _ _ _ _ _ c.put_group.ensures c.put_next_groups.ensures
    ∙ ap (λ t. put c.args.line.now.text.items t) (first_and_rest c.args.groups.now c.in-len1-up.len_at_least)
