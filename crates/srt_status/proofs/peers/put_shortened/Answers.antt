use Rattle.std.proofs.Common.{◌≡◌, ℕ, ◌+◌, ◌<◌, ◌-◌, List, length, ◌++◌, take, drop, codes, refl, lt-ltb, subst}
use Rattle.std.proofs.lemmas.List.{take_rest}
use Rattle.std.specs.Prelude.{OnOk}
use Rattle.std.specs.Net.Text.{groups_text, longest_zero_run, hex_groups_text}
use Rattle.srt_status.proofs.Puts.{joined, joined_last}
use Rattle.srt_status.proofs.peers.put_shortened.Goals as goal

-- the text where the longest run has two zeros or more
long_run : (groups : List ℕ) (run : ℕ × ℕ) → run ≡ longest_zero_run groups → 1 < run.1
    → groups_text (take run.0 groups) ++ codes "::" ++ groups_text (take (length groups - (run.0 + run.1)) (drop (run.0 + run.1) groups)) ≡ hex_groups_text groups
unfolding hex_groups_text
long_run groups run e long = rw (take_rest groups (run.0 + run.1), ← e, lt-ltb 1 run.1 long) refl

pub returns-in_ok-put : goal.returns-in_ok-put
returns-in_ok-put c =
    subst (λ t. OnOk c.put_groups-then-len-gt1.result (c.put_groups-then-len-gt1.new.out.items ≡ c.args.out.now.items ++ t))
    (long_run _ _ c.longest_zero_run-start.ensures.value c.if-len-gt1.true)
    (joined_last _ _ _ _ _ _ (joined _ _ _ _ _ c.in_ok-put_groups.ensures c.in_ok-put.ensures) c.put_groups-then-len-gt1.ensures)
