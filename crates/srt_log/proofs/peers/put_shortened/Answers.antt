use Rattle.std.proofs.Common.{◌≡◌, ℕ, ◌+◌, ◌<◌, ◌-◌, List, length, ◌++◌, take, drop, codes, refl, ap, ◌∙◌, lt-ltb}
use Rattle.std.proofs.lemmas.List.{take_rest}
use Rattle.std.specs.Net.Text.{groups_text, longest_zero_run, hex_groups_text}
use Rattle.srt_log.specs.Texts.{put}
use Rattle.srt_log.proofs.Puts.{followed}
use Rattle.srt_log.proofs.peers.put_shortened.Goals as goal

-- the text where the longest run has two zeros or more
long_run : (groups : List ℕ) (run : ℕ × ℕ) → run ≡ longest_zero_run groups → 1 < run.1
    → groups_text (take run.0 groups) ++ codes "::" ++ groups_text (take (length groups - (run.0 + run.1)) (drop (run.0 + run.1) groups)) ≡ hex_groups_text groups
unfolding hex_groups_text
long_run groups run e long = rw (take_rest groups (run.0 + run.1), ← e, lt-ltb 1 run.1 long) refl

pub returns-then-len-gt1 : goal.returns-then-len-gt1
returns-then-len-gt1 c =
    followed _ _ _ _ _ (followed _ _ _ _ _ c.put_groups.ensures c.put.ensures) c.put_groups-then-len-gt1.ensures
    ∙ ap (λ t. put c.args.line.now.text.items t) (long_run _ _ c.longest_zero_run-start.ensures.value c.if-len-gt1.true)
