use Rattle.std.proofs.Common.{◌≡◌, ◌*◌, ◌≤◌, length, take, map}
use Rattle.srt_loss.specs.Text.{loss_words, range_of}
use Rattle.srt_loss.proofs.writing.write.Given as goal

abbrev pub invariant-loop-run : goal.invariant-loop-run
invariant-loop-run l =
    record { written : l.words.items ≡ loss_words (map range_of (take l.run-index l.run-items)); room : length l.words.items ≤ 2 * l.run-index }
