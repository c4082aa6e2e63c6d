use Rattle.std.proofs.Common.{◌≡◌, ◌-◌, length, take, drop, arith}
use Rattle.std.proofs.lemmas.Grind.{common_steps}
use Rattle.srt_types.specs.Window.{word_of}
use Rattle.srt_loss.proofs.Words.{both_front}
use Rattle.srt_loss.proofs.reading.read_front.Goals as goal

pub returns-clause-ok : goal.returns-clause-ok
returns-clause-ok c =
    let text = c.args.text.now in
    let first = c.number_of-first.result in
    let last = c.number_of-last.result in
    let e = both_front text (word_of first) (word_of last) (omega arith) c.requires.whole (omega arith) (omega arith) (omega arith) (omega arith) in
    let all : take (length text - 8) (drop 8 text) ≡ drop 8 text = grind (arith, common_steps) in
    rw all e
