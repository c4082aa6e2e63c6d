use Rattle.std.proofs.Common.{◌≡◌, ◌++◌, take}
use Rattle.std.specs.List.{flat_map}
use Rattle.srt_samples.specs.Samples.{word}
use Rattle.srt_samples.proofs.writing.put_words.Given as goal

abbrev pub invariant-loop-each : goal.invariant-loop-each
invariant-loop-each l = l.out.items ≡ l.fn.out.items ++ flat_map word (take l.each-index l.list)
