use Rattle.std.proofs.Common.{◌≡◌, length}
use Rattle.srt_explain.specs.Misspelled.{key_named}
use Rattle.srt_explain.proofs.hints.key_named.Given as goal

abbrev pub invariant-loop-text : goal.invariant-loop-text
invariant-loop-text l = key_named l.rest l.text ≡ key_named l.keys l.text

abbrev pub decreases-loop-text : goal.decreases-loop-text
decreases-loop-text l = length l.rest
