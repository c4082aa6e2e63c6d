use Rattle.std.proofs.Common.{◌≡◌, ◌≤◌, length}
use Rattle.srt_streamid.specs.Parts.{parts_from, parts_of, keys_in, first_text}
use Rattle.srt_streamid.proofs.keys.key_of_list.Given as goal

abbrev pub invariant-loop-key : goal.invariant-loop-key
invariant-loop-key l = first_text (keys_in (parts_from 4 l.list)) ≡ first_text (keys_in (parts_of l.bytes))

abbrev pub decreases-loop-key : goal.decreases-loop-key
decreases-loop-key l = length l.list
