use Rattle.std.proofs.Common.{◌≡◌, length}
use Rattle.srt_hs.specs.Grammar.{no_blocks}
use Rattle.srt_hs.specs.Reading.{with_all}
use Rattle.srt_hs.specs.View.{blocks_of}
use Rattle.srt_hs.proofs.reading.read_blocks.Given as goal

-- the blocks so far with the blocks of the remaining bytes are the blocks of all bytes
abbrev pub invariant-loop-rest : goal.invariant-loop-rest
invariant-loop-rest l = with_all (length l.rest) (blocks_of l.blocks) l.rest ≡ with_all (length l.bytes) no_blocks l.bytes

abbrev pub decreases-loop-rest : goal.decreases-loop-rest
decreases-loop-rest l = length l.rest
