use Rattle.std.proofs.Common.{◌≡◌, ◌+◌, length}
use Rattle.srt_streamid.specs.Parts.{parts_from}
use Rattle.srt_streamid.specs.Reading.{with_parts, ◌>>=◌, requested, list_in}
use Rattle.srt_streamid.proofs.keys.read_list.Given as goal

abbrev pub invariant-loop-found : goal.invariant-loop-found
invariant-loop-found l = record {
  inside : l.start + length l.list ≡ length l.bytes;
  left : (with_parts l.found (parts_from l.start l.list) >>= requested) ≡ list_in l.bytes;
}

abbrev pub decreases-loop-found : goal.decreases-loop-found
decreases-loop-found l = length l.list
