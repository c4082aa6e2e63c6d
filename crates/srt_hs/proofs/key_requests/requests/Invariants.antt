use Rattle.std.proofs.Common.{◌≡◌, length}
use Rattle.srt_hs.specs.KeyRequest.{nothing, with_requests}
use Rattle.srt_hs.specs.KeyAsked.{asked_of}
use Rattle.srt_hs.proofs.key_requests.requests.Given as goal

-- the blocks so far with the blocks of the remaining bytes are the blocks of all bytes
abbrev pub invariant-loop-rest : goal.invariant-loop-rest
invariant-loop-rest l = with_requests (length l.rest) (asked_of l.asked) l.rest ≡ with_requests (length l.bytes) nothing l.bytes

abbrev pub decreases-loop-rest : goal.decreases-loop-rest
decreases-loop-rest l = length l.rest
