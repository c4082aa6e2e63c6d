use Rattle.std.proofs.Common.{◌+◌}
use Rattle.srt_recvbuf.specs.Receiving.{moved_to}
use Rattle.srt_recvbuf.proofs.buffer.RecvBuf.move_past.Goals as goal

pub returns : goal.returns
returns c width initial origin r h = c.settle.ensures width initial origin (moved_to (r.front + (c.args.at + 1)) r) (c.shift.ensures width initial origin r h)
