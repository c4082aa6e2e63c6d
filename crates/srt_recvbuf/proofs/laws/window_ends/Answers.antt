use Rattle.srt_recvbuf.proofs.Buffers as buffers
use Rattle.srt_recvbuf.proofs.laws.window_ends.Goals as goal

pub returns-clause-received : goal.returns-clause-received
returns-clause-received c width initial origin r h = buffers.window_ends width initial origin c.args.buffer.now r h

pub returns-clause-dropped : goal.returns-clause-dropped
returns-clause-dropped c width initial origin r h = buffers.drops_end width initial origin c.args.buffer.now r h
