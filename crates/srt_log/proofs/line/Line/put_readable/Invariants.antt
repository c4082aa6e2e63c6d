use Rattle.std.proofs.Common.{◌≡◌, take}
use Rattle.srt_log.specs.Texts.{put, readable_all}
use Rattle.srt_log.proofs.line.Line.put_readable.Given as goal

abbrev pub invariant-loop-byte : goal.invariant-loop-byte
invariant-loop-byte l = l.self.text.items ≡ put l.fn.self.text.items (readable_all (take l.byte-index l.bytes))
