use Rattle.std.proofs.Common.{◌≡◌, ◌++◌, take}
use Rattle.srt_status.specs.Texts.{name_text}
use Rattle.srt_status.proofs.text.put_shown_bytes.Given as goal

abbrev pub invariant-loop-byte : goal.invariant-loop-byte
invariant-loop-byte l = l.out.items ≡ l.fn.out.items ++ name_text (take l.byte-index l.bytes)
