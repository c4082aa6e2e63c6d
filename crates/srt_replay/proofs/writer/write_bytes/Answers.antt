use Rattle.std.proofs.Common.{◌-◌, take, drop, length, arith, subst}
use Rattle.std.proofs.lemmas.List.{length-take, length-drop}
use Rattle.srt_replay.specs.Known.{Wrote}
use Rattle.srt_replay.proofs.Writing.{wrote_more, further}
use Rattle.srt_replay.proofs.writer.write_bytes.Goals as goal

pub loop-note-preserved-in-Ok : goal.loop-note-preserved-in-Ok
loop-note-preserved-in-Ok g c =
    let at = c.loop-note.at in
    let bytes = c.args.bytes.now in
    let more = wrote_more _ (g.W.Write.contents c.loop-note.writer) (g.W.Write.contents c.try_write.new.writer) (take at bytes) _
    c.loop-note.invariant.wrote c.in-Ok.ensures.bytes in
    let end = further at c.in-Ok.n bytes in
    record {
      within = omega (arith, c.in-Ok.ensures.bound, length-take (length bytes - at) (drop at bytes), length-drop at bytes);
      wrote = subst (Wrote (g.W.Write.contents c.args.writer.now) (g.W.Write.contents c.try_write.new.writer)) end more;
      made = omega (arith, c.try_write.ensures.made, c.loop-note-test.true);
    }
