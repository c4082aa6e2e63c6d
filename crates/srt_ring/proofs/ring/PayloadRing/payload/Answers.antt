use Rattle.std.proofs.Common.{sym, ap, ◌∙◌, arith}
use Rattle.srt_ring.specs.Slots.{buffer_of_slot}
use Rattle.srt_ring.specs.Buffers.{bytes_at}
use Rattle.srt_ring.proofs.BufferPlaces.{bytes_read}
use Rattle.srt_ring.proofs.ring.PayloadRing.payload.Goals as goal

pub returns-clause-value : goal.returns-clause-value
returns-clause-value c =
    let s = c.args.self.now in
    c.bytes.ensures.value
    ∙ sym (bytes_read s.buffers.items c.buffer-index.result c.index.result.now
    (omega (arith, c.buffer-index.ensures.inside, s.as_many, s.buffers.ok.0)) c.index.ensures)
    ∙ ap (bytes_at s.buffers.items) (c.buffer-index.ensures.value ∙ ap (buffer_of_slot s.order) c.slot.ensures.value)
