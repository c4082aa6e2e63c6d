use Rattle.std.proofs.Common.{refl, sym, ap, ◌∙◌, arith}
use Rattle.std.specs.Prelude.{slice_set}
use Rattle.srt_ring.specs.Slots.{buffer_of_slot, slots_of}
use Rattle.srt_ring.specs.Buffers.{bytes_at, slot_of}
use Rattle.srt_ring.proofs.BufferPlaces.{bytes_set, bytes_kept, buffers_apart}
use Rattle.srt_ring.proofs.ring.PayloadRing.set.Goals as goal

pub returns-clause-here : goal.returns-clause-here
returns-clause-here c =
    let s = c.args.self.now in
    ap (bytes_at (slice_set s.buffers.items c.buffer-index.result c.set.new.self))
    (sym (c.buffer-index.ensures.value ∙ ap (buffer_of_slot s.order) c.slot.ensures.value))
    ∙ bytes_set s.buffers.items c.buffer-index.result c.set.new.self (omega (arith, c.buffer-index.ensures.inside, s.as_many, s.buffers.ok.0))
    ∙ c.set.ensures

pub returns-clause-others : goal.returns-clause-others
returns-clause-others c d lt ne =
    let s = c.args.self.now in
    let apart = buffers_apart s.order (slots_of s.order) s.first c.args.at d refl s.first_in c.requires.inside lt ne in
    bytes_kept s.buffers.items c.buffer-index.result (buffer_of_slot s.order (slot_of (slots_of s.order) s.first d)) c.set.new.self
    (λ e. apart (e ∙ c.buffer-index.ensures.value ∙ ap (buffer_of_slot s.order) c.slot.ensures.value))
