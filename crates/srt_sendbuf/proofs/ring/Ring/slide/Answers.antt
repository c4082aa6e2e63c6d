use Rattle.std.proofs.Common.{◌+◌, ◌==◌, if◌then◌else◌, drop, sym, ap, ◌∙◌, arith}
use Rattle.std.specs.Prelude.{slice_get}
use Rattle.circular_buffer.specs.Buffer.{Buffer}
use Rattle.srt_sendbuf.specs.declared.ring.PacketRecord.{PacketRecord}
use Rattle.srt_ring.specs.Buffers.{slot_of}
use Rattle.srt_ring.specs.Ring.{first_of}
use Rattle.srt_sendbuf.specs.inside.Hints.{hint_at}
use Rattle.srt_sendbuf.specs.Marks.{is_lost}
use Rattle.srt_sendbuf.specs.Places.{kept_in}
use Rattle.srt_sendbuf.proofs.Rings.{get_next, moved_one}
use Rattle.srt_sendbuf.proofs.Blocks.{slid_hint}
use Rattle.srt_sendbuf.proofs.ring.Ring.slide.Goals as goal

pub returns-clause-kept : goal.returns-clause-kept
returns-clause-kept c d =
    let s = c.args.self.now in
    let n = c.advance.new.self in
    ap (λ (b : Buffer PacketRecord). kept_in b.items n d) c.pop_front.ensures.items
    ∙ moved_one s.places.items s.payloads n d (λ lt. c.advance.ensures.payloads d (omega (arith, lt, s.fits, s.as_many)))

pub invariant_of-self-clause-hinted : goal.invariant_of-self-clause-hinted
invariant_of-self-clause-hinted c d off =
    let s = c.args.self.now in
    let next = first_of c.advance.new.self in
    ap (λ (b : Buffer PacketRecord). is_lost (slice_get b.items d)) c.pop_front.ensures.items
    ∙ slid_hint s.hints s.places.capacity (first_of s.payloads) next d s.places.items (slice_get (drop 1 s.places.items) d) s.hinted s.fits
    (omega (arith, s.payloads.first_in, s.as_many))
    (c.advance.ensures.first ∙ ap (λ w. if first_of s.payloads + 1 == w then 0 else first_of s.payloads + 1) s.as_many)
    (get_next s.places.items d) (ap (λ (b : Buffer PacketRecord). hint_at s.hints (slot_of b.capacity next d)) (sym c.pop_front.ensures.items) ∙ off)
