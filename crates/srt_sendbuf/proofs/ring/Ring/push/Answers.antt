use Rattle.std.proofs.Common.{◌≡◌, ℕ, ◌-◌, ◌<◌, false, List, [], ◌∷◌, ◌++◌, length, drop, refl, sym, ap, ◌∙◌, arith}
use Rattle.std.specs.Prelude.{slice_get}
use Rattle.circular_buffer.specs.Buffer.{Buffer}
use Rattle.srt_sendbuf.specs.declared.ring.PacketRecord.{PacketRecord}
use Rattle.srt_ring.specs.Buffers.{slot_of}
use Rattle.srt_ring.specs.Ring.{first_of, payload_at}
use Rattle.srt_sendbuf.specs.inside.Hints.{hint_at}
use Rattle.srt_sendbuf.specs.Marks.{is_lost}
use Rattle.srt_sendbuf.specs.Places.{kept_in, length_of}
use Rattle.srt_sendbuf.proofs.Rings.{length_last, put_kept, put_lost}
use Rattle.srt_sendbuf.proofs.ring.Ring.push.Goals as goal

all_fit : (ps : List PacketRecord) (p : PacketRecord) (capacity : ℕ) → length ps < capacity
    → drop (length (ps ++ p ∷ []) - capacity) (ps ++ p ∷ []) ≡ ps ++ p ∷ []
all_fit ps p capacity lt =
    let l = length_last ps p in
    let none : length (ps ++ p ∷ []) - capacity ≡ 0 = omega (arith, l, lt) in
    ap (λ k. drop k (ps ++ p ∷ [])) none

pub returns-clause-kept : goal.returns-clause-kept
returns-clause-kept c d =
    let s = c.args.self.now in
    let n = c.set.new.self in
    let place : PacketRecord = record { origin = c.args.origin; message = c.args.message; lost = false } in
    let room : length_of s < s.places.capacity = omega (arith, c.requires.room) in
    ap (λ (b : Buffer PacketRecord). kept_in b.items n d) c.push_back.ensures.items
    ∙ ap (λ xs. kept_in xs n d) (all_fit s.places.items place s.places.capacity room)
    ∙ put_kept s.places.items s.payloads n d place c.args.payload.now (ap (payload_at n) (sym c.len.ensures.len) ∙ c.set.ensures.here)
    (λ lt. c.set.ensures.others d (omega (arith, lt, s.fits, s.as_many)) (λ e. omega (arith, e, lt, c.len.ensures.len)))

pub returns-clause-lost : goal.returns-clause-lost
returns-clause-lost c d =
    let s = c.args.self.now in
    let place : PacketRecord = record { origin = c.args.origin; message = c.args.message; lost = false } in
    ap (λ (b : Buffer PacketRecord). is_lost (slice_get b.items d)) c.push_back.ensures.items
    ∙ ap (λ xs. is_lost (slice_get xs d)) (all_fit s.places.items place s.places.capacity (omega (arith, c.requires.room)))
    ∙ put_lost d s.places.items place refl

pub invariant_of-self-clause-hinted : goal.invariant_of-self-clause-hinted
invariant_of-self-clause-hinted c d off =
    let s = c.args.self.now in
    let place : PacketRecord = record { origin = c.args.origin; message = c.args.message; lost = false } in
    ap (λ (b : Buffer PacketRecord). is_lost (slice_get b.items d)) c.push_back.ensures.items
    ∙ ap (λ xs. is_lost (slice_get xs d)) (all_fit s.places.items place s.places.capacity (omega (arith, c.requires.room)))
    ∙ put_lost d s.places.items place refl
    ∙ s.hinted d
    (ap (λ f. hint_at s.hints (slot_of s.places.capacity f d)) (sym c.set.ensures.first)
    ∙ ap (λ (b : Buffer PacketRecord). hint_at s.hints (slot_of b.capacity (first_of c.set.new.self) d)) (sym c.push_back.ensures.items) ∙ off)
