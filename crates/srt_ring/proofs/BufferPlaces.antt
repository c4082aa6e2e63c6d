-- Reading and writing payload buffers, and their places in a ring.
use Rattle.std.proofs.Common.{◌≡◌, ◌≢◌, ℕ, zero, suc, ◌+◌, ◌<◌, ◌==◌, if◌then◌else◌, List, [], ◌∷◌, length, get_or, refl, sym, ap, arith}
use Rattle.std.specs.Prelude.{slice_set}
use Rattle.std.proofs.lemmas.Bool.Decides.{nat_tests}
use Rattle.srt_ring.specs.declared.buffers.PayloadBuffer.{PayloadBuffer}
use Rattle.srt_ring.specs.declared.order.BufferOrder.{BufferOrder}
use Rattle.srt_ring.specs.Buffers.{bytes_of, bytes_at, slot_of}
use Rattle.srt_ring.specs.Slots.{buffer_of_slot, slots_of}

pub bytes_read : (ts : List PayloadBuffer) (i : ℕ) (x : PayloadBuffer) → i < length ts → x ≡ get_or ts i x → bytes_at ts i ≡ bytes_of x
bytes_read [] i x lt e = absurd (omega (arith, lt))
bytes_read (t ∷ ts) zero x lt e = sym (ap bytes_of e)
bytes_read (t ∷ ts) (suc i) x lt e = bytes_read ts i x (omega (arith, lt)) e

pub bytes_set : (ts : List PayloadBuffer) (i : ℕ) (t : PayloadBuffer) → i < length ts → bytes_at (slice_set ts i t) i ≡ bytes_of t
bytes_set [] i t lt = absurd (omega (arith, lt))
bytes_set (x ∷ ts) zero t lt = refl
bytes_set (x ∷ ts) (suc i) t lt = bytes_set ts i t (omega (arith, lt))

pub bytes_kept : (ts : List PayloadBuffer) (i j : ℕ) (t : PayloadBuffer) → j ≢ i → bytes_at (slice_set ts i t) j ≡ bytes_at ts j
bytes_kept [] i j t ne = refl
bytes_kept (x ∷ ts) zero zero t ne = absurd (ne refl)
bytes_kept (x ∷ ts) zero (suc j) t ne = refl
bytes_kept (x ∷ ts) (suc i) zero t ne = refl
bytes_kept (x ∷ ts) (suc i) (suc j) t ne = bytes_kept ts i j t (λ e. ne (ap suc e))

pub slots_apart : (width first at d : ℕ) → first < width → at < width → d < width → d ≢ at → slot_of width first d ≢ slot_of width first at
slots_apart width first at d fi ai di ne = λ e. ne (slots_same e)
  where
    slots_same : slot_of width first d ≡ slot_of width first at → d ≡ at
    slots_same e = grind (arith, nat_tests)

pub slots_in : (width first at : ℕ) → first < width → at < width → slot_of width first at < width
slots_in width first at fi ai = grind (arith, nat_tests)

-- the front advances by one place
pub slots_next : (width first next d : ℕ) → first < width → d + 1 < width → next ≡ (if first + 1 == width then 0 else first + 1)
    → slot_of width next d ≡ slot_of width first (d + 1)
slots_next width first next d fi di e = grind (arith, nat_tests)

-- different places have different buffers
pub buffers_apart : (o : BufferOrder) (width first at d : ℕ) → slots_of o ≡ width → first < width → at < width → d < width → d ≢ at
    → buffer_of_slot o (slot_of width first d) ≢ buffer_of_slot o (slot_of width first at)
buffers_apart o width first at d sl fi ai di ne =
    let one = slots_in width first d fi di in
    let other = slots_in width first at fi ai in
    λ e. slots_apart width first at d fi ai di ne (o.apart _ _ (omega (arith, one, sl)) (omega (arith, other, sl)) e)
