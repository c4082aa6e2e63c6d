-- The places of a ring and their packets.
use Rattle.std.specs.Prelude.{◌≡◌, ℕ, ◌/◌, ◌<◌, ◌==◌, if◌then◌else◌, ℤ, pos, int_lt, Bool, false, Option, None, Some, List, length, slice_get}
use Rattle.srt_types.specs.Counts.{message_of}
use Rattle.srt_ring.specs.declared.ring.PayloadRing.{PayloadRing}
use Rattle.srt_ring.specs.Buffers.{slot_of}
use Rattle.srt_ring.specs.Ring.{payload_at, first_of}
use Rattle.srt_sendbuf.specs.declared.ring.PacketRecord.{PacketRecord}
use Rattle.srt_sendbuf.specs.Marks.{is_lost}
use Rattle.srt_sendbuf.specs.declared.ring.Ring.{Ring}

-- a stored packet: its queueing time, its message number and its payload
pub record Kept : Type 0 where
  pub origin : ℕ
  pub message : ℕ
  pub payload : List ℕ

abbrev pub kept_of : Option PacketRecord → List ℕ → Option Kept
kept_of None payload = None
kept_of (Some p) payload = Some (record { origin = p.origin; message = message_of p.message; payload = payload })

abbrev pub kept_in : (places : List PacketRecord) (payloads : PayloadRing) (at : ℕ) → Option Kept
kept_in places payloads at = kept_of (slice_get places at) (payload_at payloads at)

-- the packet of the place `at`; None past the last
abbrev pub kept_at : Ring → ℕ → Option Kept
kept_at r at = kept_in r.places.items r.payloads at

-- whether the packet of a place is lost
abbrev pub lost_at : Ring → ℕ → Bool
lost_at r at = is_lost (slice_get r.places.items at)

-- the number of stored packets
abbrev pub length_of : Ring → ℕ
length_of r = length r.places.items

-- the number of places of a ring
abbrev pub width_of : Ring → ℕ
width_of r = r.places.capacity

-- the number of times that a place was marked as lost or as not lost
abbrev pub marks_of : Ring → ℕ
marks_of r = r.marks

-- a packet was appended
abbrev pub IsPut : Kept → (before after : Ring) → Type 0
IsPut k before after =
    (d : ℕ) → kept_at after d ≡ (if d == length_of before then Some k else kept_at before d)

-- no place whose slot is in this block of 64 slots is lost
abbrev pub IsFree : (block : ℕ) → Ring → Type 0
IsFree block r =
    (d : ℕ) → d < width_of r → slot_of (width_of r) (first_of r.payloads) d / 64 ≡ block → lost_at r d ≡ false

-- two rings hold the same packets, except that their loss marks may differ
pub record HasSame (before after : Ring) : Type 0 where
  pub width : width_of after ≡ width_of before
  pub length : length_of after ≡ length_of before
  pub kept : (d : ℕ) → kept_at after d ≡ kept_at before d

-- whether a packet was queued before a time
abbrev pub is_old : ℤ → Option Kept → Bool
is_old before None = false
is_old before (Some k) = int_lt (pos k.origin) before
