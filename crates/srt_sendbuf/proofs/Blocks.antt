-- Blocks whose flag is off have no lost place.
use Rattle.std.proofs.Common.{◌≡◌, ℕ, ◌+◌, ◌<◌, ◌≤◌, ◌==◌, false, if◌then◌else◌, Option, List, length, inl, inr, sym, ap, ◌∙◌, arith}
use Rattle.std.specs.Prelude.{slice_get}
use Rattle.std.proofs.lemmas.Bool.{cases_lt}
use Rattle.std.proofs.lemmas.Option.{slice_get_past}
use Rattle.srt_ring.specs.Buffers.{slot_of}
use Rattle.srt_ring.proofs.BufferPlaces.{slots_next}
use Rattle.srt_sendbuf.specs.declared.ring.PacketRecord.{PacketRecord}
use Rattle.srt_sendbuf.specs.declared.hints.Hints.{Hints}
use Rattle.srt_sendbuf.specs.inside.Hints.{hint_at}
use Rattle.srt_sendbuf.specs.Marks.{is_lost}

-- a place is lost only if its block's flag is on
abbrev pub IsHinted : Hints → (width first : ℕ) → List PacketRecord → Type 0
IsHinted h width first ps = (d : ℕ) → hint_at h (slot_of width first d) ≡ false → is_lost (slice_get ps d) ≡ false

-- removing the first place
pub slid_hint : (h : Hints) (width first next d : ℕ) (ps : List PacketRecord) (q : Option PacketRecord) → IsHinted h width first ps → length ps ≤ width
    → first < width → next ≡ (if first + 1 == width then 0 else first + 1) → q ≡ slice_get ps (d + 1) → hint_at h (slot_of width next d) ≡ false
    → is_lost q ≡ false
slid_hint h width first next d ps q hinted lp fi ne here off = ap is_lost here ∙ elim (cases_lt (d + 1) width) [
  | inl lt ↦
      let t : slot_of width next d ≡ slot_of width first (d + 1) = slots_next width first next d fi lt ne in
      hinted (d + 1) (ap (hint_at h) (sym t) ∙ off)
  | inr hi ↦ ap is_lost (slice_get_past ps (d + 1) (omega (arith, lp, hi)))
]
