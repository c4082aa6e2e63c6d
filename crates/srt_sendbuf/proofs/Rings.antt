-- The packets of a ring's places.
use Rattle.std.proofs.Common.{◌≡◌, ℕ, zero, suc, ◌+◌, ◌<◌, ◌==◌, true, false, if◌then◌else◌, Some, List, [], ◌∷◌, ◌++◌, length, drop, inl}
use Rattle.std.proofs.Common.{inr, refl, sym, ap, ◌∙◌, arith}
use Rattle.std.specs.Prelude.{slice_get}
use Rattle.std.proofs.lemmas.Bool.{cases_lt, cases_order, eq-eqb, ne_eqb}
use Rattle.std.proofs.lemmas.Option.{slice_get_past}
use Rattle.srt_ring.specs.declared.ring.PayloadRing.{PayloadRing}
use Rattle.srt_ring.specs.Ring.{payload_at}
use Rattle.srt_sendbuf.specs.declared.ring.PacketRecord.{PacketRecord}
use Rattle.srt_sendbuf.specs.Marks.{is_lost}
use Rattle.srt_sendbuf.specs.Places.{kept_of, kept_in}

module _ {X : Type 0} where
  pub get_left : (xs ys : List X) (i : ℕ) → i < length xs → slice_get (xs ++ ys) i ≡ slice_get xs i
  get_left [] ys i lt = absurd (omega (arith, lt))
  get_left (x ∷ xs) ys zero lt = refl
  get_left (x ∷ xs) ys (suc i) lt = get_left xs ys i (omega (arith, lt))

  pub get_last : (xs : List X) (x : X) (i : ℕ) → i ≡ length xs → slice_get (xs ++ x ∷ []) i ≡ Some x
  get_last [] x zero e = refl
  get_last [] x (suc i) e = absurd (omega (arith, e))
  get_last (y ∷ xs) x zero e = absurd (omega (arith, e))
  get_last (y ∷ xs) x (suc i) e = get_last xs x i (omega (arith, e))

  pub length_last : (xs : List X) (x : X) → length (xs ++ x ∷ []) ≡ length xs + 1
  length_last [] x = refl
  length_last (y ∷ xs) x = let h = length_last xs x in omega (arith, h)

-- past the last place the payload has no effect
pub same_inside : (ps : List PacketRecord) (d : ℕ) (t u : List ℕ) → (d < length ps → t ≡ u) → kept_of (slice_get ps d) t ≡ kept_of (slice_get ps d) u
same_inside ps d t u same = elim (cases_lt d (length ps)) [
  | inl lt ↦ ap (kept_of (slice_get ps d)) (same lt)
  | inr past ↦ let e = slice_get_past ps d past in ap (λ x. kept_of x t) e ∙ sym (ap (λ x. kept_of x u) e)
]

-- appending a packet
pub put_kept : (ps : List PacketRecord) (w n : PayloadRing) (d : ℕ) (p : PacketRecord) (bytes : List ℕ) → payload_at n (length ps) ≡ bytes
    → (d < length ps → payload_at n d ≡ payload_at w d)
    → kept_in (ps ++ p ∷ []) n d ≡ (if d == length ps then kept_of (Some p) bytes else kept_in ps w d)
put_kept ps w n d p bytes here kept = elim (cases_order d (length ps)) [
  | inr (inl below) ↦
      let b : (d == length ps) ≡ false = ne_eqb _ _ (λ e. omega (arith, below, e)) in
      rw b (ap (λ x. kept_of x (payload_at n d)) (get_left ps (p ∷ []) d below) ∙ ap (kept_of (slice_get ps d)) (kept below))
  | inl same ↦
      let b : (d == length ps) ≡ true = eq-eqb _ _ same in
      rw b (ap (λ x. kept_of x (payload_at n d)) (get_last ps p d same) ∙ ap (λ k. kept_of (Some p) (payload_at n k)) same ∙ ap (kept_of (Some p)) here)
  | inr (inr above) ↦
      let b : (d == length ps) ≡ false = ne_eqb _ _ (λ e. omega (arith, above, e)) in
      let l = length_last ps p in
      let x = slice_get_past (ps ++ p ∷ []) d (omega (arith, l, above)) in
      let y = slice_get_past ps d (omega (arith, above)) in
      rw b (ap (λ k. kept_of k (payload_at n d)) x ∙ sym (ap (λ k. kept_of k (payload_at w d)) y))
]

pub get_next : (ps : List PacketRecord) (d : ℕ) → slice_get (drop 1 ps) d ≡ slice_get ps (d + 1)
get_next [] d = refl
get_next (x ∷ ps) d = let e : d + 1 ≡ suc d = omega arith in sym (ap (slice_get (x ∷ ps)) e)

-- removing the first place
pub moved_one : (ps : List PacketRecord) (w n : PayloadRing) (d : ℕ)
    → (d + 1 < length ps → payload_at n d ≡ payload_at w (d + 1)) → kept_in (drop 1 ps) n d ≡ kept_in ps w (d + 1)
moved_one ps w n d kept = ap (λ p. kept_of p (payload_at n d)) (get_next ps d) ∙ same_inside ps (d + 1) _ _ kept

pub put_lost : (d : ℕ) (ps : List PacketRecord) (p : PacketRecord) → p.lost ≡ false → is_lost (slice_get (ps ++ p ∷ []) d) ≡ is_lost (slice_get ps d)
put_lost d ps p e = elim (cases_order d (length ps)) [
  | inr (inl below) ↦ ap is_lost (get_left ps (p ∷ []) d below)
  | inl same ↦ ap is_lost (get_last ps p d same) ∙ e ∙ sym (ap is_lost (slice_get_past ps d (omega (arith, same))))
  | inr (inr above) ↦
      let l = length_last ps p in
      ap is_lost (slice_get_past (ps ++ p ∷ []) d (omega (arith, l, above))) ∙ sym (ap is_lost (slice_get_past ps d (omega (arith, above))))
]
