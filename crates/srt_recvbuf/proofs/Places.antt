-- The states of a window's places.
use Rattle.std.proofs.Common.{◌≡◌, ℕ, ◌+◌, ◌<◌, ◌==◌, true, false, if◌then◌else◌, List, length, get_or, refl, sym, ap, subst, ◌∙◌, inl, inr}
use Rattle.std.proofs.lemmas.Bool.{cases_eq, cases_lt, eq-eqb, ne_eqb}
use Rattle.std.proofs.lemmas.List.{get_or_past}
use Rattle.srt_ring.specs.declared.ring.PayloadRing.{PayloadRing}
use Rattle.srt_ring.specs.Ring.{payload_at}
use Rattle.srt_recvbuf.specs.declared.window.NumberState.{NumberState}
use Rattle.srt_recvbuf.specs.declared.window.NumberState.TheVariants.{Missing, Dropped, Received}
use Rattle.srt_recvbuf.specs.Cells.{cell_of, cell_in, cell_is_received}

-- past the last place the payload has no effect
pub same_inside : (ps : List NumberState) (d : ℕ) (t u : List ℕ) → (d < length ps → t ≡ u) → cell_of (get_or ps d Missing) t ≡ cell_of (get_or ps d Missing) u
same_inside ps d t u same = elim (cases_lt d (length ps)) [
  | inl lt ↦ ap (cell_of (get_or ps d Missing)) (same lt)
  | inr past ↦ let e = get_or_past ps d Missing past in ap (λ x. cell_of x t) e ∙ sym (ap (λ x. cell_of x u) e)
]

-- setting a place and its payload
pub filled : (ps qs : List NumberState) (w n : PayloadRing) (at d : ℕ) (p : NumberState) (bytes : List ℕ)
    → get_or qs d Missing ≡ (if d == at then p else get_or ps d Missing) → payload_at n at ≡ bytes
    → (d < length ps → (d ≡ at → ⊥) → payload_at n d ≡ payload_at w d)
    → cell_in qs n d ≡ (if d == at then cell_of p bytes else cell_in ps w d)
filled ps qs w n at d p bytes here set kept = elim (cases_eq d at) [
  | inl same ↦
      let b : (d == at) ≡ true = eq-eqb _ _ same in
      let e : get_or qs d Missing ≡ p = rw b at here in
      rw b (ap (λ x. cell_of x (payload_at n d)) e ∙ ap (λ x. cell_of p (payload_at n x)) same ∙ ap (cell_of p) set)
  | inr other ↦
      let b : (d == at) ≡ false = ne_eqb _ _ other in
      let e : get_or qs d Missing ≡ get_or ps d Missing = rw b at here in
      rw b (ap (λ x. cell_of x (payload_at n d)) e ∙ same_inside ps d _ _ (λ lt. kept lt other))
]

-- without a packet at a place, its payload has no effect
free_same : (p : NumberState) (t u : List ℕ) → cell_is_received (cell_of p t) ≡ false → cell_of p t ≡ cell_of p u
free_same Missing t u e = refl
free_same Dropped t u e = refl
free_same (Received due) t u e = cc

-- exchanging the payloads of two places without packets
pub exchanged : (ps : List NumberState) (w n : PayloadRing) (one other d : ℕ) → cell_is_received (cell_in ps w one) ≡ false
    → cell_is_received (cell_in ps w other) ≡ false → (d < length ps → (d ≡ one → ⊥) → (d ≡ other → ⊥) → payload_at n d ≡ payload_at w d)
    → cell_in ps n d ≡ cell_in ps w d
exchanged ps w n one other d fone fother kept = elim (cases_eq d one) [
  | inl same ↦ subst (λ x. cell_in ps n x ≡ cell_in ps w x) (sym same) (sym (free_same _ _ _ fone))
  | inr not_one ↦ elim (cases_eq d other) [
    | inl same ↦ subst (λ x. cell_in ps n x ≡ cell_in ps w x) (sym same) (sym (free_same _ _ _ fother))
    | inr not_other ↦ same_inside ps d _ _ (λ lt. kept lt not_one not_other)
  ]
]

-- the front moves by one
pub moved_on : (ps qs : List NumberState) (w n : PayloadRing) (d : ℕ) → get_or qs d Missing ≡ get_or ps (d + 1) Missing
    → (d + 1 < length ps → payload_at n d ≡ payload_at w (d + 1))
    → cell_in qs n d ≡ cell_in ps w (d + 1)
moved_on ps qs w n d here kept = ap (λ p. cell_of p (payload_at n d)) here ∙ same_inside ps (d + 1) _ _ kept
