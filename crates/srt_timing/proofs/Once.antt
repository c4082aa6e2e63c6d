-- The laws of the confirmation of Full ACKs.
use Rattle.std.proofs.Common.{◌≡◌, ◌≢◌, ◌⊎◌, ℕ, zero, suc, ◌+◌, ◌-◌, ◌<◌, false, Option, Some, None, List, [], ◌∷◌, length, map, take}
use Rattle.std.proofs.Common.{get_or, inl, inr, refl, sym, ap, ◌∙◌, arith}
use Rattle.std.specs.List.{slice_get}
use Rattle.std.proofs.lemmas.List.{length-map}
use Rattle.std.specs.Option.{option_and_then}
use Rattle.std.proofs.lemmas.Bool.Decides.{nat_tests, eqb_tells}
use Rattle.std.proofs.lemmas.Option.{slice_get-get_or, slice_get_within, get_or_from_slice_get}
use Rattle.srt_types.specs.Counts.{ack_number}
use Rattle.srt_timing.specs.Book.{Noted, is_waiting, waiting, waiting_place, marked, confirmed, IsNumbered, with_marked, WaitsAtPlace}
use Rattle.srt_timing.specs.Book.{ConfirmsOnce, PlacesCountBack}
use Rattle.srt_timing.proofs.Places.{nobody, index_at, none_passes, in_last}
use Rattle.srt_timing.proofs.Confirmed.{found, not_found, confirmed_none}

at_answer : (number : ℕ) (h : List Noted) (o : Option ℕ)
    → waiting_place number h ≡ o → waiting number h ≡ option_and_then (slice_get h) (waiting_place number h)
at_answer number h None e = not_found h number e ∙ ap (option_and_then (slice_get h)) (sym e)
at_answer number h (Some d) e =
    let f = found h number d e in
    f.it_is ∙ sym (slice_get-get_or h d nobody f.within) ∙ ap (option_and_then (slice_get h)) (sym e)

pub waits_at_place : WaitsAtPlace
waits_at_place number h = at_answer number h (waiting_place number h) refl

pub places_count_back : PlacesCountBack
places_count_back h place n k e =
    let lt = slice_get_within h place n e in
    let same = get_or_from_slice_get h place n nobody e in
    let i = index_at h place k lt in
    let j = ap (λ (x : Noted). x.index) same in
    omega (arith, i, j, lt)

marked_at : (h : List Noted) (i e : ℕ) → e < length h → get_or (map (marked i) h) e nobody ≡ marked i (get_or h e nobody)
marked_at [] i e lt = absurd (omega (arith, lt))
marked_at (n ∷ h) i zero lt = refl
marked_at (n ∷ h) i (suc e) lt = marked_at h i e (omega (arith, lt))

not_again : (number i : ℕ) (n : Noted) → (n.index ≡ i) ⊎ (ack_number n.index ≢ number) → is_waiting number (marked i n) ≡ false
not_again number i n at = grind (arith, nat_tests)

one_place : (count number d e i j : ℕ) → i ≡ count - (d + 1) → j ≡ count - (e + 1) → d < count → e < count → d < 64 → e < 64
    → ack_number i ≡ number → ack_number j ≡ number
    → e ≡ d
one_place count number d e i j i_is j_is d_in e_in d_small e_small a b = omega arith

once_at : (number : ℕ) (h : List Noted) (o : Option ℕ) → IsNumbered h → waiting_place number h ≡ o → waiting number (confirmed number h) ≡ None
once_at number h None k e = rw (confirmed_none h number e) (not_found h number e)
once_at number h (Some d) k e =
    let f = found h number d e in
    let i = (get_or h d nobody).index in
    let i_is = index_at h d k f.within in
    let g = map (marked i) h in
    let same : confirmed number h ≡ g = ap (λ (x : Option Noted). with_marked x h) f.it_is in
    rw same
    (not_found g number
    (none_passes (is_waiting number) (take 64 g)
    (λ b lt.
    let at = in_last g b lt in
    let less : b < length h = rw (length-map h (marked i)) at at.1 in
    let j = index_at h b k less in
    rw at.2 (rw (marked_at h i b less) (not_again number i (get_or h b nobody)
    (elim (eqb_tells b d) [
      | inl y ↦ inl (omega (arith, j, i_is, y.1))
      | inr n ↦ inr (λ a. n.1 (one_place (length h) number d b _ _ i_is j f.within less f.last at.0 f.number_is a))
    ]))))))

pub confirms_once : ConfirmsOnce
confirms_once number h k = once_at number h (waiting_place number h) k refl
