-- The Full ACK that a number confirms, and the representation after that.
use Rattle.std.proofs.Common.{◌≡◌, ◌≢◌, ℕ, zero, suc, ◌+◌, ◌-◌, ◌%◌, ◌<◌, ◌≤◌, min, Bool, true, Option, Some, None, List, [], ◌∷◌, length}
use Rattle.std.proofs.Common.{map, take, get_or, inl, inr, set, refl, sym, ap, ◌∙◌, arith}
use Rattle.std.specs.List.{find, position, position_or_len, slice_get}
use Rattle.std.proofs.lemmas.List.{length-map, get_or-set_other}
use Rattle.std.proofs.lemmas.Grind.{get_or-set_at}
use Rattle.std.specs.Option.{option_map}
use Rattle.std.proofs.lemmas.List.Sums.{passes_at_first}
use Rattle.std.proofs.lemmas.List.Folds.{find_at}
use Rattle.std.proofs.lemmas.Bool.Decides.{nat_tests, eqb_tells}
use Rattle.std.proofs.lemmas.Option.{slice_get-get_or, slice_get_past}
use Rattle.srt_types.specs.Counts.{ack_number}
use Rattle.srt_timing.specs.Book.{Noted, is_waiting, waiting, waiting_place, marked, confirmed, IsNumbered, moment_at, sample, sample_at, with_marked, IsBookOf}
use Rattle.srt_timing.proofs.Places.{nobody, index_at, moment_is, still, its_number, in_last}

-- the Full ACK that a number confirms is the one at its place
pub not_found : (h : List Noted) (number : ℕ) → waiting_place number h ≡ None → waiting number h ≡ None
not_found h number none =
    let f = find_at (is_waiting number) (take 64 h) in
    let past : length (take 64 h) ≤ position_or_len (is_waiting number) (take 64 h) = grind (arith, nat_tests) in
    f ∙ slice_get_past (take 64 h) _ past

at_place : (p : Noted → Bool) (xs : List Noted) (d : ℕ) → position p xs ≡ Some d → (d < length xs) × (position_or_len p xs ≡ d)
at_place p xs d e = grind (arith, nat_tests)

pub record Found (number d : ℕ) (h : List Noted) : Type 0 where
  pub last : d < 64
  pub within : d < length h
  pub it_is : waiting number h ≡ Some (get_or h d nobody)
  pub waits : moment_at h d ≡ Some (get_or h d nobody).moment
  pub number_is : ack_number (get_or h d nobody).index ≡ number

pub found : (h : List Noted) (number d : ℕ) → waiting_place number h ≡ Some d → Found number d h
found h number d e =
    let p = is_waiting number in
    let xs = take 64 h in
    let at = at_place p xs d e in
    let last = in_last h d at.0 in
    let passes : p (get_or xs d nobody) ≡ true = rw (← at.1) (passes_at_first p xs nobody (rw at.1 at.0)) in
    let same : find p xs ≡ Some (get_or xs d nobody) = find_at p xs ∙ ap (slice_get xs) at.1 ∙ slice_get-get_or xs d nobody at.0 in
    record {
      last = last.0;
      within = last.1;
      it_is = rw (← last.2) same;
      waits = moment_is h d last.1 ∙ still number (get_or h d nobody) (rw (← last.2) passes);
      number_is = its_number number (get_or h d nobody) (rw (← last.2) passes);
    }

-- marking a Full ACK as confirmed
pub numbered_marked : (h : List Noted) (i : ℕ) → IsNumbered h → IsNumbered (map (marked i) h)
numbered_marked [] i k = tt
numbered_marked (n ∷ h) i k = (k.0 ∙ sym (length-map h (marked i)), numbered_marked h i k.1)

pub marked_same : (h : List Noted) (i e : ℕ) → IsNumbered h → i + (e + 1) ≡ length h → moment_at (map (marked i) h) e ≡ None
marked_same [] i e k at = refl
marked_same (n ∷ h) i zero k at = let here : n.index ≡ i = omega (arith, k.0, at) in grind (arith, nat_tests)
marked_same (n ∷ h) i (suc e) k at = marked_same h i e k.1 (omega (arith, at))

pub marked_other : (h : List Noted) (i e : ℕ) → IsNumbered h → i + (e + 1) ≢ length h → moment_at (map (marked i) h) e ≡ moment_at h e
marked_other [] i e k at = refl
marked_other (n ∷ h) i zero k at = let off : n.index ≢ i = λ s. at (omega (arith, k.0, s)) in grind (arith, nat_tests)
marked_other (n ∷ h) i (suc e) k at = marked_other h i e k.1 (λ s. at (omega (arith, s)))

pub book_confirmed : (next at : ℕ) (moments : List (Option ℕ)) (h : List Noted) (number d i : ℕ) → length moments ≡ 64 → at < 64 → d < 64
    → i ≡ (at + (63 - d)) % 64 → IsBookOf next at moments h → waiting_place number h ≡ Some d
    → IsBookOf next at (set moments i None) (confirmed number h)
book_confirmed next at moments h number d i len small low i_is b e =
    let f = found h number d e in
    let x = get_or h d nobody in
    let index : x.index ≡ length h - (d + 1) = index_at h d b.numbered f.within in
    let same : confirmed number h ≡ map (marked x.index) h = ap (λ (o : Option Noted). with_marked o h) f.it_is in
    rw same
    (record {
      numbered = numbered_marked h x.index b.numbered;
      next_is = rw (length-map h (marked x.index)) b.next_is;
      moments_are = λ place lt. elim (eqb_tells place d) [
        | inl y ↦
            let at_i : (at + (63 - place)) % 64 ≡ i = rw y.1 (sym i_is) in
            let none = marked_same h x.index place b.numbered (omega (arith, index, f.within, y.1)) in
            get_or-set_at moments i _ None None at_i (omega (arith, i_is, len)) ∙ sym none
        | inr n ↦
            let off : (at + (63 - place)) % 64 ≢ i = λ s. n.1 (omega (arith, s, i_is, lt, low, small)) in
            get_or-set_other moments i _ None None off ∙ b.moments_are place lt
            ∙ sym (marked_other h x.index place b.numbered (λ s. n.1 (omega (arith, index, f.within, s))))
      ];
    })

pub sample_found : (h : List Noted) (number now d m : ℕ)
    → waiting_place number h ≡ Some d → moment_at h d ≡ Some m → sample number now h ≡ Some (min (now - m) 10_000_000)
sample_found h number now d m e at =
    let f = found h number d e in
    let same : (get_or h d nobody).moment ≡ m = grind arith in
    ap (option_map (sample_at now)) f.it_is ∙ ap (λ (k : ℕ). Some (min (now - k) 10_000_000)) same

-- a number that confirms no Full ACK
pub sample_none : (h : List Noted) (number now : ℕ) → waiting_place number h ≡ None → sample number now h ≡ None
sample_none h number now e = ap (option_map (sample_at now)) (not_found h number e)

pub confirmed_none : (h : List Noted) (number : ℕ) → waiting_place number h ≡ None → confirmed number h ≡ h
confirmed_none h number e = ap (λ (o : Option Noted). with_marked o h) (not_found h number e)

-- the Full ACK that a number confirms has a sending time
pub has_moment : (h : List Noted) (number d : ℕ) → waiting_place number h ≡ Some d → moment_at h d ≢ None
has_moment h number d e none = let f = found h number d e in let w = f.waits in cc
