-- The part of a window that a range covers.
use Rattle.std.proofs.Common.{◌≡◌, ℕ, zero, suc, ◌+◌, ◌-◌, ◌%◌, ◌^◌, ◌<◌, ◌≤◌, min, Bool, true, false, ◌||◌, Option, None, Some, List, []}
use Rattle.std.proofs.Common.{◌∷◌, refl, sym, ap, ◌∙◌, arith}
use Rattle.std.specs.List.{list_any}
use Rattle.std.proofs.lemmas.Bool.{or_right, true≢false}
use Rattle.std.proofs.lemmas.Bool.Decides.{nat_tests}
use Rattle.srt_types.specs.Window.{counted_from}
use Rattle.srt_types.specs.Runs.{Range, is_in, is_requested, numbers_from, range_from}
use Rattle.std.specs.Prelude.{option_map, unwrap_or}
use Rattle.srt_types.specs.Window.{word_of, in_window}
use Rattle.srt_types.proofs.Windows.{numbers_from_initial}
use Rattle.srt_types.proofs.Ranges.{ranges_from_initial}
use Rattle.srt_loss.specs.Window.{is_in_part, IsPartOf}
use Rattle.srt_sendbuf.specs.Sending.{Sending, front, base, next}
use Rattle.srt_sendbuf.specs.Stands.{StandsFor}
use Rattle.srt_sendbuf.specs.declared.buffer.SendBuf.{SendBuf}

any_at : (test : ℕ → Bool) (from places d : ℕ) → d < places → test (from + d) ≡ true → list_any test (numbers_from from places) ≡ true
any_at test from zero d lt here = absurd (omega (arith, lt))
any_at test from (suc places) zero lt here =
    let e : from + 0 ≡ from = omega arith in
    let b : test from ≡ true = rw e at here in
    ap (λ t. t || list_any test (numbers_from (from + 1) places)) b
any_at test from (suc places) (suc d) lt here =
    let e : (from + 1) + d ≡ from + suc d = omega arith in
    let h = any_at test (from + 1) places d (omega (arith, lt)) (rw e here) in
    or_right (test from) (list_any test (numbers_from (from + 1) places)) h

none_at : (test : ℕ → Bool) (from places : ℕ) → ((d : ℕ) → d < places → test (from + d) ≡ false) → list_any test (numbers_from from places) ≡ false
none_at test from zero off = refl
none_at test from (suc places) off =
    let z : from + 0 ≡ from = omega arith in
    let b : test from ≡ false = rw z at (off 0 (omega arith)) in
    ap (λ t. t || list_any test (numbers_from (from + 1) places)) b
    ∙ none_at test (from + 1) places (λ d l. let m : (from + 1) + d ≡ from + suc d = omega arith in rw m (off (suc d) (omega (arith, l))))

-- a range that has a part of a window contains one of its numbers
pub asks_part : (initial from places first last : ℕ) (x : Range) → x.first < 2 ^ 31 → x.last < 2 ^ 31
    → IsPartOf x (initial + from) places (Some (first, last)) → first ≤ last → last < places
    → list_any (is_in (range_from initial x)) (numbers_from from places) ≡ true
asks_part initial from places first last x f l part le lt =
    any_at (is_in (range_from initial x)) from places first (omega (arith, le, lt))
    (ranges_from_initial initial (from + first) x f l ∙ ap (is_in x) (omega arith) ∙ part first (omega (arith, le, lt)) ∙ both)
  where
    both : is_in_part (Some (first, last)) first ≡ true
    both = grind (arith, nat_tests, le)

pub asks_none : (initial from places : ℕ) (x : Range) → x.first < 2 ^ 31 → x.last < 2 ^ 31 → IsPartOf x (initial + from) places None
    → list_any (is_in (range_from initial x)) (numbers_from from places) ≡ false
asks_none initial from places x f l part =
    none_at (is_in (range_from initial x)) from places
    (λ d lt. ranges_from_initial initial (from + d) x f l ∙ ap (is_in x) (omega arith) ∙ part d lt)

pub any_of_both : (p q : ℕ → Bool) (ns : List ℕ) → list_any (λ n. p n || q n) ns ≡ (list_any p ns || list_any q ns)
any_of_both p q [] = refl
any_of_both p q (n ∷ ns) = ap (λ t. (p n || q n) || t) (any_of_both p q ns) ∙ swap (p n) (q n) (list_any p ns) (list_any q ns)
  where
    swap : (a b c d : Bool) → ((a || b) || (c || d)) ≡ ((a || c) || (b || d))
    swap true b c d = refl
    swap false true true d = refl
    swap false true false d = refl
    swap false false c d = refl

pub any_alike : (p q : ℕ → Bool) → ((n : ℕ) → p n ≡ q n) → (ns : List ℕ) → list_any p ns ≡ list_any q ns
any_alike p q same [] = refl
any_alike p q same (n ∷ ns) = ap (λ t. t || list_any p ns) (same n) ∙ ap (λ t. q n || t) (any_alike p q same ns)

-- an ACK's number, counted from the initial one
pub own_number : (initial word from width : ℕ) (steps : Option ℕ)
    → option_map (λ d. initial + from + d) steps ≡ in_window word (initial + from) width
    → option_map (λ d. from + d) steps ≡ in_window (counted_from initial word) from width
own_number initial word from width steps e = same steps (in_window (counted_from initial word) from width) (e ∙ numbers_from_initial initial word from width)
  where
    inner : (a b : ℕ) → Some a ≡ Some b → a ≡ b
    inner a b e = ap (λ o. unwrap_or o a) e

    same : (o p : Option ℕ) → option_map (λ d. initial + from + d) o ≡ option_map (λ n. initial + n) p → option_map (λ d. from + d) o ≡ p
    same None None e = refl
    same None (Some x) e = cc
    same (Some d) None e = cc
    same (Some d) (Some x) e = let k = inner (initial + from + d) (initial + x) e in ap Some (omega (arith, k))

pub none_requested : (ns : List ℕ) → list_any (is_requested []) ns ≡ false
none_requested [] = refl
none_requested (n ∷ ns) = none_requested ns

pub some_requested : (test : ℕ → Bool) (from places : ℕ) → list_any test (numbers_from from places) ≡ true → 0 < places
some_requested test from zero e = absurd (true≢false (sym e))
some_requested test from (suc places) e = omega arith

-- the place of the base: the buffer's distance before the front
pub record IsBase (initial word back sent : ℕ) (r : Sending) : Type 0 where
  pub behind : back ≡ front r - base r
  pub near : (initial + base r + back) % 2 ^ 31 ≡ word
  pub flying : back + sent + 1 ≡ next r - base r + 1

pub base_is : (width initial back : ℕ) (b : SendBuf) (r : Sending)
    → StandsFor width initial b r → back ≡ min b.behind 8192 → IsBase initial (word_of b.front) back b.sent r
base_is width initial back b r h is =
    let m = h.fields.behind_is in
    let w = h.fields.word_is in
    let n = h.fields.flying_is in
    let behind : back ≡ front r - base r = omega (arith, is, m) in
    record { behind = behind; near = omega (arith, w, behind); flying = omega (arith, behind, n) }
