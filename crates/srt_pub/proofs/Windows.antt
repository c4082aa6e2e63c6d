-- The sequence numbers of a session's window.
use Rattle.std.proofs.Common.{◌≡◌, inl, inr, ℕ, ◌+◌, ◌-◌, ◌%◌, ◌^◌, ◌<◌, ◌≤◌, Bool, true, false, not, ◌&&◌, Option, Some, None, refl, sym, ap, ◌∙◌, arith}
use Rattle.std.specs.Prelude.{is_some, is_none, option_map}
use Rattle.std.proofs.lemmas.Bool.{cases_lt, lt-ltb}
use Rattle.std.proofs.lemmas.Bool.Decides.{nat_tests}
use Rattle.srt_types.specs.Window.{in_window, counted_from, number_word, offset_of}
use Rattle.srt_recvbuf.specs.declared.buffer.RecvBuf.{RecvBuf}
use Rattle.srt_recvbuf.specs.Receiving.{Receiving, is_waiting}
use Rattle.srt_recvbuf.specs.OneByOne.{NothingBeyond}
use Rattle.srt_recvbuf.specs.Stands as buffers
use Rattle.srt_recvbuf.proofs.Buffers.{window_ends, own_none, own_some}
use Rattle.srt_pub.specs.Publishing.{is_past_window, region_in}
use Rattle.srt_pub.specs.declared.region.Region.TheVariants.{Inside, Ahead, Late}

pub beyond : (width initial origin : ℕ) (b : RecvBuf) (r : Receiving) → buffers.StandsFor width initial origin b r → NothingBeyond width r
beyond width initial origin b r h = window_ends width initial origin b r h

-- a word with its top bit set is no sequence number
pub no_number : (initial word position width : ℕ) → 2 ^ 31 ≤ word → in_window (counted_from initial word) position width ≡ None
unfolding in_window
no_number initial word position width le = grind (arith, nat_tests)

-- the region of a number, by its distance from the front
pub region_none : (width initial word : ℕ) (r : Receiving) → 2 ^ 31 ≤ word → Late ≡ region_in width (counted_from initial word) r
unfolding region_in
region_none width initial word r le = rw (no_number initial word r.front width le, no_number initial word (r.front + width) (2 ^ 30) le) refl

pub region_inside : (width n : ℕ) (r : Receiving) → n < 2 ^ 31 → offset_of n r.front < width → Inside ≡ region_in width n r
unfolding region_in in_window
region_inside width n r small lt = grind (arith, nat_tests)

pub region_ahead : (width n : ℕ) (r : Receiving)
    → width ≤ 8192 → n < 2 ^ 31 → width ≤ offset_of n r.front → offset_of n r.front - width < 2 ^ 30 → Ahead ≡ region_in width n r
unfolding region_in in_window
region_ahead width n r narrow small ge lt = grind (arith, nat_tests)

pub region_late : (width n : ℕ) (r : Receiving)
    → width ≤ 8192 → n < 2 ^ 31 → width ≤ offset_of n r.front → 2 ^ 30 ≤ offset_of n r.front - width → Late ≡ region_in width n r
unfolding region_in in_window
region_late width n r narrow small ge far = grind (arith, nat_tests)

small_count : (initial word : ℕ) → word < 2 ^ 31 → counted_from initial word ≡ offset_of word initial
small_count initial word lt = rw (lt-ltb word (2 ^ 31) lt) refl

pub counts_small : (initial word : ℕ) → word < 2 ^ 31 → counted_from initial word < 2 ^ 31
counts_small initial word lt = let e = small_count initial word lt in omega (arith, e)

back : (initial front word : ℕ) → word < 2 ^ 31 → word ≡ (initial + front + offset_of (offset_of word initial) front) % 2 ^ 31
back initial front word lt = omega (arith, lt)

pub distance_there : (initial front word : ℕ) → word < 2 ^ 31 → word ≡ (initial + front + offset_of (counted_from initial word) front) % 2 ^ 31
distance_there initial front word lt =
    back initial front word lt ∙ ap (λ (n : ℕ). (initial + front + offset_of n front) % 2 ^ 31) (sym (small_count initial word lt))

pub same_some : (initial position width word front : ℕ) (o : Option ℕ) → front ≡ number_word initial position
    → ((a : ℕ) → a % 2 ^ 31 ≡ front → option_map (λ d. a + d) o ≡ in_window word a width)
    → is_some o ≡ is_some (in_window (counted_from initial word) position width)
same_some initial position width word front None f h = sym (ap is_some (own_none initial position width word front f h))
same_some initial position width word front (Some d) f h = sym (ap is_some (own_some initial position width word front d f h))

outside : (n position width : ℕ) → width ≤ 8192 → is_some (in_window n (position + width) (2 ^ 30)) ≡ true → is_none (in_window n position width) ≡ true
unfolding in_window
outside n position width narrow e = grind (arith, nat_tests)

pub past_waiting : (width n : ℕ) (r : Receiving) → is_waiting r ≡ true → false ≡ is_past_window width n r
past_waiting width n r e = by (is_none (in_window n r.front width)) (is_waiting r) (is_some (in_window n (r.front + width) (2 ^ 30))) e
  where
    by : (a b c : Bool) → b ≡ true → false ≡ (a && not b && c)
    by a b c e = grind (arith, nat_tests)

pub past_none : (width initial word : ℕ) (r : Receiving) → 2 ^ 31 ≤ word → false ≡ is_past_window width (counted_from initial word) r
past_none width initial word r le =
    by (is_none (in_window (counted_from initial word) r.front width)) (not (is_waiting r)) _
    (ap is_some (no_number initial word (r.front + width) (2 ^ 30) le))
  where
    by : (a b c : Bool) → c ≡ false → false ≡ (a && b && c)
    by a b c e = grind (arith, nat_tests)

pub past_is : (width n : ℕ) (r : Receiving) → width ≤ 8192 → is_waiting r ≡ false → is_some (in_window n (r.front + width) (2 ^ 30)) ≡ is_past_window width n r
past_is width n r narrow e =
    by (is_none (in_window n r.front width)) (is_waiting r) (is_some (in_window n (r.front + width) (2 ^ 30))) e
    (outside n r.front width narrow)
  where
    by : (a b c : Bool) → b ≡ false → (c ≡ true → a ≡ true) → c ≡ (a && not b && c)
    by true b c e f = grind (arith, nat_tests)
    by false b true e f = sym (f refl)
    by false b false e f = refl

in_there : (initial position width d : ℕ) → d ≤ width → width ≤ 8192
    → in_window (counted_from initial ((initial + (position + d)) % 2 ^ 31)) position (width + 1) ≡ Some (position + d)
unfolding in_window
in_there initial position width d le narrow = grind (arith, nat_tests)

pub number_there : (initial position width d word : ℕ) → word ≡ (initial + (position + d)) % 2 ^ 31 → d ≤ width → width ≤ 8192
    → in_window (counted_from initial word) position (width + 1) ≡ Some (position + d)
number_there initial position width d word e le narrow =
    ap (λ x. in_window (counted_from initial x) position (width + 1)) e ∙ in_there initial position width d le narrow

pub no_top : (word : ℕ) → (word < 2 ^ 31 → false ≡ true) → 2 ^ 31 ≤ word
no_top word f = elim (cases_lt word (2 ^ 31)) [
  | inl lt ↦ let e = f lt in cc
  | inr ge ↦ ge
]
