-- The cells of a window and the record that they represent.
use Rattle.std.proofs.Common.{◌≡◌, ◌≢◌, ℕ, zero, suc, ◌+◌, ◌-◌, ◌%◌, ◌^◌, ◌<◌, ◌≤◌, ◌==◌, ℤ, pos, ◌+ℤ◌, Bool, true, false, not, ◌||◌, ◌&&◌}
use Rattle.std.proofs.Common.{if◌then◌else◌, Option, None, Some, List, [], ◌∷◌, refl, sym, ap, subst, ◌∙◌, inl, inr, ◌⊎◌, max, min, arith}
use Rattle.std.specs.Prelude.{is_some, option_map, filter_map, int_le, nat_le, nat_lt}
use Rattle.std.specs.List.{cons_option}
use Rattle.std.proofs.lemmas.Bool.{cases_eq, cases_lt, eq-eqb, ne_eqb}
use Rattle.std.proofs.lemmas.Bool.Decides.{nat_tests}
use Rattle.std.proofs.lemmas.Int.{ints}
use Rattle.std.proofs.lemmas.Grind.{common_steps}
use Rattle.std.proofs.lemmas.List.{get_or_past}
use Rattle.srt_types.specs.Window.{word_of, counted_from, in_window, offset_of, number_word}
use Rattle.srt_types.specs.declared.numbers.Seq31.{Seq31}
use Rattle.srt_types.proofs.Ranges.{counted_is}
use Rattle.srt_ring.specs.Ring.{payload_at}
use Rattle.srt_types.specs.Runs.{least_from, numbers_from, Range, span}
use Rattle.srt_recvbuf.specs.Receiving.{Arrival, Receiving, arrival_of, is_received, is_requested, is_missing, is_dropped, end_of}
use Rattle.srt_recvbuf.specs.Receiving.{ack_point, with_number, put_of, moved_to, settled, waiting, first_due, next_due, requested, names}
use Rattle.srt_recvbuf.specs.declared.buffer.Put.TheVariants.{New, Repeat}
use Rattle.srt_recvbuf.specs.declared.buffer.RecvBuf.{RecvBuf}
use Rattle.srt_recvbuf.specs.declared.window.NumberState.TheVariants.{Missing as MissingState}
use Rattle.srt_recvbuf.specs.declared.window.Window.{Window}
use Rattle.srt_recvbuf.specs.Cells.{cell_at, cell_of, Cell, Missing, Dropped, Received, cell_is_missing, cell_is_received, cell_is_dropped, after_drop}
use Rattle.srt_recvbuf.specs.Stands.{StandsFor, cell_for, IsWindowOf, own_range}
use Rattle.srt_recvbuf.specs.OneByOne.{NothingBeyond, NothingDroppedBeyond}
use Rattle.srt_recvbuf.proofs.OneByOne.{found, skipped, found_number, number_or}

-- the least number, if none of the first `steps` numbers passes, and the next one passes or is past the last place
pub least_is : (test : ℕ → Bool) (from places steps : ℕ) → steps ≤ places → ((k : ℕ) → k < steps → test (from + k) ≡ false)
    → (steps < places → test (from + steps) ≡ true)
    → least_from test from places ≡ from + steps
least_is test from zero steps le before at = omega (arith, le)
least_is test from (suc places) zero le before at =
    let e : from + 0 ≡ from = omega arith in
    let here : test from ≡ true = rw e at (at (omega arith)) in
    found test from places true here ∙ sym e
least_is test from (suc places) (suc steps) le before at =
    let z : from + 0 ≡ from = omega arith in
    let here : test from ≡ false = rw z at (before 0 (omega arith)) in
    let e : (from + 1) + steps ≡ from + suc steps = omega arith in
    found test from places false here
    ∙ least_is test (from + 1) places steps (omega (arith, le))
    (λ k lt. let m : (from + 1) + k ≡ from + suc k = omega arith in rw m (before (suc k) (omega (arith, lt))))
    (λ lt. rw e (at (omega (arith, lt))))
    ∙ e

pub missing_cell : (origin : ℕ) (o : Option Arrival) (b : Bool) → cell_is_missing (cell_for origin o b) ≡ not (is_some o || b)
missing_cell origin None true = refl
missing_cell origin None false = refl
missing_cell origin (Some a) b = refl

pub received_cell : (origin : ℕ) (o : Option Arrival) (b : Bool) → cell_is_received (cell_for origin o b) ≡ is_some o
received_cell origin None true = refl
received_cell origin None false = refl
received_cell origin (Some a) b = refl

pub dropped_cell : (origin : ℕ) (o : Option Arrival) (b : Bool) → cell_is_dropped (cell_for origin o b) ≡ (b && not (is_some o))
dropped_cell origin None true = refl
dropped_cell origin None false = refl
dropped_cell origin (Some a) true = refl
dropped_cell origin (Some a) false = refl

module _ (width initial origin front end point : ℕ) (cells : ℕ → Cell) (r : Receiving) (h : IsWindowOf width initial origin front cells end point r) where
  pub cell_missing : (d : ℕ) → is_missing width r (r.front + d) ≡ cell_is_missing (cells d)
  cell_missing d = sym (missing_cell origin (arrival_of r.arrivals (r.front + d)) (is_requested width r.requests (r.front + d)))
      ∙ ap cell_is_missing (sym (h.cells_are d))

  pub cell_received : (d : ℕ) → is_received r (r.front + d) ≡ cell_is_received (cells d)
  cell_received d = sym (received_cell origin (arrival_of r.arrivals (r.front + d)) (is_requested width r.requests (r.front + d)))
      ∙ ap cell_is_received (sym (h.cells_are d))

  pub cell_dropped : (d : ℕ) → is_dropped width r (r.front + d) ≡ cell_is_dropped (cells d)
  cell_dropped d = sym (dropped_cell origin (arrival_of r.arrivals (r.front + d)) (is_requested width r.requests (r.front + d)))
      ∙ ap cell_is_dropped (sym (h.cells_are d))

  pub point_is : point ≤ width → ack_point width r ≡ r.front + point
  point_is le = least_is (is_missing width r) r.front width point le (λ k lt. cell_missing k ∙ h.not_missing k lt) (λ lt. cell_missing point ∙ h.missing lt)

-- a number past the window passes no test of cells that an empty one fails
past_window : (width initial origin : ℕ) (b : RecvBuf) (r : Receiving) → StandsFor width initial origin b r → (passes : ℕ → Bool) (test : Cell → Bool)
    → ((d : ℕ) → passes (r.front + d) ≡ test (cell_at b.window d)) → test Missing ≡ false → (n : ℕ) → r.front + width ≤ n → passes n ≡ false
past_window width initial origin b r h passes test of_cell empty n le =
    let w = b.window in
    let d = n - r.front in
    let e : r.front + d ≡ n = omega (arith, le) in
    let past = get_or_past w.places.items d MissingState (omega (arith, le, h.0)) in
    ap passes (sym e) ∙ of_cell d ∙ ap (λ p. test (cell_of p (payload_at w.payloads d))) past ∙ empty

-- no number past the window is received
pub window_ends : (width initial origin : ℕ) (b : RecvBuf) (r : Receiving) → StandsFor width initial origin b r → NothingBeyond width r
window_ends width initial origin b r h =
    past_window width initial origin b r h (is_received r) cell_is_received (cell_received width initial origin _ _ _ _ r h.1) refl

pub drops_end : (width initial origin : ℕ) (b : RecvBuf) (r : Receiving) → StandsFor width initial origin b r → NothingDroppedBeyond width r
drops_end width initial origin b r h =
    past_window width initial origin b r h (is_dropped width r) cell_is_dropped (cell_dropped width initial origin _ _ _ _ r h.1) refl

-- the number of a sequence number of the window, counted from the initial one: none, or the front's plus the offset
pub own_none : (initial position width word front : ℕ) → front ≡ number_word initial position
    → ((a : ℕ) → a % 2 ^ 31 ≡ front → option_map (λ d. a + d) None ≡ in_window word a width)
    → in_window (counted_from initial word) position width ≡ None
unfolding in_window
own_none initial position width word front e h = let k = h (initial + position) (sym e) in grind (arith, nat_tests)

pub own_some : (initial position width word front d : ℕ) → front ≡ number_word initial position
    → ((a : ℕ) → a % 2 ^ 31 ≡ front → option_map (λ d. a + d) (Some d) ≡ in_window word a width)
    → in_window (counted_from initial word) position width ≡ Some (position + d)
unfolding in_window
own_some initial position width word front d e h = let k = h (initial + position) (sym e) in grind (arith, nat_tests)

-- a new packet is stored at a place
pub with_packet : (width initial origin front end point point' d : ℕ) (cells cells' : ℕ → Cell) (r : Receiving) (payload : List ℕ)
    (due time : ℤ)
    → IsWindowOf width initial origin front cells end point r → due ≡ pos origin +ℤ time
    → ((k : ℕ) → cells' k ≡ (if k == d then Received due payload else cells k)) → point ≤ point'
    → ((k : ℕ) → point ≤ k → k < point' → cell_is_missing (cells' k) ≡ false) → (point' < width → cell_is_missing (cells' point') ≡ true)
    → IsWindowOf width initial origin front cells' (max end (d + 1)) point'
    (record r { arrivals = record { number = r.front + d; payload = payload; due = time } ∷ r.arrivals })
with_packet width initial origin front end point point' d cells cells' r payload due time h t c low before here = record {
  front_is = h.front_is;
  cells_are = λ k. at k (cases_eq k d);
  end_is = omega (arith, h.end_is);
  not_missing = λ k lt. kept k lt (cases_lt k point) (cases_eq k d);
  missing = here;
}
  where
    new : Arrival
    new = record { number = r.front + d; payload = payload; due = time }

    at : (k : ℕ) → (k ≡ d) ⊎ (k ≢ d) → cells' k ≡ cell_for origin (arrival_of (new ∷ r.arrivals) (r.front + k)) (is_requested width r.requests (r.front + k))
    at k (inl same) =
        let n : (r.front + d == r.front + k) ≡ true = eq-eqb _ _ (omega (arith, same)) in
        rw n (c k ∙ rw (eq-eqb _ _ same) (ap (λ x. Received x payload) t))
    at k (inr other) =
        let n : (r.front + d == r.front + k) ≡ false = ne_eqb _ _ (λ e. other (omega (arith, e))) in
        rw n (c k ∙ rw (ne_eqb _ _ other) (h.cells_are k))

    kept : (k : ℕ) → k < point' → (k < point) ⊎ (point ≤ k) → (k ≡ d) ⊎ (k ≢ d) → cell_is_missing (cells' k) ≡ false
    kept k lt (inr hi) o = before k hi lt
    kept k lt (inl lo) (inl same) = ap cell_is_missing (c k) ∙ rw (eq-eqb _ _ same) refl
    kept k lt (inl lo) (inr other) = ap cell_is_missing (c k) ∙ rw (ne_eqb _ _ other) (h.not_missing k lo)

-- the record after a repeated packet is unchanged
pub repeated : (r : Receiving) (n : ℕ) (payload : List ℕ) (time : ℤ) → is_received r n ≡ true → with_number (Some n) payload time r ≡ r
repeated r n payload time e = rw e refl

pub new_one : (r : Receiving) (n : ℕ) (payload : List ℕ) (time : ℤ) → is_received r n ≡ false
    → with_number (Some n) payload time r ≡ record r { arrivals = record { number = n; payload = payload; due = time } ∷ r.arrivals }
new_one r n payload time e = rw e refl

pub is_repeat : (r : Receiving) (n : ℕ) → is_received r n ≡ true → put_of (Some n) r ≡ Repeat
is_repeat r n e = rw e refl

pub is_new : (r : Receiving) (n : ℕ) → is_received r n ≡ false → put_of (Some n) r ≡ New
is_new r n e = rw e refl

-- the same under equal fields
pub with_fields : (width initial origin front front' end end' point : ℕ) (w w' : Window) (r r' : Receiving) → front' ≡ front → w' ≡ w
    → end' ≡ end → r' ≡ r → IsWindowOf width initial origin front (cell_at w) end point r
    → IsWindowOf width initial origin front' (cell_at w') end' point r'
with_fields width initial origin front front' end end' point w w' r r' ef ew ee er h =
    let P : ℕ → Type 0 = λ x. IsWindowOf width initial origin x (cell_at w') end' point r' in
    let Q : Window → Type 0 = λ x. IsWindowOf width initial origin front (cell_at x) end' point r' in
    let R : ℕ → Type 0 = λ x. IsWindowOf width initial origin front (cell_at w) x point r' in
    let S : Receiving → Type 0 = λ x. IsWindowOf width initial origin front (cell_at w) end point x in
    subst P (sym ef) (subst Q (sym ew) (subst R (sym ee) (subst S (sym er) h)))

-- the front moves on by `count` places
pub shifted : (width initial origin front front' end point point' count : ℕ) (cells cells' : ℕ → Cell) (r : Receiving)
    → IsWindowOf width initial origin front cells end point r → front' ≡ number_word initial (r.front + count)
    → ((d : ℕ) → cells' d ≡ cells (d + count)) → ((d : ℕ) → point - count ≤ d → d < point' → cell_is_missing (cells' d) ≡ false)
    → (point' < width → cell_is_missing (cells' point') ≡ true)
    → IsWindowOf width initial origin front' cells' (end - count) point' (moved_to (r.front + count) r)
shifted width initial origin front front' end point point' count cells cells' r h f c before here = record {
  front_is = f;
  cells_are = λ d.
      let e : r.front + (d + count) ≡ (r.front + count) + d = omega arith in
      c d ∙ h.cells_are (d + count) ∙ ap (λ n. cell_for origin (arrival_of r.arrivals n) (is_requested width r.requests n)) e;
  end_is = omega (arith, h.end_is);
  not_missing = λ d lt. kept d lt (cases_lt d (point - count));
  missing = here;
}
  where
    kept : (d : ℕ) → d < point' → (d < point - count) ⊎ (point - count ≤ d) → cell_is_missing (cells' d) ≡ false
    kept d lt (inr hi) = before d hi lt
    kept d lt (inl lo) = ap cell_is_missing (c d) ∙ h.not_missing (d + count) (omega (arith, lo))

-- the number of leading dropped places determines the settled front
pub settled_is : (width initial origin front end point steps : ℕ) (cells : ℕ → Cell) (r : Receiving)
    → IsWindowOf width initial origin front cells end point r → steps ≤ width → ((k : ℕ) → k < steps → not (cell_is_dropped (cells k)) ≡ false)
    → (steps < width → not (cell_is_dropped (cells steps)) ≡ true)
    → settled width r ≡ moved_to (r.front + steps) r
settled_is width initial origin front end point steps cells r h le before here =
    ap (λ n. moved_to n r) (least_is (λ n. not (is_dropped width r n)) r.front width steps le
    (λ k lt. ap not (cell_dropped width initial origin front end point cells r h k) ∙ before k lt)
    (λ lt. ap not (cell_dropped width initial origin front end point cells r h steps) ∙ here lt))

none_there : (o : Option Arrival) → is_some o ≡ false → o ≡ None
none_there None e = refl
none_there (Some a) e = cc

-- without a received place, nothing waits
pub nothing_waits : (width initial origin front end point : ℕ) (cells : ℕ → Cell) (r : Receiving)
    → IsWindowOf width initial origin front cells end point r → ((k : ℕ) → k < end → cell_is_received (cells k) ≡ false) → waiting r ≡ []
nothing_waits width initial origin front end point cells r h none =
    let c = end_of r.arrivals - r.front in
    let s = skipped r.arrivals r.front c c
    (λ i lt. none_there (arrival_of r.arrivals (r.front + i))
    (cell_received width initial origin front end point cells r h i ∙ none i (omega (arith, lt, h.end_is)))) in
    let z : c - c ≡ 0 = omega arith in
    s ∙ ap (λ x. filter_map (arrival_of r.arrivals) (numbers_from (r.front + c) x)) z

-- the first waiting packet and its place
pub record IsFirstWaiting (origin at : ℕ) (cells : ℕ → Cell) (r : Receiving) : Type 0 where
  pub first : Arrival
  pub more : List Arrival
  pub waits : waiting r ≡ first ∷ more
  pub number_is : first.number ≡ r.front + at
  pub cell_is : cells at ≡ Received (pos origin +ℤ first.due) first.payload

pub first_waits : (width initial origin front end point at : ℕ) (cells : ℕ → Cell) (r : Receiving)
    → IsWindowOf width initial origin front cells end point r → ((k : ℕ) → k < at → cell_is_received (cells k) ≡ false) → at < end
    → cell_is_received (cells at) ≡ true
    → IsFirstWaiting origin at cells r
first_waits width initial origin front end point at cells r h none lt got =
    by (arrival_of r.arrivals (r.front + at)) refl (cell_received width initial origin front end point cells r h at ∙ got)
  where
    none_is : false ≡ true → IsFirstWaiting origin at cells r
    none_is e = cc

    by : (o : Option Arrival) → arrival_of r.arrivals (r.front + at) ≡ o → is_some (arrival_of r.arrivals (r.front + at)) ≡ true
        → IsFirstWaiting origin at cells r
    by None is some = none_is (sym (ap is_some is) ∙ some)
    by (Some a) is some =
        let c = end_of r.arrivals - r.front in
        let s = skipped r.arrivals r.front
        c at (λ i less.
        none_there (arrival_of r.arrivals (r.front + i)) (cell_received width initial origin front end point cells r h i ∙ none i less)) in
        let more = filter_map (arrival_of r.arrivals) (numbers_from (r.front + at + 1) (c - at - 1)) in
        let z : c - at ≡ suc (c - at - 1) = omega (arith, lt, h.end_is) in
        record {
          first = a;
          more = more;
          waits = s ∙ ap (λ x. filter_map (arrival_of r.arrivals) (numbers_from (r.front + at) x)) z ∙ ap (λ o. cons_option o more) is;
          number_is = sym (ap (number_or (r.front + at)) is) ∙ found_number r.arrivals (r.front + at);
          cell_is = h.cells_are at ∙ ap (λ o. cell_for origin o (is_requested width r.requests (r.front + at))) is;
        }

pub some_is : {X : Type 0} (x y : X) → Some x ≡ Some y → x ≡ y
some_is x y e = cc

-- if there is room, the first packet that is due is the next one
pub next_is : (time room : ℕ) (r : Receiving) → room ≢ 0 → next_due time room r ≡ first_due time (waiting r)
next_is time room r ne = rw (ne_eqb _ _ ne) refl

pub its_turn : (time : ℕ) (a : Arrival) (more : List Arrival) → int_le a.due (pos time) ≡ true → first_due time (a ∷ more) ≡ Some a
its_turn time a more e = rw e refl

pub not_yet : (time : ℕ) (a : Arrival) (more : List Arrival) → int_le a.due (pos time) ≡ false → first_due time (a ∷ more) ≡ None
not_yet time a more e = rw e refl

-- the offset that a sequence number has; none if it is outside the window
pub offset_found : (word a width d : ℕ) → option_map (λ d. a + d) (Some d) ≡ in_window word a width → (d ≡ offset_of word a) × (d < width)
unfolding in_window
offset_found word a width d e = grind (arith, nat_tests)

pub offset_not_found : (word a width : ℕ) → word < 2 ^ 31 → option_map (λ d. a + d) None ≡ in_window word a width → width ≤ offset_of word a
unfolding in_window
offset_not_found word a width lt e = grind (arith, nat_tests)

-- a range counted from the initial number has the same length
own_span : (initial first last : ℕ) → first < 2 ^ 31 → last < 2 ^ 31 → offset_of (counted_from initial last) (counted_from initial first) ≡ offset_of last first
own_span initial first last f l =
    let a = counted_is initial first f in
    let b = counted_is initial last l in
    rw (a, b) (omega arith)

tested : (a b c : ℕ) → a < 2 ^ 31 → b < 2 ^ 31 → c < 2 ^ 30 → (nat_lt a (2 ^ 31) && nat_lt b (2 ^ 31) && nat_lt c (2 ^ 30)) ≡ true
tested a b c x y z = grind (arith, nat_tests)

too_long : (a b c : ℕ) → 2 ^ 30 ≤ c → (nat_lt a (2 ^ 31) && nat_lt b (2 ^ 31) && nat_lt c (2 ^ 30)) ≡ false
too_long a b c z = grind (arith, nat_tests)

own_small : (initial word : ℕ) → word < 2 ^ 31 → counted_from initial word < 2 ^ 31
own_small initial word lt = let e = counted_is initial word lt in omega (arith, e)

pub nothing_requested : (width initial : ℕ) (first last : Seq31) (r : Receiving) → word_of first < 2 ^ 31 → word_of last < 2 ^ 31
    → 2 ^ 30 ≤ offset_of (word_of last) (word_of first)
    → requested width (own_range initial first last) r ≡ r
nothing_requested width initial first last r f l long =
    let q = own_range initial first last in
    let s = own_span initial (word_of first) (word_of last) f l in
    let e = too_long q.first q.last (span q) (omega (arith, s, long)) in
    rw e refl

abbrev pub with_range : (width : ℕ) → Range → Receiving → Receiving
with_range width q r = record r { requests = record { front = r.front; range = q } ∷ r.requests }

pub range_requested : (width initial : ℕ) (first last : Seq31) (r : Receiving) → word_of first < 2 ^ 31 → word_of last < 2 ^ 31
    → offset_of (word_of last) (word_of first) < 2 ^ 30
    → requested width (own_range initial first last) r ≡ settled width (with_range width (own_range initial first last) r)
range_requested width initial first last r f l short =
    let q = own_range initial first last in
    let s = own_span initial (word_of first) (word_of last) f l in
    let e = tested q.first q.last (span q) (own_small initial (word_of first) f) (own_small initial (word_of last) l) (omega (arith, s, short)) in
    rw e refl

-- the places that a range covers
pub taken : (width initial position front from end sp d : ℕ) (first last : Seq31) → word_of first < 2 ^ 31 → word_of last < 2 ^ 31
    → front ≡ number_word initial position → sp ≡ offset_of (word_of last) (word_of first) → end ≤ width
    → (d < width → (nat_le from d && nat_lt d end) ≡ nat_le (offset_of (front + d) (word_of first)) sp)
    → (nat_le from d && nat_lt d end) ≡ names width (record { front = position; range = own_range initial first last }) (position + d)
taken width initial position front from end sp d first last f l is sp_is inside places = elim (cases_lt d width) [
  | inl lt ↦
      let s = own_span initial (word_of first) (word_of last) f l in
      let w = counted_is initial (word_of first) f in
      let o : offset_of (position + d) (counted_from initial (word_of first)) ≡ offset_of (front + d) (word_of first) = rw w (omega (arith, is)) in
      let b : (nat_le position (position + d) && nat_lt (position + d) (position + width)) ≡ true = both position d width lt in
      places lt ∙ rw (o, s, ← sp_is) (low position d width _ lt)
  | inr le ↦ beyond position d width from end _ inside le
]
  where
    both : (p d w : ℕ) → d < w → (nat_le p (p + d) && nat_lt (p + d) (p + w)) ≡ true
    both p d w lt = grind (arith, nat_tests)

    low : (p d w : ℕ) (b : Bool) → d < w → b ≡ (nat_le p (p + d) && nat_lt (p + d) (p + w) && b)
    low p d w b lt = grind (arith, nat_tests)

    beyond : (p d w from end : ℕ) (b : Bool) → end ≤ w → w ≤ d → (nat_le from d && nat_lt d end) ≡ (nat_le p (p + d) && nat_lt (p + d) (p + w) && b)
    beyond p d w from end b x y = grind (arith, nat_tests)

drops : (origin : ℕ) (o : Option Arrival) (x y : Bool) → (if x then after_drop (cell_for origin o y) else cell_for origin o y) ≡ cell_for origin o (x || y)
drops origin None true true = refl
drops origin None true false = refl
drops origin None false y = refl
drops origin (Some a) true y = refl
drops origin (Some a) false y = refl

stays_known : (b : Bool) (x : Cell) → cell_is_missing x ≡ false → cell_is_missing (if b then after_drop x else x) ≡ false
stays_known true Missing e = refl
stays_known true Dropped e = refl
stays_known true (Received due payload) e = refl
stays_known false x e = e

-- a drop doesn't change whether a place is received
pub received_still : (b : Bool) (x : Cell) → cell_is_received (if b then after_drop x else x) ≡ cell_is_received x
received_still true Missing = refl
received_still true Dropped = refl
received_still true (Received due payload) = refl
received_still false x = refl

-- a range of numbers is dropped
pub with_dropped : (width initial origin front end point point' : ℕ) (cells cells' : ℕ → Cell) (given : ℕ → Bool) (q : Range)
    (r : Receiving)
    → IsWindowOf width initial origin front cells end point r
    → ((d : ℕ) → given d ≡ names width (record { front = r.front; range = q }) (r.front + d))
    → ((d : ℕ) → cells' d ≡ (if given d then after_drop (cells d) else cells d))
    → ((d : ℕ) → point ≤ d → d < point' → cell_is_missing (cells' d) ≡ false) → (point' < width → cell_is_missing (cells' point') ≡ true)
    → IsWindowOf width initial origin front cells' end point' (with_range width q r)
with_dropped width initial origin front end point point' cells cells' given q r h g c before here = record {
  front_is = h.front_is;
  cells_are = λ d. c d ∙ ap (λ x. if given d then after_drop x else x) (h.cells_are d)
      ∙ drops origin (arrival_of r.arrivals (r.front + d)) (given d) (is_requested width r.requests (r.front + d))
      ∙ ap (λ b. cell_for origin (arrival_of r.arrivals (r.front + d)) (b || is_requested width r.requests (r.front + d))) (g d);
  end_is = h.end_is;
  not_missing = λ d lt. kept d lt (cases_lt d point);
  missing = here;
}
  where
    kept : (d : ℕ) → d < point' → (d < point) ⊎ (point ≤ d) → cell_is_missing (cells' d) ≡ false
    kept d lt (inr hi) = before d hi lt
    kept d lt (inl lo) = ap cell_is_missing (c d) ∙ stays_known (given d) (cells d) (h.not_missing d lo)

-- the places of a window that a range covers, if the range begins in the window
pub begins_inside : (front first span width from end d : ℕ) → front < 2 ^ 31 → first < 2 ^ 31 → span < 2 ^ 30 → width ≤ 8192
    → span + 1 ≤ offset_of front first → from ≡ offset_of first front → from < width → end ≡ min (from + span + 1) width → d < width
    → (nat_le from d && nat_lt d end) ≡ nat_le (offset_of (front + d) first) span
begins_inside front first span width from end d f g s w out from_is inside end_is lt = elim (cases_lt d from) [
  | inl below ↦
      let o : offset_of (front + d) first ≡ d + 2 ^ 31 - from = omega (arith, f, g, w, from_is, inside, lt, below) in
      rw o (left from d end span below (omega (arith, s, w, inside)))
  | inr above ↦
      let o : offset_of (front + d) first ≡ d - from = omega (arith, f, g, w, from_is, inside, lt, above) in
      rw (o, end_is) (right from d span width above lt)
]
  where
    left : (from d end span : ℕ) → d < from → span < d + 2 ^ 31 - from → (nat_le from d && nat_lt d end) ≡ nat_le (d + 2 ^ 31 - from) span
    left from d end span x y = grind (arith, nat_tests)

    right : (from d span width : ℕ) → from ≤ d → d < width → (nat_le from d && nat_lt d (min (from + span + 1) width)) ≡ nat_le (d - from) span
    right from d span width x y = grind (arith, nat_tests)

-- none, if the range neither contains the front nor begins in the window
pub stands_outside : (front first span width d : ℕ) → front < 2 ^ 31 → first < 2 ^ 31 → span < 2 ^ 30 → width ≤ 8192
    → span + 1 ≤ offset_of front first → width ≤ offset_of first front → d < width
    → (nat_le 0 d && nat_lt d 0) ≡ nat_le (offset_of (front + d) first) span
stands_outside front first span width d f g s w out far lt =
    let o : span < offset_of (front + d) first = omega (arith, f, g, s, w, out, far, lt) in
    none d span (offset_of (front + d) first) o
  where
    none : (d span o : ℕ) → span < o → (nat_le 0 d && nat_lt d 0) ≡ nat_le o span
    none d span o x = grind (arith, nat_tests)

-- comparison of times since the origin and of the clock's times
pub same_test : (origin time now : ℕ) (own due : ℤ) → now ≡ origin + time → due ≡ pos origin +ℤ own → int_le own (pos time) ≡ int_le due (pos now)
same_test origin time now own due n e = grind (arith, ints, common_steps)
