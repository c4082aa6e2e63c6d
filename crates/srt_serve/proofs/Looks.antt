-- A look at one cell after another, and the places of a change.
use Rattle.std.proofs.Common.{◌≡◌, ◌≢◌, ◌∙◌, ◌⊎◌, inl, inr, ℕ, zero, suc, ◌+◌, ◌<◌, List, [], ◌∷◌, ◌++◌, length, map, get_or, slice_get, option_map}
use Rattle.std.proofs.Common.{Some, refl, sym, ap, subst, arith, drop, Bool, true, false, ◌&&◌}
use Rattle.std.proofs.lemmas.Bool.{cases_lt, and_parts}
use Rattle.std.proofs.lemmas.Option.{get_or_from_slice_get, slice_get-map}
use Rattle.std.specs.List.{AllByRecursion}
use Rattle.srt_types.specs.Terms.{Terms}
use Rattle.srt_route.specs.declared.route.Route.{Route}
use Rattle.std.specs.Prelude.{IsOk, IsErr}
use Rattle.srt_supervision.specs.declared.order.Order.{Order}
use Rattle.srt_supervision.specs.declared.order.Order.TheVariants.{GoOn, CloseAll, End}
use Rattle.srt_serve.specs.declared.watching.Check.{Check}
use Rattle.srt_serve.specs.inside.Looking.{IsQuietAt, IsOneBusy, IsCheckOf}
use Rattle.srt_serve.specs.inside.Quiet.{is_check_quiet}
use Rattle.srt_mailbox.specs.declared.accounts.Account.{Account}
use Rattle.srt_mailbox.specs.Cells.{CellIdentity}
use Rattle.srt_serve.specs.Opened.{terms_in}
use Rattle.srt_serve.specs.Settled.{WasLastShown, AreLastShown}
use Rattle.srt_serve.specs.inside.Changing.{HasIndexAt, IsHostedAt, IsOpenedAt}
use Rattle.srt_serve.specs.inside.UpTo.{UpTo}

-- what fits the elements before this one, and this one, fits one element more
pub fits_next : {X : Type 0} (fits : (index : ℕ) → X → Type 0) (xs : List X) (i : ℕ) (item : X) → item ≡ get_or xs i item → fits i item
    → UpTo (λ j. (x : X) → slice_get xs j ≡ Some x → fits j x) i → UpTo (λ j. (x : X) → slice_get xs j ≡ Some x → fits j x) (i + 1)
fits_next fits xs i item is here before j below x at = elim (cases_lt j i) [
  | inl lt ↦ before j lt x at
  | inr le ↦
      let last : i ≡ j = omega (arith, below, le) in
      let same : item ≡ x = is ∙ ap (λ n. get_or xs n item) last ∙ get_or_from_slice_get xs j x item at in
      subst (fits j) same (subst (λ n. fits n item) last here)
]

some_same : {X : Type 0} (x y : X) → Some x ≡ Some y → x ≡ y
some_same x y h = cc

element_at : {X : Type 0} (xs : List X) (i : ℕ) → i < length xs → (x : X) × (slice_get xs i ≡ Some x)
element_at [] i below = absurd (omega (arith, below))
element_at (x ∷ xs) zero below = (x, refl)
element_at (x ∷ xs) (suc i) below = element_at xs i (omega (arith, below))

-- a route of each of these entries was put into its place, if its seat was
pub opened_all : {Host Seat E : Type 0} (hosts : Host → Seat → Type 0) (has_route : Host → Type 0) (f : Seat → CellIdentity) (places : List Host)
    (first : ℕ) (seats : List Seat) (terms : E → Terms) (opens opens' : List E)
    → opens ≡ opens' → terms_in (map f seats) ≡ map terms opens → length seats ≡ length opens
    → UpTo (HasIndexAt (λ s. (f s).index) first seats) (length seats) → UpTo (IsHostedAt hosts has_route places first seats) (length seats)
    → UpTo (IsOpenedAt hosts has_route (λ s. (f s).index) (λ s. (f s).terms) places first (map terms opens')) (length opens')
opened_all hosts has_route f places first seats terms opens opens' same are many indexes hosted i below place at =
    let inside : i < length seats = omega (arith, below, many, ap length same) in
    let seat = element_at seats i inside in
    elim (hosted i inside place seat.0 at seat.1) [
      | inl taken ↦ inl taken
      | inr put ↦ inr (
        seat.0,
        put,
        indexes i inside seat.0 seat.1,
        ap (λ es. slice_get (map terms es) i) (sym same)
            ∙ ap (λ ts. slice_get ts i) (sym are)
            ∙ slice_get-map (λ n. n.terms) (map f seats) i
            ∙ ap (λ n. option_map (λ m. m.terms) n) (slice_get-map f seats i ∙ ap (λ s. option_map f s) seat.1),
      )
    ]

-- one route more was shown last
pub last_shown_more : (shown : ℕ → Route → Type 0) (from : ℕ) (accounts : List Account) (a : Account) → WasLastShown shown (from + length accounts) a
    → AreLastShown shown from accounts → AreLastShown shown from (accounts ++ a ∷ [])
last_shown_more shown from [] a h before =
    let none : from + 0 ≡ from = omega arith in
    (subst (λ n. WasLastShown shown n a) none h, tt)
last_shown_more shown from (b ∷ accounts) a h before =
    let next : from + suc (length accounts) ≡ (from + 1) + length accounts = omega arith in
    (before.0, last_shown_more shown (from + 1) accounts a (subst (λ n. WasLastShown shown n a) next h) before.1)

-- both are so only if each is
pub both_quiet : (a b : Bool) (A B C : Type 0) → (a ≡ true → A) → (b ≡ true → B) → (A → B → C) → (a && b) ≡ true → C
both_quiet a b A B C from_a from_b all test =
    let parts = and_parts a b test in
    all (from_a parts.0) (from_b parts.1)

-- both aren't so only if one isn't
pub one_busy : (a b : Bool) (B C : Type 0) → (a ≡ false → C) → (b ≡ false → B) → (B → C) → (a && b) ≡ false → C
one_busy true b B C from_a from_b one test = one (from_b test)
one_busy false b B C from_a from_b one test = from_a refl

-- what the first element of the rest of a list is, and the rest after it
pub rest_shows : {X : Type 0} (xs : List X) (i : ℕ) (x : X) (rest : List X) → drop i xs ≡ x ∷ rest → (slice_get xs i ≡ Some x) × (drop (i + 1) xs ≡ rest)
rest_shows [] zero x rest h = absurd cc
rest_shows [] (suc i) x rest h = absurd cc
rest_shows (y ∷ xs) zero x rest h = (cc, cc)
rest_shows (y ∷ xs) (suc i) x rest h =
    let next = rest_shows xs i x rest h in
    let one : suc (i + 1) ≡ suc i + 1 = omega arith in
    (next.0, subst (λ (n : ℕ). drop n (y ∷ xs) ≡ rest) one next.1)

-- one seat more was put into its place
pub hosted_next : {Host Seat : Type 0} (hosts : Host → Seat → Type 0) (has_route : Host → Type 0) (places : List Host) (first : ℕ) (seats : List Seat)
    (i at : ℕ) (seat : Seat) → at ≡ first + i → slice_get seats i ≡ Some seat
    → ((place : Host) → slice_get places at ≡ Some place → has_route place ⊎ hosts place seat) → UpTo (IsHostedAt hosts has_route places first seats) i
    → UpTo (IsHostedAt hosts has_route places first seats) (i + 1)
hosted_next hosts has_route places first seats i at seat is here put before j below place other there shown = elim (cases_lt j i) [
  | inl lt ↦ before j lt place other there shown
  | inr le ↦
      let last : i ≡ j = omega (arith, below, le) in
      let same : seat ≡ other = some_same seat other (sym here ∙ ap (λ n. slice_get seats n) last ∙ shown) in
      subst (λ s. has_route place ⊎ hosts place s) same (put place (ap (λ n. slice_get places n) (is ∙ ap (λ n. first + n) last) ∙ there))
]

slice_get_left : {X : Type 0} (xs ys : List X) (i : ℕ) → i < length xs → slice_get (xs ++ ys) i ≡ slice_get xs i
slice_get_left [] ys i below = absurd (omega (arith, below))
slice_get_left (x ∷ xs) ys zero below = refl
slice_get_left (x ∷ xs) ys (suc i) below = slice_get_left xs ys i (omega (arith, below))

slice_get_seam : {X : Type 0} (xs : List X) (x : X) → slice_get (xs ++ x ∷ []) (length xs) ≡ Some x
slice_get_seam [] x = refl
slice_get_seam (y ∷ xs) x = slice_get_seam xs x

-- one seat more has its index
pub indexes_grow : {Seat : Type 0} (index : Seat → ℕ) (first n : ℕ) (seats seats' : List Seat) (seat : Seat) → seats' ≡ seats ++ seat ∷ []
    → length seats ≡ n → index seat ≡ first + n → UpTo (HasIndexAt index first seats) n → UpTo (HasIndexAt index first seats') (n + 1)
indexes_grow index first n seats seats' seat grew many is before j below other shown = elim (cases_lt j n) [
  | inl lt ↦
      let inside : j < length seats = omega (arith, lt, many) in
      before j lt other (sym (slice_get_left seats (seat ∷ []) j inside) ∙ ap (λ ss. slice_get ss j) (sym grew) ∙ shown)
  | inr le ↦
      let last : n ≡ j = omega (arith, below, le) in
      let same : seat ≡ other = some_same seat other (
      sym (slice_get_seam seats seat) ∙ ap (λ m. slice_get (seats ++ seat ∷ []) m) (many ∙ last) ∙ ap (λ ss. slice_get ss j) (sym grew) ∙ shown) in
      subst (λ s. index s ≡ first + j) same (is ∙ ap (λ m. first + m) last)
]

-- what holds of each by two facts holds by each of them
pub all_left : {X : Type 0} (P Q : X → Type 0) (xs : List X) → AllByRecursion (λ x. P x × Q x) xs → AllByRecursion P xs
all_left P Q [] h = tt
all_left P Q (x ∷ xs) h = (h.0.0, all_left P Q xs h.1)

pub all_right : {X : Type 0} (P Q : X → Type 0) (xs : List X) → AllByRecursion (λ x. P x × Q x) xs → AllByRecursion Q xs
all_right P Q [] h = tt
all_right P Q (x ∷ xs) h = (h.0.1, all_right P Q xs h.1)

-- something is left of a list before its end
pub rest_left : {X : Type 0} (xs ys : List X) (i : ℕ) → i < length xs → drop i xs ≡ ys → 0 < length ys
rest_left [] ys i below h = absurd (omega (arith, below))
rest_left (x ∷ xs) ys zero below h = subst (λ zs. 0 < length zs) h (omega arith)
rest_left (x ∷ xs) ys (suc i) below h = rest_left xs ys i (omega (arith, below)) h

only_quiet : (order : Order) (all ready : Bool) (A B : Type 0) → (all ≡ true → A) → (ready ≡ false → B) → is_check_quiet order all ready ≡ true
    → (order ≢ GoOn) × A × B
only_quiet GoOn all ready A B quiet none t = absurd cc
only_quiet CloseAll true false A B quiet none t = ((λ same. cc), quiet refl, none refl)
only_quiet CloseAll true true A B quiet none t = absurd cc
only_quiet CloseAll false ready A B quiet none t = absurd cc
only_quiet End true false A B quiet none t = ((λ same. cc), quiet refl, none refl)
only_quiet End true true A B quiet none t = absurd cc
only_quiet End false ready A B quiet none t = absurd cc

only_busy : (order : Order) (all ready : Bool) (B C : Type 0) → (all ≡ false → B) → (ready ≡ true → C) → is_check_quiet order all ready ≡ false
    → (order ≡ GoOn) ⊎ (B ⊎ C)
only_busy GoOn all ready B C busy some f = inl refl
only_busy CloseAll true false B C busy some f = absurd cc
only_busy CloseAll true true B C busy some f = inr (inr (some refl))
only_busy CloseAll false ready B C busy some f = inr (inl (busy refl))
only_busy End true false B C busy some f = absurd cc
only_busy End true true B C busy some f = inr (inr (some refl))
only_busy End false ready B C busy some f = inr (inl (busy refl))

-- what a check finds, by what it found of the routes and of the outboxes
pub checked : {Cell : Type 0} (holds : Cell → Route → ℕ → Type 0) (shows_none : Cell → Type 0) (order : Order) (cells : List Cell) (check : Check)
    (all ready : Bool) → check.seen.routes.all_quiet ≡ all → check.is_quiet ≡ is_check_quiet order all ready
    → (all ≡ true → UpTo (IsQuietAt holds cells) (length cells)) → (all ≡ false → IsOneBusy holds shows_none cells)
    → (ready ≡ false → IsOk check.seen.outboxes) → (ready ≡ true → IsErr check.seen.outboxes) → IsCheckOf holds shows_none order cells check
checked holds shows_none order cells check all ready seen is quiet busy none some = record {
  quiet = λ t. only_quiet order all ready _ _ quiet none (sym is ∙ t);
  busy = λ f. only_busy order all ready _ _ busy some (sym is ∙ f);
  seen_quiet = λ t. quiet (sym seen ∙ t);
  seen_busy = λ f. inr (busy (sym seen ∙ f));
}

-- a check of a turn in which the routes weren't looked at
pub unchecked : {Cell : Type 0} (holds : Cell → Route → ℕ → Type 0) (shows_none : Cell → Type 0) (order : Order) (cells : List Cell) (check : Check)
    → order ≡ GoOn → check.is_quiet ≡ false → check.seen.routes.all_quiet ≡ false → IsCheckOf holds shows_none order cells check
unchecked holds shows_none order cells check goes is seen = record {
  quiet = λ t. absurd (let bad : false ≡ true = sym is ∙ t in cc);
  busy = λ f. inl goes;
  seen_quiet = λ t. absurd (let bad : false ≡ true = sym seen ∙ t in cc);
  seen_busy = λ f. inl goes;
}
