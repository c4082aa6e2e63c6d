-- Rounds in which no route was added and none was requested to close.
use Rattle.std.proofs.Common.{◌≡◌, ◌⊎◌, ◌∙◌, inl, inr, refl, sym, ap, subst, ℕ, zero, suc, ◌+◌, true, false, Some, List, [], ◌∷◌, length, map}
use Rattle.std.proofs.Common.{slice_get, append-nil, arith}
use Rattle.std.proofs.lemmas.List.{length-map}
use Rattle.std.proofs.lemmas.Slice.Eq.{bytes_eq-Decides}
use Rattle.srt_types.specs.declared.shared.Schedule.{Schedule}
use Rattle.srt_lobby.specs.Names.{RouteName, as_shown, has_name_at}
use Rattle.srt_poller.specs.declared.ends.Ends.{Ends}
use Rattle.srt_poller.specs.History.{Phase, Between}
use Rattle.srt_poller.specs.Told.{Setting}
use Rattle.srt_poller.specs.Rounds.{World}
use Rattle.srt_poller.specs.Schedules.{AllDiffer}
use Rattle.srt_poller.specs.Pollers.{Rounds}
use Rattle.srt_poller.specs.Openings.{NewRoute, reported_route, no_reports, RouteReports}
use Rattle.srt_poller.specs.Plans.{texts_of, IsAlone, Became, ArePlans, never}
use Rattle.srt_poller.specs.Starts.{RoundStart, IsUsedIn}
use Rattle.srt_poller.proofs.Starting.{starts_alone}
use Rattle.srt_poller.specs.Changes.{RoundsWith, RoundsChanging}

shown_has : (names : List RouteName) (i : ℕ) (text : List ℕ) → slice_get (texts_of names) i ≡ Some text →
    has_name_at (map (λ n. as_shown n) names) i text ≡ true
shown_has [] i text h = cc
shown_has (n ∷ names) zero text h =
    let same : text ≡ n.text = cc in
    (bytes_eq-Decides text n.text).1 same
shown_has (n ∷ names) (suc i) text h = shown_has names i text h

-- each of several routes without equal names is alone with its name
pub all_alone : (names : List RouteName) → AllDiffer names → (r : ℕ) → IsAlone (texts_of names) r
all_alone names differ r i text here there = differ i r text (shown_has names i text there) (shown_has names r text here)

same_lists : (xs ys : List Schedule) → length xs ≡ length ys →
    ((r : ℕ) (x y : Schedule) → slice_get xs r ≡ Some x → slice_get ys r ≡ Some y → x ≡ y) → xs ≡ ys
same_lists [] [] e h = refl
same_lists [] (y ∷ ys) e h = absurd (omega (arith, e))
same_lists (x ∷ xs) [] e h = absurd (omega (arith, e))
same_lists (x ∷ xs) (y ∷ ys) e h =
    let here : x ≡ y = h 0 x y refl refl in
    let rest : xs ≡ ys = same_lists xs ys (omega (arith, e)) (λ r a b p q. h (suc r) a b p q) in
    λ i. here i ∷ rest i

pub became_same : (round : ℕ) (W : Type 0) (starts : List RoundStart) (r : ℕ) (s t : Schedule) → (IsUsedIn starts r s.open_round → ⊥) →
    Became round W starts r false s t → t ≡ s
became_same round W starts r s t free b = by (b.same free)
  where
    by : (t.open_round ≡ s.open_round) ⊎ ((false ≡ true) × (t.open_round ≡ never)) → t ≡ s
    by (inl same) = λ i. record { open_round = same i; close_round = b.kept refl i }
    by (inr bad) = let no : false ≡ true = bad.0 in cc

-- plans of which none was requested to close, and whose routes' names are never in use, are the schedules
pub plans_unchanged : (round : ℕ) (waits : ℕ → Type 0) (starts : List RoundStart) (schedules later : List Schedule) (names : List RouteName) →
    ((r k : ℕ) → IsUsedIn starts r k → ⊥) → length schedules ≡ length names → ArePlans round waits starts schedules (texts_of names) [] later →
    later ≡ schedules
plans_unchanged round waits starts schedules later names free known plans =
    same_lists later schedules (plans.as_many ∙ length-map names (λ (n : RouteName). n.text) ∙ sym known) (λ r t s there here.
    became_same round (waits r) starts r s t (free r s.open_round) (rw here at (plans.each r t there)))

module _ {goes closes : Type 0} (setting : Setting) (rounds : ℕ) (schedules : List Schedule) (names : List RouteName) (ends : List Ends)
    (old : List RouteName → List Ends → Phase → World) (new : Phase → World) (named : (ns : List RouteName) (es : List Ends) (phase : Phase) →
    (old ns es phase).state.names ≡ ns) (differ : AllDiffer names) (known : length schedules ≡ length names) where
  unchanged_with : (added : List NewRoute) (requested : List ℕ) (later : List Schedule) (starts : List RoundStart) →
      RoundsWith goes closes setting 0 rounds schedules no_reports no_reports names ends old new added requested later starts →
      Rounds goes closes setting schedules starts rounds (length ends) (old names ends) new
  unchanged_with (n ∷ added) requested later starts h =
      let bad : Some [] ≡ Some (reported_route n ∷ map reported_route added) = ap (λ (r : RouteReports). r.added) h.reports in cc
  unchanged_with [] (r ∷ requested) later starts h =
      let bad : Some [] ≡ Some (r ∷ requested) = ap (λ (r : RouteReports). r.requested) h.reports in cc
  unchanged_with [] [] later starts h =
      let none : length ends + 0 ≡ length ends = omega arith in
      let went : Rounds goes closes setting later starts rounds (length ends) (old names ends) new = rw (append-nil names, append-nil ends, none) at h.went in
      let one = went Between tt in
      let first = (old names ends Between).state in
      let alone : (r : ℕ) → IsAlone (texts_of first.names) r =
      λ r. subst (λ (ns : List RouteName). IsAlone (texts_of ns) r) (sym (named names ends Between)) (all_alone names differ r) in
      let free : (r k : ℕ) → IsUsedIn starts r k → ⊥ =
      λ r k used. starts_alone later first one.5.0 r k (alone r) (subst (λ (l : List RoundStart). IsUsedIn l r k) (sym one.5.1.started) used) in
      let same : later ≡ schedules =
      plans_unchanged (0 + rounds) (λ r. ⊥) starts schedules later names free known (rw (append-nil names) at h.planned) in
      rw same at went

  -- what was made is what the schedules state
  pub rounds_unchanged : (made : RoundsChanging goes closes setting 0 rounds schedules no_reports no_reports names ends old new) →
      Rounds goes closes setting schedules made.3 rounds (length ends) (old names ends) new
  rounds_unchanged made = unchanged_with made.0 made.1 made.2 made.3 made.4
