-- Routes that open later are hidden one after another, and what stays of the names.
use Rattle.std.proofs.Common.{◌≡◌, ℕ, zero, suc, ◌+◌, ◌<◌, ◌==◌, Bool, true, false, None, List, [], ◌∷◌, length, map, take, slice_index_or}
use Rattle.std.proofs.Common.{if◌then◌else◌, refl, sym, ap, subst, ◌∙◌, arith}
use Rattle.std.proofs.lemmas.Bool.{cond-true, cond-false, eq-eqb, ne_eqb}
use Rattle.std.proofs.lemmas.List.{length-map}
use Rattle.srt_types.specs.declared.shared.Schedule.{Schedule}
use Rattle.srt_types.specs.Terms.{Terms}
use Rattle.srt_lobby.specs.Changing.{hidden_at}
use Rattle.srt_lobby.specs.Names.{RouteName, AreDistinct, name_of, as_shown}
use Rattle.srt_lobby.specs.Opening.{fault_of}
use Rattle.srt_lobby.proofs.Distinct.{names_are_distinct}
use Rattle.srt_mailbox.specs.Cells.{CellIdentity}
use Rattle.srt_poller.specs.declared.ends.Ends.{Ends}
use Rattle.srt_poller.specs.Schedules.{AllDiffer}
use Rattle.srt_serve.proofs.Routes.{few_entries}
use Rattle.srt_serve.specs.NamesAtStart.{until, later_hidden, first_names}
use Rattle.srt_serve.specs.Opened.{AreOpened, terms_in}
use Rattle.srt_serve.specs.inside.Polled.{AreReady}

shown_next : (schedules : List Schedule) (names : List RouteName) (n : ℕ) (s : Schedule)
    → n < length schedules → ((slice_index_or schedules n s).open_round == 0) ≡ true →
    later_hidden (take (suc n) schedules) names ≡ later_hidden (take n schedules) names
shown_next [] names n s below h = absurd (omega arith)
shown_next (x ∷ xs) [] zero s below h = refl
shown_next (x ∷ xs) [] (suc n) s below h = refl
shown_next (x ∷ xs) (name ∷ names) zero s below h =
    ap (λ (m : RouteName). m ∷ names) (cond-true (x.open_round == 0) name (record name { is_shown = false }) h)
shown_next (x ∷ xs) (name ∷ names) (suc n) s below h = ap (λ (ms : List RouteName). until x.open_round name ∷ ms) (shown_next xs names n s (omega arith) h)

hidden_next : (schedules : List Schedule) (names : List RouteName) (n : ℕ) (s : Schedule)
    → n < length schedules → ((slice_index_or schedules n s).open_round == 0) ≡ false →
    later_hidden (take (suc n) schedules) names ≡ hidden_at n (later_hidden (take n schedules) names)
hidden_next [] names n s below h = absurd (omega arith)
hidden_next (x ∷ xs) [] zero s below h = refl
hidden_next (x ∷ xs) [] (suc n) s below h = refl
hidden_next (x ∷ xs) (name ∷ names) zero s below h =
    ap (λ (m : RouteName). m ∷ names) (cond-false (x.open_round == 0) name (record name { is_shown = false }) h)
hidden_next (x ∷ xs) (name ∷ names) (suc n) s below h = ap (λ (ms : List RouteName). until x.open_round name ∷ ms) (hidden_next xs names n s (omega arith) h)

pub stays_shown : (schedules : List Schedule) (names : List RouteName) (n : ℕ) (s : Schedule)
    → n < length schedules → (slice_index_or schedules n s).open_round ≡ 0 →
    later_hidden (take (n + 1) schedules) names ≡ later_hidden (take n schedules) names
stays_shown schedules names n s below h =
    let one : suc n ≡ n + 1 = omega arith in
    subst (λ (m : ℕ). later_hidden (take m schedules) names ≡ later_hidden (take n schedules) names) one
    (shown_next schedules names n s below (eq-eqb (slice_index_or schedules n s).open_round 0 h))

pub is_hidden : (schedules : List Schedule) (names : List RouteName) (n : ℕ) (s : Schedule)
    → n < length schedules → ((slice_index_or schedules n s).open_round ≡ 0 → ⊥) →
    later_hidden (take (n + 1) schedules) names ≡ hidden_at n (later_hidden (take n schedules) names)
is_hidden schedules names n s below h =
    let one : suc n ≡ n + 1 = omega arith in
    subst (λ (m : ℕ). later_hidden (take m schedules) names ≡ hidden_at n (later_hidden (take n schedules) names)) one
    (hidden_next schedules names n s below (ne_eqb (slice_index_or schedules n s).open_round 0 h))

-- one turn of the loop that hides them
pub turn_hides : (schedules : List Schedule) (first now next : List RouteName) (n : ℕ) (s : Schedule)
    → n < length schedules → ((slice_index_or schedules n s).open_round ≡ 0 → ⊥) →
    now ≡ later_hidden (take n schedules) first → next ≡ hidden_at n now → next ≡ later_hidden (take (n + 1) schedules) first
turn_hides schedules first now next n s below h before hides = hides ∙ ap (hidden_at n) before ∙ sym (is_hidden schedules first n s below h)

pub turn_keeps : (schedules : List Schedule) (first now : List RouteName) (n : ℕ) (s : Schedule)
    → n < length schedules → (slice_index_or schedules n s).open_round ≡ 0 →
    now ≡ later_hidden (take n schedules) first → now ≡ later_hidden (take (n + 1) schedules) first
turn_keeps schedules first now n s below h before = before ∙ sym (stays_shown schedules first n s below h)

pub as_many_later : (schedules : List Schedule) (names : List RouteName) → length (later_hidden schedules names) ≡ length names
as_many_later [] names = refl
as_many_later (s ∷ schedules) [] = refl
as_many_later (s ∷ schedules) (name ∷ names) = ap (λ (n : ℕ). suc n) (as_many_later schedules names)

text_kept : (b : Bool) (name : RouteName) → as_shown (if b then name else record name { is_shown = false }) ≡ as_shown name
text_kept true name = refl
text_kept false name = refl

texts_kept : (schedules : List Schedule) (names : List RouteName)
    → map as_shown (later_hidden schedules names) ≡ map as_shown names
texts_kept [] names = refl
texts_kept (s ∷ schedules) [] = refl
texts_kept (s ∷ schedules) (name ∷ names) =
    ap (λ (m : RouteName). m ∷ map as_shown (later_hidden schedules names)) (text_kept (s.open_round == 0) name)
    ∙ ap (λ (ms : List RouteName). as_shown name ∷ ms) (texts_kept schedules names)

texts_of : (entries : List Terms) → map as_shown (map name_of entries) ≡ map name_of entries
texts_of [] = refl
texts_of (e ∷ entries) = ap (λ (ms : List RouteName). name_of e ∷ ms) (texts_of entries)

-- the texts of the names that a run begins with, and who may call, are those of the entries
pub texts_at_start : (schedules : List Schedule) (entries : List Terms) → map as_shown (first_names schedules entries) ≡ map name_of entries
texts_at_start schedules entries = texts_kept schedules (map name_of entries) ∙ texts_of entries

all_differ : (schedules : List Schedule) (entries : List Terms) → fault_of entries ≡ None → AllDiffer (first_names schedules entries)
all_differ schedules entries sound =
    subst (λ (ns : List RouteName). AreDistinct ns) (sym (texts_at_start schedules entries)) (names_are_distinct entries sound)

pub are_ready : (schedules : List Schedule) (entries : List Terms) (names : List RouteName) (routes : List CellIdentity) (ends : List Ends)
    →
    fault_of entries ≡ None → length schedules ≡ length entries → names ≡ first_names schedules entries → terms_in routes ≡ entries
    → AreOpened routes ends
    → AreReady schedules names ends
unfolding AreReady
are_ready schedules entries names routes ends sound scheduled named whose opened =
    let places : length names ≡ length entries = ap length named ∙ as_many_later schedules (map name_of entries) ∙ length-map entries name_of in
    let many : length routes ≡ length entries = sym (length-map routes (λ n. n.terms)) ∙ ap length whose in (
      opened.as_many ∙ many ∙ sym places,
      scheduled ∙ sym places,
      subst (λ (ns : List RouteName). AllDiffer ns) (sym named) (all_differ schedules entries sound),
      omega (arith, scheduled, few_entries entries sound),
    )
