-- Slots that are shown, one by one.
use Rattle.std.proofs.Common.{◌≡◌, ℕ, ◌+◌, ◌<◌, List, Option, None, length, set, get_or, sym, subst, arith, inl, inr}
use Rattle.std.proofs.lemmas.Bool.{cases_eq}
use Rattle.std.proofs.lemmas.List.{get_or-set_same, get_or-set_other}
use Rattle.std.specs.Prelude.{slice_set}
use Rattle.srt_route.specs.declared.route.Route.{Route}
use Rattle.srt_route.specs.declared.view.SessionView.{SessionView}
use Rattle.srt_log.specs.declared.snapshots.SlotSession.{SlotSession}
use Rattle.srt_route.specs.Ledgers.{ended_in}
use Rattle.srt_route.specs.declared.ledger.EndedSession.{EndedSession}
use Rattle.srt_watch.specs.Showing.{IsShown, AreShown, AreSlots, AreEnds, slot_in}

-- a fact of each of the first items holds after the next one is set, if it holds of that one
placed : {A : Type 0} (P : ℕ → A → Type 0) (d : A) (xs : List A) (n : ℕ) (v : A) → n < length xs → ((k : ℕ) → k < n → P k (get_or xs k d)) → P n v →
    (k : ℕ) → k < n + 1 → P k (get_or (set xs n v) k d)
placed P d xs n v within before now k below =
    elim (cases_eq k n) [
      | inl same ↦ subst (λ (j : ℕ). P j (get_or (set xs n v) j d)) (sym same) (subst (P n) (sym (get_or-set_same xs n v d within)) now)
      | inr other ↦ subst (P k) (sym (get_or-set_other xs n k v d other)) (before k (omega (arith, other)))
    ]

pub none_shown : (route : Route) (sessions : List (Option SessionView)) → AreShown 0 route sessions
unfolding AreShown
none_shown route sessions slot below = absurd (omega arith)

pub next_shown : (route : Route) (sessions : List (Option SessionView)) (slot : ℕ) (shown : Option SessionView) → slot < length sessions →
    AreShown slot route sessions → IsShown slot route shown → AreShown (slot + 1) route (slice_set sessions slot shown)
unfolding AreShown
next_shown route sessions slot shown within before now = placed (λ k v. IsShown k route v) None sessions slot shown within before now

pub no_slots : (route : Route) (sessions : List (Option SessionView)) (slots : List (Option SlotSession)) → AreSlots 0 route sessions slots
unfolding AreSlots
no_slots route sessions slots slot below = absurd (omega arith)

pub next_slot : (route : Route) (sessions : List (Option SessionView)) (slots : List (Option SlotSession)) (slot : ℕ) (shown : Option SlotSession) →
    slot < length slots → AreSlots slot route sessions slots → shown ≡ slot_in route sessions slot →
    AreSlots (slot + 1) route sessions (slice_set slots slot shown)
unfolding AreSlots
next_slot route sessions slots slot shown within before now = placed (λ k v. v ≡ slot_in route sessions k) None slots slot shown within before now

pub no_ends : (route : Route) (ends : List (Option EndedSession)) → AreEnds 0 route ends
unfolding AreEnds
no_ends route ends slot below = absurd (omega arith)

pub next_end : (route : Route) (ends : List (Option EndedSession)) (slot : ℕ) (ended : Option EndedSession) → slot < length ends →
    AreEnds slot route ends → ended ≡ ended_in slot route → AreEnds (slot + 1) route (slice_set ends slot ended)
unfolding AreEnds
next_end route ends slot ended within before now = placed (λ k v. v ≡ ended_in k route) None ends slot ended within before now
