-- A table in which each seat changes as its slot states.
use Rattle.std.proofs.Common.{◌≡◌, ℕ, ◌+◌, ◌^◌, ◌<◌, ◌≤◌, List, length, map, get_or, set, refl, sym, subst, ap, ◌∙◌, inl, inr, arith}
use Rattle.std.proofs.lemmas.Bool.{cases_eq}
use Rattle.std.proofs.lemmas.List.{get_or-set_same, get_or-set_other, get_or_default, length-set}
use Rattle.srt_types.specs.Terms.{Terms}
use Rattle.srt_pub.specs.declared.session.Publisher.{Publisher}
use Rattle.srt_route.specs.declared.seat.Seat.{Seat}
use Rattle.srt_route.specs.declared.table.Table.{Table}
use Rattle.srt_route.specs.Sessions.{Session}
use Rattle.srt_route.specs.Tables.{AreWide, IsSeat, IsTable, buffers_of}
use Rattle.srt_route.proofs.model.Found.{Keeps}
use Rattle.srt_route.proofs.model.TakeOver.{KeepsMarks}
use Rattle.srt_route.proofs.stored.Kept.{Alike, Becomes, table_kept}

-- the items below `at` have changed as R states of their place, and the others haven't
pub record EachIn {A : Type 0} (R : ℕ → A → A → Type 0) (at : ℕ) (old new : List A) : Type 0 where
  pub same_length : length new ≡ length old
  pub done : (k : ℕ) (d : A) → k < at → k < length old → R k (get_or old k d) (get_or new k d)
  pub ahead : (k : ℕ) (d : A) → at ≤ k → get_or new k d ≡ get_or old k d

pub none_in : {A : Type 0} (R : ℕ → A → A → Type 0) (xs : List A) → EachIn R 0 xs xs
none_in R xs = record { same_length = refl; done = λ k d lt inside. absurd (omega (arith, lt)); ahead = λ k d le. refl }

pub one_in : {A : Type 0} (R : ℕ → A → A → Type 0) (at : ℕ) (old new later : List A) (x y : A)
    → EachIn R at old new → at < length old → x ≡ get_or new at x → R at x y → later ≡ set new at y → EachIn R (at + 1) old later
one_in {A} R at old new later x y h inside there changes put =
    record {
      same_length = ap length put ∙ (length-set new at y ∙ h.same_length);
      done = λ k d lt below. subst (λ (xs : List A). R k (get_or old k d) (get_or xs k d)) (sym put) (one k d lt below);
      ahead = λ k d le. ap (λ (xs : List A). get_or xs k d) put
          ∙ (get_or-set_other new at k y d (λ same_place. omega (arith, le, same_place)) ∙ h.ahead k d (omega (arith, le)));
    }
  where
    in_new : at < length new
    in_new = omega (arith, inside, h.same_length)

    one : (k : ℕ) (d : A) → k < at + 1 → k < length old → R k (get_or old k d) (get_or (set new at y) k d)
    one k d lt below = elim (cases_eq k at) [
      | inl here ↦
          subst (λ (n : ℕ). R n (get_or old n d) (get_or (set new at y) n d)) (sym here)
          (subst (λ (z : A). R at (get_or old at d) z) (sym (get_or-set_same new at y d in_new))
          (subst (λ (z : A). R at z y) ((there ∙ h.ahead at x (omega arith)) ∙ get_or_default old at x d inside) changes))
      | inr apart ↦ subst (λ (z : A). R k (get_or old k d) z) (sym (get_or-set_other new at k y d apart)) (h.done k d (omega (arith, lt, apart)) below)
    ]

-- the seats below `at` have changed as R states of their slots, and nothing else has
pub record UpToIn (R : ℕ → Seat → Seat → Type 0) (at : ℕ) (old new : Table) : Type 0 where
  pub alike : Alike old new
  pub publishers_are : new.publishers ≡ old.publishers
  pub seats : EachIn R at old.seats.items new.seats.items

pub none_done_in : (R : ℕ → Seat → Seat → Type 0) (table : Table) → UpToIn R 0 table table
none_done_in R table = record { alike = (refl, refl, refl, refl, refl, refl); publishers_are = refl; seats = none_in R table.seats.items }

pub next_in : (R : ℕ → Seat → Seat → Type 0) (at : ℕ) (old new : Table) (x : Seat)
    → UpToIn R at old new → x ≡ get_or new.seats.items at x → x ≡ get_or old.seats.items at x
next_in R at old new x h there = there ∙ h.seats.ahead at x (omega arith)

pub one_done_in : (R : ℕ → Seat → Seat → Type 0) (at : ℕ) (old new later : Table) (x y : Seat) → UpToIn R at old new → at < length old.seats.items
    → x ≡ get_or new.seats.items at x → R at x y → Alike new later → later.publishers ≡ new.publishers
    → later.seats.items ≡ set new.seats.items at y
    → UpToIn R (at + 1) old later
one_done_in R at old new later x y h inside there changes alike same put =
    record {
      alike = (alike.0 ∙ h.alike.0, alike.1 ∙ h.alike.1, alike.2 ∙ h.alike.2, alike.3 ∙ h.alike.3, alike.4 ∙ h.alike.4, alike.5 ∙ h.alike.5);
      publishers_are = same ∙ h.publishers_are;
      seats = one_in R at old.seats.items new.seats.items later.seats.items x y h.seats inside there changes put;
    }

pub all_done_in : (R : ℕ → Seat → Seat → Type 0) (f : Session → Session) → Keeps f → KeepsMarks f
    → (e : Terms) (index before clock at : ℕ) (old new : Table) (ss : List Session) → IsTable e index before old ss → clock < 2 ^ 62
    → UpToIn R at old new → length old.seats.items ≤ at
    → ((k : ℕ) (p : Publisher) (x y : Seat) → k < length old.seats.items → IsSeat e index before k p x ss → R k x y
    → Becomes f e index clock k p x y ss)
    → IsTable e index clock new (map f ss)
all_done_in R f keeps marks e index before clock at old new ss is early h all becomes =
    table_kept f keeps marks e index before clock old new ss is early h.alike
    (subst (λ (v : _). AreWide e.buffer v.items) (sym h.publishers_are) is.publishers_wide) h.seats.same_length
    (λ k d p below. subst
    (λ (v : _). Becomes f e index clock k (buffers_of v.items (get_or old.seats.items k d) p) (get_or old.seats.items k d)
    (get_or new.seats.items k d) ss)
    (sym h.publishers_are)
    (becomes k (buffers_of old.publishers.items (get_or old.seats.items k d) p) (get_or old.seats.items k d) (get_or new.seats.items k d) below
    (is.seats_are k d p below) (h.seats.done k d (omega (arith, below, all)) below)))
