-- Two snapshots that are equal.
use Rattle.std.proofs.Common.{◌≡◌, ℕ, ◌-◌, ◌/◌, ◌%◌, Bool, true, false, not, cond, ◌==◌, nat_lt, ◌&&◌, ◌||◌, Option, None, Some, refl, ap, arith}
use Rattle.std.proofs.lemmas.Bool.{and_from, eq-eqb}
use Rattle.srt_log.specs.declared.snapshots.SlotSession.{SlotSession}
use Rattle.srt_log.specs.declared.snapshots.RouteSnapshot.{RouteSnapshot}
use Rattle.srt_log.specs.declared.changes.Change.{Change}
use Rattle.srt_log.specs.declared.events.Trouble.{Trouble}
use Rattle.srt_log.specs.Snapshots.{view_of}
use Rattle.srt_log.specs.Changes.{is_same, is_open, is_active, is_new, ended_at, opened_at, ended_at_once, took_over_at, has_trouble}
use Rattle.srt_log.specs.Changes.{trouble_at, troubled_at, slot_at, opened_below, unseen_of, unseen, change_at}

same : (session : SlotSession) → is_same (Some session) (Some session) ≡ true
same session = and_from ((view_of session).id == (view_of session).id) ((view_of session).opened == (view_of session).opened)
    (eq-eqb (view_of session).id (view_of session).id refl) (eq-eqb (view_of session).opened (view_of session).opened refl)

never_new : (d : Bool) → d ≡ true → (not d) ≡ false
never_new true h = refl
never_new false h = cc

old_one : (look : Option SlotSession) → is_new look look ≡ false
old_one None = refl
old_one (Some session) = never_new (is_same (Some session) (Some session)) (same session)

ended_of : (d e : Bool) (x y : Option Change) → e ≡ true → cond (not d) None (cond (not e) x (cond d None y)) ≡ None
ended_of true true x y h = refl
ended_of true false x y h = cc
ended_of false e x y h = refl

not_ended : (slot : ℕ) (look : Option SlotSession) → ended_at slot look look ≡ None
not_ended slot None = refl
not_ended slot (Some session) = ended_of (is_open (Some session)) (is_same (Some session) (Some session)) _ _ (same session)

none_if : (d : Bool) (o : Option Change) → d ≡ false → cond d o None ≡ None
none_if true o h = cc
none_if false o h = refl

not_opened : (slot : ℕ) (look : Option SlotSession) → opened_at slot look look ≡ None
not_opened slot look = none_if (is_new look look) _ (old_one look)

none_unless : (d : Bool) (o : Option Change) → d ≡ false → cond (not d) None o ≡ None
none_unless true o h = cc
none_unless false o h = refl

not_ended_at_once : (slot : ℕ) (look : Option SlotSession) → ended_at_once slot look look ≡ None
not_ended_at_once slot look = none_unless (is_new look look) _ (old_one look)

over_of : (s a n : Bool) (o : Option Change) → cond (not s) None (cond (a || not a || n) None o) ≡ None
over_of true true n o = refl
over_of true false n o = refl
over_of false a n o = refl

not_over : (slot : ℕ) (look : Option SlotSession) → took_over_at slot look look ≡ None
not_over slot look = over_of (is_same look look) (is_active look) (not (is_open look)) _

no_news : (s t : Bool) (o : Option Change) → s ≡ true → cond (not t) None (cond (s && t) None o) ≡ None
no_news true true o h = refl
no_news true false o h = refl
no_news false t o h = cc

no_trouble : (slot : ℕ) (trouble : Trouble) (look : Option SlotSession) → troubled_at slot trouble look look ≡ None
no_trouble slot trouble None = refl
no_trouble slot trouble (Some session) =
    no_news (is_same (Some session) (Some session)) (has_trouble trouble (Some session)) _ (same session)

nothing_unseen : (look : RouteSnapshot) → unseen look look ≡ None
unfolding unseen
nothing_unseen look =
    let none_opened : look.opened - look.opened - opened_below 17 look.slots look.slots ≡ 0 = omega arith in
    ap unseen_of none_opened

one_of : (d : Bool) (x y : Option Change) → x ≡ None → y ≡ None → cond d x y ≡ None
one_of true x y h k = h
one_of false x y h k = k

pub nothing_between : (look : RouteSnapshot) (step : ℕ) → change_at look look step ≡ None
nothing_between look step =
    one_of (nat_lt step 17) _ _ (not_ended step (slot_at step look.slots))
    (one_of (nat_lt step 51) _ _
    (one_of (step % 2 == 1) _ _ (not_opened ((step - 17) / 2) (slot_at ((step - 17) / 2) look.slots))
    (not_ended_at_once ((step - 17) / 2) (slot_at ((step - 17) / 2) look.slots)))
    (one_of (nat_lt step 68) _ _ (not_over (step - 51) (slot_at (step - 51) look.slots))
    (one_of (nat_lt step 119) _ _ (no_trouble ((step - 68) / 3) (trouble_at (step - 68)) (slot_at ((step - 68) / 3) look.slots))
    (one_of (step == 119) _ _ (nothing_unseen look) refl))))
