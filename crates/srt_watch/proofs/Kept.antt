-- Lines that are kept for the page.
use Rattle.std.proofs.Common.{ℕ, Bool, true, false, List, refl, sym, subst}
use Rattle.srt_status.specs.Events.{HasKept}
use Rattle.srt_status.specs.declared.events.Event.{Event}
use Rattle.srt_watch.specs.Writes.{HasKeptIf, AreKept, KeptNone, KeptMore}

pub same : (events : List Event) → AreKept events events
same events = KeptNone events refl

pub kept_one : (old new : List Event) (moment : ℕ) (is_refusal : Bool) (text : List ℕ) → HasKept old new moment is_refusal text → AreKept old new
kept_one old new moment is_refusal text h = KeptMore old new moment is_refusal text (same old) h

pub kept_if : (written : Bool) (old new : List Event) (moment : ℕ) (is_refusal : Bool) (text : List ℕ) →
    HasKeptIf written old new moment is_refusal text → AreKept old new
kept_if true old new moment is_refusal text h = kept_one old new moment is_refusal text h
kept_if false old new moment is_refusal text h = KeptNone new h

pub kept_both : (a b c : List Event) → AreKept a b → AreKept b c → AreKept a c
kept_both a b c k (KeptNone new is) = subst (λ e. AreKept a e) (sym is) k
kept_both a b c k (KeptMore middle new moment is_refusal text l h) = KeptMore middle new moment is_refusal text (kept_both a b middle k l) h

-- one more, if it was to be written
pub more : (a b c : List Event) (written : Bool) (moment : ℕ) (is_refusal : Bool) (text : List ℕ) → AreKept a b →
    HasKeptIf written b c moment is_refusal text → AreKept a c
more a b c written moment is_refusal text k h = kept_both a b c k (kept_if written b c moment is_refusal text h)
