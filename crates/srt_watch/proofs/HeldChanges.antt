-- A changed configuration that isn't held, or not any more.
use Rattle.std.proofs.Common.{◌≡◌, Bool, true, false, ℕ, Option, None, Some, IfSome, is_some, inl, inr, refl, subst}
use Rattle.srt_watch.specs.Files.{FileState}
use Rattle.srt_watch.specs.Holding.{FileLook, IsHeldConfig, MayBeTaken, Unused, Held, waits_for, waiting}
use Rattle.srt_watch.specs.Outcomes.{IsPolled}
use Rattle.srt_watch.specs.declared.watched_file.Polling.{Polling}
use Rattle.srt_watch.specs.declared.in_force.InForce.{InForce}
use Rattle.srt_watch.specs.declared.in_force.Wanted.{Wanted}

is_none : (x : Option ℕ) → is_some x ≡ false → x ≡ None
is_none None none = refl
is_none (Some n) none = absurd (let bad : true ≡ false = none in cc)

pub may_be_taken : (look : FileLook) (in_force : InForce) (wanted : Wanted) (was_held : Bool) →
    (was_held ≡ true → IsHeldConfig look.polling look.moment look.kept wanted.config) →
    is_some (waits_for was_held look.routes in_force wanted) ≡ false → MayBeTaken look in_force wanted
may_be_taken look in_force wanted true held none = Held (held refl)
may_be_taken look in_force wanted false held none = Unused (is_none _ none)

-- the polling after a configuration was held, or not
pub held_or : (waits : Option ℕ) (moment : ℕ) (p now : Polling) → now ≡ waiting waits p moment → IsPolled moment p now
held_or None moment p now e = inl e
held_or (Some index) moment p now e = inr e

-- the same behind a poll, of a file that says what it has
pub polled_so : (says : Option FileState) (moment : ℕ) (p now : Polling) (after : FileState → Polling) → IfSome says (λ s. p ≡ after s) →
    IsPolled moment p now → IfSome says (λ s. IsPolled moment (after s) now)
polled_so None moment p now after e h = tt
polled_so (Some s) moment p now after e h = subst (λ q. IsPolled moment q now) e h
