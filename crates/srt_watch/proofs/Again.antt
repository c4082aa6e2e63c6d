-- The lines of callers that were refused again, one after the other.
use Rattle.std.proofs.Common.{◌≡◌, ℕ, ◌+◌, ◌++◌, List, Option, refl, sym, subst, add-one}
use Rattle.srt_log.specs.Repeats.{Caller, due_of, taken}
use Rattle.srt_watch.specs.Log.{Logged}
use Rattle.srt_watch.specs.Repeating.{again_calls, taken_to, repeat_calls}
use Rattle.srt_watch.specs.declared.log.LogPace.{LogPace}
use Rattle.srt_watch.specs.declared.log.When.{When}
use Rattle.srt_watch.proofs.Logging.{logged_nothing, logged_both}

pub no_known : (callers : List Caller) (moment : ℕ) → taken_to callers moment 0 ≡ callers
unfolding taken_to
no_known callers moment = refl

pub next_known : (callers : List Caller) (moment step : ℕ) → taken_to callers moment (step + 1) ≡ taken (taken_to callers moment step) moment
unfolding taken_to
next_known callers moment step = rw add-one refl

pub no_repeats : (b : Option (List ℕ)) (p : LogPace) (when : When) (callers : List Caller) (moment : ℕ) →
    Logged b b p p (repeat_calls when callers moment 0)
unfolding repeat_calls
no_repeats b p when callers moment = logged_nothing b p

calls_next : (when : When) (callers : List Caller) (moment step : ℕ) →
    repeat_calls when callers moment (step + 1)
    ≡ repeat_calls when callers moment step ++ again_calls when (due_of (taken_to callers moment step) moment)
unfolding repeat_calls
calls_next when callers moment step = rw add-one refl

pub next_repeat : (a b c : Option (List ℕ)) (p q r : LogPace) (when : When) (callers known : List Caller) (moment step : ℕ) →
    known ≡ taken_to callers moment step → Logged a b p q (repeat_calls when callers moment step) →
    Logged b c q r (again_calls when (due_of known moment)) → Logged a c p r (repeat_calls when callers moment (step + 1))
next_repeat a b c p q r when callers known moment step is l m =
    subst (λ t. Logged a c p r t) (sym (calls_next when callers moment step))
    (logged_both a b c p q r _ _ l (subst (λ k. Logged b c q r (again_calls when (due_of k moment))) is m))
