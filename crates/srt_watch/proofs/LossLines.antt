-- The lines of losses.
use Rattle.std.proofs.Common.{◌≡◌, ℕ, ◌<◌, ◌-◌, ◌==◌, Bool, true, false, List, [], ◌∷◌, Option, refl, ap, ◌∙◌, arith, if◌then◌else◌}
use Rattle.std.proofs.lemmas.Bool.Decides.{nat_tests}
use Rattle.srt_log.specs.declared.events.LogEvent.TheVariants.{KernelDrops, SocketFaults}
use Rattle.srt_watch.specs.Log.{LogCall, Always, said}
use Rattle.srt_watch.proofs.Logging.{if_same}
use Rattle.srt_watch.specs.declared.log.When.{When}
use Rattle.srt_watch.specs.declared.losses.Losses.{Losses}
use Rattle.srt_watch.specs.Losses.{drops_or, faults_logged, drops_logged, drop_calls, after_faults}

-- no line of none
pub no_fault_line : (when : When) (count : ℕ) → count ≡ 0 → faults_logged when count ≡ []
no_fault_line when count none = ap (faults_logged when) none

pub no_drop_line : (when : When) (count : ℕ) → count ≡ 0 → drops_logged when count ≡ []
no_drop_line when count none = ap (drops_logged when) none

-- the line of some
not_none : (n : ℕ) → 0 < n → (n == 0) ≡ false
not_none n some = grind (arith, nat_tests, some)

else_this : (b : Bool) (x : List LogCall) → b ≡ false → x ≡ (if b then [] else x)
else_this false x e = refl
else_this true x e = cc

pub drop_line : (when : When) (count n : ℕ) → 0 < count → count ≡ n → Always when (said (KernelDrops count)) ∷ [] ≡ drops_logged when n
drop_line when count n some e =
    ap (λ k. Always when (said (KernelDrops k)) ∷ []) e
    ∙ else_this (n == 0) (Always when (said (KernelDrops n)) ∷ []) (not_none n (omega (arith, some, e)))

pub fault_line : (when : When) (count n : ℕ) → 0 < count → count ≡ n → Always when (said (SocketFaults count)) ∷ [] ≡ faults_logged when n
fault_line when count n some e =
    ap (λ k. Always when (said (SocketFaults k)) ∷ []) e
    ∙ else_this (n == 0) (Always when (said (SocketFaults n)) ∷ []) (not_none n (omega (arith, some, e)))

-- that faults were logged changes no line of drops
pub same_drops : (losses : Losses) (when : When) (drops : Option ℕ) → drop_calls (after_faults losses) when drops ≡ drop_calls losses when drops
same_drops losses when drops =
    ap (λ n. drops_logged when (drops_or n drops - n))
    (if_same (λ l. l.logged_drops) (losses.faults - losses.logged_faults == 0) losses (record losses { logged_faults = losses.faults }) refl)
