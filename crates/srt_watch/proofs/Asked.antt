-- What a changed configuration asks of the run, and the configuration in force.
use Rattle.std.proofs.Common.{◌≡◌, ℕ, suc, List, [], ◌∷◌, length, Some, refl, sym, ap, subst, ◌∙◌}
use Rattle.std.proofs.Math.Logic.{∥∥₁_map}
use Rattle.std.specs.Prelude.{slice_get}
use Rattle.std.specs.List.{AllByRecursion}
use Rattle.srt_types.specs.Terms.{Terms}
use Rattle.srt_config.specs.declared.config.Config.{Config}
use Rattle.srt_supervision.specs.Answers.{Answer, Closes, Opens, AreClosings, AreOpenings}
use Rattle.srt_watch.specs.Answers.{WasInForce, Began, Reloaded, WasRead, IsToClose, IsToOpen}
use Rattle.srt_watch.specs.Facts.{FileFacts}
use Rattle.srt_watch.specs.Following.{IsTaken, closes_of, opens_of}
use Rattle.srt_watch.specs.Requests.{config_of, first_indexes}
use Rattle.srt_watch.specs.declared.in_force.InForce.{InForce}
use Rattle.srt_watch.specs.declared.in_force.Wanted.{Wanted}

-- the configuration in force, at first and after a change
pub began : (file : FileFacts) (now : InForce) (config : Config) → file.was_first config → config_of now ≡ config →
    now.indexes.items ≡ first_indexes (length config.entries.items) → ∥ WasInForce file now ∥₁
began file now config first is indexes =
    ∣ Began now (subst file.was_first (sym is) first) (indexes ∙ ap (λ (c : Config). first_indexes (length c.entries.items)) (sym is)) ∣₁

pub reloaded : (file : FileFacts) (before now : InForce) (wanted : Wanted) (first : ℕ) → ∥ WasInForce file before ∥₁ → WasRead file before wanted →
    IsTaken before now wanted first → ∥ WasInForce file now ∥₁
reloaded file before now wanted first known read taken = ∥∥₁_map known (λ w. Reloaded before now wanted first w read taken)

-- what holds at each place of a list holds of all of it
all_at : {A : Type 0} (P : A → Type 0) (xs : List A) → ((place : ℕ) (x : A) → slice_get xs place ≡ Some x → P x) → AllByRecursion P xs
all_at P [] f = tt
all_at P (x ∷ xs) f = (f 0 x refl, all_at P xs (λ place y e. f (suc place) y e))

-- the routes that are asked to close and to open
pub closings : (file : FileFacts) (f : InForce) (w : Wanted) (P : Answer → Type 0) (closes : List ℕ) → ∥ WasInForce file f ∥₁ → WasRead file f w →
    closes ≡ closes_of f w → ((r : ℕ) → ∥ IsToClose file r ∥₁ → P (Closes r)) → AreClosings P closes
closings file f w P closes known read is give =
    subst (λ xs. AreClosings P xs) (sym is)
    (all_at (λ r. P (Closes r)) (closes_of f w) (λ place r at. give r
    (∥∥₁_map known (λ i. record { in_force = f; wanted = w; was_in_force = i; was_read = read; place = place; closes_at = at }))))

pub openings : (file : FileFacts) (f : InForce) (w : Wanted) (P : Answer → Type 0) (opens : List Terms) → ∥ WasInForce file f ∥₁ → WasRead file f w →
    opens ≡ opens_of w → ((t : Terms) → ∥ IsToOpen file t ∥₁ → P (Opens t)) → AreOpenings P opens
openings file f w P opens known read is give =
    subst (λ xs. AreOpenings P xs) (sym is)
    (all_at (λ t. P (Opens t)) (opens_of w) (λ place t at. give t
    (∥∥₁_map known (λ i. record { in_force = f; wanted = w; was_in_force = i; was_read = read; place = place; opens_at = at }))))
