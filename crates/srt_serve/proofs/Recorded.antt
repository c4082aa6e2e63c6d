-- The refusals that a watcher was told, as it records them.
use Rattle.std.proofs.Common.{◌≡◌, ◌∙◌, ℕ, ◌+◌, List, [], ◌∷◌, ◌++◌, length, Option, None, Some, refl, sym, ap, append-nil, append_assoc, length-append}
use Rattle.srt_supervision.specs.declared.refusal.Refusal.{Refusal}
use Rattle.srt_supervision.specs.Refusals.{with_told}
use Rattle.srt_serve.specs.inside.Reporting.{with_refusals, WereReported}

none_more : (r : Option (List Refusal)) → r ≡ with_refusals r []
none_more None = refl
none_more (Some rs) = ap Some (sym (append-nil rs))

one_more : (r : Option (List Refusal)) (more : List Refusal) (x : Refusal) → with_told (with_refusals r more) x ≡ with_refusals r (more ++ x ∷ [])
one_more None more x = refl
one_more (Some rs) more x = ap Some (append_assoc rs more (x ∷ []))

pub recorded_first : (r : Option (List Refusal)) → WereReported r r 0
recorded_first r = ([], none_more r, refl)

pub recorded_next : (r a b : Option (List Refusal)) (n : ℕ) (x : Refusal) → WereReported r a n → b ≡ with_told a x → WereReported r b (n + 1)
recorded_next r a b n x before is = (
  before.0 ++ x ∷ [],
  is ∙ ap (λ s. with_told s x) before.1 ∙ one_more r before.0 x,
  length-append before.0 (x ∷ []) ∙ ap (λ m. m + 1) before.2,
)
