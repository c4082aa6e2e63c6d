-- A push that has room.
use Rattle.std.proofs.Common.{◌≡◌, Bool, true, cond, List, [], ◌∷◌, ◌++◌, Result, ap, ◌∙◌}
use Rattle.std.specs.Result.{is_ok}

pub pushed : {A E X : Type 0} (r : Result A E) (new old first : List X) (x : X)
    → is_ok r ≡ true → new ≡ cond (is_ok r) (old ++ x ∷ []) old → old ≡ first → new ≡ first ++ x ∷ []
pushed {A} {E} {X} r new old first x room items same = items ∙ ap (λ (b : Bool). cond b (old ++ x ∷ []) old) room ∙ ap (λ (xs : List X). xs ++ x ∷ []) same
