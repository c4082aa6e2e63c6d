-- What is known of a value is known of it beside evidence in place of an error.
use Rattle.std.proofs.Common.{◌≡◌, Result, Ok, Err, IfOk, subst}

pub same_made : {T E F : Type 0} (P : T → Type 0) (before : Result T E) (after : Result T F) → IfOk after (λ made. before ≡ Ok made) → IfOk before P →
    IfOk after P
same_made P before (Ok made) same known = subst (λ r. IfOk r P) same known
same_made P before (Err e) same known = tt
