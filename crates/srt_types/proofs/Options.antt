-- An `Option` whose test failed.
use Rattle.std.proofs.Common.{◌≡◌, false, Option, None, Some, is_some, refl}

pub none_if_not_some : {A : Type 0} (o : Option A) → is_some o ≡ false → o ≡ None
none_if_not_some None e = refl
none_if_not_some (Some x) e = cc
