-- What a device recorded, with nothing more and with more twice.
use Rattle.std.proofs.Common.{◌≡◌, Option, None, Some, List, [], ◌++◌, refl, ap, append_assoc, append-nil}
use Rattle.srt_poller.specs.Devices.{joined}

pub joined_none : {A : Type 0} (o : Option (List A)) → joined o [] ≡ o
joined_none None = refl
joined_none (Some xs) = ap Some (append-nil xs)

pub joined_twice : {A : Type 0} (o : Option (List A)) (xs ys : List A) → joined (joined o xs) ys ≡ joined o (xs ++ ys)
joined_twice None xs ys = refl
joined_twice (Some zs) xs ys = ap Some (append_assoc zs xs ys)
