-- What a writer holds, if it is known.
use Rattle.std.proofs.Common.{◌≡◌, ℕ, List, [], ◌++◌, append_assoc, append-nil, Option, None, Some, refl, sym, ap, ◌∙◌}
use Rattle.std.specs.Io.KnownBytes.{Keeps, Appends}

pub keeps_same : (known : Option (List ℕ)) → Keeps known known
keeps_same None = tt
keeps_same (Some xs) = refl

pub appends_none : (known : Option (List ℕ)) → Appends known known []
appends_none None = tt
appends_none (Some xs) = sym (append-nil xs)

-- one text behind the other
pub appends_both : (old middle new : Option (List ℕ)) (xs ys : List ℕ) → Appends old middle xs → Appends middle new ys → Appends old new (xs ++ ys)
appends_both None middle new xs ys h k = tt
appends_both (Some a) None new xs ys h k = absurd h
appends_both (Some a) (Some b) None xs ys h k = absurd k
appends_both (Some a) (Some b) (Some c) xs ys h k = k ∙ ap (λ z. z ++ ys) h ∙ append_assoc a xs ys
