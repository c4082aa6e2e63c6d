-- Routes that keep secrets.
use Rattle.std.proofs.Common.{◌≡◌, List, [], ◌∷◌, map, refl, ap}
use Rattle.std.specs.List.{list_any}
use Rattle.std.specs.Prelude.{◌||◌}
use Rattle.srt_types.specs.declared.shared.Entry.{Entry}
use Rattle.srt_types.specs.Terms.{terms_of}
use Rattle.srt_explain.specs.FileMode.{keeps_secret}

pub any_mapped : (xs : List Entry) → list_any (λ (entry : Entry). keeps_secret (terms_of entry)) xs ≡ list_any keeps_secret (map terms_of xs)
any_mapped [] = refl
any_mapped (x ∷ xs) = ap (λ b. keeps_secret (terms_of x) || b) (any_mapped xs)
