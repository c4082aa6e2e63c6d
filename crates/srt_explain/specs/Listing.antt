-- What is told of a configuration with faults (our choice).
use Rattle.std.specs.Prelude.{◌≡◌, ◌⊎◌, ℕ, ◌-◌, ◌∷◌, List, [], length, map, take, Option, None, Some, Result, Ok, Err}
use Rattle.toml.specs.Data.{Members}
use Rattle.srt_config.specs.declared.config.placed.Place.TheVariants as place
use Rattle.srt_config.specs.declared.config.faults.ConfigFault.TheVariants.{OutOfMemory}
use Rattle.srt_config.specs.FirstFault.{Toml, plain_fault}
use Rattle.srt_config.specs.Defaults.{with_defaults}
use Rattle.srt_config.specs.AllFaults.{Placed, placed, all_faults}
use Rattle.srt_explain.specs.declared.explaining.Explained.{Explained}
use Rattle.srt_explain.specs.declared.explanation.Explanation.{Explanation}
use Rattle.srt_explain.specs.declared.explanation.Faults.{Faults}
use Rattle.srt_explain.specs.Explaining.{place_of, IsPrivate}
use Rattle.srt_explain.specs.Misspelled.{with_faults}

-- what is explained, or the first fault
abbrev pub first_of : Result Explained Faults → Result Explained Explanation
first_of (Ok explained) = Ok explained
first_of (Err faults) = Err faults.first

-- the faults that are told of a document that has any: all of them, with the defaults in each route, key by key and part by part, without those
-- of missing keys that a misspelled one may be; a text that isn't TOML has that one
abbrev pub faults_of : Option Members → List Placed
faults_of (Some table) = with_faults [] (all_faults table (with_defaults table))
faults_of None = placed place.Above Toml ∷ []

-- the fault that is explained, and the part that is named
abbrev pub told_of : Explanation → Placed
told_of explanation = placed (place_of explanation.part) (plain_fault explanation.fault)

-- the faults that are explained, in order, and the number of the others
abbrev pub most_explained : ℕ
most_explained = 20

abbrev pub TellsAll : List Placed → Faults → Type 0
TellsAll all faults =
    (told_of faults.first ∷ map told_of faults.others.items ≡ take most_explained all) × (faults.more ≡ length all - most_explained)

-- the same of a configuration that has faults, unless an allocation failed
abbrev pub HasAll : List Placed → Faults → Type 0
HasAll all faults = (faults.first.fault ≡ OutOfMemory) ⊎ TellsAll all faults

-- none of these explanations has anything of a value that is to be printed nowhere
abbrev pub ArePrivate : List Explanation → Type 0
ArePrivate [] = Unit {0}
ArePrivate (it ∷ rest) = IsPrivate it × ArePrivate rest
