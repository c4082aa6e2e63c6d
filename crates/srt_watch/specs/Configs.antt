-- The configuration that a text is, and the faults of one that isn't any.
use Rattle.std.specs.Prelude.{◌≡◌, ℕ, List, IsUtf8, Ok}
use Rattle.toml.specs.Parse.{parse_document}
use Rattle.srt_config.specs.Config.{settings_of, config_in}
use Rattle.srt_config.specs.declared.config.Config.{Config}
use Rattle.srt_config.specs.declared.config.faults.ConfigFault.TheVariants.{Toml}
use Rattle.srt_explain.specs.Listing.{faults_of, HasAll}
use Rattle.srt_explain.specs.declared.explanation.Faults.{Faults}

-- a valid configuration, and its text
pub record IsConfigOf (text : List ℕ) (config : Config) : Type 0 where
  pub is_text : IsUtf8 text
  pub config_is : config_in (parse_document text) ≡ Ok (settings_of config)

-- The faults of a text, all of them in order, of which the first 20 are explained, unless an allocation failed. One that isn't UTF-8 is no TOML.
pub record HasFaults (text : List ℕ) (faults : Faults) : Type 0 where
  pub are_all : IsUtf8 text → HasAll (faults_of (parse_document text)) faults
  pub no_text : (IsUtf8 text → ⊥) → faults.first.fault ≡ Toml
