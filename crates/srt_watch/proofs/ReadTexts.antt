-- The configuration that was read from a text, or its faults.
use Rattle.std.proofs.Common.{◌≡◌, ℕ, inl, inr, Bool, true, false, List, Result, Ok, Err, refl, sym, ap, ◌∙◌}
use Rattle.std.specs.Prelude.{IsUtf8}
use Rattle.std.specs.Str.{is_utf8}
use Rattle.std.proofs.lemmas.Str.{IsUtf8-from_is_utf8, is_utf8-from_IsUtf8}
use Rattle.toml.specs.Parse.{parse_document}
use Rattle.srt_config.specs.Config.{Settings, settings_of, config_in}
use Rattle.srt_config.specs.FirstFault.{Fault, Gives}
use Rattle.srt_config.specs.declared.config.Config.{Config}
use Rattle.srt_config.specs.declared.config.faults.ConfigFault.{ConfigFault}
use Rattle.srt_config.specs.declared.config.faults.ConfigFault.TheVariants as code
use Rattle.srt_explain.specs.declared.explaining.Explained.{Explained}
use Rattle.srt_explain.specs.Explaining.{plain}
use Rattle.srt_explain.specs.Listing.{faults_of, HasAll}
use Rattle.srt_explain.specs.declared.explanation.Faults.{Faults}
use Rattle.srt_watch.specs.Configs.{IsConfigOf, HasFaults}

given : (config : Config) (said : Result Settings Fault) → Gives settings_of (Ok config) said → said ≡ Ok (settings_of config)
given config said (inl h) = absurd (let bad : Ok config ≡ Err code.OutOfMemory = h in cc)
given config said (inr h) = sym h

by_text : (text : List ℕ) (x : Explained) → (IsUtf8 text → Gives settings_of (Ok x.config) (config_in (parse_document text))) →
    ((IsUtf8 text → ⊥) → Ok x.config ≡ Err code.Toml) → (b : Bool) → is_utf8 text ≡ b → IsConfigOf text x.config
by_text text x gives none true e = record {
  is_text = IsUtf8-from_is_utf8 text e;
  config_is = given x.config _ (gives (IsUtf8-from_is_utf8 text e));
}
by_text text x gives none false e =
    absurd (let bad : Ok x.config ≡ Err code.Toml = none (λ u. let clash : false ≡ true = sym e ∙ is_utf8-from_IsUtf8 text u in cc) in cc)

pub is_config : (text : List ℕ) (x : Explained) → (IsUtf8 text → Gives settings_of (Ok x.config) (config_in (parse_document text))) →
    ((IsUtf8 text → ⊥) → Ok x.config ≡ Err code.Toml) → IsConfigOf text x.config
is_config text x gives none = by_text text x gives none (is_utf8 text) refl

fault_in : Result Config ConfigFault → ConfigFault
fault_in (Ok config) = code.OutOfMemory
fault_in (Err fault) = fault

-- the faults of a text that isn't any
pub has_faults : (text : List ℕ) (faults : Faults) → (IsUtf8 text → HasAll (faults_of (parse_document text)) faults) →
    ((IsUtf8 text → ⊥) → plain (Err faults.first) ≡ Err code.Toml) → HasFaults text faults
unfolding fault_in
has_faults text faults all none = record { are_all = all; no_text = λ u. ap fault_in (none u) }
