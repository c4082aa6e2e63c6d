-- How a configuration's faults are printed (our choice).
use Rattle.std.specs.Prelude.{ℕ, List, codes, string_bytes}
use Rattle.srt_config.specs.declared.config.faults.ConfigFault.{ConfigFault}
use Rattle.srt_config.specs.declared.config.faults.ConfigFault.TheVariants.{Toml, UnknownKey, Missing, WrongKind, OutOfRange, BadName}
use Rattle.srt_config.specs.declared.config.faults.ConfigFault.TheVariants.{RepeatedName, BadSecret, BadAddress, OutOfMemory}
use Rattle.srt_config.specs.KeyTable.{key_name}

abbrev pub number_of : ConfigFault → ℕ
number_of Toml = 1
number_of (UnknownKey key) = 2
number_of (Missing key) = 3
number_of (WrongKind key) = 4
number_of (OutOfRange key) = 5
number_of BadName = 6
number_of RepeatedName = 7
number_of BadSecret = 8
number_of (BadAddress key) = 9
number_of OutOfMemory = 10

abbrev pub key_text : ConfigFault → List ℕ
key_text Toml = codes "-"
key_text (UnknownKey key) = string_bytes key
key_text (Missing key) = key_name key
key_text (WrongKind key) = key_name key
key_text (OutOfRange key) = key_name key
key_text BadName = codes "name"
key_text RepeatedName = codes "name"
key_text BadSecret = codes "secret"
key_text (BadAddress key) = key_name key
key_text OutOfMemory = codes "-"
