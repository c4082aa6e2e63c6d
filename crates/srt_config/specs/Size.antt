-- The size of a configuration's file (our choice).
use Rattle.std.specs.Prelude.{ℕ, Bool, true, false, nat_le, List, length, Option, None, Some, is_some, if◌then◌else◌}
use Rattle.toml.specs.Data.{Members, get_member}
use Rattle.toml.specs.Parse.{parse_document}
use Rattle.srt_config.specs.declared.config.keys.Key.TheVariants.{Defaults}
use Rattle.srt_config.specs.KeyTable.{key_name}

-- the text is a table that has defaults
abbrev pub has_defaults : Option Members → Bool
has_defaults None = false
has_defaults (Some table) = is_some (get_member (key_name Defaults) table)

-- the bytes of a configuration are few, or they are a table that has defaults and not too many
abbrev pub is_within_limits : List ℕ → Bool
is_within_limits bytes =
    if nat_le (length bytes) 65_536 then true
    else if nat_le (length bytes) 1_048_576 then has_defaults (parse_document bytes)
    else false
