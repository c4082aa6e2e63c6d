-- The encryption of a route in a value of the code, as plain values.
use Rattle.std.specs.Prelude.{option_map, string_bytes}
use Rattle.srt_config.specs.declared.config.encryption.Encryption.{Encryption}
use Rattle.srt_config.specs.Encryption.{EncryptionTerms, encryption_with}

abbrev pub encryption_seen : Encryption → EncryptionTerms
encryption_seen encryption =
    encryption_with (option_map string_bytes encryption.publish) (option_map string_bytes encryption.request) encryption.key_length
