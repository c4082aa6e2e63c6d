-- The keys of a table and their values (our choice).
use Rattle.std.specs.Prelude.{ℕ, ℤ, pos, negsuc, Bool, false, List, Option, None, Some, Result, Ok, Err, if◌then◌else◌}
use Rattle.std.specs.List.{list_any}
use Rattle.std.specs.Str.{bytes_eq}
use Rattle.std.specs.Ordering.{nat_cmp, is_lt}
use Rattle.std.specs.Cmp.Lexicographic.{slice_cmp}
use Rattle.std.specs.Borrow.{Bor}
use Rattle.toml.specs.Data.{Data, Members, no_members, member, get_member, as_str, as_integer, as_bool}
use Rattle.toml.specs.View.{view}
use Rattle.toml.specs.declared.value.Value.{Value}
use Rattle.srt_types.specs.Entries.{is_between}
use Rattle.srt_config.specs.declared.config.keys.Key.{Key}
use Rattle.srt_config.specs.KeyTable.{key_name, limits_of}
use Rattle.srt_config.specs.FirstFault.{Fault, UnknownKey, Missing, WrongKind, OutOfRange, ◌>>=◌}

-- one of these keys has this spelling
abbrev pub is_key : List Key → List ℕ → Bool
is_key keys text = list_any (λ (k : Key). bytes_eq (key_name k) text) keys

-- the lesser of two texts in the order of bytes, or the only one
abbrev pub lesser : List ℕ → Option (List ℕ) → List ℕ
lesser text None = text
lesser text (Some other) = if is_lt (slice_cmp nat_cmp other text) then other else text

-- the least key of a table, in the order of bytes, that is none of these
abbrev pub least_unknown : List Key → Members → Option (List ℕ)
least_unknown keys no_members = None
least_unknown keys (member text value rest) =
    if is_key keys text then least_unknown keys rest else Some (lesser text (least_unknown keys rest))

abbrev pub none_unknown : Option (List ℕ) → Result (Unit {0}) Fault
none_unknown None = Ok tt
none_unknown (Some text) = Err (UnknownKey text)

-- a table has no key but these
unfoldable pub known : List Key → Members → Result (Unit {0}) Fault
known keys table = none_unknown (least_unknown keys table)

abbrev pub present : {A : Type 0} → Key → Option A → Result A Fault
present key (Some value) = Ok value
present key None = Err (Missing key)

abbrev pub of_kind : {A : Type 0} → Key → Option A → Result A Fault
of_kind key (Some value) = Ok value
of_kind key None = Err (WrongKind key)

-- the value at a key
unfoldable pub value_at : Key → Members → Result Data Fault
value_at key table = present key (get_member (key_name key) table)

-- the value at a key that may be missing, read by this function
abbrev pub optional : {A : Type 0} → (read : Data → Result A Fault) → Option Data → Result (Option A) Fault
optional read None = Ok None
optional read (Some value) = read value >>= λ x. Ok (Some x)

-- the text that the value of a key is
unfoldable pub text_value : Key → Data → Result (List ℕ) Fault
text_value key value = of_kind key (as_str value)

-- the text at a key
unfoldable pub text_at : Key → Members → Result (List ℕ) Fault
text_at key table = value_at key table >>= λ value. text_value key value

-- a number within these limits
abbrev pub within : Key → (low high : ℕ) → ℤ → Result ℕ Fault
within key low high (pos n) = if is_between low high n then Ok n else Err (OutOfRange key)
within key low high (negsuc n) = Err (OutOfRange key)

-- the number that the value of a key is, which has to be within these limits
unfoldable pub number_value : Key → (low high : ℕ) → Data → Result ℕ Fault
number_value key low high value = of_kind key (as_integer value) >>= λ n. within key low high n

-- the number at a key
unfoldable pub number_at : Key → (low high : ℕ) → Members → Result ℕ Fault
number_at key low high table = value_at key table >>= λ value. number_value key low high value

-- the number at a key that may be missing
unfoldable pub optional_number_at : Key → (low high : ℕ) → Members → Result (Option ℕ) Fault
optional_number_at key low high table = optional (number_value key low high) (get_member (key_name key) table)

-- the number at a key, within the key's limits
abbrev pub key_number_at : Key → Members → Result ℕ Fault
key_number_at key table = number_at key (limits_of key).least (limits_of key).most table

-- the same at a key that may be missing
abbrev pub optional_key_number_at : Key → Members → Result (Option ℕ) Fault
optional_key_number_at key table = optional_number_at key (limits_of key).least (limits_of key).most table

-- a number that is 0 if it isn't given
abbrev pub given_or_0 : Option ℕ → ℕ
given_or_0 None = 0
given_or_0 (Some n) = n

abbrev pub value_seen : Bor Value → Data
value_seen value = view value.now

-- whether the value of a key is true
unfoldable pub flag_value : Key → Data → Result Bool Fault
flag_value key value = of_kind key (as_bool value)

-- the same at a key that may be missing
unfoldable pub optional_flag_at : Key → Members → Result (Option Bool) Fault
optional_flag_at key table = optional (flag_value key) (get_member (key_name key) table)

-- false, if the key is missing
abbrev pub given_or_false : Option Bool → Bool
given_or_false None = false
given_or_false (Some given) = given
