-- Reading in steps: the first step that fails yields the fault.
use Rattle.std.specs.Prelude.{◌≡◌, ℕ, ◌⊎◌, List, string_bytes, Result, Ok, Err}
use Rattle.srt_config.specs.declared.config.keys.Key.{Key}
use Rattle.srt_config.specs.declared.config.faults.ConfigFault.{ConfigFault}
use Rattle.srt_config.specs.declared.config.faults.ConfigFault.TheVariants as code

-- the faults of a configuration, as plain values
pub data Fault : Type 0 where
  Toml : Fault
  UnknownKey : (key : List ℕ) → Fault
  Missing : (key : Key) → Fault
  WrongKind : (key : Key) → Fault
  OutOfRange : (key : Key) → Fault
  BadName : Fault
  RepeatedName : Fault
  BadSecret : Fault
  BadAddress : (key : Key) → Fault
  OutOfMemory : Fault

abbrev pub plain_fault : ConfigFault → Fault
plain_fault code.Toml = Toml
plain_fault (code.UnknownKey key) = UnknownKey (string_bytes key)
plain_fault (code.Missing key) = Missing key
plain_fault (code.WrongKind key) = WrongKind key
plain_fault (code.OutOfRange key) = OutOfRange key
plain_fault code.BadName = BadName
plain_fault code.RepeatedName = RepeatedName
plain_fault code.BadSecret = BadSecret
plain_fault (code.BadAddress key) = BadAddress key
plain_fault code.OutOfMemory = OutOfMemory

infixl 10 ◌>>=◌
-- a step, and then the next one with the first one's result
abbrev pub ◌>>=◌ : {A B : Type 0} → Result A Fault → (A → Result B Fault) → Result B Fault
Ok x >>= next = next x
Err fault >>= next = Err fault

-- a result, with its value seen through `view`
abbrev pub seen : {A B : Type 0} → (view : A → B) → Result A ConfigFault → Result B Fault
seen view (Ok x) = Ok (view x)
seen view (Err fault) = Err (plain_fault fault)

-- the result is this one, unless an allocation failed
abbrev pub Gives : {A B : Type 0} → (view : A → B) → Result A ConfigFault → (said : Result B Fault) → Type 0
Gives view answer said = (answer ≡ Err code.OutOfMemory) ⊎ (seen view answer ≡ said)
