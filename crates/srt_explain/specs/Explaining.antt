-- What an explanation of a configuration has to do with its reading (our choice).
use Rattle.std.specs.Prelude.{◌≡◌, ◌⊎◌, Bool, true, false, [], map, Option, Some, Result, Ok, Err, IfErr}
use Rattle.std.specs.Fmt.InlineText.{inline_text}
use Rattle.toml.specs.Data.{Members}
use Rattle.srt_types.specs.Terms.{terms_of}
use Rattle.srt_config.specs.declared.config.Config.{Config}
use Rattle.srt_config.specs.declared.config.faults.ConfigFault.{ConfigFault}
use Rattle.srt_config.specs.declared.config.faults.ConfigFault.TheVariants.{Toml, UnknownKey, Missing, WrongKind, OutOfRange, BadName}
use Rattle.srt_config.specs.declared.config.faults.ConfigFault.TheVariants.{RepeatedName, BadSecret, BadAddress, OutOfMemory}
use Rattle.srt_config.specs.declared.config.placed.Place.{Place}
use Rattle.srt_config.specs.declared.config.placed.Place.TheVariants as place
use Rattle.srt_config.specs.KeyTable.{is_private}
use Rattle.srt_config.specs.Defaults.{with_defaults}
use Rattle.srt_explain.specs.declared.explaining.Explained.{Explained}
use Rattle.srt_explain.specs.declared.explanation.Explanation.{Explanation}
use Rattle.srt_explain.specs.declared.explanation.Part.{Part}
use Rattle.srt_explain.specs.declared.explanation.Part.TheVariants as parts
use Rattle.srt_explain.specs.declared.explanation.Hint.{Hint}
use Rattle.srt_explain.specs.declared.explanation.Hint.TheVariants as hints
use Rattle.srt_explain.specs.Grouping.{grouped}
use Rattle.srt_explain.specs.Warnings.{warnings_of}

-- what is explained, without the explanation
abbrev pub plain : Result Explained Explanation → Result Config ConfigFault
plain (Ok explained) = Ok explained.config
plain (Err explanation) = Err explanation.fault

-- the place of the part that is named
abbrev pub place_of : Part → Place
place_of parts.Above = place.Above
place_of parts.Defaults = place.Defaults
place_of (parts.Route route) = place.Route route.number

-- the part that is named is the one that has the fault, unless an allocation failed
abbrev pub HasPlace : Place → Result Explained Explanation → Type 0
HasPlace at answer = IfErr answer (λ explanation. (explanation.fault ≡ OutOfMemory) ⊎ (place_of explanation.part ≡ at))

-- the value at the key with this fault is printed nowhere: it is private, or the key is unknown and may be a misspelled private one
abbrev pub is_fault_private : ConfigFault → Bool
is_fault_private Toml = false
is_fault_private (UnknownKey key) = true
is_fault_private (Missing key) = true
is_fault_private (WrongKind key) = is_private key
is_fault_private (OutOfRange key) = is_private key
is_fault_private BadName = false
is_fault_private RepeatedName = false
is_fault_private BadSecret = true
is_fault_private (BadAddress key) = is_private key
is_fault_private OutOfMemory = true

-- a hint has nothing of a value: neither bytes of it, nor a number that is written there. The count of a text's characters or bytes and the
-- place of one of them are no part of the text
abbrev pub is_hint_private : Hint → Bool
is_hint_private hints.Nothing = true
is_hint_private (hints.Place place) = false
is_hint_private (hints.Unquoted place) = false
is_hint_private (hints.OneBracket place) = false
is_hint_private (hints.Resembles key) = true
is_hint_private (hints.OfTable key) = true
is_hint_private (hints.OfRoute key) = true
is_hint_private hints.Quoted = false
is_hint_private hints.OneTable = false
is_hint_private (hints.NoTable number) = false
is_hint_private (hints.Routes count) = false
is_hint_private (hints.Choice text) = false
is_hint_private (hints.Opens round) = false
is_hint_private (hints.Sessions sessions) = false
is_hint_private hints.EmptyName = false
is_hint_private (hints.LongName count) = false
is_hint_private (hints.Character character) = false
is_hint_private (hints.SameName number) = false
is_hint_private (hints.Bytes count) = true
is_hint_private hints.NoPassphrase = true
is_hint_private (hints.Characters count) = true
is_hint_private (hints.NoDigit number) = true
is_hint_private hints.NoPort = true
is_hint_private hints.PortAlone = true
is_hint_private hints.Ipv6 = true
is_hint_private (hints.Members count) = false
is_hint_private (hints.NoText number) = false
is_hint_private (hints.NoNetwork number) = false
is_hint_private (hints.AddressInNetwork number address first prefix) = false

-- an explanation has nothing of a value that is to be printed nowhere
abbrev pub IsPrivate : Explanation → Type 0
IsPrivate explanation =
    is_fault_private explanation.fault ≡ true → (inline_text explanation.value ≡ []) × (is_hint_private explanation.hint ≡ true)

-- the warnings are those of this table, and of the status page and the routes that were read from it
abbrev pub WarnsOf : Members → Explained → Type 0
WarnsOf table explained =
    explained.warnings.items ≡ grouped (warnings_of table explained.config.status (map terms_of explained.config.entries.items))

-- the same of the table that the text is, with the defaults in each route
abbrev pub HasWarnings : Option Members → Explained → Type 0
HasWarnings document explained = (table : Members) × (document ≡ Some table) × WarnsOf (with_defaults table) explained
