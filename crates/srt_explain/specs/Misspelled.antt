-- Missing keys that a misspelled one may be (our choice).
use Rattle.std.specs.Prelude.{ℕ, ◌==◌, ◌&&◌, Bool, true, false, List, [], ◌∷◌, ◌++◌, Option, None, Some, if◌then◌else◌}
use Rattle.std.specs.List.{list_any}
use Rattle.std.specs.Str.{bytes_eq}
use Rattle.srt_config.specs.declared.config.keys.Key.{Key}
use Rattle.srt_config.specs.declared.config.keys.Key.TheVariants.{Name}
use Rattle.srt_config.specs.declared.config.placed.Place.{Place}
use Rattle.srt_config.specs.declared.config.placed.Place.TheVariants as place
use Rattle.srt_config.specs.KeyTable.{key_name}
use Rattle.srt_config.specs.Config.{top_keys}
use Rattle.srt_config.specs.Routes.{route_keys}
use Rattle.srt_config.specs.Defaults.{default_keys}
use Rattle.srt_config.specs.FirstFault.{Fault, Toml, UnknownKey, Missing, WrongKind, OutOfRange, BadName, RepeatedName, BadSecret, BadAddress}
use Rattle.srt_config.specs.FirstFault.{OutOfMemory}
use Rattle.srt_config.specs.AllFaults.{Placed}
use Rattle.srt_explain.specs.declared.explanation.Hint.{Hint}
use Rattle.srt_explain.specs.declared.explanation.Hint.TheVariants as hints
use Rattle.srt_explain.specs.Resemblance.{resembled}

-- the key of this spelling among these
abbrev pub key_named : List Key → (text : List ℕ) → Option Key
key_named [] text = None
key_named (key ∷ keys) text = if bytes_eq (key_name key) text then Some key else key_named keys text

-- the hint at an unknown key: one of another part, or one that it resembles
abbrev pub like : Option Key → Hint
like None = hints.Nothing
like (Some key) = hints.Resembles key

abbrev pub of_table : Option Key → Hint → Hint
of_table None other = other
of_table (Some key) other = hints.OfTable key

abbrev pub of_route : Option Key → Hint → Hint
of_route None other = other
of_route (Some key) other = hints.OfRoute key

abbrev pub below_hint : List Key → (text : List ℕ) → Hint
below_hint keys text = of_table (key_named top_keys text) (like (resembled keys text))

abbrev pub unknown_hint : Place → (text : List ℕ) → Hint
unknown_hint place.Above text = of_route (key_named route_keys text) (like (resembled top_keys text))
unknown_hint place.Defaults text = of_route (key_named (Name ∷ []) text) (below_hint default_keys text)
unknown_hint (place.Route number) text = below_hint route_keys text

-- the key that an unknown one may be
abbrev pub resembled_by : Hint → Option Key
resembled_by (hints.Resembles key) = Some key
resembled_by _ = None

abbrev pub meant_at : Place → Fault → Option Key
meant_at at (UnknownKey text) = resembled_by (unknown_hint at text)
meant_at at _ = None

-- a key that is written at the first part is one of the second: it is that part, or a route that has the defaults
abbrev pub reaches : Place → Place → Bool
reaches place.Above place.Above = true
reaches place.Above place.Defaults = false
reaches place.Above (place.Route number) = false
reaches place.Defaults place.Above = false
reaches place.Defaults place.Defaults = true
reaches place.Defaults (place.Route number) = true
reaches (place.Route number) place.Above = false
reaches (place.Route number) place.Defaults = false
reaches (place.Route number) (place.Route other) = number == other

abbrev pub is_key_of : Option Key → Key → Bool
is_key_of None key = false
is_key_of (Some other) key = bytes_eq (key_name other) (key_name key)

-- this fault is of an unknown key that may be this one, which is missing at this part
abbrev pub may_be : (at : Place) → Key → Placed → Bool
may_be at key it = reaches it.place at && is_key_of (meant_at it.place it.fault) key

-- a fault is that of a missing key, which one of these faults tells already, as a misspelled one
abbrev pub is_missing_told : (before : List Placed) → Place → Fault → Bool
is_missing_told before at Toml = false
is_missing_told before at (UnknownKey text) = false
is_missing_told before at (Missing key) = list_any (may_be at key) before
is_missing_told before at (WrongKind key) = false
is_missing_told before at (OutOfRange key) = false
is_missing_told before at BadName = false
is_missing_told before at RepeatedName = false
is_missing_told before at BadSecret = false
is_missing_told before at (BadAddress key) = false
is_missing_told before at OutOfMemory = false

abbrev pub is_told : (before : List Placed) → Placed → Bool
is_told before it = is_missing_told before it.place it.fault

-- the faults that are told, with one more unless it is told already
abbrev pub with_fault : (before : List Placed) → Placed → List Placed
with_fault before it = if is_told before it then before else before ++ it ∷ []

-- the same with all of these, one after the other
abbrev pub with_faults : (before : List Placed) → List Placed → List Placed
with_faults before [] = before
with_faults before (it ∷ rest) = with_faults (with_fault before it) rest
