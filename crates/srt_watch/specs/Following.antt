-- What becomes of a changed configuration.
use Rattle.std.specs.Prelude.{◌≡◌, ℕ, Bool, true, false, List, map, Option, None, Some, Result, Ok, Err}
use Rattle.srt_types.specs.Terms.{Terms, terms_of}
use Rattle.srt_config.specs.Config.{settings_of}
use Rattle.srt_config.specs.Changes.{requested, requested_by, fixed_keys, any_fixed}
use Rattle.srt_config.specs.declared.config.Config.{Config}
use Rattle.srt_config.specs.declared.changes.FixedKeys.{FixedKeys}
use Rattle.srt_supervision.specs.Changes.{AskedChange, with_asked}
use Rattle.srt_supervision.specs.declared.changes.ChangeFault.{ChangeFault}
use Rattle.srt_watch.specs.Configs.{IsConfigOf, HasFaults}
use Rattle.srt_watch.specs.Holding.{FileLook, MayBeTaken}
use Rattle.srt_watch.specs.Indexes.{closing, indexes_from, numbers_of, changes_nothing}
use Rattle.srt_watch.specs.Requests.{opened_by, config_of}
use Rattle.srt_watch.specs.Polls.{FoundFile}
use Rattle.srt_watch.specs.declared.following.Found.{Found}
use Rattle.srt_watch.specs.declared.in_force.InForce.{InForce}
use Rattle.srt_watch.specs.declared.in_force.NotTaken.{NotTaken}
use Rattle.srt_watch.specs.declared.in_force.NotTaken.TheVariants.{Unread, Wrong, NoMemory, KeysDiffer}
use Rattle.srt_watch.specs.declared.in_force.Wanted.{Wanted}

-- a valid configuration, and what it changes of the one in force; it differs at no fixed key
pub record IsWanted (in_force : InForce) (wanted : Wanted) : Type 0 where
  pub changes_are : requested_by wanted.changes ≡ requested (settings_of (config_of in_force)) (settings_of wanted.config)
  pub fixed_is : any_fixed wanted.changes.fixed ≡ false

-- a valid configuration that differs at fixed keys: at these
pub record HasOtherKeys (in_force : InForce) (text : List ℕ) (keys : FixedKeys) : Type 0 where
  pub config : Config
  pub config_is : IsConfigOf text config
  pub keys_are : keys ≡ fixed_keys (settings_of (config_of in_force)) (settings_of config)
  pub differ : any_fixed keys ≡ true

-- why a text isn't taken: it has faults, which are these, or there is no memory for it; or keys differ that are fixed
abbrev pub IsWrong : (text : List ℕ) → NotTaken → Type 0
IsWrong text (Unread why) = ⊥
IsWrong text (Wrong reason) = HasFaults text reason.of.value
IsWrong text (NoMemory want) = ⊥
IsWrong text (KeysDiffer keys) = ⊥

abbrev pub IsNotTaken : InForce → (text : List ℕ) → NotTaken → Type 0
IsNotTaken in_force text (Unread why) = ⊥
IsNotTaken in_force text (Wrong reason) = HasFaults text reason.of.value
IsNotTaken in_force text (NoMemory want) = Unit {0}
IsNotTaken in_force text (KeysDiffer keys) = HasOtherKeys in_force text keys

-- why what was found in a file isn't taken
abbrev pub IsRefused : InForce → Option FoundFile → NotTaken → Type 0
IsRefused in_force None why = ⊥
IsRefused in_force (Some (Ok news)) why = IsNotTaken in_force news.content why
IsRefused in_force (Some (Err reason)) why = why ≡ Unread reason

-- a configuration was found in a file
abbrev pub IsFoundConfig : Option FoundFile → Config → Type 0
IsFoundConfig None config = ⊥
IsFoundConfig (Some (Ok news)) config = IsConfigOf news.content config
IsFoundConfig (Some (Err reason)) config = ⊥

-- what is returned of that
abbrev pub IsFound : InForce → Option FoundFile → Option (Result Found NotTaken) → Type 0
IsFound in_force file None = file ≡ None
IsFound in_force file (Some (Ok found)) = IsFoundConfig file found.wanted.config
IsFound in_force file (Some (Err why)) = IsRefused in_force file why

-- what it requests of the run: the routes that close, and those that open
abbrev pub closes_of : InForce → Wanted → List ℕ
closes_of in_force wanted = closing in_force.indexes.items wanted.changes.gone.items wanted.changes.routes.items

abbrev pub opens_of : Wanted → List Terms
opens_of wanted = opened_by wanted.changes.routes.items (map terms_of wanted.config.entries.items)

abbrev pub changes_no_route : Wanted → Bool
changes_no_route wanted = changes_nothing (numbers_of wanted.changes.gone.items wanted.changes.routes.items)

-- The configuration is in force. Routes that stay keep their indexes, those that open have the next ones, from this one on
pub record IsTaken (before after : InForce) (wanted : Wanted) (first : ℕ) : Type 0 where
  pub config_is : config_of after ≡ wanted.config
  pub indexes_are : after.indexes.items ≡ indexes_from before.indexes.items first wanted.changes.routes.items

-- what is requested of the run for it, and what the run answers
abbrev pub request_of : InForce → Wanted → Result ℕ ChangeFault → AskedChange
request_of in_force wanted outcome = record { closes = closes_of in_force wanted; opens = opens_of wanted; outcome = outcome }

-- after a change that the run made the configuration is in force; otherwise nothing has changed
abbrev pub IsAnswered : (before after : InForce) → Wanted → Result ℕ ChangeFault → Type 0
IsAnswered before after wanted (Ok first) = IsTaken before after wanted first
IsAnswered before after wanted (Err fault) = after ≡ before

-- what the run was requested to do so far
abbrev pub Record : Type 0
Record = Option (List AskedChange)

-- Of a configuration that changes no route nothing is requested: it is in force at once. Otherwise its change is requested of the run, once, and nothing else.
pub data IsRequested (before after : InForce) (wanted : Wanted) (old new : Record) : Type 0 where
  Renamed : (first : ℕ) → changes_no_route wanted ≡ true → IsTaken before after wanted first → new ≡ old → IsRequested before after wanted old new
  Asked : (outcome : Result ℕ ChangeFault) → changes_no_route wanted ≡ false → new ≡ with_asked old (request_of before wanted outcome) →
      IsAnswered before after wanted outcome → IsRequested before after wanted old new

-- A poll of the file: nothing that is taken, or a configuration that may be.
pub data IsFollowed (look : FileLook) (before after : InForce) (old new : Record) : Type 0 where
  Stayed : after ≡ before → new ≡ old → IsFollowed look before after old new
  Changed : (wanted : Wanted) → IsWanted before wanted → MayBeTaken look before wanted → IsRequested before after wanted old new →
      IsFollowed look before after old new
