-- Any sequence of polls of the configuration's file, with right and wrong contents.
use Rattle.std.specs.Prelude.{◌≡◌, ℕ, List, [], ◌∷◌, ◌++◌, Result, Ok, Err, option_map}
use Rattle.srt_config.specs.declared.config.Config.{Config}
use Rattle.srt_supervision.specs.Changes.{AskedChange}
use Rattle.srt_watch.specs.Following.{IsFollowed, Stayed, Changed, IsRequested, Renamed, Asked, Record, request_of}
use Rattle.srt_watch.specs.Holding.{FileLook}
use Rattle.srt_watch.specs.Requests.{config_of}
use Rattle.srt_watch.specs.declared.in_force.InForce.{InForce}
use Rattle.srt_watch.specs.declared.in_force.Wanted.{Wanted}

-- the configuration that was taken, if one was
abbrev pub taken_if : Config → {E : Type 0} → Result ℕ E → List Config
taken_if config (Ok first) = config ∷ []
taken_if config (Err fault) = []

abbrev pub taken_of : {before after : InForce} → {wanted : Wanted} → {old new : Record} → IsRequested before after wanted old new → List Config
taken_of {before} {after} {wanted} (Renamed first none taken same) = wanted.config ∷ []
taken_of {before} {after} {wanted} (Asked outcome some asked answered) = taken_if wanted.config outcome

abbrev pub taken_by : {look : FileLook} → {before after : InForce} → {old new : Record} → IsFollowed look before after old new → List Config
taken_by (Stayed same unasked) = []
taken_by (Changed wanted is allowed requested) = taken_of requested

-- what was requested of the run, if anything was
abbrev pub asked_of : {before after : InForce} → {wanted : Wanted} → {old new : Record} → IsRequested before after wanted old new → List AskedChange
asked_of (Renamed first none taken same) = []
asked_of {before} {after} {wanted} (Asked outcome some asked answered) = request_of before wanted outcome ∷ []

abbrev pub asked_by : {look : FileLook} → {before after : InForce} → {old new : Record} → IsFollowed look before after old new → List AskedChange
asked_by (Stayed same unasked) = []
asked_by (Changed wanted is allowed requested) = asked_of requested

-- some polls: the configurations that were taken, the last one first, and what was requested of the run, the oldest first
pub data Follows (first : InForce) (before : Record) : InForce → Record → (taken : List Config) → (asked : List AskedChange) → Type 0 where
  Begins : Follows first before first before [] []
  Goes : (look : FileLook) (in_force now : InForce) (old new : Record) (taken : List Config) (asked : List AskedChange) →
      Follows first before in_force old taken asked → (next : IsFollowed look in_force now old new) →
      Follows first before now new (taken_by next ++ taken) (asked ++ asked_by next)

-- the configuration that was taken last, or else the first one
abbrev pub last_taken : (first : Config) → (taken : List Config) → Config
last_taken first [] = first
last_taken first (config ∷ taken) = config

-- The last configuration that was taken is in force, and all that was requested of the run is what these configurations change.
pub record AreFollowed : Type 0 where
  pub in_force_is : (first : InForce) (before : Record) (last : InForce) (after : Record) (taken : List Config) (asked : List AskedChange) →
      Follows first before last after taken asked → config_of last ≡ last_taken (config_of first) taken
  pub asked_is : (first : InForce) (before : Record) (last : InForce) (after : Record) (taken : List Config) (asked : List AskedChange) →
      Follows first before last after taken asked → after ≡ option_map (λ changes. changes ++ asked) before
