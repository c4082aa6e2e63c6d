-- The facts of an event of a configuration that was changed while the gateway runs, as members of a JSON object.
use Rattle.std.specs.Prelude.{ℕ, List, ◌++◌, codes}
use Rattle.srt_log.specs.declared.config_events.ChangeSummary.{ChangeSummary}
use Rattle.srt_log.specs.declared.config_events.CloseCause.{CloseCause}
use Rattle.srt_log.specs.declared.config_events.CloseCause.TheVariants.{Removed, OtherKeys}
use Rattle.srt_config.specs.declared.changes.FixedKeys.{FixedKeys}
use Rattle.srt_log.specs.declared.config_events.ConfigEvent.{ConfigEvent}
use Rattle.srt_log.specs.declared.config_events.ConfigEvent.TheVariants as events
use Rattle.srt_log.specs.Members.{text_member, number_member, flag_member, shown_member, readable_member}

abbrev pub config_kind : ConfigEvent → List ℕ
config_kind (events.Taken routes) = codes "config_taken"
config_kind (events.RouteCloses route cause) = codes "route_closes"
config_kind (events.RouteOpens route index megabytes) = codes "route_opens"
config_kind (events.KeysDiffer keys) = codes "config_keys_differ"
config_kind (events.Wrong why) = codes "config_wrong"
config_kind (events.NoMemory route) = codes "config_no_memory"
config_kind (events.NoIndexes opens left) = codes "config_no_indexes"
config_kind (events.Unread why) = codes "config_unread"
config_kind (events.Held route) = codes "config_held"
config_kind (events.FewIndexes left) = codes "few_indexes"

unfoldable pub numbers_members : ChangeSummary → List ℕ
numbers_members routes =
    number_member (codes "staying") routes.staying ++ number_member (codes "opening") routes.opening
    ++ number_member (codes "closing") routes.closing ++ number_member (codes "changing") routes.changing

abbrev pub close_name : CloseCause → List ℕ
close_name Removed = codes "removed"
close_name OtherKeys = codes "other_keys"

unfoldable pub closes_members : (route : List ℕ) → CloseCause → List ℕ
closes_members route cause = shown_member (codes "route") route ++ text_member (codes "cause") (close_name cause)

unfoldable pub opens_members : (route : List ℕ) → (index megabytes : ℕ) → List ℕ
opens_members route index megabytes =
    shown_member (codes "route") route ++ number_member (codes "index") index ++ number_member (codes "megabytes") megabytes

-- the keys that differ
unfoldable pub keys_members : FixedKeys → List ℕ
keys_members keys =
    flag_member (codes "bind") keys.bind ++ flag_member (codes "workers") keys.workers ++ flag_member (codes "status") keys.status
    ++ flag_member (codes "secret") keys.secret

unfoldable pub no_indexes_members : (opens left : ℕ) → List ℕ
no_indexes_members opens left = number_member (codes "opening") opens ++ number_member (codes "left") left

abbrev pub config_members : ConfigEvent → List ℕ
config_members (events.Taken routes) = numbers_members routes
config_members (events.RouteCloses route cause) = closes_members route.now cause
config_members (events.RouteOpens route index megabytes) = opens_members route.now index megabytes
config_members (events.KeysDiffer keys) = keys_members keys
config_members (events.Wrong why) = readable_member (codes "why") why.now
config_members (events.NoMemory route) = shown_member (codes "route") route.now
config_members (events.NoIndexes opens left) = no_indexes_members opens left
config_members (events.Unread why) = readable_member (codes "why") why.now
config_members (events.Held route) = shown_member (codes "route") route.now
config_members (events.FewIndexes left) = number_member (codes "left") left
