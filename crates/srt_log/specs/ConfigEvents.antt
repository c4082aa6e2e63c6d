-- The lines about a configuration that was changed while the gateway runs.
use Rattle.std.specs.Prelude.{ℕ, Bool, true, not, ◌&&◌, ◌||◌, List, [], ◌++◌, codes, decimal, if◌then◌else◌}
use Rattle.srt_log.specs.declared.config_events.ChangeSummary.{ChangeSummary}
use Rattle.srt_log.specs.declared.config_events.CloseCause.{CloseCause}
use Rattle.srt_log.specs.declared.config_events.CloseCause.TheVariants.{Removed, OtherKeys}
use Rattle.srt_config.specs.declared.changes.FixedKeys.{FixedKeys}
use Rattle.srt_log.specs.declared.config_events.ConfigEvent.{ConfigEvent}
use Rattle.srt_log.specs.declared.config_events.ConfigEvent.TheVariants as events
use Rattle.srt_log.specs.Texts.{escaped_all, readable_all}

abbrev pub numbers_text : ChangeSummary → List ℕ
numbers_text routes =
    decimal routes.staying ++ codes " routes stay, " ++ decimal routes.opening ++ codes " open, " ++ decimal routes.closing ++ codes " close, "
    ++ decimal routes.changing ++ codes " change"

abbrev pub taken_text : ChangeSummary → List ℕ
taken_text routes = codes "configuration changed: " ++ numbers_text routes

abbrev pub cause_text : CloseCause → List ℕ
cause_text Removed = codes ": closed, it is no longer in the configuration"
cause_text OtherKeys = codes ": closed, to open again with other keys"

abbrev pub closes_text : (route : List ℕ) → CloseCause → List ℕ
closes_text route cause = escaped_all route ++ cause_text cause

abbrev pub opens_text : (route : List ℕ) → (index megabytes : ℕ) → List ℕ
opens_text route index megabytes = escaped_all route ++ codes ": opened with index " ++ decimal index ++ codes ", " ++ decimal megabytes ++ codes " MB"

-- the first of the keys that differ; one of them does
abbrev pub first_text : FixedKeys → List ℕ
first_text keys =
    if keys.bind then codes "bind" else (if keys.workers then codes "workers" else (if keys.status then codes "status" else codes "secret"))

-- a key that differs beside the first one
abbrev pub also_text : (is_first : Bool) → List ℕ
also_text is_first = if is_first then codes " (also: " else codes ", "

abbrev pub other_text : (is_other is_first : Bool) → (name : List ℕ) → List ℕ
other_text is_other is_first name = if is_other then also_text is_first ++ name else []

abbrev pub end_text : (any : Bool) → List ℕ
end_text any = if any then codes ")" else []

-- the keys that differ beside the first one, by whether each is one of them
abbrev pub these_text : (workers status secret : Bool) → List ℕ
these_text workers status secret =
    other_text workers true (codes "workers") ++ other_text status (not workers) (codes "status")
    ++ other_text secret (not workers && not status) (codes "secret") ++ end_text (workers || status || secret)

abbrev pub others_text : FixedKeys → List ℕ
others_text keys =
    these_text (keys.bind && keys.workers) ((keys.bind || keys.workers) && keys.status) ((keys.bind || keys.workers || keys.status) && keys.secret)

abbrev pub fixed_text : FixedKeys → List ℕ
fixed_text keys =
    codes "configuration not taken: " ++ first_text keys ++ codes " can't change while the gateway runs" ++ others_text keys
    ++ codes "; restart it to change it"

abbrev pub no_memory_text : (route : List ℕ) → List ℕ
no_memory_text route = codes "configuration not taken: no memory for " ++ escaped_all route

abbrev pub no_indexes_text : (opens left : ℕ) → List ℕ
no_indexes_text opens left =
    codes "configuration not taken: " ++ decimal opens ++ codes " routes are to open, " ++ decimal left ++ codes " indexes are left; restart the gateway"

abbrev pub few_indexes_text : (left : ℕ) → List ℕ
few_indexes_text left =
    decimal left ++ codes " of 511 indexes are left; each route that opens while the gateway runs uses one, restart it in a quiet hour"

abbrev pub held_text : (route : List ℕ) → List ℕ
held_text route = codes "configuration closes " ++ escaped_all route ++ codes ", which has sessions; it is taken if it stays so for 5 s"

-- words and a text for people
abbrev pub about_text : (words why : List ℕ) → List ℕ
about_text words why = words ++ readable_all why

-- the text of an event of a configuration that was changed
abbrev pub config_text : ConfigEvent → List ℕ
config_text (events.Taken routes) = taken_text routes
config_text (events.RouteCloses route cause) = closes_text route.now cause
config_text (events.RouteOpens route index megabytes) = opens_text route.now index megabytes
config_text (events.KeysDiffer keys) = fixed_text keys
config_text (events.Wrong why) = about_text (codes "configuration not taken: ") why.now
config_text (events.NoMemory route) = no_memory_text route.now
config_text (events.NoIndexes opens left) = no_indexes_text opens left
config_text (events.Unread why) = about_text (codes "configuration can't be read: ") why.now
config_text (events.Held route) = held_text route.now
config_text (events.FewIndexes left) = few_indexes_text left
