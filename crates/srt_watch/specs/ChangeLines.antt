-- The lines of a changed configuration, and the counts of changes.
use Rattle.std.specs.Prelude.{ℕ, ◌-◌, List, [], ◌∷◌, ◌++◌, map, codes, Option, None, Some, option_map, slice_get, length, if◌then◌else◌}
use Rattle.std.specs.Fmt.InlineText.{inline_text}
use Rattle.std.specs.List.{flat_map}
use Rattle.srt_types.specs.declared.shared.Entry.{Entry}
use Rattle.srt_types.specs.Terms.{Terms, terms_of}
use Rattle.srt_config.specs.declared.changes.RouteChange.{RouteChange}
use Rattle.srt_config.specs.declared.changes.RouteChange.TheVariants.{Stays, Reopens, Opens}
use Rattle.srt_log.specs.declared.config_events.ChangeSummary.{ChangeSummary}
use Rattle.srt_log.specs.declared.config_events.CloseCause.{CloseCause}
use Rattle.srt_log.specs.declared.config_events.CloseCause.TheVariants.{Removed, OtherKeys}
use Rattle.srt_log.specs.declared.config_events.ConfigEvent.{ConfigEvent}
use Rattle.srt_log.specs.declared.config_events.ConfigEvent.TheVariants as events
use Rattle.srt_log.specs.declared.events.LogEvent.TheVariants.{Config}
use Rattle.srt_log.specs.declared.line_limits.LineKind.TheVariants.{Session}
use Rattle.srt_status.specs.declared.gateway.ChangeCounts.{ChangeCounts}
use Rattle.srt_supervision.specs.declared.changes.ChangeFault.{ChangeFault}
use Rattle.srt_supervision.specs.declared.changes.ChangeFault.TheVariants.{OutOfMemory, NoIndexLeft}
use Rattle.srt_watch.specs.declared.in_force.NotTaken.{NotTaken}
use Rattle.srt_watch.specs.declared.in_force.NotTaken.TheVariants.{Unread, Wrong, NoMemory, KeysDiffer}
use Rattle.srt_watch.specs.declared.log.When.{When}
use Rattle.srt_watch.specs.declared.prepared_change.NoRoom.{NoRoom}
use Rattle.srt_watch.specs.declared.prepared_change.NoRoom.TheVariants.{Route, Lists}
use Rattle.srt_watch.specs.Census.{one_more}
use Rattle.srt_watch.specs.Indexes.{opens, next_after, reaches_mark, megabytes_of}
use Rattle.srt_watch.specs.Openings.{opening_name}
use Rattle.srt_watch.specs.declared.in_force.Wanted.{Wanted}
use Rattle.srt_watch.specs.declared.watched_routes.OpeningRoute.{OpeningRoute}
use Rattle.srt_watch.specs.Log.{LogCall, Always, Offered, Said, said, lent}

-- one change more that was made, or that wasn't
abbrev pub one_taken : ChangeCounts → ChangeCounts
one_taken counts = record counts { taken = one_more counts.taken }

abbrev pub one_refused : ChangeCounts → ChangeCounts
one_refused counts = record counts { refused = one_more counts.refused }

-- what is said of a configuration
abbrev pub config_said : ConfigEvent → Said
config_said event = said (Config event)

-- that there is no memory for what a configuration needs
abbrev pub no_memory_said : Said
no_memory_said = config_said (events.Wrong (lent (codes "out of memory")))

-- why the content of the file isn't taken; a file that can't be read isn't counted
abbrev pub not_taken_said : NotTaken → Said
not_taken_said (Unread why) = config_said (events.Unread (lent (inline_text why)))
not_taken_said (Wrong reason) = config_said (events.Wrong (lent (inline_text reason.text)))
not_taken_said (NoMemory want) = no_memory_said
not_taken_said (KeysDiffer keys) = config_said (events.KeysDiffer keys)

abbrev pub counted_not_taken : NotTaken → ChangeCounts → ChangeCounts
counted_not_taken (Unread why) counts = counts
counted_not_taken (Wrong reason) counts = one_refused counts
counted_not_taken (NoMemory want) counts = one_refused counts
counted_not_taken (KeysDiffer keys) counts = one_refused counts

-- that a configuration is held since the route of this name has sessions
abbrev pub held_said : (route : List ℕ) → Said
held_said route = config_said (events.Held (lent route))

-- for lack of memory: of the route of this name, or of lists
abbrev pub no_room_said : NoRoom → Said
no_room_said (Route name want) = config_said (events.NoMemory (lent (inline_text name)))
no_room_said (Lists want) = no_memory_said

-- why the run rejected a change by which these routes open
abbrev pub rejected_said : (opening : List OpeningRoute) → ChangeFault → Said
rejected_said opening (OutOfMemory place) = config_said (events.NoMemory (lent (opening_name (slice_get opening place))))
rejected_said opening (NoIndexLeft left) = config_said (events.NoIndexes (length opening) left)

-- the routes that close, of a configuration with these entries: first those whose names are gone, then those that open again
abbrev pub close_call : When → CloseCause → Option Terms → List LogCall
close_call when cause None = []
close_call when cause (Some terms) = Offered when Session (config_said (events.RouteCloses (lent terms.name) cause)) ∷ []

abbrev pub closing_call : When → CloseCause → List Entry → (place : ℕ) → List LogCall
closing_call when cause before place = close_call when cause (option_map terms_of (slice_get before place))

abbrev pub gone_calls : When → List Entry → (gone : List ℕ) → List LogCall
gone_calls when before gone = flat_map (closing_call when Removed before) gone

abbrev pub reopened_call : When → List Entry → RouteChange → List LogCall
reopened_call when before (Stays place) = []
reopened_call when before (Reopens place) = closing_call when OtherKeys before place
reopened_call when before Opens = []

abbrev pub reopened_calls : When → List Entry → List RouteChange → List LogCall
reopened_calls when before changes = flat_map (reopened_call when before) changes

-- a route that opens, with this index
abbrev pub open_call : When → RouteChange → Terms → (index : ℕ) → List LogCall
open_call when change terms index =
    if opens change then Offered when Session (config_said (events.RouteOpens (lent terms.name) index (megabytes_of terms))) ∷ [] else []

-- all routes that open, in the order of the configuration, which has these routes; the first one has this index
abbrev pub opens_calls : When → (index : ℕ) → List RouteChange → List Terms → List LogCall
opens_calls when index [] routes = []
opens_calls when index (change ∷ changes) [] = []
opens_calls when index (change ∷ changes) (terms ∷ routes) =
    open_call when change terms index ++ opens_calls when (next_after index change) changes routes

-- the routes that close and open by a change of a configuration with these entries
abbrev pub route_calls : When → List Entry → Wanted → (first : ℕ) → List LogCall
route_calls when before wanted first =
    gone_calls when before wanted.changes.gone.items ++ reopened_calls when before wanted.changes.routes.items
    ++ opens_calls when first wanted.changes.routes.items (map terms_of wanted.config.entries.items)

-- a change that was made, with these numbers of routes, and its routes
abbrev pub taken_calls : When → ChangeSummary → List Entry → Wanted → (first : ℕ) → List LogCall
taken_calls when numbers before wanted first = Always when (config_said (events.Taken numbers)) ∷ route_calls when before wanted first

-- when few indexes are left
abbrev pub few_calls : When → (before used : ℕ) → List LogCall
few_calls when before used = if reaches_mark before used then Always when (config_said (events.FewIndexes (511 - used))) ∷ [] else []
