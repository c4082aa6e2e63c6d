-- The indexes that routes have in a run, and what a changed configuration does to them.
use Rattle.std.specs.Prelude.{ℕ, ◌+◌, ◌-◌, ◌*◌, ◌/◌, ◌^◌, ◌==◌, min, Bool, true, false, ◌&&◌, nat_lt, List, [], ◌∷◌, ◌++◌, map, length, Option, None, Some}
use Rattle.std.specs.Prelude.{slice_get, if◌then◌else◌}
use Rattle.std.specs.List.{flat_map}
use Rattle.srt_types.specs.Terms.{Terms}
use Rattle.srt_config.specs.declared.changes.RouteChange.{RouteChange}
use Rattle.srt_config.specs.declared.changes.RouteChange.TheVariants.{Stays, Reopens, Opens}
use Rattle.srt_log.specs.declared.config_events.ChangeSummary.{ChangeSummary}
use Rattle.srt_watch.specs.Census.{one_more}

-- the index of the route at a place; every place that is asked for is one of a route
abbrev pub or_zero : Option ℕ → ℕ
or_zero None = 0
or_zero (Some n) = n

abbrev pub index_at : (indexes : List ℕ) → (place : ℕ) → ℕ
index_at indexes place = or_zero (slice_get indexes place)

-- the index of a route that closes and opens again
abbrev pub reopened_at : (indexes : List ℕ) → RouteChange → List ℕ
reopened_at indexes (Stays place) = []
reopened_at indexes (Reopens place) = index_at indexes place ∷ []
reopened_at indexes Opens = []

-- the indexes of the routes that close: first of those whose names are gone, then of those that open again
unfoldable pub closing : (indexes gone : List ℕ) → List RouteChange → List ℕ
closing indexes gone changes = map (index_at indexes) gone ++ flat_map (reopened_at indexes) changes

-- a route opens
abbrev pub opens : RouteChange → Bool
opens (Stays place) = false
opens (Reopens place) = true
opens Opens = true

-- the index of a route, and the one that is to be given next behind it
abbrev pub index_of : (before : List ℕ) → (next : ℕ) → RouteChange → ℕ
index_of before next (Stays place) = index_at before place
index_of before next (Reopens place) = next
index_of before next Opens = next

abbrev pub next_after : (next : ℕ) → RouteChange → ℕ
next_after next change = if opens change then one_more next else next

-- the index of each of these routes, in their order
abbrev pub indexes_from : (before : List ℕ) → (next : ℕ) → List RouteChange → List ℕ
indexes_from before next [] = []
indexes_from before next (change ∷ changes) = index_of before next change ∷ indexes_from before (next_after next change) changes

-- how many routes of each kind there are
abbrev pub counted : ChangeSummary → RouteChange → ChangeSummary
counted n (Stays place) = record n { staying = one_more n.staying }
counted n (Reopens place) = record n { changing = one_more n.changing }
counted n Opens = record n { opening = one_more n.opening }

abbrev pub counted_all : ChangeSummary → List RouteChange → ChangeSummary
counted_all n [] = n
counted_all n (change ∷ changes) = counted_all (counted n change) changes

abbrev pub numbers_of : (gone : List ℕ) → List RouteChange → ChangeSummary
numbers_of gone changes = counted_all (record { staying = 0; opening = 0; closing = length gone; changing = 0 }) changes

-- no route opens or closes
abbrev pub changes_nothing : ChangeSummary → Bool
changes_nothing n = (n.opening == 0) && (n.closing == 0) && (n.changing == 0)

-- how many marks so many used indexes have reached: the 400th, and each 25th after it
abbrev pub mark_of : (used : ℕ) → ℕ
mark_of used = if nat_lt used 400 then 0 else 1 + (used - 400) / 25

abbrev pub reaches_mark : (before after : ℕ) → Bool
reaches_mark before after = nat_lt (mark_of before) (mark_of after)

-- the memory of a route: 1,536 bytes for each packet of its windows, for each reply and for each place of its outbox
abbrev pub at_most : ℕ → ℕ
at_most n = min n (2 ^ 64 - 1)

abbrev pub packets_of : Terms → ℕ
packets_of e = at_most (at_most (at_most ((e.sessions + 2) * e.buffer) + 66 * e.sessions) + e.outbox)

abbrev pub megabytes_of : Terms → ℕ
megabytes_of e = at_most (at_most (packets_of e * 1536) + 524288) / 1048576
