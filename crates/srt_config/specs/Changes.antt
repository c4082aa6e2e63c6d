-- The changes that a configuration requests of a running gateway (our choice).
use Rattle.std.specs.Prelude.{ℕ, suc, ◌==◌, Bool, false, not, ◌&&◌, ◌||◌, List, [], ◌∷◌, ◌++◌, Option, None, Some, slice_get, if◌then◌else◌}
use Rattle.std.specs.Str.{bytes_eq}
use Rattle.srt_types.specs.declared.shared.Schedule.{Schedule}
use Rattle.srt_types.specs.Terms.{Terms}
use Rattle.srt_config.specs.declared.changes.Changes.{Changes}
use Rattle.srt_config.specs.declared.changes.FixedKeys.{FixedKeys}
use Rattle.srt_config.specs.declared.changes.RouteChange.{RouteChange}
use Rattle.srt_config.specs.declared.changes.RouteChange.TheVariants.{Stays, Reopens, Opens}
use Rattle.srt_config.specs.Address.{Address}
use Rattle.srt_config.specs.Config.{Settings}
use Rattle.srt_config.specs.SameKeys.{same_if, same_terms, same_schedule}

-- the place of the first route of this name, in a list whose first place has this number
abbrev pub place_from : (first : ℕ) → (name : List ℕ) → List Terms → Option ℕ
place_from first name [] = None
place_from first name (e ∷ routes) = if bytes_eq name e.name then Some first else place_from (suc first) name routes

-- the place of the route of this name, if there is one
abbrev pub place_of : (name : List ℕ) → List Terms → Option ℕ
place_of name routes = place_from 0 name routes

-- there is an entry, and it has these keys
abbrev pub has_terms : Terms → Option Terms → Bool
has_terms terms None = false
has_terms terms (Some before) = same_terms before terms

-- there is a schedule, and it has these rounds
abbrev pub has_schedule : Schedule → Option Schedule → Bool
has_schedule schedule None = false
has_schedule schedule (Some before) = same_schedule before schedule

-- the route at this place of a configuration has these keys
abbrev pub has_keys_at : (before : Settings) → (place : ℕ) → Terms → Schedule → Bool
has_keys_at before place terms schedule =
    has_terms terms (slice_get before.routes place) && has_schedule schedule (slice_get before.schedules place)

-- the change of a route, by the place that a route of its name had before
abbrev pub change_at : (before : Settings) → Terms → Schedule → Option ℕ → RouteChange
change_at before terms schedule None = Opens
change_at before terms schedule (Some place) = if has_keys_at before place terms schedule then Stays place else Reopens place

-- the change of a route of the changed configuration: it opens if no route had its name, stays if that route had the same keys, and
-- otherwise that one closes and it opens
unfoldable pub change_of : (before : Settings) → Terms → Schedule → RouteChange
change_of before terms schedule = change_at before terms schedule (place_of terms.name before.routes)

-- the same of these routes and their schedules, in their order
abbrev pub changes_of : (before : Settings) → List Terms → List Schedule → List RouteChange
changes_of before [] schedules = []
changes_of before (terms ∷ routes) [] = []
changes_of before (terms ∷ routes) (schedule ∷ schedules) = change_of before terms schedule ∷ changes_of before routes schedules

-- this place, if no route of the name of the route there was found
abbrev pub gone_at : (place : ℕ) → (found : Option ℕ) → List ℕ
gone_at place (Some other) = []
gone_at place None = place ∷ []

-- the places, from this one on, of those of these routes whose names no route of the changed configuration has
abbrev pub gone_from : (first : ℕ) → (after : List Terms) → List Terms → List ℕ
gone_from first after [] = []
gone_from first after (terms ∷ routes) = gone_at first (place_of terms.name after) ++ gone_from (suc first) after routes

abbrev pub same_address : Address → Address → Bool
same_address a b = bytes_eq a.ip b.ip && a.port == b.port

-- which keys differ that can't change while a gateway runs
abbrev pub fixed_keys : (before after : Settings) → FixedKeys
fixed_keys before after =
    record {
      secret = not (bytes_eq before.secret after.secret);
      bind = not (same_address before.bind after.bind);
      workers = not (before.workers == after.workers);
      status = not (same_if same_address before.status after.status);
    }

-- one of them differs
abbrev pub any_fixed : FixedKeys → Bool
any_fixed keys = keys.secret || keys.bind || keys.workers || keys.status

-- the changes that a configuration requests, as plain values
pub record Requested : Type 0 where
  pub fixed : FixedKeys
  pub routes : List RouteChange
  pub gone : List ℕ

abbrev pub requested_by : Changes → Requested
requested_by changes = record { fixed = changes.fixed; routes = changes.routes.items; gone = changes.gone.items }

abbrev pub requested : (before after : Settings) → Requested
requested before after =
    record {
      fixed = fixed_keys before after;
      routes = changes_of before after.routes after.schedules;
      gone = gone_from 0 after.routes before.routes;
    }
