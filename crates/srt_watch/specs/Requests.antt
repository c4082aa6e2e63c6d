-- What a changed configuration requests of the run, and the configuration in force.
use Rattle.std.specs.Prelude.{ℕ, zero, suc, List, [], ◌∷◌, ◌++◌, Option, None, Some, if◌then◌else◌}
use Rattle.srt_types.specs.Terms.{Terms}
use Rattle.srt_config.specs.declared.config.Config.{Config}
use Rattle.srt_config.specs.declared.changes.RouteChange.{RouteChange}
use Rattle.srt_watch.specs.declared.in_force.InForce.{InForce}
use Rattle.srt_watch.specs.Indexes.{opens}

-- a route, if it opens
abbrev pub opened_at : RouteChange → Terms → List Terms
opened_at change terms = if opens change then terms ∷ [] else []

-- the routes that open, in the order of the configuration, which has these routes
abbrev pub opened_by : List RouteChange → List Terms → List Terms
opened_by [] routes = []
opened_by (change ∷ changes) [] = []
opened_by (change ∷ changes) (terms ∷ routes) = opened_at change terms ++ opened_by changes routes

-- the indexes of the routes with which a run begins
unfoldable pub first_indexes : (routes : ℕ) → List ℕ
first_indexes zero = []
first_indexes (suc routes) = first_indexes routes ++ routes ∷ []

-- the configuration in force: the one that was taken last, or else the first one
abbrev pub later_or : (first : Config) → Option Config → Config
later_or first None = first
later_or first (Some config) = config

abbrev pub config_of : InForce → Config
config_of in_force = later_or in_force.first.now in_force.later
