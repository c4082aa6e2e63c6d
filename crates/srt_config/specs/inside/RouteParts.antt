-- The parts of a route, as plain values, and a route and routes read in two steps.
use Rattle.std.specs.Prelude.{ℕ, List, map, Result, Ok}
use Rattle.srt_config.specs.declared.config.keys.Key.TheVariants.{Expect}
use Rattle.srt_config.specs.Keys.{optional_flag_at, given_or_false}
use Rattle.toml.specs.Data.{Members}
use Rattle.srt_types.specs.declared.shared.Callers.{Callers as TheCallers}
use Rattle.srt_types.specs.declared.shared.Mode.{Mode as TheMode}
use Rattle.srt_types.specs.declared.shared.Schedule.{Schedule}
use Rattle.srt_types.specs.Terms.{terms_of}
use Rattle.srt_config.specs.declared.config.routes.ReadRoute.{ReadRoute}
use Rattle.srt_config.specs.declared.config.routes.ReadRoutes.{ReadRoutes}
use Rattle.srt_config.specs.Access.{access_at}
use Rattle.srt_config.specs.FirstFault.{Fault, ◌>>=◌}
use Rattle.srt_config.specs.Rules.{rules_at}
use Rattle.srt_config.specs.Encryption.{with_encryption, encryption_at}
use Rattle.srt_config.specs.Routes.{Numbers, terms_with, with_access, with_rules, Planned, planned, Routes}

abbrev pub route_seen : ReadRoute → Planned
route_seen route = planned (terms_of route.entry) route.schedule route.expected

abbrev pub routes_seen : ReadRoutes → Routes
routes_seen routes =
    record { terms = map terms_of routes.entries.items; schedules = routes.schedules.items; expected = routes.expected.items }

-- the route of this name, mode, numbers, schedule and callers: its lists and keys are read, then its rules, its encryption, and whether it is
-- expected to be on air
abbrev pub route_behind : (name : List ℕ) → TheMode → Numbers → Schedule → TheCallers → Members → Result Planned Fault
route_behind name mode numbers schedule callers table =
    access_at table >>= λ access.
    rules_at numbers.sessions callers table >>= λ rules.
    encryption_at table >>= λ encryption.
    optional_flag_at Expect table >>= λ expect.
    Ok
    (planned (with_rules rules (with_access (with_encryption encryption access) (terms_with name mode numbers))) schedule
    (given_or_false expect))
