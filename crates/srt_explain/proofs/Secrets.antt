-- The texts of warnings beside the values of secrets and keys.
use Rattle.std.proofs.Common.{◌≡◌, ℕ, suc, ◌-◌, ◌&&◌, nat_lt, List, [], ◌∷◌, ◌++◌, map, Option, None, Some, refl, ap, sym, ◌∙◌, slice_get}
use Rattle.std.specs.Prelude.{option_map}
use Rattle.std.proofs.lemmas.Option.{slice_get-map}
use Rattle.toml.specs.Data.{Members}
use Rattle.srt_types.specs.Terms.{Terms}
use Rattle.srt_config.specs.declared.config.address.BindAddress.{BindAddress}
use Rattle.srt_config.specs.declared.config.keys.Key.{Key}
use Rattle.srt_config.specs.declared.config.keys.Key.TheVariants.{Callers, Reserved, TakeoverMs, ResendPercent}
use Rattle.srt_explain.specs.declared.warnings.Warning.{Warning}
use Rattle.srt_explain.specs.declared.warnings.Warning.TheVariants.{ExampleSecret, NoCallers, NoTakeover, NoResendLimit}
use Rattle.srt_explain.specs.Warnings.{given, value_warnings, lacks, reserved_warning, if_live, route_warnings, routes_warnings, route_table}
use Rattle.srt_explain.specs.Warnings.{status_warnings, warnings_of, route_of, name_if, name_for, with_keys}
use Rattle.srt_explain.specs.Grouping.{grouped}
use Rattle.srt_explain.specs.Texts.{warning_line, line_for, AreAlike, TellsNoSecret}
use Rattle.srt_explain.proofs.KeyValues.{warns_of_no_key}

-- the warnings about a route depend on which keys its table lacks
same_route : (route : ℕ) (table other : Members) (t : Terms) → ((key : Key) → lacks key table ≡ lacks key other)
    → route_warnings route table t ≡ route_warnings route other t
same_route route table other t h =
    λ i. (value_warnings route t ++ (given (h Callers i) (NoCallers route) ++ given (h Reserved i && nat_lt 2 t.sessions) (reserved_warning route t)))
    ++ (given (if_live t.mode (h TakeoverMs i)) (NoTakeover route) ++ given (h ResendPercent i) (NoResendLimit route))

same_routes : (table other : Members) → ((route : ℕ) (key : Key) → lacks key (route_table table route) ≡ lacks key (route_table other route))
    → (route : ℕ) (routes : List Terms) → routes_warnings table route routes ≡ routes_warnings other route routes
same_routes table other h route [] = refl
same_routes table other h route (t ∷ routes) =
    λ i. same_route route (route_table table route) (route_table other route) t (h route) i ++ same_routes table other h (suc route) routes i

same_tables : (table other : Members) (status : Option BindAddress) (routes : List Terms) → AreAlike table other
    → warnings_of table status routes ≡ warnings_of other status routes
same_tables table other status routes h =
    λ i. (given (h.example i) ExampleSecret ++ status_warnings status) ++ same_routes table other h.keys 1 routes i

-- a route keeps its name
same_name : (publish request : List ℕ) (terms : Option Terms) → name_if terms ≡ name_if (option_map (with_keys publish request) terms)
same_name publish request None = refl
same_name publish request (Some terms) = refl

same_names : (publish request : List ℕ) (routes : List Terms) (route : Option ℕ)
    → name_for route routes ≡ name_for route (map (with_keys publish request) routes)
same_names publish request routes None = refl
same_names publish request routes (Some number) =
    same_name publish request (slice_get routes (number - 1)) ∙ ap name_if (sym (slice_get-map (with_keys publish request) routes (number - 1)))

pub tells_no_secret : TellsNoSecret
tells_no_secret table other status routes publish request alike =
    (λ i. map (λ (w : Warning). warning_line w (same_names publish request routes (route_of w) i)) (grouped (warnings_of table status routes)))
    ∙ ap (λ (ws : List Warning). map (line_for (map (with_keys publish request) routes)) (grouped ws))
    (same_tables table other status routes alike ∙ sym (warns_of_no_key other status routes publish request))
