-- Warnings beside the values of keys.
use Rattle.std.proofs.Common.{◌≡◌, ℕ, suc, Bool, not, ◌&&◌, List, [], ◌∷◌, ◌++◌, map, Option, None, Some, is_some, refl, ap, ◌∙◌}
use Rattle.toml.specs.Data.{Members}
use Rattle.srt_types.specs.Access.{AccessTerms}
use Rattle.srt_types.specs.Terms.{Terms}
use Rattle.srt_types.specs.declared.shared.Role.TheVariants.{Publish, Request}
use Rattle.srt_explain.specs.declared.warnings.Warning.{Warning}
use Rattle.srt_explain.specs.declared.warnings.Warning.TheVariants.{ExampleSecret, OpenKey, ShortPassphrase, SharedPassphrase, ClearPlayers}
use Rattle.srt_explain.specs.Warnings.{given, number_warnings, has_open_key, key_warnings, rule_warnings, default_admission, default_limits, route_table}
use Rattle.srt_explain.specs.Warnings.{route_warnings, routes_warnings, has_example_secret, status_warnings, with_key, with_role_key, with_keys}
use Rattle.srt_explain.specs.Warnings.{short_warnings, pair_warnings, AreAsLong, WarnsOfNoKey, WarnsOfNoPassphrase}

still_given : (key : List ℕ) (old : Option (List ℕ)) → is_some (with_key key old) ≡ is_some old
still_given key None = refl
still_given key (Some old) = refl

same_keys : (publish request : List ℕ) (route : ℕ) (access : AccessTerms) →
    key_warnings route (record access { publish = with_role_key publish access.publish; request = with_role_key request access.request })
    ≡ key_warnings route access
same_keys publish request route access =
    ap (λ (b : Bool). given (b && not (is_some access.publish.from)) (OpenKey route Publish)
    ++ given (has_open_key (with_role_key request access.request)) (OpenKey route Request)) (still_given publish access.publish.key)
    ∙ ap (λ (b : Bool). given (has_open_key access.publish) (OpenKey route Publish)
    ++ given (b && not (is_some access.request.from)) (OpenKey route Request)) (still_given request access.request.key)

same_route : (publish request : List ℕ) (route : ℕ) (table : Members) (t : Terms) →
    route_warnings route table (with_keys publish request t) ≡ route_warnings route table t
same_route publish request route table t =
    ap (λ (ks : List Warning). (((number_warnings route t ++ ((ks ++ short_warnings route t.access) ++ pair_warnings route t.access))
    ++ rule_warnings route t) ++ default_admission route table t) ++ default_limits route table t)
    (same_keys publish request route t.access)

same_routes : (publish request : List ℕ) (table : Members) (route : ℕ) (routes : List Terms) →
    routes_warnings table route (map (with_keys publish request) routes) ≡ routes_warnings table route routes
same_routes publish request table route [] = refl
same_routes publish request table route (t ∷ routes) =
    ap (λ (ws : List Warning). ws ++ routes_warnings table (suc route) (map (with_keys publish request) routes))
    (same_route publish request route (route_table table route) t)
    ∙ ap (λ (ws : List Warning). route_warnings route (route_table table route) t ++ ws) (same_routes publish request table (suc route) routes)

-- the warnings are the same whatever the keys are
pub warns_of_no_key : WarnsOfNoKey
warns_of_no_key table status routes publish request =
    ap (λ (ws : List Warning). given (has_example_secret table) ExampleSecret ++ status_warnings status ++ ws)
    (same_routes publish request table 1 routes)

-- the warnings tell of passphrases only that they are short or the same
pub warns_of_no_passphrase : WarnsOfNoPassphrase
warns_of_no_passphrase route one other h =
    λ i. (given (h.publish i) (ShortPassphrase route Publish) ++ given (h.request i) (ShortPassphrase route Request))
    ++ (given (h.same i) (SharedPassphrase route) ++ given (h.clear i) (ClearPlayers route))
