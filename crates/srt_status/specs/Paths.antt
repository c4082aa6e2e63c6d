-- The HTTP paths of the status page.
use Rattle.std.specs.Prelude.{ℕ, Bool, true, false, ◌==◌, ◌&&◌, nat_lt, List, [], ◌∷◌, length, take, drop, codes}
use Rattle.std.specs.Prelude.{Option, None, Some, if◌then◌else◌}
use Rattle.std.specs.Str.{bytes_eq}
use Rattle.srt_status.specs.declared.paths.Page.{Page}
use Rattle.srt_status.specs.declared.paths.Page.TheVariants as pages

-- what is left of a target is a query, or nothing
abbrev pub begins_query : (rest : List ℕ) → Bool
begins_query [] = true
begins_query (first ∷ rest) = first == 63

-- a target is this path, with or without a query
abbrev pub is_for : (path target : List ℕ) → Bool
is_for path target =
    if nat_lt (length target) (length path) then false
    else bytes_eq (take (length path) target) path && begins_query (drop (length path) target)

-- the page of a target
abbrev pub page_in : (target : List ℕ) → Option Page
page_in target =
    if is_for (codes "/") target then Some pages.Overview
    else (if is_for (codes "/status.json") target then Some pages.Json
    else (if is_for (codes "/metrics") target then Some pages.Metrics
    else (if is_for (codes "/events.json") target then Some pages.Events
    else (if is_for (codes "/history.json") target then Some pages.History
    else (if is_for (codes "/healthz") target then Some pages.Health else None)))))
