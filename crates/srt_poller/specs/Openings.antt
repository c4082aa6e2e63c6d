-- What openings report of the added routes, and of those that are to close.
use Rattle.std.specs.Prelude.{ℕ, Option, None, Some, List, [], ◌∷◌, map}
use Rattle.srt_lobby.specs.Names.{RouteName, new_name}
use Rattle.srt_mailbox.specs.Ends.{Producer, Pipe, pipe}
use Rattle.srt_poller.specs.declared.ends.Ends.{Ends}
use Rattle.srt_poller.specs.declared.openings.AddedRoute.{AddedRoute}
use Rattle.srt_poller.specs.Devices.{joined}

-- an added route: its name, and the poller's ends of its queues
pub record NewRoute : Type 0 where
  pub name : RouteName
  pub ends : Ends

abbrev pub new_route : AddedRoute → NewRoute
new_route n = record { name = new_name n.name; ends = n.ends }

-- what is reported of it: all but the reply that its end of the outbox has at hand. The outbox is reported as the end that put what was drained
pub record ReportedRoute : Type 0 where
  pub name : RouteName
  pub ingress : Producer
  pub outbox : Pipe

abbrev pub reported_route : NewRoute → ReportedRoute
reported_route n =
    record {
      name = n.name;
      ingress = n.ends.ingress;
      outbox = pipe n.ends.drain.queue n.ends.drain.capacity n.ends.drain.through;
    }

-- the route that is added next, if one is
abbrev pub additions : Option AddedRoute → List NewRoute
additions None = []
additions (Some n) = new_route n ∷ []

-- the route that is to close next, if one is
abbrev pub closings : Option ℕ → List ℕ
closings None = []
closings (Some route) = route ∷ []

abbrev pub names_in : List NewRoute → List RouteName
names_in added = map (λ n. n.name) added

abbrev pub ends_in : List NewRoute → List Ends
ends_in added = map (λ n. n.ends) added

-- what openings have reported: the added routes, and those that were requested to close
pub record RouteReports : Type 0 where
  pub added : Option (List ReportedRoute)
  pub requested : Option (List ℕ)

abbrev pub route_reports : Option (List ReportedRoute) → Option (List ℕ) → RouteReports
route_reports added requested = record { added = added; requested = requested }

-- the same, after these were added and these were requested to close
abbrev pub route_reports_more : RouteReports → (added : List NewRoute) → (requested : List ℕ) → RouteReports
route_reports_more n added requested = route_reports (joined n.added (map reported_route added)) (joined n.requested requested)

-- what openings report that return nothing
abbrev pub no_reports : RouteReports
no_reports = route_reports (Some []) (Some [])
