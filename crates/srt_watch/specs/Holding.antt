-- A changed configuration that would close a route with sessions: it is held for five seconds.
use Rattle.std.specs.Prelude.{◌≡◌, ℕ, Bool, true, false, List, [], ◌∷◌, Option, None, Some, if◌then◌else◌}
use Rattle.std.specs.List.{list_any}
use Rattle.srt_log.specs.declared.snapshots.RouteSnapshot.{RouteSnapshot}
use Rattle.srt_log.specs.declared.snapshots.SlotSession.{SlotSession}
use Rattle.srt_log.specs.declared.snapshots.SlotSession.TheVariants.{Open, Ended}
use Rattle.srt_config.specs.declared.config.Config.{Config}
use Rattle.srt_watch.specs.ChangeLines.{held_said}
use Rattle.srt_watch.specs.Configs.{IsConfigOf}
use Rattle.srt_watch.specs.Indexes.{index_at}
use Rattle.srt_watch.specs.Log.{LogCall, Always}
use Rattle.srt_watch.specs.Polls.{held, is_again}
use Rattle.srt_watch.specs.Routes.{place_of, route_at, name_of}
use Rattle.srt_watch.specs.WatchedFile.{is_other}
use Rattle.srt_watch.specs.declared.in_force.InForce.{InForce}
use Rattle.srt_watch.specs.declared.in_force.Wanted.{Wanted}
use Rattle.srt_watch.specs.declared.log.When.{When}
use Rattle.srt_watch.specs.declared.watched_file.Polling.{Polling}
use Rattle.srt_watch.specs.declared.watched_routes.WatchedRoute.{WatchedRoute}
use Rattle.srt_watch.specs.declared.watched_routes.WatchedRoutes.{WatchedRoutes}

-- a session is open in a slot; in a route, at its last snapshot
abbrev pub is_open : Option SlotSession → Bool
is_open None = false
is_open (Some (Open view)) = true
is_open (Some (Ended session)) = false

abbrev pub has_sessions : RouteSnapshot → Bool
has_sessions snapshot = list_any is_open snapshot.slots

abbrev pub is_used : Option WatchedRoute → Bool
is_used None = false
is_used (Some route) = has_sessions route.snapshot

-- the route with this index has sessions
abbrev pub is_used_at : WatchedRoutes → (index : ℕ) → Bool
is_used_at routes index = is_used (route_at routes.routes.items (place_of routes.routes.items index))

-- the index of the first of these routes that has sessions; `gone` are their places in the configuration in force
abbrev pub first_used : WatchedRoutes → (indexes gone : List ℕ) → Option ℕ
first_used routes indexes [] = None
first_used routes indexes (place ∷ gone) =
    if is_used_at routes (index_at indexes place) then Some (index_at indexes place) else first_used routes indexes gone

-- the route that a configuration waits for, if it does: one that it no longer has, and that has sessions
abbrev pub used_by : WatchedRoutes → InForce → Wanted → Option ℕ
used_by routes in_force wanted = first_used routes in_force.indexes.items wanted.changes.gone.items

-- none, if it was held for five seconds and its file is the same
abbrev pub waits_for : (was_held : Bool) → WatchedRoutes → InForce → Wanted → Option ℕ
waits_for was_held routes in_force wanted = if was_held then None else used_by routes in_force wanted

-- the file's polling after that, and the line
abbrev pub waiting : Option ℕ → Polling → (moment : ℕ) → Polling
waiting None p moment = p
waiting (Some index) p moment = held p moment

abbrev pub held_calls : When → WatchedRoutes → Option ℕ → List LogCall
held_calls when routes None = []
held_calls when routes (Some index) = Always when (held_said (name_of routes index)) ∷ []

-- A text was held, and its time is over: it is the same as the one that was kept.
pub record WasHeld (p : Polling) (moment : ℕ) (kept : Option (List ℕ)) (text : List ℕ) : Type 0 where
  pub is_over : is_again p moment ≡ true
  pub is_same : is_other kept text ≡ false

-- the same of a configuration
pub record IsHeldConfig (p : Polling) (moment : ℕ) (kept : Option (List ℕ)) (config : Config) : Type 0 where
  pub text : List ℕ
  pub config_is : IsConfigOf text config
  pub was_held : WasHeld p moment kept text

-- what a poll begins with: the file's polling, the time, the content that was kept, and the routes that are watched
pub record FileLook : Type 0 where
  pub polling : Polling
  pub moment : ℕ
  pub kept : Option (List ℕ)
  pub routes : WatchedRoutes

abbrev pub look_of : Polling → (moment : ℕ) → (kept : Option (List ℕ)) → WatchedRoutes → FileLook
look_of p moment kept routes = record { polling = p; moment = moment; kept = kept; routes = routes }

-- A configuration may be taken: it closes no route with sessions, or it was held, and its file is the same.
pub data MayBeTaken (look : FileLook) (in_force : InForce) (wanted : Wanted) : Type 0 where
  Unused : used_by look.routes in_force wanted ≡ None → MayBeTaken look in_force wanted
  Held : IsHeldConfig look.polling look.moment look.kept wanted.config → MayBeTaken look in_force wanted
