-- The active one of a route's publishers, whatever its items are.
use Rattle.std.specs.Prelude.{◌≡◌, ℕ, Bool, true, false, Some, List, ◌∷◌, length, map, filter, find, ◌==◌, ◌&&◌, if◌then◌else◌}
use Rattle.srt_types.specs.Terms.{Terms}
use Rattle.srt_types.specs.Items.{Item}
use Rattle.srt_route.specs.Sessions.{Session, active, aged, is_active, is_open_in, is_publisher, marked, open_publishers, standby, takes_over}
use Rattle.srt_route.specs.Route.{after, clock_after, passed_by, route_before}

-- whether an open session is the active publisher's
abbrev pub is_active_publisher : List Session → Session → Bool
is_active_publisher sessions s = is_publisher s && is_active sessions s

abbrev pub OneIsActiveAmong : List Session → Type 0
OneIsActiveAmong sessions = length (filter (is_active_publisher sessions) sessions) ≡ (if open_publishers sessions == 0 then 0 else 1)

-- after every item exactly one of the open publishers is active, if any is open
abbrev pub OneIsActive : Type 0
OneIsActive = (e : Terms) (index : ℕ) (items : List Item) → OneIsActiveAmong (after e index items).sessions

-- while an event delivers exactly one of the open publishers is active, if any is open
abbrev pub OneDelivers : Type 0
OneDelivers = (e : Terms) (index : ℕ) (items : List Item) (item : Item) → OneIsActiveAmong (passed_by e index item (route_before e index item items))

-- as time advances the active publisher stays active while its session is open
abbrev pub StaysActive : Type 0
StaysActive =
    (e : Terms) (clock : ℕ) (sessions : List Session) (s : Session)
    → active sessions ≡ Some s → (aged e clock s).is_open ≡ true → active (map (aged e clock) sessions) ≡ Some (aged e clock s)

-- a take-over makes the standby active
abbrev pub StandbyLeads : Type 0
StandbyLeads =
    (sessions : List Session) (t : Session)
    → standby sessions ≡ Some t → active (map (marked sessions) sessions) ≡ Some (marked sessions t)

-- a publisher that opens while one is active becomes the standby
abbrev pub OpensBehind : Type 0
OpensBehind =
    (s t : Session) (sessions : List Session) → s.took_over ≡ false → active sessions ≡ Some t → active (s ∷ sessions) ≡ Some t

-- over a whole event the active publisher stays active while its session is open, if no take-over is due; a session is
-- identified by its slot and its generation
abbrev pub ActiveGoesOn : Type 0
ActiveGoesOn =
    (e : Terms) (index : ℕ) (items : List Item) (item : Item) (s t : Session)
    → active (after e index items).sessions ≡ Some s
    → (let clock = clock_after item (after e index items) in takes_over e clock (map (aged e clock) (route_before e index item items).sessions)) ≡ false
    → (after e index items).is_closed ≡ false
    → find (is_open_in s.slot) (after e index (item ∷ items)).sessions ≡ Some t → t.generation ≡ s.generation
    → active (after e index (item ∷ items)).sessions ≡ Some t
