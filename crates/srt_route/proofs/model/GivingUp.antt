-- Sessions that are given up: nothing but their mark changes.
use Rattle.std.proofs.Common.{◌≡◌, ℕ, Bool, true, false, not, ◌&&◌, Option, List, map, refl, ap, ◌∙◌}
use Rattle.srt_types.specs.declared.shared.Role.TheVariants.{Request}
use Rattle.srt_types.specs.Terms.{Terms}
use Rattle.srt_session_keys.specs.Subscriber.{Subscriber as Keys}
use Rattle.srt_route.specs.GivingUp.{given_up, given_up_at, given_up_if, is_late}
use Rattle.srt_route.specs.RouteKeys.{own_in, secures}
use Rattle.srt_route.specs.Route.{Route, giving_up}
use Rattle.srt_route.specs.Sessions.{Session, is_draining, is_publisher}
use Rattle.srt_route.specs.Tables.{AreAlone}
use Rattle.srt_route.proofs.model.Lists.{Each, each_mapped}
use Rattle.srt_route.proofs.model.Found.{Keeps, alone_kept}

slot_of : (b : Bool) (s : Session) → (given_up_at b s).slot ≡ s.slot
slot_of true s = refl
slot_of false s = refl

generation_of : (b : Bool) (s : Session) → (given_up_at b s).generation ≡ s.generation
generation_of true s = refl
generation_of false s = refl

peer_of : (b : Bool) (s : Session) → (given_up_at b s).peer ≡ s.peer
peer_of true s = refl
peer_of false s = refl

conclusion_of : (b : Bool) (s : Session) → (given_up_at b s).conclusion ≡ s.conclusion
conclusion_of true s = refl
conclusion_of false s = refl

opens_of : (b : Bool) (s : Session) → (given_up_at b s).is_open ≡ true → s.is_open ≡ true
opens_of true s h = h
opens_of false s h = h

drains_of : (b : Bool) (s : Session) → is_draining (given_up_at b s) ≡ false → is_draining s ≡ false
drains_of true s h = h
drains_of false s h = h

mark_of : (b : Bool) (s : Session) → (given_up_at b s).took_over ≡ s.took_over
mark_of true s = refl
mark_of false s = refl

role_of : (b : Bool) (s : Session) → is_publisher (given_up_at b s) ≡ is_publisher s
role_of true s = refl
role_of false s = refl

pub gives_up : (own : ℕ → Option Keys) (clock : ℕ) → Keeps (given_up own clock)
gives_up own clock =
    record {
      slot = λ s. slot_of (is_late (own s.slot) clock s) s;
      peer = λ s. peer_of (is_late (own s.slot) clock s) s;
      conclusion = λ s. conclusion_of (is_late (own s.slot) clock s) s;
      opens_none = λ s. opens_of (is_late (own s.slot) clock s) s;
      drains_on = λ s. drains_of (is_late (own s.slot) clock s) s;
    }

pub gives_up_marks : (own : ℕ → Option Keys) (clock : ℕ) (s : Session) → (given_up own clock s).took_over ≡ s.took_over
gives_up_marks own clock s = mark_of (is_late (own s.slot) clock s) s

pub gives_up_publishers : (own : ℕ → Option Keys) (clock : ℕ) (s : Session) → is_publisher (given_up own clock s) ≡ is_publisher s
gives_up_publishers own clock s = role_of (is_late (own s.slot) clock s) s

pub gives_up_generations : (own : ℕ → Option Keys) (clock : ℕ) (s : Session) → (given_up own clock s).generation ≡ s.generation
gives_up_generations own clock s = generation_of (is_late (own s.slot) clock s) s

-- what holds of the sessions of a route before an item
pub each_before : (P : Session → Type 0) → ((b : Bool) (s : Session) → P s → P (given_up_at b s)) → (e : Terms) (clock : ℕ) (m : Route)
    → Each P m.sessions → Each P (giving_up e clock m).sessions
each_before P keeps e clock m h = by (secures e Request && not m.is_closed)
  where
    by : (b : Bool) → Each P (given_up_if b (own_in e m.keys) clock m.sessions)
    by true = each_mapped P P (given_up (own_in e m.keys) clock) (λ s k. keeps (is_late (own_in e m.keys s.slot) clock s) s k) m.sessions h
    by false = h

pub all_before : (P : List Session → Type 0) → ((own : ℕ → Option Keys) (clock : ℕ) (ss : List Session) → P ss → P (map (given_up own clock) ss))
    → (e : Terms) (clock : ℕ) (m : Route) → P m.sessions → P (giving_up e clock m).sessions
all_before P keeps e clock m h = by (secures e Request && not m.is_closed)
  where
    by : (b : Bool) → P (given_up_if b (own_in e m.keys) clock m.sessions)
    by true = keeps (own_in e m.keys) clock m.sessions h
    by false = h

pub alone_before : (e : Terms) (clock : ℕ) (m : Route) → AreAlone e.sessions m.sessions → AreAlone e.sessions (giving_up e clock m).sessions
alone_before e clock m alone =
    all_before (AreAlone e.sessions) (λ own t ss h. alone_kept (given_up own t) (gives_up own t) e.sessions ss h) e clock m alone

-- nothing changes once the route was closed
pub closed_before : (e : Terms) (clock : ℕ) (m : Route) → m.is_closed ≡ true → (giving_up e clock m).sessions ≡ m.sessions
closed_before e clock m h =
    ap (λ (b : Bool). given_up_if (secures e Request && not b) (own_in e m.keys) clock m.sessions) h ∙ by (secures e Request)
  where
    by : (b : Bool) → given_up_if (b && false) (own_in e m.keys) clock m.sessions ≡ m.sessions
    by true = refl
    by false = refl
