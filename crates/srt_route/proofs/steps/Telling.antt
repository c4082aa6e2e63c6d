-- The SHUTDOWNs to sessions whose peers are idle.
use Rattle.std.proofs.Common.{◌≡◌, ℕ, ◌+◌, ◌<◌, ◌||◌, Bool, true, false, Option, None, Some, List, [], map, find, not, refl, ap, ◌∙◌}
use Rattle.std.proofs.lemmas.Bool.{and_parts}
use Rattle.srt_types.specs.declared.shared.Callers.{Callers}
use Rattle.srt_types.specs.declared.shared.Callers.TheVariants.{Draft, Libsrt}
use Rattle.srt_types.specs.Terms.{Terms}
use Rattle.srt_pub.specs.declared.session.Publisher.{Publisher}
use Rattle.srt_route.specs.declared.replies.Reply.{Reply}
use Rattle.srt_route.specs.declared.seat.Session.{Session as TheSession}
use Rattle.srt_route.specs.declared.seat.Seat.{Seat}
use Rattle.srt_route.specs.Sessions.{Session, is_idle, is_open_in, is_over_at, is_silent_at, publishes}
use Rattle.srt_route.specs.Route.{Reply as Answer, sent, notified_if}
use Rattle.srt_route.specs.Parts.{is_given_up, role_of, until_of}
use Rattle.srt_route.specs.Tables.{IsSeat, IsSession, IsStored, is_kept_subscriber, is_stored_over, peer_idle}
use Rattle.srt_route.specs.Seats.{session_passes}
use Rattle.srt_route.specs.inside.OneSession.{shutdowns_if}
use Rattle.srt_route.specs.inside.Reports.{AreSaid}
use Rattle.srt_route.proofs.model.Ending.{notified_alike}
use Rattle.srt_route.proofs.steps.Aging.{not_true}
use Rattle.srt_route.proofs.steps.Saying.{same_said}
use Rattle.srt_route.proofs.steps.Slots.{IsSaying, said_of, saying_more}

-- the SHUTDOWN to one session
abbrev pub notified_one : Terms → (clock : ℕ) → Session → List Answer
notified_one e clock s = notified_if e.rules.callers (is_idle s clock) clock s

-- a stored session's peer is idle exactly if its session's is
idle_is : (e : Terms) (index clock : ℕ) (t : TheSession) (s : Session) → IsSession e index t s → peer_idle clock t ≡ is_idle s clock
idle_is e index clock t s is =
    ap (λ (b : Bool). b || is_silent_at (until_of t.part) t.heard clock) is.given_up_is
    ∙ ap (λ (d : Option ℕ). s.is_given_up || is_silent_at d t.heard clock) is.drains_is
    ∙ ap (λ (n : ℕ). s.is_given_up || is_silent_at s.drains n clock) is.heard_is

-- a session that hasn't expired isn't idle
not_silent : (drains : Option ℕ) (heard clock : ℕ) → is_over_at drains heard clock ≡ false → is_silent_at drains heard clock ≡ false
not_silent None heard clock h = h
not_silent (Some until) heard clock h = refl

not_idle : (late : Bool) (drains : Option ℕ) (heard clock : ℕ) → (late || is_over_at drains heard clock) ≡ false
    → (late || is_silent_at drains heard clock) ≡ false
not_idle true drains heard clock h = absurd (let bad : true ≡ false = h in cc)
not_idle false drains heard clock h = not_silent drains heard clock h

-- a seat is sent what its slot is sent
seat_notified : (e : Terms) (index clock : ℕ) (o : Option TheSession) (g : Option Session) → IsStored e index o g
    → shutdowns_if e.rules.callers (session_passes (peer_idle clock) o) clock o ≡ map sent (said_of (notified_one e clock) g)
seat_notified e index clock None None is = none_notified e.rules.callers
  where
    none_notified : (c : Callers) → shutdowns_if c false clock None ≡ []
    none_notified Draft = refl
    none_notified Libsrt = refl
seat_notified e index clock None (Some s) is = absurd is
seat_notified e index clock (Some t) None is = absurd is
seat_notified e index clock (Some t) (Some s) is =
    notified_alike e index clock e.rules.callers (peer_idle clock t) t s is
    ∙ ap (λ (b : Bool). map sent (notified_if e.rules.callers b clock s)) (idle_is e index clock t s is)

-- one more slot
pub idle_slot : (e : Terms) (index earlier clock : ℕ) (p : Publisher) (ss : List Session) (at : ℕ) (x : Seat) (callers : Callers)
    (before now then_ : List Reply) (places more most : ℕ)
    → at < e.sessions → IsSeat e index earlier at p x ss → callers ≡ e.rules.callers
    → AreSaid now then_ more most (shutdowns_if callers (session_passes (peer_idle clock) x.session) clock x.session)
    → IsSaying (notified_one e clock) e at ss before now places more
    → IsSaying (notified_one e clock) e (at + 1) ss before then_ places most
idle_slot e index earlier clock p ss at x callers before now then_ places more most below is same says h =
    saying_more (notified_one e clock) e ss at before now then_ places more most below
    (same_said
    (ap (λ (c : Callers). shutdowns_if c (session_passes (peer_idle clock) x.session) clock x.session) same
    ∙ seat_notified e index clock x.session (find (is_open_in at) ss) is.session_is)
    says)
    h

-- a subscriber's session that hasn't expired is sent nothing
pub kept_unnotified : (clock : ℕ) (callers : Callers) (o : Option TheSession) → session_passes (is_kept_subscriber clock) o ≡ true
    → shutdowns_if callers (session_passes (peer_idle clock) o) clock o ≡ []
kept_unnotified clock callers None kept = absurd (let bad : false ≡ true = kept in cc)
kept_unnotified clock callers (Some t) kept =
    ap (λ (b : Bool). shutdowns_if callers b clock (Some t))
    (not_idle (is_given_up t.part) (until_of t.part) t.heard clock
    (not_true (is_stored_over clock t) (and_parts (not (is_stored_over clock t)) (not (publishes (role_of t.part))) kept).0))
    ∙ by callers
  where
    by : (c : Callers) → shutdowns_if c false clock (Some t) ≡ []
    by Draft = refl
    by Libsrt = refl
