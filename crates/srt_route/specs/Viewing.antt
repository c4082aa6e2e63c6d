-- Snapshots of a route's open sessions.
use Rattle.std.specs.Prelude.{◌≡◌, ℕ, Option, None, Some, List, find, ◌&&◌, ⊤}
use Rattle.srt_types.specs.declared.shared.Role.{Role}
use Rattle.srt_types.specs.declared.shared.Role.TheVariants.{Publish, Request}
use Rattle.srt_types.specs.Terms.{Terms}
use Rattle.srt_hs.specs.declared.writing.HsAnswer.{HsAnswer}
use Rattle.srt_hs.specs.declared.writing.AnswerKind.{AnswerKind}
use Rattle.srt_hs.specs.declared.writing.AnswerKind.TheVariants.{Conclusion as ConclusionAnswer}
use Rattle.srt_pub.specs.Viewing as publisher
use Rattle.srt_pub.specs.declared.session.Publisher.{Publisher}
use Rattle.srt_sub.specs.Viewing as subscriber
use Rattle.srt_sub.specs.declared.session.Subscriber.{Subscriber}
use Rattle.srt_route.specs.Past.{Past, Agreed, Publishes, Subscribes}
use Rattle.srt_route.specs.Sessions.{Session, is_active, is_draining, is_open_in, publishes, receiver_ms, sender_ms, session_id, terms_of}
use Rattle.srt_route.specs.Buffers.{IsSeated}
use Rattle.srt_route.specs.Tables.{IsTable}
use Rattle.srt_route.specs.declared.table.Table.{Table}
use Rattle.srt_route.specs.declared.view.SessionView.{SessionView}
use Rattle.srt_route.specs.declared.view.Traffic.{Traffic}
use Rattle.srt_route.specs.declared.view.Traffic.TheVariants.{Received, Sent}

-- the counts and the state of a session's buffers are those of its past
abbrev pub IsTraffic : Agreed → Past → Traffic → Type 0
IsTraffic terms (Publishes m) (Received x) = publisher.AreStatistics terms.publisher m x
IsTraffic terms (Subscribes m) (Sent x) = subscriber.AreStatistics terms.subscriber m x
IsTraffic terms (Publishes m) (Sent x) = ⊥
IsTraffic terms (Subscribes m) (Received x) = ⊥

-- the delay in the direction of the payloads: from the caller for a publisher, to it for a subscriber
abbrev pub delay_of : Role → (recv_ms send_ms : ℕ) → ℕ
delay_of Publish recv_ms send_ms = recv_ms
delay_of Request recv_ms send_ms = send_ms

-- the latency in the direction of this role's payloads, in milliseconds
abbrev pub latency_of : Role → Terms → Session → ℕ
latency_of role e s = delay_of role (receiver_ms e s.conclusion) (sender_ms e s.conclusion)

-- `v` is a snapshot of session `s`
pub record IsView (e : Terms) (index : ℕ) (sessions : List Session) (s : Session) (v : SessionView) : Type 0 where
  pub peer_is : v.peer ≡ s.peer
  pub caller_is : v.caller ≡ s.conclusion.caller
  pub id_is : v.id ≡ session_id index s
  pub role_is : v.role ≡ s.conclusion.role
  pub active_is : v.is_active ≡ (publishes s.conclusion.role && is_active sessions s)
  pub draining_is : v.is_draining ≡ is_draining s
  pub opened_is : v.opened ≡ s.opening
  pub heard_is : v.heard ≡ s.heard
  pub latency_is : v.latency_ms ≡ latency_of s.conclusion.role e s
  pub traffic_is : IsTraffic (terms_of e s) s.past v.traffic

abbrev pub Shows : (e : Terms) (index : ℕ) (sessions : List Session) → Option Session → Option SessionView → Type 0
Shows e index sessions None None = ⊤
Shows e index sessions (Some s) (Some v) = IsView e index sessions s v
Shows e index sessions None (Some v) = ⊥
Shows e index sessions (Some s) None = ⊥

-- `shown` is a snapshot of the open session of a slot, or None if none is open there
abbrev pub ShowsSession : (e : Terms) (index slot : ℕ) (sessions : List Session) → Option SessionView → Type 0
ShowsSession e index slot sessions shown = Shows e index sessions (find (is_open_in slot) sessions) shown

-- the same for all sessions that a table represents
abbrev pub ShowsSlot : (slot : ℕ) → Table → Option SessionView → Type 0
ShowsSlot slot table shown =
    (e : Terms) (index clock : ℕ) (sessions : List Session) → IsTable e index clock table sessions → ShowsSession e index slot sessions shown

-- these are the counts of the session that has these buffers and this role
abbrev pub TellsTraffic : Role → Publisher → Subscriber → Traffic → Type 0
TellsTraffic role p x traffic =
    (e : Terms) (clock : ℕ) (s : Session) → role ≡ s.conclusion.role → IsSeated e clock p x s → IsTraffic (terms_of e s) s.past traffic

-- the latency in an answer to a conclusion
abbrev pub latency_by : Role → AnswerKind → ℕ
latency_by role (ConclusionAnswer mtu window id mode recv_ms send_ms congestion) = delay_of role recv_ms send_ms
latency_by role _ = 0

abbrev pub latency_in : Role → HsAnswer → ℕ
latency_in role answer = latency_by role answer.what
