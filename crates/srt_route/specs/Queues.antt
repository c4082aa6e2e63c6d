-- The payloads that are queued for subscribers.
use Rattle.std.specs.Prelude.{◌≡◌, ◌⊎◌, ℕ, List, [], ◌∷◌, ◌++◌, map, ⊤}
use Rattle.srt_types.specs.Terms.{Terms}
use Rattle.srt_types.specs.Items.{Item}
use Rattle.srt_sendbuf.specs.Sending.{Queued}
use Rattle.srt_route.specs.Past.{Past, Publishes, Subscribes}
use Rattle.srt_route.specs.Sessions.{Session}
use Rattle.srt_route.specs.Route.{Route, after, clock_after, delivery, least_room, route_before, taken_by}

-- all payloads that were ever queued for a session; the number of each is its index
abbrev pub queue_in : Past → List Queued
queue_in (Publishes p) = []
queue_in (Subscribes m) = m.sending.queue

abbrev pub payload_in : Queued → List ℕ
payload_in q = q.payload

-- a list is a subsequence of another: some of its elements, in the same order
abbrev pub AreSome : (these those : List (List ℕ)) → Type 0
AreSome [] those = ⊤
AreSome (x ∷ these) [] = ⊥
AreSome (x ∷ these) (y ∷ those) = ((x ≡ y) × AreSome these those) ⊎ AreSome (x ∷ these) those

-- session `t` is a later state of `s`: its queue is that of `s` followed by some of the delivered payloads
pub record IsContinued (delivered : List (List ℕ)) (s t : Session) : Type 0 where
  pub slot_is : t.slot ≡ s.slot
  pub generation_is : t.generation ≡ s.generation
  pub added : List Queued
  pub queue_is : queue_in t.past ≡ queue_in s.past ++ added
  pub added_are : AreSome (map payload_in added) delivered

abbrev pub AreContinued : (delivered : List (List ℕ)) → (old new : List Session) → Type 0
AreContinued delivered [] [] = ⊤
AreContinued delivered (s ∷ old) (t ∷ new) = IsContinued delivered s t × AreContinued delivered old new
AreContinued delivered [] (t ∷ new) = ⊥
AreContinued delivered (s ∷ old) [] = ⊥

-- the sessions after an event: later states of those before it, preceded by one that opened
pub record HasOpened (delivered : List (List ℕ)) (old new : List Session) : Type 0 where
  pub opened : Session
  pub rest : List Session
  pub new_is : new ≡ opened ∷ rest
  pub rest_are : AreContinued delivered old rest

-- the payloads that the active publisher delivers in an event
abbrev pub delivery_by : Terms → (index : ℕ) → Item → Route → List (List ℕ)
delivery_by e index item m =
    let sessions = (taken_by e index item m).sessions in
    delivery e (clock_after item m) (least_room e sessions) sessions

-- whichever publisher is active, the queue of a subscriber continues with what it delivers: no number is omitted, and
-- none is used again
abbrev pub QueuesGoOn : Type 0
QueuesGoOn =
    (e : Terms) (index : ℕ) (items : List Item) (item : Item)
    → AreContinued (delivery_by e index item (route_before e index item items)) (after e index items).sessions (after e index (item ∷ items)).sessions
    ⊎ HasOpened (delivery_by e index item (route_before e index item items)) (after e index items).sessions (after e index (item ∷ items)).sessions
