-- The ends of all routes, as they are opened.
use Rattle.std.specs.Prelude.{◌≡◌, ℕ, ◌<◌, List, [], length, map, slice_index_or}
use Rattle.srt_types.specs.Terms.{Terms}
use Rattle.srt_mailbox.specs.Cells.{CellIdentity}
use Rattle.srt_mailbox.specs.Ends.{Producer, producer, drained}
use Rattle.srt_poller.specs.declared.ends.Ends.{Ends}

-- the terms of these routes
abbrev pub terms_in : List CellIdentity → List Terms
terms_in routes = map (λ n. n.terms) routes

-- the clock's end of this route, through which nothing has passed
abbrev pub new_clock : CellIdentity → Producer
new_clock n = producer n.inbox n.terms.inbox []

abbrev pub new_clocks : List CellIdentity → List Producer
new_clocks routes = map (λ n. new_clock n) routes

-- The route has this index, and these are the poller's ends of its queues, through which nothing has passed
pub record IsOpened (index : ℕ) (n : CellIdentity) (ends : Ends) : Type 0 where
  pub index_is : n.index ≡ index
  pub ingress : ends.ingress ≡ producer n.inbox n.terms.inbox []
  pub drain : ends.drain ≡ drained n.outbox n.terms.outbox [] ends.drain.hand

-- so are those of all routes, in the order of their indexes
pub record AreOpened (routes : List CellIdentity) (ends : List Ends) : Type 0 where
  pub as_many : length ends ≡ length routes
  pub each : (r : ℕ) (n : CellIdentity) (e : Ends) → r < length routes → IsOpened r (slice_index_or routes r n) (slice_index_or ends r e)
