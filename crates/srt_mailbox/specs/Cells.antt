-- The identity of a cell's route, and of the two queues that it is between.
use Rattle.std.specs.Prelude.{◌≡◌, ℕ}
use Rattle.atomic_table.specs.Seated.{TableId}
use Rattle.srt_types.specs.Terms.{Terms}
use Rattle.srt_mailbox.specs.Ends.{Producer, Drained}
use Rattle.srt_mailbox.specs.Runs.{Run}

-- the route's terms and index, and its two queues; fixed when the cell is made
pub record CellIdentity : Type 0 where
  pub terms : Terms
  pub index : ℕ
  pub inbox : TableId
  pub outbox : TableId

abbrev pub identity_of : Terms → (index : ℕ) → (inbox outbox : TableId) → CellIdentity
identity_of e r i o = record { terms = e; index = r; inbox = i; outbox = o }

-- the route is the one with this identity, at the same queues
abbrev pub Bears : CellIdentity → Run → Type 0
Bears n r = (r.terms ≡ n.terms) × (r.index ≡ n.index) × (r.inbox.queue ≡ n.inbox) × (r.outbox.queue ≡ n.outbox)

-- the ends belong to the queues of this identity
abbrev pub AreEndsOf : CellIdentity → Producer → Producer → Drained → Type 0
AreEndsOf n ingress clock drain = (ingress.queue ≡ n.inbox) × (clock.queue ≡ n.inbox) × (drain.queue ≡ n.outbox)
