-- The unused ends of a route in a seat.
use Rattle.std.specs.Prelude.{◌≡◌, []}
use Rattle.srt_mailbox.specs.Ends.{Producer, producer, Drained, drained}
use Rattle.srt_mailbox.specs.Cells.{CellIdentity}

-- the poller's ends of the route with this identity, unused
abbrev pub IsNewPoller : CellIdentity → Producer → Drained → Type 0
IsNewPoller n ingress drain =
    (ingress ≡ producer n.inbox n.terms.inbox []) × (drain ≡ drained n.outbox n.terms.outbox [] drain.hand)

-- the clock's end of the route with this identity, unused
abbrev pub IsNewClock : CellIdentity → Producer → Type 0
IsNewClock n clock = clock ≡ producer n.inbox n.terms.inbox []
