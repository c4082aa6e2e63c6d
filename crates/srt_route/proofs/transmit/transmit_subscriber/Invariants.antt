use Rattle.std.proofs.Common.{◌≡◌, ℕ, ◌-◌}
use Rattle.srt_route.specs.Waits.{replies_of, places_of}
use Rattle.srt_sub.specs.Subscribing as subscribing
use Rattle.srt_sub.specs.Stands as subscribers
use Rattle.srt_route.proofs.steps.Saying.{IsTelling}
use Rattle.srt_route.proofs.transmit.transmit_subscriber.Given as goal

-- as many packets were queued as steps were made, and the others remain
abbrev pub invariant-loop-turn : goal.invariant-loop-turn
invariant-loop-turn l =
    (terms : subscribing.Terms) (initial opening caller : ℕ) (m : subscribing.Subscribing)
    → subscribers.StandsFor terms initial opening caller l.clock l.fn.subscriber m → subscribing.expired terms (l.clock - opening) m ≡ m
    → IsTelling terms initial opening caller l.clock l.recent l.peer l.subscriber m (replies_of l.fn.waiting) (replies_of l.waiting)
    (places_of l.fn.waiting) (places_of l.waiting) l.turn
