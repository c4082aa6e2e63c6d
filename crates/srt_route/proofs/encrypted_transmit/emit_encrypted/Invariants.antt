use Rattle.std.proofs.Common.{◌≡◌, ℕ, ◌-◌, ◌^◌, ◌<◌, length}
use Rattle.srt_route.specs.Waits.{replies_of, places_of}
use Rattle.srt_session_keys.specs.Subscriber.{subscriber_of}
use Rattle.srt_sub.specs.Subscribing as subscribing
use Rattle.srt_sub.specs.Stands as subscribers
use Rattle.srt_route.specs.inside.Encrypting.{IsMade}
use Rattle.srt_route.proofs.steps.Encrypting.{IsEncrypting}
use Rattle.srt_route.proofs.encrypted_transmit.emit_encrypted.Given as goal

-- as many packets were written as steps were made, and the others remain
abbrev pub invariant-loop-turn : goal.invariant-loop-turn
invariant-loop-turn l =
    (terms : subscribing.Terms) (initial opening caller : ℕ) (m : subscribing.Subscribing)
    → subscribers.StandsFor terms initial opening caller l.to.clock l.fn.subscriber m → subscribing.expired terms (l.to.clock - opening) m ≡ m
    → length m.sending.queue < 2 ^ 64 → IsMade l.pending (subscriber_of l.keys)
    → IsEncrypting l.to l.pending l.left (subscriber_of l.keys) terms initial opening caller l.subscriber m (replies_of l.fn.waiting)
    (replies_of l.waiting) (places_of l.fn.waiting) (places_of l.waiting) l.turn
