-- The sessions that a route's buffers represent.
use Rattle.std.specs.Prelude.{◌≡◌, ℕ, ◌-◌, ◌≤◌, true, false, List, map}
use Rattle.srt_types.specs.declared.shared.Peer.{Peer}
use Rattle.srt_types.specs.Terms.{Terms}
use Rattle.srt_types.specs.Items.{Datagram}
use Rattle.srt_pub.specs.Stands as publisher
use Rattle.srt_pub.specs.declared.session.Publisher.{Publisher}
use Rattle.srt_sub.specs.Stands as subscriber
use Rattle.srt_sub.specs.Subscribing as subscribing
use Rattle.srt_sub.specs.declared.session.Subscriber.{Subscriber}
use Rattle.srt_route.specs.Past.{Past, Publishes, Subscribes}
use Rattle.srt_route.specs.Sessions.{Session, terms_of, publishes, time_in}

-- the publisher's buffers, or the subscriber's of the session's seat, represent its past at this clock; a subscriber
-- has already dropped what is too late by then
abbrev pub IsPast : Terms → (clock : ℕ) → Publisher → Subscriber → Session → Past → Type 0
IsPast e clock p x s (Publishes m) =
    (publishes s.conclusion.role ≡ true)
    × publisher.StandsFor (terms_of e s).publisher s.conclusion.initial s.opening s.stamp s.conclusion.caller p m
IsPast e clock p x s (Subscribes m) =
    (publishes s.conclusion.role ≡ false)
    × subscriber.StandsFor (terms_of e s).subscriber s.conclusion.initial s.opening s.conclusion.caller clock x m
    × (subscribing.expired (terms_of e s).subscriber (time_in s clock) m ≡ m)

pub record IsSeated (e : Terms) (clock : ℕ) (p : Publisher) (x : Subscriber) (s : Session) : Type 0 where
  pub past_is : IsPast e clock p x s s.past
  pub opened : s.opening ≤ clock

-- a subscriber's time has advanced to this clock: whatever past it represented, what is too late by then is dropped
abbrev pub ExpiresTo : (clock : ℕ) → (old new : Subscriber) → Type 0
ExpiresTo clock old new =
    (terms : subscribing.Terms) (initial opening caller last : ℕ) (m : subscribing.Subscribing)
    → subscriber.StandsFor terms initial opening caller last old m → last ≤ clock
    → subscriber.StandsFor terms initial opening caller clock new (subscribing.expired terms (clock - opening) m)

-- datagrams with these bytes to one peer
abbrev pub datagrams_to : Peer → List (List ℕ) → List Datagram
datagrams_to peer texts = map (λ bytes. record { peer = peer; bytes = bytes }) texts
