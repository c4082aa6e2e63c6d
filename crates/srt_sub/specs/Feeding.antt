-- The effect of `feed` with a payload at the clock's time `now`, and of the too-late drop.
use Rattle.std.specs.Prelude.{◌≡◌, ℕ, ◌-◌, ◌<◌, ◌≤◌, Bool, false, List, length}
use Rattle.srt_types.specs.declared.shared.Mode.TheVariants.{Buffer}
use Rattle.srt_sendbuf.specs.Sending.{room}
use Rattle.srt_sub.specs.Subscribing.{Terms, Subscribing, expired, fed, fits}
use Rattle.srt_sub.specs.Stands.{StandsIn, StandsFor}
use Rattle.srt_sub.specs.declared.session.Subscriber.{Subscriber}

-- too-late packets were dropped and the payload was fed. It isn't empty, and in buffer mode there was room for it
abbrev pub IsFed : (now : ℕ) → (payload : List ℕ) → (before after : Subscriber) → Type 0
IsFed now payload before after =
    (terms : Terms) (initial opening caller last : ℕ) (m : Subscribing)
    → StandsFor terms initial opening caller last before m → last ≤ now
    → 0 < length payload → (terms.mode ≡ Buffer → 0 < room terms.width m.sending)
    → StandsFor terms initial opening caller now after (fed terms (now - opening) payload (expired terms (now - opening) m))

-- in buffer mode without room, the payload is refused, and only too-late packets are dropped
abbrev pub IsRefused : (now : ℕ) → (took : Bool) → (before after : Subscriber) → Type 0
IsRefused now took before after =
    (terms : Terms) (initial opening caller last : ℕ) (m : Subscribing)
    → StandsFor terms initial opening caller last before m → last ≤ now
    → terms.mode ≡ Buffer → room terms.width m.sending ≡ 0
    → (took ≡ false) × StandsFor terms initial opening caller now after (expired terms (now - opening) m)

-- the result states whether the payload is queued; in buffer mode there was room for it
abbrev pub TellsWhetherFed : (now : ℕ) → (payload : List ℕ) → (took : Bool) → (before : Subscriber) → Type 0
TellsWhetherFed now payload took before =
    (terms : Terms) (initial opening caller last : ℕ) (m : Subscribing)
    → StandsFor terms initial opening caller last before m → last ≤ now
    → (terms.mode ≡ Buffer → 0 < room terms.width m.sending)
    → took ≡ fits terms.mode terms payload (expired terms (now - opening) m).sending

-- the packets that are too late at the clock's time `now` were dropped, also between the packets of an event's end
abbrev pub DropsTooLate : (now : ℕ) → (before after : Subscriber) → Type 0
DropsTooLate now before after =
    (terms : Terms) (initial opening caller time given : ℕ) (m : Subscribing)
    → StandsIn terms initial opening caller time given before m → time ≤ now - opening
    → StandsIn terms initial opening caller (now - opening) given after (expired terms (now - opening) m)
