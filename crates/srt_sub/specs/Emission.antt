-- The packets of an event's end, one by one.
use Rattle.std.specs.Prelude.{◌≡◌, ℕ, ◌-◌, ◌≤◌, Bool, Option, List, [], ◌∷◌}
use Rattle.srt_packet.specs.Encoded.{bytes_of}
use Rattle.srt_packet.specs.declared.encoded.EncodedPacket.{EncodedPacket}
use Rattle.srt_sub.specs.Subscribing.{Terms, Note, Report, Subscribing, most, expired, prepared, resends, reports_of, sent_of, reports, reported}
use Rattle.srt_sub.specs.Says.{says}
use Rattle.srt_sub.specs.declared.session.Phase.TheVariants.{Lost, New}
use Rattle.srt_sub.specs.declared.session.Phase.{Phase}
use Rattle.srt_sub.specs.Stands.{StandsIn, StandsFor}
use Rattle.srt_sub.specs.declared.session.Subscriber.{Subscriber}

-- the maximum number of lost packets that the rest of an event may send, with this many places for data packets
abbrev pub resends_in : Phase → Option ℕ → (places : ℕ) → List Note → ℕ
resends_in New percent places notes = 0
resends_in Lost percent places notes = resends percent places notes

-- after `given` data packets of an event, in this phase, the reports `left` remain. Sending them one by one ends the
-- event with the same result as sending all at once; `m` is the session before the first of them, and `recent` states
-- whether a packet from the caller was received less than a second ago
pub record IsLeft (terms : Terms) (time : ℕ) (recent : Bool) (given : ℕ) (phase : Phase) (middle m : Subscribing) (left : List Report) : Type 0 where
  pub few : given ≤ most
  pub left_is : reports_of (most - given) (resends_in phase terms.resend_percent (most - given) (prepared terms time recent middle).notes) terms time
      (prepared terms time recent middle)
      ≡ left
  pub end_is : sent_of (most - given) (resends_in phase terms.resend_percent (most - given) (prepared terms time recent middle).notes) terms time
      (prepared terms time recent middle)
      ≡ reported terms time recent (expired terms time m)

-- the session is writing the packets of an event's end, at a time since its opening; the reports `left` remain
pub record EmittingAt (terms : Terms) (initial opening caller time : ℕ) (recent : Bool) (s : Subscriber) (m : Subscribing) (left : List Report) : Type 0 where
  pub given : ℕ
  pub middle : Subscribing
  pub stands : StandsIn terms initial opening caller time given s middle
  pub left_is : IsLeft terms time recent given s.phase (expired terms time middle) m left

-- the same at the clock's time `now`
abbrev pub Emitting : (terms : Terms) (initial opening caller now : ℕ) → (recent : Bool) → Subscriber → Subscribing → (left : List Report) → Type 0
Emitting terms initial opening caller now recent s m left = EmittingAt terms initial opening caller (now - opening) recent s m left

-- a packet is the first of the remaining reports, and the others remain after it
pub record IsNextAt (terms : Terms) (initial opening caller time : ℕ) (recent : Bool) (p : EncodedPacket) (s : Subscriber) (m : Subscribing)
    (left : List Report) : Type 0 where
  pub report : Report
  pub rest : List Report
  pub left_is : left ≡ report ∷ rest
  pub text_is : bytes_of p ≡ says caller initial time report
  pub goes_on : EmittingAt terms initial opening caller time recent s m rest

-- the same at the clock's time `now`
abbrev pub IsNext : (terms : Terms) (initial opening caller now : ℕ) → (recent : Bool) → EncodedPacket → Subscriber → Subscribing → (left : List Report)
    → Type 0
IsNext terms initial opening caller now recent p s m left = IsNextAt terms initial opening caller (now - opening) recent p s m left

-- no report remains, and the event is complete
pub record IsOverAt (terms : Terms) (initial opening caller time : ℕ) (recent : Bool) (s : Subscriber) (m : Subscribing) (left : List Report) : Type 0 where
  pub left_is : left ≡ []
  pub stands : StandsIn terms initial opening caller time 0 s (reported terms time recent (expired terms time m))

-- a call wrote the first of the remaining reports, after too-late packets were dropped
abbrev pub WritesNextAt : (time : ℕ) → (recent : Bool) → (before after : Subscriber) → EncodedPacket → Type 0
WritesNextAt time recent before after p =
    (terms : Terms) (initial opening caller given : ℕ) (middle m : Subscribing) (left : List Report)
    → StandsIn terms initial opening caller time given before (expired terms time middle)
    → IsLeft terms time recent given before.phase (expired terms time middle) m left
    → IsNextAt terms initial opening caller time recent p after m left

-- a call found no remaining report, and completed the event
abbrev pub EndsAt : (time : ℕ) → (recent : Bool) → (before after : Subscriber) → Type 0
EndsAt time recent before after =
    (terms : Terms) (initial opening caller given : ℕ) (middle m : Subscribing) (left : List Report)
    → StandsIn terms initial opening caller time given before (expired terms time middle)
    → IsLeft terms time recent given before.phase (expired terms time middle) m left
    → IsOverAt terms initial opening caller time recent after m left

-- a call at the clock's time `now` wrote the first of the remaining reports
abbrev pub WritesNext : (now : ℕ) → (recent : Bool) → (before after : Subscriber) → EncodedPacket → Type 0
WritesNext now recent before after p =
    (terms : Terms) (initial opening caller : ℕ) (m : Subscribing) (left : List Report)
    → Emitting terms initial opening caller now recent before m left
    → IsNext terms initial opening caller now recent p after m left

-- a call at the clock's time `now` found no remaining report, and all are sent
abbrev pub Ends : (now : ℕ) → (recent : Bool) → (before after : Subscriber) → Type 0
Ends now recent before after =
    (terms : Terms) (initial opening caller : ℕ) (m : Subscribing) (left : List Report)
    → Emitting terms initial opening caller now recent before m left
    → (left ≡ []) × StandsFor terms initial opening caller now after (reported terms (now - opening) recent (expired terms (now - opening) m))

-- at the beginning of an event's end, all its reports remain
abbrev pub EmissionBegins : Type 0
EmissionBegins =
    (terms : Terms) (initial opening caller last now : ℕ) (recent : Bool) (s : Subscriber) (m : Subscribing)
    → StandsFor terms initial opening caller last s m → last ≤ now
    → Emitting terms initial opening caller now recent s m (reports terms (now - opening) recent (expired terms (now - opening) m))

-- a session that represents a record at one time represents it at later times
abbrev pub StandsLater : Type 0
StandsLater =
    (terms : Terms) (initial opening caller last later : ℕ) (s : Subscriber) (m : Subscribing)
    → StandsFor terms initial opening caller last s m → last ≤ later
    → StandsFor terms initial opening caller later s m
