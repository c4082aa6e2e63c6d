-- Everything that a session sends over its calls: the payloads of its data packets, and their numbers.
use Rattle.std.specs.Prelude.{◌≡◌, ℕ, ◌+◌, ◌^◌, ◌<◌, ◌≤◌, ⊤, Bool, Option, None, Some, List, [], ◌∷◌, ◌++◌, All, length, slice_get}
use Rattle.srt_types.specs.Window.{number_word}
use Rattle.srt_sendbuf.specs.Sending.{Queued, front, sent_end}
use Rattle.srt_sub.specs.Heard.{Heard}
use Rattle.srt_sub.specs.Subscribing.{Terms, Subscribing, Report, Media, opened, expired, took, fed, answers, reports, reported, flow_window}
use Rattle.srt_sub.specs.Held.{held, released}
use Rattle.srt_sub.specs.Fresh.{IsFresh}
use Rattle.srt_sub.specs.Stands.{ForWhatever}
use Rattle.srt_sub.specs.Payloads.{HasPayload, IsBelow, IsStored}
use Rattle.srt_sub.specs.declared.session.Subscriber.{Subscriber}

-- a call of a session, at a time since its opening. Each drops the packets that are too late first
pub data SessionCall : Type 0 where
  -- `expire`
  Expire : (time : ℕ) → SessionCall
  -- `datagram` with a packet from the caller
  Hear : (time : ℕ) (heard : Heard) → SessionCall
  -- `feed` with a payload
  Feed : (time : ℕ) (payload : List ℕ) → SessionCall
  -- an event's end: `emit` until it returns false. With a bound, the session is held below it meanwhile: `hold`, `emit`
  -- until it returns false, and `release` with the result of `hold`
  End : (time : ℕ) (recent : Bool) (bound : Option ℕ) → SessionCall

-- the session at an event's end, held below the bound if there is one
abbrev pub bounded : Terms → (bound : Option ℕ) → Subscribing → Subscribing
bounded terms None s = s
bounded terms (Some bound) s = held terms bound s

-- the session after an event's end, before which it was `s`
abbrev pub unbounded : Terms → (bound : Option ℕ) → (s after : Subscribing) → Subscribing
unbounded terms None s after = after
unbounded terms (Some bound) s after = released (flow_window terms.window s.notes) after

-- the session after a call
abbrev pub called : Terms → SessionCall → Subscribing → Subscribing
called terms (Expire time) s = expired terms time s
called terms (Hear time heard) s = took time heard (expired terms time s)
called terms (Feed time payload) s = fed terms time payload (expired terms time s)
called terms (End time recent bound) s =
    unbounded terms bound (expired terms time s) (reported terms time recent (bounded terms bound (expired terms time s)))

-- the packets that a call sends
abbrev pub sent_by : Terms → SessionCall → Subscribing → List Report
sent_by terms (Expire time) s = []
sent_by terms (Hear time heard) s = answers heard
sent_by terms (Feed time payload) s = []
sent_by terms (End time recent bound) s = reports terms time recent (bounded terms bound (expired terms time s))

-- the session after these calls since its opening, newest first
abbrev pub all_called : Terms → List SessionCall → Subscribing
all_called terms [] = opened
all_called terms (call ∷ calls) = called terms call (all_called terms calls)

-- all packets that these calls sent
abbrev pub all_sent : Terms → List SessionCall → List Report
all_sent terms [] = []
all_sent terms (call ∷ calls) = sent_by terms call (all_called terms calls) ++ all_sent terms calls

-- one number, one payload. An event's end sends payloads that are stored then. A call only appends to the queue. So each
-- data packet that a session ever sent has the payload with its number in the queue; two with one number have the same
-- payload, and the time at which it was queued. Of 2^31 successive numbers no two have the same sequence number
pub record OnePayloadEach : Type 0 where
  pub stored : (terms : Terms) (time : ℕ) (recent : Bool) (s : Subscribing) → All (IsStored s.sending) (reports terms time recent s)
  pub appends : (terms : Terms) (call : SessionCall) (s : Subscribing) → (more : List Queued) × ((called terms call s).sending.queue ≡ s.sending.queue ++ more)
  pub carried : (terms : Terms) (calls : List SessionCall) → All (HasPayload (all_called terms calls).sending.queue) (all_sent terms calls)
  pub same : (terms : Terms) (calls : List SessionCall) (i j number origin later_origin : ℕ) (again later_again : Bool) (payload later_payload : List ℕ)
      → slice_get (all_sent terms calls) i ≡ Some (Media number again origin payload)
      → slice_get (all_sent terms calls) j ≡ Some (Media number later_again later_origin later_payload)
      → (later_payload ≡ payload) × (later_origin ≡ origin)
  pub numbers : (initial n k : ℕ) → n < k + 2 ^ 31 → k < n + 2 ^ 31 → number_word initial n ≡ number_word initial k → n ≡ k

-- each event's end was held, below this bound or a lower one
abbrev pub AreHeld : (bound : ℕ) → List SessionCall → Type 0
AreHeld bound [] = ⊤
AreHeld bound (Expire time ∷ calls) = AreHeld bound calls
AreHeld bound (Hear time heard ∷ calls) = AreHeld bound calls
AreHeld bound (Feed time payload ∷ calls) = AreHeld bound calls
AreHeld bound (End time recent None ∷ calls) = ⊥
AreHeld bound (End time recent (Some lower) ∷ calls) = (lower ≤ bound) × AreHeld bound calls

-- a session that is held sends nothing from the bound on: not for the first time, and if nothing was sent from there on
-- before, also not again. So as long as it is held below this bound or lower ones, it never sent such a payload. Holding
-- makes no packet too late. Fewer than 2^64 payloads were queued
pub record StaysBelow : Type 0 where
  pub sends : (terms : Terms) (time : ℕ) (recent : Bool) (bound : ℕ) (s : Subscribing) → length s.sending.queue < 2 ^ 64
      → sent_end s.sending.marks ≤ bound → All (IsBelow bound) (reports terms time recent (held terms bound s))
  pub stays : (terms : Terms) (time : ℕ) (recent : Bool) (bound : ℕ) (s : Subscribing) → length s.sending.queue < 2 ^ 64
      → sent_end s.sending.marks ≤ bound → sent_end (reported terms time recent (held terms bound s)).sending.marks ≤ bound
  pub ever : (terms : Terms) (bound : ℕ) (calls : List SessionCall) → length (all_called terms calls).sending.queue < 2 ^ 64
      → AreHeld bound calls → All (IsBelow bound) (all_sent terms calls)
  pub fresh : (terms : Terms) (time bound : ℕ) (s : Subscribing) → IsFresh terms time s → IsFresh terms time (held terms bound s)

-- in each session that a subscriber represents, the front is at most 8192 payloads before the end of what was queued
abbrev pub FrontIsNear : Type 0
FrontIsNear = (s : Subscriber) → ForWhatever s (λ terms initial opening caller last m. length m.sending.queue ≤ front m.sending + 8_192)
