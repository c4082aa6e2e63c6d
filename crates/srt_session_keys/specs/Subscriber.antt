-- The keys of a subscriber's session: which are announced, confirmed and used (our choice). Payloads and keys count from 0; key j
-- is that of the payloads from 2^24 j on. Times are in microseconds.
use Rattle.std.specs.Prelude.{◌≡◌, ◌<◌, ◌≤◌, ℕ, ◌+◌, ◌/◌, ◌%◌, ◌^◌, Bool, true, false, nat_le, nat_lt, if◌then◌else◌}
use Rattle.std.specs.Prelude.{List, replicate, Option, Some, None, is_some}
use Rattle.std.specs.Str.{bytes_eq}
use Rattle.srt_aes.specs.Keys.{IsErased}
use Rattle.srt_session_keys.specs.Wrapping.{WrappingKeyIsErased}
use Rattle.srt_session_keys.specs.Source.{Source, source_of, own_message}
use Rattle.srt_session_keys.specs.Announced.{made_with, is_repeated, announced_at}
use Rattle.srt_session_keys.specs.declared.announcement.Announcement.{Announcement}
use Rattle.srt_session_keys.specs.declared.subscriber.SubscriberKeys.{SubscriberKeys}

-- what the keys are made of; how many are confirmed: those below; and when the next one was sent, if it was
pub record Subscriber : Type 0 where
  pub source : Source
  pub confirmed : ℕ
  pub announced : Option Announcement

abbrev pub subscriber_of : SubscriberKeys → Subscriber
subscriber_of s = record { source = source_of s.source; confirmed = s.confirmed; announced = s.announced }

-- the key of a payload
abbrev pub index_of : (payload : ℕ) → ℕ
index_of payload = payload / 2 ^ 24

abbrev pub made : Subscriber → ℕ
made s = made_with s.confirmed s.announced

-- the next key is to be announced: 65,536 payloads before it is needed, and again each 50 ms until it is confirmed
abbrev pub is_due : Subscriber → (queued now : ℕ) → Bool
is_due s queued now = if nat_le s.confirmed ((queued + 65_536) / 2 ^ 24) then is_repeated now s.announced else false

-- the session after an announcement
abbrev pub with_announcement : (now : ℕ) → Subscriber → Subscriber
with_announcement now s = record { source = s.source; confirmed = s.confirmed; announced = Some (announced_at now s.announced) }

-- these bytes confirm the announced key: they are its message
abbrev pub confirms : (contents : List ℕ) → Subscriber → Bool
confirms contents s = if is_some s.announced then bytes_eq contents (own_message s.source s.confirmed) else false

-- the session after contents of a KMRSP
abbrev pub with_response : (contents : List ℕ) → Subscriber → Subscriber
with_response contents s =
    if confirms contents s then record { source = s.source; confirmed = s.confirmed + 1; announced = None } else s

-- a payload may be sent: its key is confirmed
abbrev pub may_send : Subscriber → (payload : ℕ) → Bool
may_send s payload = nat_lt (index_of payload) s.confirmed

-- the key of a payload is stored: it is one of the last two that were made
abbrev pub has_key : Subscriber → (payload : ℕ) → Bool
has_key s payload = if nat_lt (index_of payload) (made s) then nat_le (made s) (index_of payload + 2) else false

-- a payload with a stored key can be encrypted
abbrev pub StoredKeysAreUsed : Type 0
StoredKeysAreUsed =
    (s : Subscriber) (payload : ℕ) → has_key s payload ≡ true → (index_of payload < made s) × (made s ≤ index_of payload + 2)

-- the sequence number of a payload's packet, in a session whose first packet has this number
abbrev pub number_of : (first payload : ℕ) → ℕ
number_of first payload = (first + payload) % 2 ^ 31

-- two payloads of a session with the same number have keys of different indexes
abbrev pub NumbersAreDistinct : Type 0
NumbersAreDistinct =
    (first one other : ℕ) → number_of first one ≡ number_of first other → index_of one ≡ index_of other → one ≡ other

-- while one of the next 65,536 payloads may not be sent, the next key is due or was announced
abbrev pub IsAnnouncedBefore : Type 0
IsAnnouncedBefore =
    (s : Subscriber) (queued now payload : ℕ) → payload ≤ queued + 65_536 → may_send s payload ≡ false →
    is_due s queued now ≡ false → is_some s.announced ≡ true

-- no key was made before it was due
abbrev pub IsAhead : Subscriber → (queued : ℕ) → Type 0
IsAhead s queued = made s ≤ (queued + 65_536) / 2 ^ 24 + 1

-- that holds in each session at all times
pub record StaysAhead : Type 0 where
  pub opened : (source : Source) (queued : ℕ) → IsAhead (record { source = source; confirmed = 0; announced = None }) queued
  pub announced : (s : Subscriber) (queued now : ℕ) → IsAhead s queued → is_due s queued now ≡ true → IsAhead (with_announcement now s) queued
  pub response : (s : Subscriber) (queued : ℕ) (contents : List ℕ) → IsAhead s queued → IsAhead (with_response contents s) queued
  pub queued : (s : Subscriber) (queued later : ℕ) → queued ≤ later → IsAhead s queued → IsAhead s later

-- so a payload that may be sent, of the last 8192 that were queued, has a key that is one of the last two that were made
abbrev pub WindowHasItsKeys : Type 0
WindowHasItsKeys =
    (s : Subscriber) (queued payload : ℕ) → IsAhead s queued → queued ≤ payload + 8192 → may_send s payload ≡ true →
    (index_of payload < made s) × (made s ≤ index_of payload + 2)

-- and is found to be stored
abbrev pub WindowIsEncrypted : Type 0
WindowIsEncrypted =
    (s : Subscriber) (queued payload : ℕ) → IsAhead s queued → queued ≤ payload + 8192 → may_send s payload ≡ true → has_key s payload ≡ true

-- no byte of what the session's keys are made of, of a key or of the message is left: there are no keys, and what stores them is
-- zeros
pub record SubscriberIsErased (s : SubscriberKeys) : Type 0 where
  pub kek : WrappingKeyIsErased s.source.kek
  pub session : s.source.session ≡ 0
  pub count : s.source.count ≡ 0
  pub hash : s.source.hash ≡ replicate 32 0
  pub even : IsErased s.even
  pub odd : IsErased s.odd
  pub message : s.message ≡ replicate 104 0
  pub confirmed : s.confirmed ≡ 0
  pub announced : s.announced ≡ None
