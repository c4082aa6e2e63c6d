-- The effect of the calls that send the packets of a subscriber's session with keys.
use Rattle.std.specs.Prelude.{◌≡◌, ℕ, ◌-◌, ◌^◌, ◌<◌, Bool, true, false, List, [], ◌∷◌, ◌++◌, length, map}
use Rattle.std.specs.Option.{is_some}
use Rattle.srt_types.specs.declared.shared.Peer.{Peer}
use Rattle.srt_packet.specs.Encryption.{encrypted}
use Rattle.srt_sub.specs.Stands as subscriber
use Rattle.srt_sub.specs.Subscribing as subscribing
use Rattle.srt_sub.specs.declared.payloads.Emitted.{Emitted}
use Rattle.srt_sub.specs.declared.payloads.Emitted.TheVariants as emitted
use Rattle.srt_sub.specs.declared.session.Subscriber.{Subscriber}
use Rattle.srt_session_keys.specs.Subscriber.{Subscriber as Keys, has_key}
use Rattle.srt_route.specs.declared.encrypted_transmit.KeyReceiver.{KeyReceiver}
use Rattle.srt_route.specs.declared.reply_queue.ReplyQueue.{ReplyQueue}
use Rattle.srt_route.specs.Buffers.{datagrams_to}
use Rattle.srt_route.specs.EncryptedOutput.{KeyedOutput, PacketKey, all_said_with, announcement_if, is_announced, keyed_text, keys_reported}
use Rattle.srt_route.specs.EncryptedOutput.{outputs_with}
use Rattle.srt_route.specs.EncryptedOutput.{payload_key, reported_with}
use Rattle.srt_route.specs.inside.Reports.{Queues}

-- these outputs were queued, in order
abbrev pub QueuesAll : Peer → (before after : ReplyQueue) → List KeyedOutput → Type 0
QueuesAll peer before after outputs = Queues before after (datagrams_to peer (map keyed_text outputs))

-- the bytes of a packet under a key, if that is stored
abbrev pub encrypted_if : (stored : Bool) → PacketKey → (bytes : List ℕ) → List (List ℕ)
encrypted_if true key bytes = encrypted key.field key.key key.salt bytes ∷ []
encrypted_if false key bytes = []

-- a packet of an event's end that has these bytes in clear
abbrev pub emitted_texts : Keys → Emitted → (bytes : List ℕ) → List (List ℕ)
emitted_texts keys emitted.DropRequest bytes = bytes ∷ []
emitted_texts keys (emitted.Data payload) bytes = encrypted_if (has_key keys payload) (payload_key keys payload) bytes
emitted_texts keys emitted.KeepAlive bytes = bytes ∷ []

-- what is sent before it, and what is pending after it: a drop request is sent first
abbrev pub texts_before : Emitted → (pending : List (List ℕ)) → List (List ℕ)
texts_before emitted.DropRequest pending = []
texts_before (emitted.Data payload) pending = pending
texts_before emitted.KeepAlive pending = pending

abbrev pub pending_after : Emitted → (pending : Bool) → Bool
pending_after emitted.DropRequest pending = pending
pending_after (emitted.Data payload) pending = false
pending_after emitted.KeepAlive pending = false

-- a KMREQ that is to be sent is there
abbrev pub IsMade : (pending : Bool) → Keys → Type 0
IsMade pending keys = pending ≡ true → is_some keys.announced ≡ true

-- a packet of an event's end was queued with these keys
abbrev pub QueuesEmitted : KeyReceiver → Emitted → (bytes : List ℕ) → (pending : Bool) → Keys → (before after : ReplyQueue) → Type 0
QueuesEmitted to kind bytes pending keys before after =
    IsMade pending keys
    → Queues before after
    (datagrams_to to.peer (texts_before kind (map keyed_text (announcement_if pending keys to.caller to.time)) ++ emitted_texts keys kind bytes))

-- the packets of an event's end were queued with these keys
pub record IsEmittedWith (to : KeyReceiver) (pending : Bool) (keys : Keys) (new : Subscriber) (before after : ReplyQueue) (terms : subscribing.Terms)
    (initial opening caller : ℕ) (m : subscribing.Subscribing) : Type 0 where
  pub stands : subscriber.StandsFor terms initial opening caller to.clock new (subscribing.reported terms (to.clock - opening) to.recent m)
  pub said : QueuesAll to.peer before after
      (all_said_with keys caller initial (to.clock - opening) (announcement_if pending keys to.caller to.time)
      (subscribing.reports terms (to.clock - opening) to.recent m))

-- the same of whatever session the subscriber represented, if fewer than 2^64 payloads were queued
abbrev pub EmitsAllWith : KeyReceiver → (pending : Bool) → Keys → (old new : Subscriber) → (before after : ReplyQueue) → Type 0
EmitsAllWith to pending keys old new before after =
    (terms : subscribing.Terms) (initial opening caller : ℕ) (m : subscribing.Subscribing)
    → subscriber.StandsFor terms initial opening caller to.clock old m → subscribing.expired terms (to.clock - opening) m ≡ m
    → length m.sending.queue < 2 ^ 64 → IsMade pending keys
    → IsEmittedWith to pending keys new before after terms initial opening caller m

-- the KMREQ of the next key of a subscriber's session that ends was queued, if it was due
pub record IsAnnouncedWith (to : KeyReceiver) (earlier later : Keys) (before after : ReplyQueue) (m : subscribing.Subscribing) : Type 0 where
  pub keys_are : later ≡ keys_reported to.time m earlier
  pub said : QueuesAll to.peer before after
      (announcement_if (is_announced earlier to.time m) (keys_reported to.time m earlier) to.caller to.time)

abbrev pub AnnouncesWith : KeyReceiver → (earlier later : Keys) → Subscriber → (before after : ReplyQueue) → Type 0
AnnouncesWith to earlier later x before after =
    (terms : subscribing.Terms) (initial opening : ℕ) (m : subscribing.Subscribing)
    → subscriber.StandsFor terms initial opening to.caller to.clock x m → IsAnnouncedWith to earlier later before after m

-- a subscriber's session with keys is at the end of an event
pub record IsReportedWith (to : KeyReceiver) (earlier later : Keys) (new : Subscriber) (before after : ReplyQueue) (terms : subscribing.Terms)
    (initial opening caller : ℕ) (m : subscribing.Subscribing) : Type 0 where
  pub keys_are : later ≡ keys_reported to.time m earlier
  pub stands : subscriber.StandsFor terms initial opening caller to.clock new (reported_with earlier terms to.time to.recent m)
  pub said : QueuesAll to.peer before after (outputs_with earlier terms caller initial to.time to.recent m)

abbrev pub ReportsWith : KeyReceiver → (earlier later : Keys) → (old new : Subscriber) → (before after : ReplyQueue) → Type 0
ReportsWith to earlier later old new before after =
    (terms : subscribing.Terms) (initial opening : ℕ) (m : subscribing.Subscribing)
    → subscriber.StandsFor terms initial opening to.caller to.clock old m → subscribing.expired terms (to.clock - opening) m ≡ m
    → to.time ≡ to.clock - opening
    → IsReportedWith to earlier later new before after terms initial opening to.caller m
