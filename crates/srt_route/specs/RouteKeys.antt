-- The keys of a route's sessions (section 3.2.2; what the draft leaves open is our choice).
use Rattle.std.specs.Prelude.{ℕ, Bool, true, false, Option, None, Some, option_map, List, Result, Ok, Err, length, nat_lt, slice_index}
use Rattle.std.specs.Prelude.{◌==◌, ◌||◌, if◌then◌else◌}
use Rattle.srt_types.specs.declared.shared.Role.{Role}
use Rattle.srt_types.specs.declared.shared.Role.TheVariants.{Publish, Request}
use Rattle.srt_types.specs.Access.{in_role, is_secured}
use Rattle.srt_types.specs.Terms.{Terms}
use Rattle.srt_types.specs.Words.{word_at}
use Rattle.srt_keys.specs.Pbkdf2.{kek}
use Rattle.srt_hs.specs.declared.key_message.KeyFault.{KeyFault}
use Rattle.srt_hs.specs.KeyMessage.{KeyMessage, message_in}
use Rattle.srt_hs.specs.KeyRequest.{Asked, nothing, one, several, key_request_in}
use Rattle.srt_session_keys.specs.Limiter.{Moments, Request as Derivation, is_admitted, moments_with, no_moments}
use Rattle.srt_session_keys.specs.Publisher.{Publisher, opened_by}
use Rattle.srt_session_keys.specs.Source.{Pool, Opening, first_pool, pool_with, source_with}
use Rattle.srt_session_keys.specs.Subscriber.{Subscriber}
use Rattle.srt_session_keys.specs.Wrapping.{StreamKeys, brings}
use Rattle.srt_route.specs.declared.slot_keys.KeyOpening.{KeyOpening}
use Rattle.srt_route.specs.declared.slot_keys.KeyVerdict.{KeyVerdict}
use Rattle.srt_route.specs.declared.slot_keys.KeyVerdict.TheVariants.{TooMany, WrongSecret, Opened}

-- the keys of a slot's session, with the contents of its conclusion's KMREQ block; none if its role isn't secured
pub data SlotKeys : Type 0 where
  Clear : SlotKeys
  OfPublisher : (request : List ℕ) (keys : Publisher) → SlotKeys
  OfSubscriber : (request : List ℕ) (keys : Subscriber) → SlotKeys

-- what a route has for its secured roles: the moments of the limit on key derivations, the pool of which it makes keys,
-- and each slot's keys
pub record RouteKeys : Type 0 where
  pub moments : Moments
  pub pool : Pool
  pub held : (slot : ℕ) → SlotKeys

abbrev pub first_keys : RouteKeys
first_keys = record { moments = no_moments; pool = first_pool; held = λ slot. Clear }

abbrev pub passphrase_of : Terms → Role → Option (List ℕ)
passphrase_of e role = (in_role e.access role).passphrase

-- whether sessions of a role are encrypted, and whether those of any role are
abbrev pub secures : Terms → Role → Bool
secures e role = is_secured (in_role e.access role)

abbrev pub has_secured_role : Terms → Bool
has_secured_role e = secures e Publish || secures e Request

-- the contents of a session's KMREQ block, which its answer repeats
abbrev pub request_of : SlotKeys → Option (List ℕ)
request_of Clear = None
request_of (OfPublisher request keys) = Some request
request_of (OfSubscriber request keys) = Some request

-- the keys of its own that a session has: only a subscriber's
abbrev pub own_keys : SlotKeys → Option Subscriber
own_keys Clear = None
own_keys (OfPublisher request keys) = None
own_keys (OfSubscriber request keys) = Some keys

-- the same of each slot's session; none if subscribers' sessions aren't encrypted
abbrev pub own_if : (secured : Bool) → (held : ℕ → SlotKeys) → (slot : ℕ) → Option Subscriber
own_if true held slot = own_keys (held slot)
own_if false held slot = None

abbrev pub own_in : Terms → RouteKeys → (slot : ℕ) → Option Subscriber
own_in e keys slot = own_if (secures e Request) keys.held slot

-- the keys that a conclusion brings: the contents of its only KMREQ block, and the message in it
pub record Brought : Type 0 where
  pub contents : List ℕ
  pub message : KeyMessage

abbrev pub brought_as : (contents : List ℕ) → Result KeyMessage KeyFault → Option Brought
brought_as contents (Ok message) = Some (record { contents = contents; message = message })
brought_as contents (Err fault) = None

abbrev pub brought_by : Asked → Option Brought
brought_by nothing = None
brought_by (one contents) = brought_as contents (message_in contents)
brought_by several = None

abbrev pub brought_in : (info : List ℕ) → Option Brought
brought_in info = brought_by (key_request_in info)

-- the cookie of a handshake (section 3.2.1); 0 if it is cut off
abbrev pub cookie_in : (info : List ℕ) → ℕ
cookie_in info = if nat_lt (length info) 32 then 0 else word_at info 28

-- the request for a derivation: the limit counts by the last byte of the address
abbrev pub derivation_of : KeyOpening → Derivation
derivation_of o = record { now = o.clock; last_byte = slice_index o.peer.ip 15 }

abbrev pub opening_of : KeyOpening → Opening
opening_of o = record { cookie = o.cookie; peer = o.peer }

-- the keys of a subscriber's session that opens with this key encrypting key
abbrev pub subscriber_of : (kek : List ℕ) → KeyMessage → KeyOpening → Pool → Subscriber
subscriber_of kek message o pool =
    record { source = source_with kek message.salt o.id (opening_of o) pool; confirmed = 0; announced = None }

abbrev pub subscriber_by : (brought : Option StreamKeys) → (kek contents : List ℕ) → KeyMessage → KeyOpening → Pool → Option SlotKeys
subscriber_by None kek contents message o pool = None
subscriber_by (Some brought) kek contents message o pool = Some (OfSubscriber contents (subscriber_of kek message o pool))

-- the keys of a session that opens, if those that it brings can be unwrapped
abbrev pub keys_opened : Role → (kek : List ℕ) → Brought → KeyOpening → Pool → Option SlotKeys
keys_opened Publish kek b o pool = option_map (λ p. OfPublisher b.contents p) (opened_by kek b.message.salt b.message)
keys_opened Request kek b o pool = subscriber_by (brings kek b.message) kek b.contents b.message o pool

-- the pool after the opening: only subscribers' keys are made of it
abbrev pub pool_opened : Role → KeyOpening → Pool → Pool
pool_opened Publish o pool = pool
pool_opened Request o pool = pool_with (opening_of o) pool

-- other keys in a slot
abbrev pub held_with : (slot : ℕ) → SlotKeys → (held : ℕ → SlotKeys) → ℕ → SlotKeys
held_with slot new held k = if k == slot then new else held k

abbrev pub with_slot : (slot : ℕ) → SlotKeys → RouteKeys → RouteKeys
with_slot slot new keys = record keys { held = held_with slot new keys.held }

-- the result of an opening: the verdict, and the route's keys after it
pub record KeysOpened : Type 0 where
  pub verdict : KeyVerdict
  pub keys : RouteKeys

abbrev pub opened_with : KeyOpening → RouteKeys → Option SlotKeys → KeysOpened
opened_with o keys None = record { verdict = WrongSecret; keys = keys }
opened_with o keys (Some new) =
    record {
      verdict = Opened;
      keys = record { moments = keys.moments; pool = pool_opened o.role o keys.pool; held = held_with o.slot new keys.held };
    }

-- the opening with a key that is derived now
abbrev pub derived_with : (kek : List ℕ) → Brought → KeyOpening → RouteKeys → KeysOpened
derived_with kek b o keys =
    opened_with o (record keys { moments = moments_with (derivation_of o) keys.moments }) (keys_opened o.role kek b o keys.pool)

abbrev pub kek_for : (passphrase : List ℕ) → KeyMessage → List ℕ
kek_for passphrase message = kek passphrase message.salt message.key_length

-- the opening of a session of a role with this passphrase: no key is derived beyond the limit
abbrev pub opening_if : (admitted : Bool) → (passphrase : List ℕ) → Brought → KeyOpening → RouteKeys → KeysOpened
opening_if true passphrase b o keys = derived_with (kek_for passphrase b.message) b o keys
opening_if false passphrase b o keys = record { verdict = TooMany; keys = keys }

abbrev pub opening : (passphrase : List ℕ) → Brought → KeyOpening → RouteKeys → KeysOpened
opening passphrase b o keys = opening_if (is_admitted keys.moments (derivation_of o)) passphrase b o keys
