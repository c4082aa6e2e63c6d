-- The keys of a publisher's session, and key material messages that arrive during the session (section 6.1; the answers to
-- faulty ones are our choice).
use Rattle.std.specs.Prelude.{◌≡◌, ℕ, ◌+◌, ◌-◌, ◌^◌, ◌==◌, min, List, [], ◌∷◌, length, Option, Some, None, option_map, is_some}
use Rattle.std.specs.Prelude.{if◌then◌else◌, Result, Ok, Err}
use Rattle.srt_aes.specs.Counter.{counter_mode}
use Rattle.srt_aes.specs.Keys.{key_of, IsErased}
use Rattle.srt_packet.specs.Grammar.{Body, Data, Packet}
use Rattle.srt_hs.specs.KeyMessage.{KeyMessage}
use Rattle.srt_hs.specs.declared.key_message.KeyFault.{KeyFault}
use Rattle.srt_hs.specs.declared.key_message.SentKeys.TheVariants.{Even, Odd}
use Rattle.srt_session_keys.specs.Wrapping.{StreamKeys, kek_of, salt_of, fits, brings, WrappingKeyIsErased}
use Rattle.srt_session_keys.specs.declared.slot.KeySlot.{KeySlot}
use Rattle.srt_session_keys.specs.declared.publisher.KeyAnswer.{KeyAnswer}
use Rattle.srt_session_keys.specs.declared.publisher.KeyAnswer.TheVariants.{Taken, NoSecret, BadSecret}
use Rattle.srt_session_keys.specs.declared.publisher.PublisherKeys.{PublisherKeys}

-- the key that a slot holds
abbrev pub slot_key : KeySlot → Option (List ℕ)
slot_key slot = if slot.is_held then Some (key_of slot.keys) else None

-- what a publisher's session has: the key that wraps, the salt, and the keys that were brought
pub record Publisher : Type 0 where
  pub kek : List ℕ
  pub salt : List ℕ
  pub keys : StreamKeys

-- of values of the code
abbrev pub keys_of : (even odd : KeySlot) → StreamKeys
keys_of even odd = record { even = slot_key even; odd = slot_key odd }

abbrev pub publisher_of : PublisherKeys → Publisher
publisher_of p = record { kek = kek_of p.kek; salt = salt_of p.kek; keys = keys_of p.even p.odd }

-- a session that opens with a message, if its keys can be unwrapped
abbrev pub opened_by : (kek salt : List ℕ) → KeyMessage → Option Publisher
opened_by kek salt message = option_map (λ keys. record { kek = kek; salt = salt; keys = keys }) (brings kek message)

-- a payload encrypted or decrypted with this key; unchanged without one
abbrev pub with_key : Option (List ℕ) → (salt : List ℕ) → (number : ℕ) → (payload : List ℕ) → List ℕ
with_key None salt number payload = payload
with_key (Some key) salt number payload = counter_mode key salt number payload

-- the key that a data packet names by its encryption field: 1 the even one, 2 the odd one
abbrev pub named_key : (field : ℕ) → StreamKeys → Option (List ℕ)
named_key field keys = if field == 1 then keys.even else if field == 2 then keys.odd else None

-- a data packet without encryption, if the session has the key that it names, and else one under a key that no session has;
-- other packets are unchanged
abbrev pub decrypted_data : Option (List ℕ) → (salt : List ℕ) → (number : ℕ) → (payload : List ℕ) → Body
decrypted_data None salt number payload = Data number 3 payload
decrypted_data (Some key) salt number payload = Data number 0 (counter_mode key salt number payload)

abbrev pub decrypted_body : StreamKeys → (salt : List ℕ) → Body → Body
decrypted_body keys salt (Data number encryption payload) = decrypted_data (named_key encryption keys) salt number payload
decrypted_body keys salt body = body

abbrev pub decrypted : StreamKeys → (salt : List ℕ) → Packet → Packet
decrypted keys salt packet = record { stamp = packet.stamp; dest = packet.dest; body = decrypted_body keys salt packet.body }

-- a key that was brought takes the place of the one with its name
abbrev pub newer : (brought before : Option (List ℕ)) → Option (List ℕ)
newer None before = before
newer (Some key) before = Some key

abbrev pub replaced : (brought before : StreamKeys) → StreamKeys
replaced brought before = record { even = newer brought.even before.even; odd = newer brought.odd before.odd }

-- the answer to a message whose keys are these, and the keys after it
abbrev pub answer_by : Option StreamKeys → KeyAnswer
answer_by None = BadSecret
answer_by (Some brought) = Taken

abbrev pub keys_by : Option StreamKeys → StreamKeys → StreamKeys
keys_by None before = before
keys_by (Some brought) before = replaced brought before

-- the answer to a message
abbrev pub answer_to : Publisher → Result KeyMessage KeyFault → KeyAnswer
answer_to p (Err fault) = NoSecret
answer_to p (Ok message) =
    if fits p.kek p.salt (length p.kek) message then answer_by (brings p.kek message) else NoSecret

-- the keys after a message
abbrev pub keys_after : Publisher → Result KeyMessage KeyFault → StreamKeys
keys_after p (Err fault) = p.keys
keys_after p (Ok message) =
    if fits p.kek p.salt (length p.kek) message then keys_by (brings p.kek message) p.keys else p.keys

-- the contents of the KMRSP that answers a KMREQ: its own, or the cause as a word, in little-endian order as libsrt sends it
abbrev pub response_to : KeyAnswer → (request : List ℕ) → List ℕ
response_to Taken request = request
response_to NoSecret request = 3 ∷ 0 ∷ 0 ∷ 0 ∷ []
response_to BadSecret request = 4 ∷ 0 ∷ 0 ∷ 0 ∷ []

-- the session after a message
abbrev pub with_message : Result KeyMessage KeyFault → Publisher → Publisher
with_message message p = record { kek = p.kek; salt = p.salt; keys = keys_after p message }

-- a message that comes again is answered as before, and changes nothing
abbrev pub RepeatsChangeNothing : Type 0
RepeatsChangeNothing =
    (p : Publisher) (message : Result KeyMessage KeyFault) →
    (answer_to (with_message message p) message ≡ answer_to p message) × (with_message message (with_message message p) ≡ with_message message p)

-- a message that isn't taken changes no key
abbrev pub RefusalsChangeNothing : Type 0
RefusalsChangeNothing =
    (p : Publisher) (message : Result KeyMessage KeyFault) → (answer_to p message ≡ Taken → ⊥) → keys_after p message ≡ p.keys

-- a key that a message doesn't name stays
pub record OtherKeysStay : Type 0 where
  pub odd : (p : Publisher) (message : KeyMessage) → message.keys ≡ Even → (keys_after p (Ok message)).odd ≡ p.keys.odd
  pub even : (p : Publisher) (message : KeyMessage) → message.keys ≡ Odd → (keys_after p (Ok message)).even ≡ p.keys.even

-- how many packets couldn't be decrypted, at most 2^64 - 1
abbrev pub undecrypted_of : PublisherKeys → ℕ
undecrypted_of p = p.undecrypted

-- the same after one more packet, of the key that it names
abbrev pub undecrypted_with : Option (List ℕ) → (count : ℕ) → ℕ
undecrypted_with key count = if is_some key then count else min (count + 1) (2 ^ 64 - 1)

-- the same after a packet
abbrev pub undecrypted_after : Body → StreamKeys → (count : ℕ) → ℕ
undecrypted_after (Data number encryption payload) keys count = undecrypted_with (named_key encryption keys) count
undecrypted_after body keys count = count

-- no byte of a key or of the salt is left: there are no keys, and what stores them is zeros
pub record PublisherIsErased (p : PublisherKeys) : Type 0 where
  pub kek : WrappingKeyIsErased p.kek
  pub even : IsErased p.even.keys
  pub odd : IsErased p.odd.keys
  pub none : keys_of p.even p.odd ≡ record { even = None; odd = None }
