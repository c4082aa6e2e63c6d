-- What a subscriber's session with keys sends at the end of an event (sections 3.1 and 3.2.2; what the draft leaves open is our choice): the
-- KMREQ of its next key, if that is due, and payloads under its keys, none of which is sent before the subscriber has confirmed
-- the payload's key.
use Rattle.std.specs.Prelude.{ℕ, ◌*◌, ◌%◌, ◌^◌, Bool, true, false, List, [], ◌∷◌, ◌++◌, length, nat_lt, if◌then◌else◌}
use Rattle.srt_types.specs.Capped.{capped}
use Rattle.srt_packet.specs.Encryption.{encrypted}
use Rattle.srt_packet.specs.KeyPacket.{key_packet_text}
use Rattle.srt_packet.specs.declared.key_packet.KeyPacketKind.TheVariants.{Request}
use Rattle.srt_hs.specs.KeyMessage.{field_of}
use Rattle.srt_sub.specs.Says.{says}
use Rattle.srt_sub.specs.Subscribing.{Report, Acked, Dropped, Media, KeepAlive, Subscribing, Terms, flow_window, is_drop, reported, reports}
use Rattle.srt_sub.specs.Held.{held, released}
use Rattle.srt_session_keys.specs.Source.{name_of, own, own_message}
use Rattle.srt_session_keys.specs.Subscriber.{Subscriber as Keys, has_key, index_of, is_due, with_announcement}

-- the key under which a payload is sent: its name, as the field KK has it, its bytes, and the salt (section 3.1)
pub record PacketKey : Type 0 where
  pub field : ℕ
  pub key : List ℕ
  pub salt : List ℕ

-- what is sent to the socket with ID `caller`: a report of a session with this initial number, the same under a key, or a
-- KMREQ with these contents; `time` is in microseconds since the session's opening
pub data KeyedOutput : Type 0 where
  Says : (caller initial time : ℕ) (report : Report) → KeyedOutput
  SaysUnder : (key : PacketKey) (caller initial time : ℕ) (report : Report) → KeyedOutput
  Announces : (caller time : ℕ) (contents : List ℕ) → KeyedOutput

-- its bytes
abbrev pub keyed_text : KeyedOutput → List ℕ
keyed_text (Says caller initial time report) = says caller initial time report
keyed_text (SaysUnder key caller initial time report) = encrypted key.field key.key key.salt (says caller initial time report)
keyed_text (Announces caller time contents) =
    key_packet_text (record { stamp = time % 2 ^ 32; dest = caller; kind = Request; info = contents })

-- the key of a payload; payloads count from 0
abbrev pub payload_key : Keys → (payload : ℕ) → PacketKey
payload_key keys payload =
    record { field = field_of (name_of (index_of payload)); key = own keys.source (index_of payload); salt = keys.source.salt }

-- a payload under its key, if that is stored
abbrev pub said_under_if : (stored : Bool) → PacketKey → (caller initial time : ℕ) → Report → List KeyedOutput
said_under_if true key caller initial time report = SaysUnder key caller initial time report ∷ []
said_under_if false key caller initial time report = []

-- a packet of an event's end as it is sent: only payloads are encrypted
abbrev pub said_with : Keys → (caller initial time : ℕ) → Report → List KeyedOutput
said_with keys caller initial time (Acked mark) = Says caller initial time (Acked mark) ∷ []
said_with keys caller initial time (Dropped run) = Says caller initial time (Dropped run) ∷ []
said_with keys caller initial time (Media number again origin payload) =
    said_under_if (has_key keys number) (payload_key keys number) caller initial time (Media number again origin payload)
said_with keys caller initial time KeepAlive = Says caller initial time KeepAlive ∷ []

-- the packets in order, with what is pending before the first one that isn't a drop request, or at the end
abbrev pub all_said_with : Keys → (caller initial time : ℕ) → (pending : List KeyedOutput) → List Report → List KeyedOutput
all_said_with keys caller initial time pending [] = pending
all_said_with keys caller initial time pending (r ∷ rs) =
    if is_drop r then said_with keys caller initial time r ++ all_said_with keys caller initial time pending rs
    else pending ++ said_with keys caller initial time r ++ all_said_with keys caller initial time [] rs

-- the KMREQ of the next key, if it is announced
abbrev pub announcement_if : (announced : Bool) → Keys → (caller time : ℕ) → List KeyedOutput
announcement_if true keys caller time = Announces caller time (own_message keys.source keys.confirmed) ∷ []
announcement_if false keys caller time = []

-- as many payloads as may be sent for the first time: 2^24 for each confirmed key. A session counts up to 2^64 - 1
abbrev pub payloads_confirmed : Keys → ℕ
payloads_confirmed keys = capped (keys.confirmed * 2 ^ 24)

-- whether fewer than 2^61 payloads were queued. A session with more, which at a payload each microsecond would be 73,000 years
-- old, sends nothing
abbrev pub has_few : Subscribing → Bool
has_few m = nat_lt (length m.sending.queue) (2 ^ 61)

-- whether the next key is announced at the end of an event
abbrev pub announced_if : (few : Bool) → Keys → (time : ℕ) → Subscribing → Bool
announced_if true keys time m = is_due keys (length m.sending.queue) time
announced_if false keys time m = false

abbrev pub is_announced : Keys → (time : ℕ) → Subscribing → Bool
is_announced keys time m = announced_if (has_few m) keys time m

-- the session's keys after it; times of announcements count from the session's opening, as all its times do
abbrev pub keys_with : (announced : Bool) → (time : ℕ) → Keys → Keys
keys_with true time keys = with_announcement time keys
keys_with false time keys = keys

abbrev pub keys_reported : (time : ℕ) → Subscribing → Keys → Keys
keys_reported time m keys = keys_with (is_announced keys time m) time keys

-- the session after it; what isn't confirmed was held meanwhile
abbrev pub reported_if : (few : Bool) → Keys → Terms → (time : ℕ) → (recent : Bool) → Subscribing → Subscribing
reported_if true keys terms time recent m =
    released (flow_window terms.window m.notes) (reported terms time recent (held terms (payloads_confirmed keys) m))
reported_if false keys terms time recent m = m

abbrev pub reported_with : Keys → Terms → (time : ℕ) → (recent : Bool) → Subscribing → Subscribing
reported_with keys terms time recent m = reported_if (has_few m) keys terms time recent m

-- all that is sent, with the keys after it
abbrev pub outputs_if : (few announced : Bool) → Keys → Terms → (caller initial time : ℕ) → (recent : Bool) → Subscribing → List KeyedOutput
outputs_if true announced keys terms caller initial time recent m =
    all_said_with keys caller initial time (announcement_if announced keys caller time) (reports terms time recent (held terms (payloads_confirmed keys) m))
outputs_if false announced keys terms caller initial time recent m = []

abbrev pub outputs_with : Keys → Terms → (caller initial time : ℕ) → (recent : Bool) → Subscribing → List KeyedOutput
outputs_with keys terms caller initial time recent m =
    outputs_if (has_few m) (is_announced keys time m) (keys_reported time m keys) terms caller initial time recent m
