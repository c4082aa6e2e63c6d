-- Each reply is the encoding of a packet that can be sent, and decodes to that packet.
use Rattle.std.specs.Prelude.{◌≡◌, ◌⊎◌, ℕ, ◌<◌, Bool, false, List, [], All, Some, Ok}
use Rattle.srt_types.specs.Terms.{Terms}
use Rattle.srt_types.specs.Items.{Item}
use Rattle.srt_types.specs.Window.{word_of}
use Rattle.srt_types.specs.declared.numbers.Seq31.{Seq31}
use Rattle.srt_types.specs.declared.numbers.Msg26.{Msg26}
use Rattle.srt_types.specs.declared.shared.PayloadRef.{PayloadRef}
use Rattle.srt_aes.specs.Counter.{counter_mode}
use Rattle.srt_packet.specs.Encryption.{encrypted, media}
use Rattle.srt_packet.specs.Grammar.{Data}
use Rattle.srt_packet.specs.declared.writing.Packet.{Packet}
use Rattle.srt_packet.specs.Text.{text}
use Rattle.srt_packet.specs.Sent.{CanBeSent, sent}
use Rattle.srt_packet.specs.Reading.{packet_in}
use Rattle.srt_packet.specs.KeyPacket.{CanBeSentWithKeys, KeyPacket, key_packet_in, key_packet_text}
use Rattle.srt_packet.specs.declared.key_packet.KeyPacketKind.TheVariants.{Request, Response}
use Rattle.srt_hs.specs.KeyMessage.{KeyMessage, message_in}
use Rattle.srt_session_keys.specs.Publisher.{response_to}
use Rattle.srt_session_keys.specs.declared.publisher.KeyAnswer.TheVariants.{NoSecret, BadSecret}
use Rattle.srt_hs.specs.declared.writing.HsAnswer.{HsAnswer}
use Rattle.srt_pub.specs.Publishing as publisher
use Rattle.srt_pub.specs.Says as publisher_text
use Rattle.srt_sub.specs.Subscribing as subscriber
use Rattle.srt_sub.specs.Says as subscriber_text
use Rattle.srt_route.specs.RouteKeys.{has_secured_role}
use Rattle.srt_route.specs.Route.{Answers, output_text, reply}
use Rattle.srt_route.specs.ShiftLaws.{IsPublishersReport, IsSubscribersReport, IsReadable}

-- these bytes are the encoding of a packet that can be sent, and decode to it
pub record IsSendablePacket (bytes : List ℕ) : Type 0 where
  pub packet : Packet
  pub can_be_sent : CanBeSent packet
  pub text_is : bytes ≡ text packet
  pub read_is : packet_in bytes ≡ Ok (sent packet)

-- the contents of a KMRSP: a key material message that reads, or the word that states why there is none
abbrev pub IsMessage : (contents : List ℕ) → Type 0
IsMessage contents = (message : KeyMessage) × (message_in contents ≡ Ok message)

abbrev pub IsResponse : (contents : List ℕ) → Type 0
IsResponse contents = IsMessage contents ⊎ ((contents ≡ response_to NoSecret []) ⊎ (contents ≡ response_to BadSecret []))

-- the same of a KMRSP, which answers a KMREQ
pub record IsSendableResponse (bytes : List ℕ) : Type 0 where
  pub packet : KeyPacket
  pub kind_is : packet.kind ≡ Response
  pub contents : IsResponse packet.info
  pub can_be_sent : CanBeSentWithKeys packet
  pub text_is : bytes ≡ key_packet_text packet
  pub read_is : key_packet_in bytes ≡ Some packet

-- the same of a KMREQ, whose contents are a message that reads
pub record IsSendableRequest (bytes : List ℕ) : Type 0 where
  pub packet : KeyPacket
  pub kind_is : packet.kind ≡ Request
  pub contents : IsMessage packet.info
  pub can_be_sent : CanBeSentWithKeys packet
  pub text_is : bytes ≡ key_packet_text packet
  pub read_is : key_packet_in bytes ≡ Some packet

-- these bytes are a data packet that can be sent, under an even or an odd key, and read as that packet with the field KK and
-- with the payload under the key
pub record IsSendableUnder (bytes : List ℕ) : Type 0 where
  pub field : ℕ
  pub key : List ℕ
  pub salt : List ℕ
  pub stamp : ℕ
  pub dest : ℕ
  pub number : Seq31
  pub message : Msg26
  pub again : Bool
  pub payload : PayloadRef
  pub named : (0 < field) × (field < 3)
  pub can_be_sent : CanBeSent (media stamp dest number message again payload)
  pub text_is : bytes ≡ encrypted field key salt (text (media stamp dest number message again payload))
  pub read_is : packet_in bytes
      ≡ Ok (record { stamp = stamp; dest = dest; body = Data (word_of number) field (counter_mode key salt (word_of number) payload.bytes.now) })

-- these bytes are of one of these kinds
abbrev pub IsSendable : (bytes : List ℕ) → Type 0
IsSendable bytes = IsSendablePacket bytes ⊎ (IsSendableResponse bytes ⊎ (IsSendableRequest bytes ⊎ IsSendableUnder bytes))

-- the same for each kind of output
abbrev pub PublishersSendPackets : Type 0
PublishersSendPackets =
    (caller initial time : ℕ) (report : publisher.Report)
    → IsPublishersReport report → IsSendablePacket (publisher_text.says caller initial time report)

abbrev pub SubscribersSendPackets : Type 0
SubscribersSendPackets =
    (caller initial time : ℕ) (report : subscriber.Report)
    → IsSubscribersReport report → IsSendablePacket (subscriber_text.says caller initial time report)

abbrev pub AnswersArePackets : Type 0
AnswersArePackets = (caller : ℕ) (a : HsAnswer) → IsReadable a.what → IsSendablePacket (output_text (Answers caller a))

-- the same for all replies of a route, whatever its items are
abbrev pub RepliesArePackets : Type 0
RepliesArePackets = (e : Terms) (index : ℕ) (items : List Item) → All (λ d. IsSendable d.bytes) (reply e index items)

-- without a secured role none brings a key material message
abbrev pub ClearRepliesArePackets : Type 0
ClearRepliesArePackets =
    (e : Terms) (index : ℕ) (items : List Item) → has_secured_role e ≡ false → All (λ d. IsSendablePacket d.bytes) (reply e index items)
