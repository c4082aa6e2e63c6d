-- Bytes with other sequence numbers and timestamps decode to the same values with those numbers and timestamps.
use Rattle.std.specs.Prelude.{◌≡◌, ℕ, ◌+◌, ◌%◌, ◌^◌, ◌<◌, ◌≤◌, List, length, map, Option, option_map, IfSome, Result, Ok, Err, ⊤}
use Rattle.srt_types.specs.Words.{word}
use Rattle.srt_types.specs.Window.{counted_from}
use Rattle.srt_types.specs.Lift.{stamped_from}
use Rattle.srt_types.specs.Runs.{Range, Run}
use Rattle.srt_packet.specs.declared.reading.PacketFault.{PacketFault}
use Rattle.srt_packet.specs.Grammar.{Packet, Body}
use Rattle.srt_packet.specs.Reading.{packet_in}
use Rattle.srt_loss.specs.declared.reading.LossFault.{LossFault}
use Rattle.srt_loss.specs.Reading.{losses_in}
use Rattle.srt_hs.specs.declared.handshake.CongestionText.{CongestionText}
use Rattle.srt_hs.specs.declared.handshake.HsFault.{HsFault}
use Rattle.srt_hs.specs.declared.writing.AnswerKind.{AnswerKind}
use Rattle.srt_hs.specs.declared.writing.AnswerKind.TheVariants as answers
use Rattle.srt_hs.specs.declared.writing.HsAnswer.{HsAnswer}
use Rattle.srt_hs.specs.Grammar.{Handshake}
use Rattle.srt_hs.specs.Reading.{handshake_in}
use Rattle.srt_route.specs.declared.conclusion_reading.Conclusion.{Conclusion}
use Rattle.srt_route.specs.Conclusions.{conclusion_in}
use Rattle.srt_route.specs.Route.{Answers, output_text}
use Rattle.srt_pub.specs.Heard as to_publisher
use Rattle.srt_pub.specs.Publishing as publisher
use Rattle.srt_pub.specs.Says as publisher_text
use Rattle.srt_sub.specs.Heard as to_subscriber
use Rattle.srt_sub.specs.Subscribing as subscriber
use Rattle.srt_sub.specs.Says as subscriber_text
use Rattle.srt_route.specs.Shifted.{shifted_body, shifted, four_bytes, shifted_words, shifted_handshake, shifted_reading, renumbered, restamped}

-- a shift is modulo 2^31, and keeps a word's top bit
abbrev pub ShiftGoesRound : Type 0
ShiftGoesRound = (by n : ℕ) → n < 2 ^ 31 → (shifted by n ≡ (n + by) % 2 ^ 31) × (shifted by (2 ^ 31 + n) ≡ 2 ^ 31 + (n + by) % 2 ^ 31)

-- four bytes and the word that they encode
abbrev pub FourBytesAreTheWord : Type 0
FourBytesAreTheWord = (n : ℕ) → n < 2 ^ 32 → four_bytes n ≡ word n

-- decoding of datagrams
abbrev pub PacketsShift : Type 0
PacketsShift = (by : ℕ) (bytes : List ℕ) → packet_in (renumbered by bytes) ≡ shifted_reading by (packet_in bytes)

abbrev pub LengthsStay : Type 0
LengthsStay = (by : ℕ) (bytes : List ℕ) → (length (renumbered by bytes) ≡ length bytes) × (length (restamped by bytes) ≡ length bytes)

abbrev pub restamped_packet : (by : ℕ) → Packet → Packet
restamped_packet by p = record { stamp = (p.stamp + by) % 2 ^ 32; dest = p.dest; body = p.body }

abbrev pub restamped_reading : (by : ℕ) → Result Packet PacketFault → Result Packet PacketFault
restamped_reading by (Ok packet) = Ok (restamped_packet by packet)
restamped_reading by (Err fault) = Err fault

abbrev pub PacketsRestamp : Type 0
PacketsRestamp = (by : ℕ) (bytes : List ℕ) → packet_in (restamped by bytes) ≡ restamped_reading by (packet_in bytes)

-- decoding of loss lists
abbrev pub shifted_range : (by : ℕ) → Range → Range
shifted_range by r = record { first = shifted by r.first; last = shifted by r.last }

abbrev pub shifted_losses : (by : ℕ) → Result (List Range) LossFault → Result (List Range) LossFault
shifted_losses by (Ok ranges) = Ok (map (shifted_range by) ranges)
shifted_losses by (Err fault) = Err fault

abbrev pub LossesShift : Type 0
LossesShift = (by : ℕ) (bytes : List ℕ) → losses_in (shifted_words by bytes) ≡ shifted_losses by (losses_in bytes)

abbrev pub with_initial : (by : ℕ) → Handshake → Handshake
with_initial by hs = record hs { initial = shifted by hs.initial }

abbrev pub shifted_greeting : (by : ℕ) → Result Handshake HsFault → Result Handshake HsFault
shifted_greeting by (Ok hs) = Ok (with_initial by hs)
shifted_greeting by (Err fault) = Err fault

abbrev pub HandshakesShift : Type 0
HandshakesShift = (by : ℕ) (info : List ℕ) → handshake_in (shifted_handshake by info) ≡ shifted_greeting by (handshake_in info)

abbrev pub shifted_conclusion : (by : ℕ) → Conclusion → Conclusion
shifted_conclusion by c = record c { initial = shifted by c.initial }

abbrev pub ConclusionsShift : Type 0
ConclusionsShift = (by : ℕ) (info : List ℕ) → conclusion_in (shifted_handshake by info) ≡ option_map (shifted_conclusion by) (conclusion_in info)

-- distances from an initial number and from a first timestamp stay the same
abbrev pub CountsStay : Type 0
CountsStay = (by initial word : ℕ) → counted_from (shifted by initial) (shifted by word) ≡ counted_from initial word

abbrev pub StampsStay : Type 0
StampsStay = (by first word : ℕ) → stamped_from ((first + by) % 2 ^ 32) ((word + by) % 2 ^ 32) ≡ stamped_from first word

-- what a session reads from a packet stays the same
abbrev pub PublishersHearTheSame : Type 0
PublishersHearTheSame =
    (by initial : ℕ) (body : Body)
    → to_publisher.heard_from (shifted by initial) (shifted_body by body) ≡ to_publisher.heard_from initial body

abbrev pub SubscribersHearTheSame : Type 0
SubscribersHearTheSame =
    (by initial : ℕ) (body : Body)
    → to_subscriber.heard_from (shifted by initial) (shifted_body by body) ≡ to_subscriber.heard_from initial body

-- the output has shifted numbers. A loss list has at least one run, and fits into a datagram
abbrev pub IsLossList : List Run → Type 0
IsLossList rs = (0 < length rs) × (length rs ≤ 182)

abbrev pub IsPublishersReport : publisher.Report → Type 0
IsPublishersReport (publisher.NakOfAll rs) = IsLossList rs
IsPublishersReport (publisher.NakOfNew rs) = IsLossList rs
IsPublishersReport _ = ⊤

abbrev pub PublishersSayOthers : Type 0
PublishersSayOthers =
    (by caller initial time : ℕ) (report : publisher.Report) → IsPublishersReport report
    → renumbered by (publisher_text.says caller initial time report) ≡ publisher_text.says caller (shifted by initial) time report

-- the same of a subscriber's output, whose payloads have 1 to 1456 bytes
abbrev pub IsSubscribersReport : subscriber.Report → Type 0
IsSubscribersReport (subscriber.Media number again origin payload) = (0 < length payload) × (length payload ≤ 1456)
IsSubscribersReport _ = ⊤

abbrev pub SubscribersSayOthers : Type 0
SubscribersSayOthers =
    (by caller initial time : ℕ) (report : subscriber.Report) → IsSubscribersReport report
    → renumbered by (subscriber_text.says caller initial time report) ≡ subscriber_text.says caller (shifted by initial) time report

-- an answer that is sent can be read. Its congestion control block has at most four words, as that of a conclusion
abbrev pub HasFewWords : Option CongestionText → Type 0
HasFewWords congestion = IfSome congestion (λ text. length text.others.items ≤ 3)

abbrev pub ConclusionsHaveFewWords : Type 0
ConclusionsHaveFewWords = (info : List ℕ) → IfSome (conclusion_in info) (λ c. HasFewWords c.congestion)

abbrev pub IsReadable : AnswerKind → Type 0
IsReadable (answers.Conclusion mtu window id mode recv_ms send_ms congestion) = HasFewWords congestion
IsReadable _ = ⊤

abbrev pub shifted_answer : (by : ℕ) → HsAnswer → HsAnswer
shifted_answer by a = record a { initial = shifted by a.initial }

abbrev pub AnswersSayOthers : Type 0
AnswersSayOthers =
    (by caller : ℕ) (a : HsAnswer)
    → IsReadable a.what → renumbered by (output_text (Answers caller a)) ≡ output_text (Answers caller (shifted_answer by a))
