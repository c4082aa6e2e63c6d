-- KMREQs during a publisher's session and KMRSPs during a subscriber's (section 3.2.2; the answers to faulty ones are our choice).
use Rattle.std.specs.Prelude.{List, ℕ, Option, None, Some}
use Rattle.srt_packet.specs.KeyPacket.{KeyPacket, key_packet_in}
use Rattle.srt_packet.specs.declared.key_packet.KeyPacketKind.{KeyPacketKind}
use Rattle.srt_packet.specs.declared.key_packet.KeyPacketKind.TheVariants.{Request, Response}
use Rattle.srt_hs.specs.KeyMessage.{message_in}
use Rattle.srt_session_keys.specs.Publisher.{answer_to, with_message}
use Rattle.srt_session_keys.specs.Subscriber.{with_response}
use Rattle.srt_session_keys.specs.declared.publisher.KeyAnswer.{KeyAnswer}
use Rattle.srt_route.specs.RouteKeys.{SlotKeys, Clear, OfPublisher, OfSubscriber}

-- the contents of a KMREQ: all bytes after its header
abbrev pub request_with : KeyPacketKind → (info : List ℕ) → Option (List ℕ)
request_with Request info = Some info
request_with Response info = None

abbrev pub request_read : Option KeyPacket → Option (List ℕ)
request_read None = None
request_read (Some p) = request_with p.kind p.info

-- the contents of the KMREQ that these bytes are, if they are one
abbrev pub request_in : (bytes : List ℕ) → Option (List ℕ)
request_in bytes = request_read (key_packet_in bytes)

-- how a session with these keys answers a KMREQ with these contents: only a publisher's does
abbrev pub answer_by : (contents : List ℕ) → SlotKeys → Option KeyAnswer
answer_by contents Clear = None
answer_by contents (OfPublisher request keys) = Some (answer_to keys (message_in contents))
answer_by contents (OfSubscriber request keys) = None

-- the session's keys after it
abbrev pub refreshed : (contents : List ℕ) → SlotKeys → SlotKeys
refreshed contents Clear = Clear
refreshed contents (OfPublisher request keys) = OfPublisher request (with_message (message_in contents) keys)
refreshed contents (OfSubscriber request keys) = OfSubscriber request keys

-- what a KMRSP confirms: the socket ID that it is sent to, and its contents, all bytes after its header
pub record Confirmation : Type 0 where
  pub dest : ℕ
  pub contents : List ℕ

abbrev pub confirmation_with : KeyPacketKind → (dest : ℕ) → (info : List ℕ) → Option Confirmation
confirmation_with Request dest info = None
confirmation_with Response dest info = Some (record { dest = dest; contents = info })

abbrev pub confirmation_read : Option KeyPacket → Option Confirmation
confirmation_read None = None
confirmation_read (Some p) = confirmation_with p.kind p.dest p.info

-- the KMRSP that these bytes are, if they are one
abbrev pub confirmation_in : (bytes : List ℕ) → Option Confirmation
confirmation_in bytes = confirmation_read (key_packet_in bytes)

-- a session's keys after a KMRSP with these contents: of a subscriber's the announced one is confirmed, if they are its message
abbrev pub confirmed_by : (contents : List ℕ) → SlotKeys → SlotKeys
confirmed_by contents Clear = Clear
confirmed_by contents (OfPublisher request keys) = OfPublisher request keys
confirmed_by contents (OfSubscriber request keys) = OfSubscriber request (with_response contents keys)
