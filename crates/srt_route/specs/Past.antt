-- The past of a session, and its changes in each step of an event. Times count from the session's opening.
use Rattle.std.specs.Prelude.{ℕ, ◌-◌, Bool, true, false, Option, None, Some, List, [], map, min, ◌||◌, if◌then◌else◌}
use Rattle.srt_types.specs.declared.shared.Role.{Role}
use Rattle.srt_types.specs.declared.shared.Role.TheVariants.{Publish, Request}
use Rattle.srt_packet.specs.Grammar.{Body, Shutdown}
use Rattle.srt_recvbuf.specs.Receiving.{Arrival}
use Rattle.srt_sendbuf.specs.Sending.{is_all_acknowledged, room}
use Rattle.srt_pub.specs.Heard as to_publisher
use Rattle.srt_pub.specs.Publishing as publisher
use Rattle.srt_pub.specs.Publishing.{has_undelivered}
use Rattle.srt_pub.specs.Says as publisher_text
use Rattle.srt_sub.specs.Heard as to_subscriber
use Rattle.srt_sub.specs.Subscribing as subscriber
use Rattle.srt_sub.specs.Says as subscriber_text
use Rattle.srt_session_keys.specs.Subscriber.{Subscriber as Keys}
use Rattle.srt_route.specs.EncryptedOutput.{KeyedOutput, outputs_with, reported_with}

-- everything that a publisher or a subscriber received and was sent
pub data Past : Type 0 where
  Publishes : publisher.Publishing → Past
  Subscribes : subscriber.Subscribing → Past

abbrev pub past_of : Role → Past
past_of Publish = Publishes publisher.opened
past_of Request = Subscribes subscriber.opened

-- the agreed parameters, for either role
pub record Agreed : Type 0 where
  pub publisher : publisher.Terms
  pub subscriber : subscriber.Terms

-- a packet that a session sends
pub data Report : Type 0 where
  ToPublisher : publisher.Report → Report
  ToSubscriber : subscriber.Report → Report

-- the bytes of a report, addressed to the socket with ID `caller`
abbrev pub report_text : (caller initial time : ℕ) → Report → List ℕ
report_text caller initial time (ToPublisher report) = publisher_text.says caller initial time report
report_text caller initial time (ToSubscriber report) = subscriber_text.says caller initial time report

-- the past after time advanced: a subscriber drops what is too late (section 4.6)
abbrev pub expired_past : Agreed → (time : ℕ) → Past → Past
expired_past terms time (Publishes p) = Publishes p
expired_past terms time (Subscribes s) = Subscribes (subscriber.expired terms.subscriber time s)

-- the time since a publisher's session last received an unencrypted data packet; if it received none, since its opening
abbrev pub silence_of : (time : ℕ) → Past → ℕ
silence_of time (Publishes p) = time - publisher.last_arrival p.notes
silence_of time (Subscribes s) = 0

-- the past after a packet; sequence numbers count from the session's initial number, timestamps from the conclusion's
abbrev pub took_past : Agreed → (initial time stamp : ℕ) → Body → Past → Past
took_past terms initial time stamp body (Publishes p) = Publishes (publisher.took terms.publisher time stamp (to_publisher.heard_from initial body) p)
took_past terms initial time stamp body (Subscribes s) = Subscribes (subscriber.took time (to_subscriber.heard_from initial body) s)

-- whether this is a SHUTDOWN, which ends a session (section 3.2.7)
abbrev pub is_shutdown : Body → Bool
is_shutdown Shutdown = true
is_shutdown _ = false

-- whether a live publisher's session ends because its window is lost (our choice)
abbrev pub loses_window : Agreed → (initial : ℕ) → Body → Past → Bool
loses_window terms initial body (Publishes p) = publisher.loses_window terms.publisher.mode terms.publisher (to_publisher.heard_from initial body) p
loses_window terms initial body (Subscribes s) = false

abbrev pub ends_with : Agreed → (initial : ℕ) → Body → Past → Bool
ends_with terms initial body past = is_shutdown body || loses_window terms initial body past

-- whether a packet ends a publisher's session, and if so whether it is its own SHUTDOWN
abbrev pub publisher_end : Agreed → (initial : ℕ) → Body → Past → Option Bool
publisher_end terms initial body (Publishes p) = if ends_with terms initial body (Publishes p) then Some (is_shutdown body) else None
publisher_end terms initial body (Subscribes s) = None

-- whether a subscriber has acknowledged everything that was queued for it
abbrev pub has_all : Past → Bool
has_all (Publishes p) = false
has_all (Subscribes s) = is_all_acknowledged s.sending

-- whether a publisher's session has something left to deliver
abbrev pub has_left : Agreed → Past → Bool
has_left terms (Publishes p) = has_undelivered terms.publisher.mode p.receiving
has_left terms (Subscribes s) = false

-- the packets that answer a packet at once
abbrev pub answers_to : (initial : ℕ) → Body → Past → List Report
answers_to initial body (Publishes p) = []
answers_to initial body (Subscribes s) = map ToSubscriber (subscriber.answers (to_subscriber.heard_from initial body))

-- the smallest room of the subscribers so far, with the room of one more
abbrev pub least : Option ℕ → ℕ → ℕ
least None room = room
least (Some other) room = min other room

abbrev pub least_with : (width : ℕ) → Option ℕ → Past → Option ℕ
least_with width found (Publishes p) = found
least_with width found (Subscribes s) = Some (least found (room width s.sending))

-- the payloads that a publisher delivers (section 4.5)
abbrev pub payload_of : Arrival → List ℕ
payload_of a = a.payload

abbrev pub payloads_of : Agreed → (time : ℕ) → (room : Option ℕ) → Past → List (List ℕ)
payloads_of terms time room (Publishes p) = map payload_of (publisher.deliveries terms.publisher.mode terms.publisher time room p)
payloads_of terms time room (Subscribes s) = []

-- the past after a delivery: a publisher has delivered, a subscriber was fed
abbrev pub passed_past : Agreed → (time : ℕ) → (room : Option ℕ) → List (List ℕ) → Past → Past
passed_past terms time room payloads (Publishes p) = Publishes (publisher.delivered terms.publisher time room p)
passed_past terms time room payloads (Subscribes s) = Subscribes (subscriber.fed_all terms.subscriber time payloads s)

-- the packets that a session sends at the end of an event, and its past after them; `recent` is whether its peer was
-- heard less than a second ago
abbrev pub reports_of : Agreed → (time : ℕ) → (recent : Bool) → Past → List Report
reports_of terms time recent (Publishes p) = map ToPublisher (publisher.reports terms.publisher time p)
reports_of terms time recent (Subscribes s) = map ToSubscriber (subscriber.reports terms.subscriber time recent s)

-- a publisher's past after the end of an event: a draining publisher sends nothing
abbrev pub reported_if : (draining : Bool) → publisher.Terms → (time : ℕ) → publisher.Publishing → publisher.Publishing
reported_if true terms time p = p
reported_if false terms time p = publisher.reported terms time p

-- a subscriber's session after the end of an event; one with keys of its own holds what they aren't confirmed for
abbrev pub reported_under : (keys : Option Keys) → subscriber.Terms → (time : ℕ) → (recent : Bool) → subscriber.Subscribing → subscriber.Subscribing
reported_under None terms time recent s = subscriber.reported terms time recent s
reported_under (Some keys) terms time recent s = reported_with keys terms time recent s

abbrev pub reported_past : (keys : Option Keys) → (draining : Bool) → Agreed → (time : ℕ) → (recent : Bool) → Past → Past
reported_past keys draining terms time recent (Publishes p) = Publishes (reported_if draining terms.publisher time p)
reported_past keys draining terms time recent (Subscribes s) = Subscribes (reported_under keys terms.subscriber time recent s)

-- what a session with keys of its own sends to the socket with ID `caller` at the end of an event
abbrev pub outputs_of : Keys → Agreed → (caller initial time : ℕ) → (recent : Bool) → Past → List KeyedOutput
outputs_of keys terms caller initial time recent (Publishes p) = []
outputs_of keys terms caller initial time recent (Subscribes s) = outputs_with keys terms.subscriber caller initial time recent s
