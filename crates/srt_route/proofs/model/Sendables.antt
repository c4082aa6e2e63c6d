-- Each reply is written as a packet that can be sent.
use Rattle.std.proofs.Common.{Some, None, ◌≡◌, ℕ, ◌+◌, ◌%◌, ◌^◌, ◌<◌, ◌≤◌, Bool, true, false, cond, List, [], ◌∷◌, ◌++◌, length, map, ap, ◌∙◌, inl, inr, arith}
use Rattle.std.proofs.Common.{refl}
use Rattle.std.specs.Prelude.{All}
use Rattle.std.proofs.lemmas.List.{length-append}
use Rattle.std.proofs.lemmas.List.Elements.{All-nil, All-cons}
use Rattle.std.proofs.lemmas.Nat.{from_be_bytes-to_be_bytes_4}
use Rattle.srt_types.specs.Words.{word, word_at, words}
use Rattle.srt_types.specs.declared.shared.PayloadRef.{PayloadRef}
use Rattle.srt_packet.specs.Encryption.{encrypted, media}
use Rattle.srt_packet.proofs.Encrypted.{read}
use Rattle.srt_route.specs.EncryptedOutput as encrypted_output
use Rattle.srt_route.specs.EncryptedOutput.{KeyedOutput, PacketKey, keyed_text}
use Rattle.srt_types.specs.Counts.{message_number, ack_number}
use Rattle.srt_types.specs.declared.numbers.Seq31.{Seq31}
use Rattle.srt_types.specs.declared.numbers.Msg26.{Msg26}
use Rattle.srt_types.specs.Runs.{Run}
use Rattle.srt_types.proofs.WordBytes.{length_of_words}
use Rattle.srt_packet.specs.declared.writing.Packet.{Packet}
use Rattle.srt_packet.specs.declared.writing.Body.TheVariants as out
use Rattle.srt_packet.specs.Text.{text, word1_of}
use Rattle.srt_packet.specs.Sent.{CanBeSent}
use Rattle.srt_packet.specs.Reading.{packet_in}
use Rattle.srt_packet.proofs.Sent.{sent_is_read}
use Rattle.srt_packet.proofs.KeyPackets.{reads_back}
use Rattle.srt_packet.specs.KeyPacket.{CanBeSentWithKeys, KeyPacket, key_packet_in, key_packet_text}
use Rattle.srt_packet.specs.declared.key_packet.KeyPacketKind.TheVariants as messages
use Rattle.srt_hs.specs.declared.writing.AnswerKind.{AnswerKind}
use Rattle.srt_hs.specs.declared.writing.AnswerKind.TheVariants.{Induction, Refusal, Conclusion}
use Rattle.srt_hs.specs.declared.writing.HsAnswer.{HsAnswer}
use Rattle.srt_hs.specs.Text.{answer_text, answer_with, congestion_text, keyed_text as keyed_answer}
use Rattle.srt_hs.specs.View.{text_words}
use Rattle.srt_types.specs.Window.{number_word}
use Rattle.srt_pub.specs.Publishing as publisher
use Rattle.srt_pub.specs.Says.{losses_said, says}
use Rattle.srt_sub.specs.Subscribing as subscriber
use Rattle.srt_sub.specs.Says.{packet_text}
use Rattle.srt_route.specs.Past.{ToPublisher, ToSubscriber}
use Rattle.srt_route.specs.Route.{Output, Answers, AnswersWithKeys, Says, Ends, Responds, SaysWithKeys, Reply, output_text, sent, replies_to, route_before}
use Rattle.srt_route.specs.ShiftLaws.{IsReadable}
use Rattle.srt_route.specs.Sendable.{IsResponse, IsSendable, IsSendablePacket, IsSendableResponse, PublishersSendPackets, SubscribersSendPackets}
use Rattle.srt_route.specs.Sendable.{AnswersArePackets, IsMessage, IsSendableRequest, IsSendableUnder}
use Rattle.srt_route.specs.Sendable.{RepliesArePackets, ClearRepliesArePackets}
use Rattle.srt_route.proofs.model.Lists.{Each, each_mapped}
use Rattle.srt_route.proofs.renumbering.ShiftedOutput.{same_four, losses_some, losses_few}
use Rattle.srt_route.proofs.renumbering.ShiftedAnswers.{what_fits}
use Rattle.srt_route.proofs.model.Secured.{response_fits}
use Rattle.srt_route.proofs.model.Sound.{IsKeyed, IsSaid, IsSent, IsUnder, replies_said, replies_sent}

made : (bytes : List ℕ) (p : Packet) → CanBeSent p → bytes ≡ text p → IsSendablePacket bytes
made bytes p can e = record { packet = p; can_be_sent = can; text_is = e; read_is = ap packet_in e ∙ sent_is_read p can }

-- a word is written by its low 32 bits
low : (n : ℕ) → word n ≡ word (n % 2 ^ 32)
low n = same_four _ _ _ _ _ _ _ _ (omega arith) (omega arith) (omega arith) (omega arith)

lows : (word0 word1 stamp dest : ℕ) (rest : List ℕ) → packet_text word0 word1 stamp dest rest ≡ packet_text word0 (word1 % 2 ^ 32) stamp (dest % 2 ^ 32) rest
lows word0 word1 stamp dest rest =
    ap (λ four. word word0 ++ four ++ word stamp ++ word dest ++ rest) (low word1)
    ∙ ap (λ four. word word0 ++ word (word1 % 2 ^ 32) ++ word stamp ++ four ++ rest) (low dest)

number_of : (initial n : ℕ) → Seq31
number_of initial n = record { word = number_word initial n; small = omega arith }

message_for : (k : ℕ) → Msg26
message_for k = record { number = message_number k; some = omega arith; small = omega arith }

naks : (caller initial time : ℕ) (rs : List Run)
    → 0 < length rs → length rs ≤ 182 → IsSendablePacket (packet_text 0x8003_0000 0 (time % 2 ^ 32) caller (words (losses_said initial rs)))
naks caller initial time rs some few =
    made _ (record { stamp = time % 2 ^ 32; dest = caller % 2 ^ 32; body = out.Nak (record { items = losses_said initial rs }) })
    (record {
      stamp = omega arith;
      dest = omega arith;
      word1 = omega arith;
      rest = omega (arith, few, losses_few initial rs, length_of_words (losses_said initial rs));
      body = losses_some initial rs some;
    })
    (lows 0x8003_0000 0 (time % 2 ^ 32) caller (words (losses_said initial rs)))

pub publishers_send : PublishersSendPackets
unfolding says number_of
publishers_send caller initial time (publisher.FullAck index point round_trip variance available rates) h =
    made _
    (record {
      stamp = time % 2 ^ 32;
      dest = caller % 2 ^ 32;
      body = out.FullAck (ack_number index) (number_of initial point) round_trip variance available rates;
    })
    (record { stamp = omega arith; dest = omega arith; word1 = omega arith; rest = omega arith; body = tt })
    (ap
    (λ four. word 0x8002_0000 ++ word (ack_number index) ++ word (time % 2 ^ 32) ++ four
    ++ words (number_word initial point ∷ round_trip ∷ variance ∷ available ∷ rates.packets ∷ rates.capacity ∷ rates.bytes ∷ []))
    (low caller))
publishers_send caller initial time (publisher.LightAck point) h =
    made _ (record { stamp = time % 2 ^ 32; dest = caller % 2 ^ 32; body = out.LightAck (number_of initial point) })
    (record { stamp = omega arith; dest = omega arith; word1 = omega arith; rest = omega arith; body = tt })
    (lows 0x8002_0000 0 (time % 2 ^ 32) caller (word (number_word initial point)))
publishers_send caller initial time (publisher.NakOfAll rs) h = naks caller initial time rs h.0 h.1
publishers_send caller initial time (publisher.NakOfNew rs) h = naks caller initial time rs h.0 h.1
publishers_send caller initial time publisher.KeepAlive h =
    made _ (record { stamp = time % 2 ^ 32; dest = caller % 2 ^ 32; body = out.KeepAlive })
    (record { stamp = omega arith; dest = omega arith; word1 = omega arith; rest = omega arith; body = tt })
    (lows 0x8001_0000 0 (time % 2 ^ 32) caller [])

media_word : (again : Bool) (k : ℕ) → (cond again 0xe400_0000 0xe000_0000) + message_number k < 2 ^ 32
media_word true k = omega arith
media_word false k = omega arith

pub subscribers_send : SubscribersSendPackets
unfolding number_of message_for
subscribers_send caller initial time (subscriber.Acked mark) h =
    made _ (record { stamp = time % 2 ^ 32; dest = caller % 2 ^ 32; body = out.AckAck (mark % 2 ^ 32) })
    (record { stamp = omega arith; dest = omega arith; word1 = omega arith; rest = omega arith; body = tt })
    (lows 0x8006_0000 mark (time % 2 ^ 32) caller [])
subscribers_send caller initial time (subscriber.Dropped run) h =
    made _
    (record {
      stamp = time % 2 ^ 32;
      dest = caller % 2 ^ 32;
      body = out.DropRequest (message_for run.low) (number_of initial run.low) (number_of initial run.high);
    })
    (record { stamp = omega arith; dest = omega arith; word1 = omega arith; rest = omega arith; body = tt })
    (ap
    (λ four. word 0x8007_0000 ++ word (message_number run.low) ++ word (time % 2 ^ 32) ++ four
    ++ words (number_word initial run.low ∷ number_word initial run.high ∷ []))
    (low caller))
subscribers_send caller initial time (subscriber.Media number again origin payload) h =
    made _
    (record {
      stamp = origin % 2 ^ 32;
      dest = caller % 2 ^ 32;
      body = out.Media (number_of initial number) (message_for number) again
          (record { bytes = record { ref_ptr = (0, 0); now = payload }; some = h.0; most = h.1 });
    })
    (record { stamp = omega arith; dest = omega arith; word1 = media_word again number; rest = h.1; body = h })
    (ap
    (λ four. word (number_word initial number) ++ word ((cond again 0xe400_0000 0xe000_0000) + message_number number)
    ++ word (origin % 2 ^ 32) ++ four ++ payload)
    (low caller))
subscribers_send caller initial time subscriber.KeepAlive h =
    made _ (record { stamp = time % 2 ^ 32; dest = caller % 2 ^ 32; body = out.KeepAlive })
    (record { stamp = omega arith; dest = omega arith; word1 = omega arith; rest = omega arith; body = tt })
    (lows 0x8001_0000 0 (time % 2 ^ 32) caller [])

pub answers_send : AnswersArePackets
unfolding answer_text
answers_send caller a h =
    made _ (record { stamp = 0; dest = caller % 2 ^ 32; body = out.Handshake (record { items = answer_text a }) })
    (record { stamp = omega arith; dest = omega arith; word1 = omega arith; rest = what_fits a.initial a.what h; body = tt })
    (lows 0x8000_0000 0 0 caller (answer_text a))

-- the same with the contents of a KMREQ block
keyed_fits : (request : List ℕ) (initial : ℕ) (what : AnswerKind) → IsReadable what → length request ≤ 104
    → length (keyed_answer request initial what) ≤ 1456
unfolding answer_text
keyed_fits request initial (Induction cookie) h short = what_fits initial (Induction cookie) h
keyed_fits request initial (Refusal code) h short = what_fits initial (Refusal code) h
keyed_fits request initial (Conclusion mtu window id mode recv_ms send_ms None) h short = omega (arith, short, length-append request [])
keyed_fits request initial (Conclusion mtu window id mode recv_ms send_ms (Some words)) h short =
    omega (arith, h, short, length_of_words (text_words words), length-append request (congestion_text (Some (text_words words))))

keyed_send : (caller : ℕ) (request : List ℕ) (a : HsAnswer) → IsReadable a.what → length request ≤ 104
    → IsSendablePacket (output_text (AnswersWithKeys caller request a))
unfolding answer_with
keyed_send caller request a h short =
    made _ (record { stamp = 0; dest = caller % 2 ^ 32; body = out.Handshake (record { items = keyed_answer request a.initial a.what }) })
    (record { stamp = omega arith; dest = omega arith; word1 = omega arith; rest = keyed_fits request a.initial a.what h short; body = tt })
    (lows 0x8000_0000 0 0 caller (keyed_answer request a.initial a.what))

-- a KMRSP
response_sends : (caller time : ℕ) (contents : List ℕ) → IsResponse contents → IsSendableResponse (output_text (Responds caller time contents))
response_sends caller time contents is =
    let p : KeyPacket = record { stamp = time % 2 ^ 32; dest = caller % 2 ^ 32; kind = messages.Response; info = contents } in
    let can : CanBeSentWithKeys p = record { stamp = omega arith; dest = omega arith; info = response_fits contents is } in
    let same : output_text (Responds caller time contents) ≡ key_packet_text p =
    ap (λ four. word 0xffff_0004 ++ word 0 ++ word (time % 2 ^ 32) ++ four ++ contents) (low caller) in
    record {
      packet = p;
      kind_is = refl;
      contents = is;
      can_be_sent = can;
      text_is = same;
      read_is = ap key_packet_in same ∙ reads_back p can;
    }

-- a KMREQ
request_sends : (caller time : ℕ) (contents : List ℕ) → IsMessage contents → IsSendableRequest (keyed_text (encrypted_output.Announces caller time contents))
request_sends caller time contents is =
    let p : KeyPacket = record { stamp = time % 2 ^ 32; dest = caller % 2 ^ 32; kind = messages.Request; info = contents } in
    let can : CanBeSentWithKeys p = record { stamp = omega arith; dest = omega arith; info = response_fits contents (inl is) } in
    let same : keyed_text (encrypted_output.Announces caller time contents) ≡ key_packet_text p =
    ap (λ four. word 0xffff_0003 ++ word 0 ++ word (time % 2 ^ 32) ++ four ++ contents) (low caller) in
    record {
      packet = p;
      kind_is = refl;
      contents = is;
      can_be_sent = can;
      text_is = same;
      read_is = ap key_packet_in same ∙ reads_back p can;
    }

-- a payload under a key
under_sends : (key : PacketKey) (caller initial time number : ℕ) (again : Bool) (origin : ℕ) (payload : List ℕ)
    → IsUnder key (subscriber.Media number again origin payload)
    → IsSendableUnder (keyed_text (encrypted_output.SaysUnder key caller initial time (subscriber.Media number again origin payload)))
unfolding number_of message_for
under_sends key caller initial time number again origin payload h =
    let few = h.0 in
    let stamp = origin % 2 ^ 32 in
    let dest = caller % 2 ^ 32 in
    let ref : PayloadRef = record { bytes = record { ref_ptr = (0, 0); now = payload }; some = few.0; most = few.1 } in
    let p : Packet = media stamp dest (number_of initial number) (message_for number) again ref in
    let can : CanBeSent p =
    record { stamp = omega arith; dest = omega arith; word1 = media_word again number; rest = few.1; body = few } in
    let same : packet_text (number_word initial number) ((cond again 0xe400_0000 0xe000_0000) + message_number number) stamp caller payload ≡ text p =
    ap
    (λ four. word (number_word initial number) ++ word ((cond again 0xe400_0000 0xe000_0000) + message_number number)
    ++ word stamp ++ four ++ payload)
    (low caller) in
    let second : word_at (text p) 4 ≡ word1_of p.body = from_be_bytes-to_be_bytes_4 (word1_of p.body) can.word1 in
    let fits : word_at (text p) 4 < 2 ^ 32 = omega (arith, second, can.word1) in
    let under = ap (λ (bytes : List ℕ). encrypted key.field key.key key.salt bytes) same in
    record {
      field = key.field;
      key = key.key;
      salt = key.salt;
      stamp = stamp;
      dest = dest;
      number = number_of initial number;
      message = message_for number;
      again = again;
      payload = ref;
      named = (h.1, h.2);
      can_be_sent = can;
      text_is = under;
      read_is = ap packet_in under
          ∙ read key.field key.key key.salt (text p) stamp dest (number_word initial number) payload (omega (arith, h.2)) fits (sent_is_read p can);
    }

keyed_sends : (output : KeyedOutput) → IsKeyed output → IsSendable (keyed_text output)
keyed_sends (encrypted_output.Says caller initial time report) h = inl (subscribers_send caller initial time report h)
keyed_sends (encrypted_output.SaysUnder key caller initial time (subscriber.Media number again origin payload)) h =
    inr (inr (inr (under_sends key caller initial time number again origin payload h)))
keyed_sends (encrypted_output.SaysUnder key caller initial time (subscriber.Acked mark)) h = absurd h
keyed_sends (encrypted_output.SaysUnder key caller initial time (subscriber.Dropped run)) h = absurd h
keyed_sends (encrypted_output.SaysUnder key caller initial time subscriber.KeepAlive) h = absurd h
keyed_sends (encrypted_output.Announces caller time contents) h = inr (inr (inl (request_sends caller time contents h)))

-- without keys
said_sends : (output : Output) → IsSaid output → IsSendablePacket (output_text output)
said_sends (Answers caller answer) h = answers_send caller answer h
said_sends (AnswersWithKeys caller request answer) h = absurd h
said_sends (Says caller initial time (ToPublisher report)) h = publishers_send caller initial time report h
said_sends (Says caller initial time (ToSubscriber report)) h = subscribers_send caller initial time report h
said_sends (Ends caller time) h =
    made _ (record { stamp = time % 2 ^ 32; dest = caller % 2 ^ 32; body = out.Shutdown })
    (record { stamp = omega arith; dest = omega arith; word1 = omega arith; rest = omega arith; body = tt })
    (lows 0x8005_0000 0 (time % 2 ^ 32) caller [])
said_sends (Responds caller time contents) h = absurd h
said_sends (SaysWithKeys output) h = absurd h

outputs_send : (output : Output) → IsSent output → IsSendable (output_text output)
outputs_send (Answers caller answer) h = inl (said_sends (Answers caller answer) h)
outputs_send (AnswersWithKeys caller request answer) h = inl (keyed_send caller request answer h.0 h.1)
outputs_send (Says caller initial time report) h = inl (said_sends (Says caller initial time report) h)
outputs_send (Ends caller time) h = inl (said_sends (Ends caller time) h)
outputs_send (Responds caller time contents) h = inr (inl (response_sends caller time contents h))
outputs_send (SaysWithKeys output) h = keyed_sends output h

each_all : {A : Type 0} (P : A → Type 0) (xs : List A) → Each P xs → All P xs
each_all P [] h = All-nil P
each_all P (x ∷ xs) h = All-cons P x xs h.0 (each_all P xs h.1)

pub replies_send : RepliesArePackets
replies_send e index [] = All-nil (λ d. IsSendable d.bytes)
replies_send e index (item ∷ items) =
    let replies = replies_to e index item (route_before e index item items) in
    each_all (λ d. IsSendable d.bytes) (map sent replies)
    (each_mapped (λ (x : Reply). IsSent x.packet) (λ d. IsSendable d.bytes) sent (λ x h. outputs_send x.packet h) replies (replies_sent e index items item))

pub clear_replies_send : ClearRepliesArePackets
clear_replies_send e index [] clear = All-nil (λ d. IsSendablePacket d.bytes)
clear_replies_send e index (item ∷ items) clear =
    let replies = replies_to e index item (route_before e index item items) in
    each_all (λ d. IsSendablePacket d.bytes) (map sent replies)
    (each_mapped (λ (x : Reply). IsSaid x.packet) (λ d. IsSendablePacket d.bytes) sent (λ x h. said_sends x.packet h) replies
    (replies_said e index items item clear))
