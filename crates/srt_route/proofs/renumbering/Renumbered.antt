-- A route with other items: other sequence numbers, other timestamps, or later times.
use Rattle.std.proofs.Common.{◌≡◌, ℕ, true, false, ◌+◌, ◌%◌, ◌^◌, Option, None, Some, List, [], ◌∷◌, ◌++◌, map, Result, Ok, Err, refl, sym, ap, subst, ◌∙◌}
use Rattle.std.proofs.Common.{arith}
use Rattle.std.specs.Prelude.{option_map}
use Rattle.std.proofs.lemmas.List.{map-append}
use Rattle.srt_types.specs.Terms.{Terms}
use Rattle.srt_types.specs.Items.{Datagram, Item, Received, Tick, Close}
use Rattle.srt_packet.specs.declared.reading.PacketFault.{PacketFault}
use Rattle.srt_packet.specs.Grammar.{Packet, Body, Data, Handshake, KeepAlive, Ack, Nak, CongestionWarning, Shutdown, AckAck, DropRequest}
use Rattle.srt_packet.specs.Grammar.{PeerError, UserDefined}
use Rattle.srt_packet.specs.Reading.{packet_in}
use Rattle.srt_packet.specs.Text.{text}
use Rattle.srt_packet.specs.declared.writing.Body.TheVariants as out
use Rattle.srt_route.specs.declared.conclusion_reading.Conclusion.{Conclusion}
use Rattle.srt_route.specs.Past.{is_shutdown, ToPublisher, ToSubscriber}
use Rattle.srt_route.specs.RouteKeys.{brought_in, cookie_in, has_secured_role}
use Rattle.srt_route.specs.Route.{info_of}
use Rattle.srt_route.specs.Route.{Output, Answers, AnswersWithKeys, Says, Ends, Responds, SaysWithKeys, Reply, output_text}
use Rattle.srt_route.specs.Route.{sent, concludes, replies_to, reply, solo}
use Rattle.srt_route.specs.Shifted.{shifted, shifted_body, shifted_reading, renumbered, renumbered_datagram, renumbered_item}
use Rattle.srt_route.specs.Shifted.{restamped_datagram, restamped_item, moved_item}
use Rattle.srt_route.specs.ShiftLaws.{restamped_reading}
use Rattle.srt_route.specs.Relabel.{Renumbers, Restamps, Moves}
use Rattle.srt_route.proofs.renumbering.ShiftedWords.{stamps_stay}
use Rattle.srt_route.proofs.renumbering.ShiftedPackets.{packets_shift}
use Rattle.srt_route.proofs.renumbering.Restamped.{confirmations_restamp, requests_restamp, packets_restamp}
use Rattle.srt_route.proofs.renumbering.ShiftedHandshakes.{conclusions_shift, cookie_stays, keys_stay}
use Rattle.srt_route.proofs.renumbering.ShiftedHeard.{publishers_hear, subscribers_hear}
use Rattle.srt_route.proofs.renumbering.ShiftedOutput.{publishers_say, subscribers_say}
use Rattle.srt_route.proofs.renumbering.ShiftedAnswers.{answers_say}
use Rattle.srt_route.proofs.renumbering.Relabelled.{IsChangedInput, item_confirmation, item_request}
use Rattle.srt_route.proofs.renumbering.Relabelled.{Change, IsChangedReading, IsChangedDatagram, IsChangedItem, AreChanged, changed_conclusion}
use Rattle.srt_route.proofs.renumbering.Relabelled.{changed_output, changed_reply, all_replies, all_same}
use Rattle.srt_route.proofs.model.Lists.{Each}
use Rattle.srt_route.proofs.model.Sound.{IsSaid, all_said}
use Rattle.srt_route.specs.Route.{route_before}

-- the replies as bytes
solo_is : (e : Terms) (index : ℕ) (items : List Item) → solo e index items ≡ map sent (all_replies e index items)
solo_is e index [] = refl
solo_is e index (item ∷ items) =
    ap (λ xs. xs ++ reply e index (item ∷ items)) (solo_is e index items)
    ∙ sym (map-append sent (all_replies e index items) (replies_to e index item (route_before e index item items)))

abbrev same : ℕ → ℕ
same n = n

same_stamp : (first word : ℕ) → Rattle.srt_types.specs.Lift.stamped_from (same first) (same word) ≡ Rattle.srt_types.specs.Lift.stamped_from first word
same_stamp first word = refl

not_later : (n : ℕ) → n ≡ n + 0
not_later n = omega arith

-- other timestamps
abbrev restamp : (by : ℕ) → Change
restamp by =
    record { stamp = λ w. (w + by) % 2 ^ 32; initial = same; later = 0; stamps_stay = stamps_stay by; secured = true; numbers_stay = λ secured n. refl }

-- all times later
abbrev move : (by : ℕ) → Change
move by = record { stamp = same; initial = same; later = by; stamps_stay = same_stamp; secured = true; numbers_stay = λ secured n. refl }

-- other sequence numbers
abbrev renumber : (by : ℕ) → Change
renumber by =
    record {
      stamp = same;
      initial = shifted by;
      later = 0;
      stamps_stay = same_stamp;
      secured = false;
      numbers_stay = λ secured n. absurd (let bad : false ≡ true = secured in cc);
    }

restamp_keeps : (by : ℕ) (c : Option Conclusion) → c ≡ option_map (changed_conclusion (restamp by)) c
restamp_keeps by None = refl
restamp_keeps by (Some c) = refl

move_keeps : (by : ℕ) (c : Option Conclusion) → c ≡ option_map (changed_conclusion (move by)) c
move_keeps by None = refl
move_keeps by (Some c) = refl

restamped_read : (by : ℕ) (read : Result Packet PacketFault) → IsChangedReading (restamp by) (restamped_reading by read) read
restamped_read by (Ok p) =
    record {
      stamp_is = refl;
      dest_is = refl;
      publisher_hears = λ i. refl;
      subscriber_hears = λ i. refl;
      shutdown_is = refl;
      concludes_is = restamp_keeps by (concludes p.body);
      brought_is = refl;
      cookie_is = refl;
      body_is = λ secured. refl;
    }
restamped_read by (Err fault) = tt

moved_read : (by : ℕ) (read : Result Packet PacketFault) → IsChangedReading (move by) read read
moved_read by (Ok p) =
    record {
      stamp_is = refl;
      dest_is = refl;
      publisher_hears = λ i. refl;
      subscriber_hears = λ i. refl;
      shutdown_is = refl;
      concludes_is = move_keeps by (concludes p.body);
      brought_is = refl;
      cookie_is = refl;
      body_is = λ secured. refl;
    }
moved_read by (Err fault) = tt

shutdown_stays : (by : ℕ) (body : Body) → is_shutdown (shifted_body by body) ≡ is_shutdown body
shutdown_stays by (Data number encryption payload) = refl
shutdown_stays by (Handshake info) = refl
shutdown_stays by KeepAlive = refl
shutdown_stays by (Ack number info) = refl
shutdown_stays by (Nak info) = refl
shutdown_stays by CongestionWarning = refl
shutdown_stays by Shutdown = refl
shutdown_stays by (AckAck number) = refl
shutdown_stays by (DropRequest message first last) = refl
shutdown_stays by PeerError = refl
shutdown_stays by UserDefined = refl

concludes_shifts : (by : ℕ) (body : Body) → concludes (shifted_body by body) ≡ option_map (changed_conclusion (renumber by)) (concludes body)
concludes_shifts by (Data number encryption payload) = refl
concludes_shifts by (Handshake info) = conclusions_shift by info
concludes_shifts by KeepAlive = refl
concludes_shifts by (Ack number info) = refl
concludes_shifts by (Nak info) = refl
concludes_shifts by CongestionWarning = refl
concludes_shifts by Shutdown = refl
concludes_shifts by (AckAck number) = refl
concludes_shifts by (DropRequest message first last) = refl
concludes_shifts by PeerError = refl
concludes_shifts by UserDefined = refl

brought_stays : (by : ℕ) (body : Body) → brought_in (info_of (shifted_body by body)) ≡ brought_in (info_of body)
brought_stays by (Data number encryption payload) = refl
brought_stays by (Handshake info) = keys_stay by info
brought_stays by KeepAlive = refl
brought_stays by (Ack number info) = refl
brought_stays by (Nak info) = refl
brought_stays by CongestionWarning = refl
brought_stays by Shutdown = refl
brought_stays by (AckAck number) = refl
brought_stays by (DropRequest message first last) = refl
brought_stays by PeerError = refl
brought_stays by UserDefined = refl

cookie_of_stays : (by : ℕ) (body : Body) → cookie_in (info_of (shifted_body by body)) ≡ cookie_in (info_of body)
cookie_of_stays by (Data number encryption payload) = refl
cookie_of_stays by (Handshake info) = cookie_stays by info
cookie_of_stays by KeepAlive = refl
cookie_of_stays by (Ack number info) = refl
cookie_of_stays by (Nak info) = refl
cookie_of_stays by CongestionWarning = refl
cookie_of_stays by Shutdown = refl
cookie_of_stays by (AckAck number) = refl
cookie_of_stays by (DropRequest message first last) = refl
cookie_of_stays by PeerError = refl
cookie_of_stays by UserDefined = refl

renumbered_read : (by : ℕ) (read : Result Packet PacketFault) → IsChangedReading (renumber by) (shifted_reading by read) read
renumbered_read by (Ok p) =
    record {
      stamp_is = refl;
      dest_is = refl;
      publisher_hears = λ i. publishers_hear by i p.body;
      subscriber_hears = λ i. subscribers_hear by i p.body;
      shutdown_is = shutdown_stays by p.body;
      concludes_is = concludes_shifts by p.body;
      brought_is = brought_stays by p.body;
      cookie_is = cookie_of_stays by p.body;
      body_is = λ secured. absurd (let bad : false ≡ true = secured in cc);
    }
renumbered_read by (Err fault) = tt

restamped_notified : (by : ℕ) (d : Datagram) → IsChangedDatagram (restamp by) (restamped_datagram by d) d
restamped_notified by d =
    record {
      peer_is = refl;
      reading_is = subst (λ read. IsChangedReading (restamp by) read (packet_in d.bytes)) (sym (packets_restamp by d.bytes))
          (restamped_read by (packet_in d.bytes));
    }

moved_notified : (by : ℕ) (d : Datagram) → IsChangedDatagram (move by) d d
moved_notified by d = record { peer_is = refl; reading_is = moved_read by (packet_in d.bytes) }

renumbered_notified : (by : ℕ) (d : Datagram) → IsChangedDatagram (renumber by) (renumbered_datagram by d) d
renumbered_notified by d =
    record {
      peer_is = refl;
      reading_is = subst (λ read. IsChangedReading (renumber by) read (packet_in d.bytes)) (sym (packets_shift by d.bytes))
          (renumbered_read by (packet_in d.bytes));
    }

restamped_item_is : (by : ℕ) (item : Item) → IsChangedItem (restamp by) (restamped_item by item) item
restamped_item_is by (Received d m) = (restamped_notified by d, not_later m)
restamped_item_is by (Tick m) = not_later m
restamped_item_is by (Close m) = not_later m

moved_item_is : (by : ℕ) (item : Item) → IsChangedItem (move by) (moved_item by item) item
moved_item_is by (Received d m) = (moved_notified by d, refl)
moved_item_is by (Tick m) = refl
moved_item_is by (Close m) = refl

renumbered_item_is : (by : ℕ) (item : Item) → IsChangedItem (renumber by) (renumbered_item by item) item
renumbered_item_is by (Received d m) = (renumbered_notified by d, not_later m)
renumbered_item_is by (Tick m) = not_later m
renumbered_item_is by (Close m) = not_later m

-- a KMREQ with another timestamp has the same contents
restamped_confirms : (by : ℕ) (item : Item) → item_confirmation (restamped_item by item) ≡ item_confirmation item
restamped_confirms by (Received d m) = confirmations_restamp by d.bytes
restamped_confirms by (Tick m) = refl
restamped_confirms by (Close m) = refl

moved_confirms : (by : ℕ) (item : Item) → item_confirmation (moved_item by item) ≡ item_confirmation item
moved_confirms by (Received d m) = refl
moved_confirms by (Tick m) = refl
moved_confirms by (Close m) = refl

restamped_asks : (by : ℕ) (item : Item) → item_request (restamped_item by item) ≡ item_request item
restamped_asks by (Received d m) = requests_restamp by d.bytes
restamped_asks by (Tick m) = refl
restamped_asks by (Close m) = refl

moved_asks : (by : ℕ) (item : Item) → item_request (moved_item by item) ≡ item_request item
moved_asks by (Received d m) = refl
moved_asks by (Tick m) = refl
moved_asks by (Close m) = refl

restamped_input_is : (by : ℕ) (item : Item) → IsChangedInput (restamp by) (restamped_item by item) item
restamped_input_is by item =
    record {
      item_is = restamped_item_is by item;
      asks_the_same = λ secured. restamped_asks by item;
      confirms_the_same = λ secured. restamped_confirms by item;
    }

moved_input_is : (by : ℕ) (item : Item) → IsChangedInput (move by) (moved_item by item) item
moved_input_is by item =
    record {
      item_is = moved_item_is by item;
      asks_the_same = λ secured. moved_asks by item;
      confirms_the_same = λ secured. moved_confirms by item;
    }

renumbered_input_is : (by : ℕ) (item : Item) → IsChangedInput (renumber by) (renumbered_item by item) item
renumbered_input_is by item =
    record {
      item_is = renumbered_item_is by item;
      asks_the_same = λ secured. absurd (let bad : false ≡ true = secured in cc);
      confirms_the_same = λ secured. absurd (let bad : false ≡ true = secured in cc);
    }

all_changed : (r : Change) (change : Item → Item)
    → ((item : Item) → IsChangedInput r (change item) item) → (items : List Item) → AreChanged r (map change items) items
all_changed r change is [] = tt
all_changed r change is (item ∷ items) = (is item, all_changed r change is items)

-- if no number changes, no reply does
same_output : (r : Change) → ((n : ℕ) → r.initial n ≡ n) → (x : Output) → changed_output r x ≡ x
same_output r numbers (Answers caller a) = ap (λ n. Answers caller (record a { initial = n })) (numbers a.initial)
same_output r numbers (AnswersWithKeys caller request a) = ap (λ n. AnswersWithKeys caller request (record a { initial = n })) (numbers a.initial)
same_output r numbers (Says caller initial time report) = ap (λ n. Says caller n time report) (numbers initial)
same_output r numbers (Ends caller time) = refl
same_output r numbers (Responds caller time contents) = refl
same_output r numbers (SaysWithKeys output) = refl

same_replies : (r : Change) → ((n : ℕ) → r.initial n ≡ n) → (xs : List Reply) → map (changed_reply r) xs ≡ xs
same_replies r numbers [] = refl
same_replies r numbers (x ∷ xs) =
    ap (λ o. record { peer = x.peer; packet = o } ∷ map (changed_reply r) xs) (same_output r numbers x.packet) ∙ ap (λ ys. x ∷ ys) (same_replies r numbers xs)

alike : (e : Terms) (index : ℕ) (r : Change) → (has_secured_role e ≡ true → r.secured ≡ true) → ((n : ℕ) → r.initial n ≡ n)
    → (js is : List Item) → AreChanged r js is → solo e index js ≡ solo e index is
alike e index r fits numbers js is h =
    solo_is e index js ∙ ap (λ xs. map sent xs) (all_same e index r fits js is h ∙ same_replies r numbers (all_replies e index is)) ∙ sym (solo_is e index is)

pub restamps : Restamps
restamps e index by items =
    alike e index (restamp by) (λ secured. refl) (λ n. refl) (map (restamped_item by) items) items
    (all_changed (restamp by) (restamped_item by) (restamped_input_is by) items)

pub moves : Moves
moves e index by items =
    alike e index (move by) (λ secured. refl) (λ n. refl) (map (moved_item by) items) items
    (all_changed (move by) (moved_item by) (moved_input_is by) items)

-- a SHUTDOWN has no numbers
shutdown_says : (by stamp dest : ℕ)
    → renumbered by (text (record { stamp = stamp; dest = dest; body = out.Shutdown }))
    ≡ text (record { stamp = stamp; dest = dest; body = out.Shutdown })
unfolding renumbered
shutdown_says by stamp dest = refl

-- an output with other numbers is the same bytes with those numbers
output_shifts : (by : ℕ) (x : Output) → IsSaid x → output_text (changed_output (renumber by) x) ≡ renumbered by (output_text x)
output_shifts by (Answers caller a) h = sym (answers_say by caller a h)
output_shifts by (AnswersWithKeys caller request a) h = absurd h
output_shifts by (Says caller initial time (ToPublisher report)) h = sym (publishers_say by caller initial time report h)
output_shifts by (Says caller initial time (ToSubscriber report)) h = sym (subscribers_say by caller initial time report h)
output_shifts by (Responds caller time contents) h = absurd h
output_shifts by (SaysWithKeys output) h = absurd h
output_shifts by (Ends caller time) h = sym (shutdown_says by (time % 2 ^ 32) caller)

all_shift : (by : ℕ) (xs : List Reply) → Each (λ (x : Reply). IsSaid x.packet) xs
    → map sent (map (changed_reply (renumber by)) xs) ≡ map (renumbered_datagram by) (map sent xs)
all_shift by [] h = refl
all_shift by (x ∷ xs) h =
    ap (λ bytes. record { peer = x.peer; bytes = bytes } ∷ map sent (map (changed_reply (renumber by)) xs)) (output_shifts by x.packet h.0)
    ∙ ap (λ ys. renumbered_datagram by (sent x) ∷ ys) (all_shift by xs h.1)

pub renumbers : Renumbers
renumbers e index by items clear =
    let changed = all_changed (renumber by) (renumbered_item by) (renumbered_input_is by) items in
    solo_is e index (map (renumbered_item by) items)
    ∙ ap (λ xs. map sent xs)
    (all_same e index (renumber by) (λ secured. absurd (let bad : true ≡ false = sym secured ∙ clear in cc)) (map (renumbered_item by) items) items
    changed)
    ∙ all_shift by (all_replies e index items) (all_said e index items clear)
    ∙ ap (λ xs. map (renumbered_datagram by) xs) (sym (solo_is e index items))
