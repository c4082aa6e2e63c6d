-- Step 6 of a route whose subscribers' sessions have keys.
use Rattle.std.proofs.Common.{◌≡◌, ℕ, ◌-◌, Some, zero, suc, ◌<◌, ◌≤◌, ◌||◌, Bool, true, false, Option, None, List}
use Rattle.std.proofs.Common.{[], ◌∷◌, length, map, find, get_or, refl, sym, ap, subst}
use Rattle.std.proofs.Common.{◌∙◌, arith}
use Rattle.std.specs.Prelude.{option_map, string_bytes}
use Rattle.srt_types.specs.Terms.{Terms}
use Rattle.srt_types.specs.declared.shared.Role.TheVariants.{Publish, Request}
use Rattle.srt_sub.specs.Says as subscriber_text
use Rattle.srt_sub.specs.Stands as subscribers
use Rattle.srt_sub.specs.Subscribing as subscribing
use Rattle.srt_sub.specs.declared.session.Subscriber.{Subscriber}
use Rattle.srt_session_keys.specs.Limiter.{moments_of}
use Rattle.srt_session_keys.specs.Source.{pool_of}
use Rattle.srt_session_keys.specs.Subscriber.{Subscriber as Keys}
use Rattle.srt_route.specs.declared.encrypted_transmit.KeyReceiver.{KeyReceiver}
use Rattle.srt_route.specs.declared.reply_queue.ReplyQueue.{ReplyQueue}
use Rattle.srt_route.specs.declared.route_keys.RouteKeys.{RouteKeys as TheRouteKeys}
use Rattle.srt_route.specs.declared.seat.Seat.{Seat}
use Rattle.srt_route.specs.declared.slot_keys.KeyPlace.{KeyPlace}
use Rattle.srt_route.specs.declared.slot_keys.SlotKeys.TheVariants as stored
use Rattle.srt_route.specs.declared.table.Table.{Table}
use Rattle.srt_route.specs.Buffers.{datagrams_to}
use Rattle.srt_route.specs.Past.{Subscribes, reported_under}
use Rattle.srt_route.specs.RouteKeys.{RouteKeys, SlotKeys, OfSubscriber, has_secured_role, own_if, own_in, own_keys, secures}
use Rattle.srt_route.specs.Route.{is_file_over, keys_finished, keys_finished_if, keys_in_slot, keys_said, sent, served}
use Rattle.srt_route.specs.Sessions.{Session, is_open_in}
use Rattle.srt_route.specs.SlotKeys.{place_keys_of}
use Rattle.srt_route.specs.StoredKeys.{AreKeys}
use Rattle.srt_route.specs.Tables.{IsTable, buffers_of}
use Rattle.srt_route.specs.inside.Encrypting.{AnnouncesWith, ReportsWith}
use Rattle.srt_route.specs.inside.Files.{AnnouncesAs, HasWhole, IsServed, SeatEndsWith, SeatServedWith, TransmitsAs, finished_subscriber, none_own}
use Rattle.srt_route.specs.inside.Files.{ending_texts, texts_under}
use Rattle.srt_route.specs.inside.OneSession.{SubscriberReported, SubscriberSaid}
use Rattle.srt_route.specs.inside.Reports.{Queues}
use Rattle.srt_route.proofs.stored.Kept.{seat_at, some_buffers}
use Rattle.srt_route.proofs.stored.KeptInOrder.{EachIn}
use Rattle.srt_route.proofs.steps.Serving.{ServesKeys, served_keys}
use Rattle.srt_route.specs.declared.seat.Session.{Session as TheSession}
use Rattle.srt_route.specs.Tables.{has_subscriber}
use Rattle.srt_route.specs.Waits.{replies_of, places_of}
use Rattle.srt_route.proofs.steps.Saying.{nothing_said}

-- a session without keys of its own
pub clear_transmits : (to : KeyReceiver) (k : SlotKeys) (old new : Subscriber) (before after : ReplyQueue)
    → own_keys k ≡ None → ((time : ℕ) (m : subscribing.Subscribing) → keys_said time (Subscribes m) k ≡ k)
    → SubscriberReported to.clock to.recent old new → SubscriberSaid to.clock to.recent to.peer old before after
    → TransmitsAs to k k old new before after
clear_transmits to k old new before after none stays reports says terms initial opening m stands fresh time =
    record {
      keys_are = sym (stays to.time m);
      stands = subst
          (λ (o : Option Keys). subscribers.StandsFor terms initial opening to.caller to.clock new (reported_under o terms to.time to.recent m)) (sym none)
          (subst
          (λ (t : ℕ). subscribers.StandsFor terms initial opening to.caller to.clock new (subscribing.reported terms t to.recent m)) (sym time)
          (reports terms initial opening to.caller m stands fresh));
      said = subst
          (λ (o : Option Keys). Queues before after (datagrams_to to.peer (texts_under o terms to.caller initial to.time to.recent m))) (sym none)
          (subst
          (λ (t : ℕ). Queues before after
          (datagrams_to to.peer (map (subscriber_text.says to.caller initial t) (subscribing.reports terms t to.recent m))))
          (sym time) (says terms initial opening to.caller m stands fresh));
    }

-- one with keys of its own
pub keyed_transmits : (to : KeyReceiver) (request : List ℕ) (earlier later : Keys) (old new : Subscriber) (before after : ReplyQueue)
    → ReportsWith to earlier later old new before after
    → TransmitsAs to (OfSubscriber request earlier) (OfSubscriber request later) old new before after
keyed_transmits to request earlier later old new before after reports terms initial opening m stands fresh time =
    let h = reports terms initial opening m stands fresh time in
    record { keys_are = ap (OfSubscriber request) h.keys_are; stands = h.stands; said = h.said }

-- a session that ends: without keys of its own nothing is due, and with some the KMREQ of the next one may be
pub clear_announces : (to : KeyReceiver) (k : SlotKeys) (x : Subscriber) (queue : ReplyQueue)
    → own_keys k ≡ None → ((time : ℕ) (m : subscribing.Subscribing) → keys_said time (Subscribes m) k ≡ k) → AnnouncesAs to k k x queue queue
clear_announces to k x queue none stays terms initial opening m stands =
    record {
      keys_are = sym (stays to.time m);
      said = subst (λ (o : Option Keys). Queues queue queue (datagrams_to to.peer (ending_texts o to.caller to.time m))) (sym none)
          (nothing_said (replies_of queue) (places_of queue));
    }

pub keyed_announces : (to : KeyReceiver) (request : List ℕ) (earlier later : Keys) (x : Subscriber) (before after : ReplyQueue)
    → AnnouncesWith to earlier later x before after → AnnouncesAs to (OfSubscriber request earlier) (OfSubscriber request later) x before after
keyed_announces to request earlier later x before after announces terms initial opening m stands =
    let h = announces terms initial opening m stands in record { keys_are = ap (OfSubscriber request) h.keys_are; said = h.said }

-- where subscribers aren't encrypted, no slot has keys of its own
pub served_in_clear : (e : Terms) (index clock : ℕ) (keys : RouteKeys) (ss : List Session) (table : Table) (stored_keys : TheRouteKeys)
    (before after : ReplyQueue)
    → secures e Request ≡ false → AreKeys e stored_keys keys
    → IsTable e index clock table (map (finished_subscriber none_own e clock (is_file_over e ss)) ss)
    → Queues before after (map sent (served none_own e clock (is_file_over e ss) ss))
    → IsServed e index clock keys ss table stored_keys before after
served_in_clear e index clock keys ss table stored_keys before after clear are body said =
    let over = is_file_over e ss in
    record {
      table_is = subst (λ (b : Bool). IsTable e index clock table (map (finished_subscriber (λ slot. own_if b keys.held slot) e clock over) ss)) (sym clear)
          body;
      keys_are = subst (λ (b : Bool). AreKeys e stored_keys (keys_finished_if b clock ss keys)) (sym clear) are;
      said = subst (λ (b : Bool). Queues before after (map sent (served (λ slot. own_if b keys.held slot) e clock over ss))) (sym clear) said;
    }

-- the stored keys of a slot
pub no_place : KeyPlace
no_place = record { is_held = false; keys = stored.Clear }

pub is_secured : (publish request : Bool) → request ≡ true → (publish || request) ≡ true
is_secured true request h = refl
is_secured false request h = h

pub own_stored : (e : Terms) (keys : TheRouteKeys) (m : RouteKeys) (at : ℕ) (d : KeyPlace)
    → AreKeys e keys m → secures e Request ≡ true → at < e.sessions → own_in e m at ≡ own_keys (place_keys_of (get_or keys.slots.items at d))
own_stored e keys m at d are secured below =
    ap (λ (b : Bool). own_if b m.held at) secured
    ∙ sym (ap own_keys (are.held_are (is_secured (secures e Publish) (secures e Request) secured) at d below))

-- the keys of a place after it was served
abbrev pub KeepsPlace : (clock : ℕ) (over : Bool) → List Seat → ℕ → KeyPlace → KeyPlace → Type 0
KeepsPlace clock over seats at p q = (x : Seat) → x ≡ get_or seats at x → ServesKeys clock over x (place_keys_of p) (place_keys_of q)

pub serves_keys : (clock : ℕ) (over whole : Bool) (x y : Seat) (earlier later : SlotKeys) (now then_ : ReplyQueue) → HasWhole over x whole
    → (whole ≡ true → SeatEndsWith clock earlier later x y now then_) → (whole ≡ false → SeatServedWith clock earlier later x y now then_)
    → ServesKeys clock over x earlier later
serves_keys clock over whole x y earlier later now then_ has ends serves =
    record {
      whole = whole;
      whole_is = has;
      none = λ is silent. (serves is).unchanged silent;
      said = λ subscribes t stored terms initial m stands fresh. by whole ends serves subscribes t stored terms initial m stands fresh;
    }
  where
    by : (b : Bool) → (b ≡ true → SeatEndsWith clock earlier later x y now then_) → (b ≡ false → SeatServedWith clock earlier later x y now then_)
        → has_subscriber x ≡ true → (t : TheSession) → x.session ≡ Some t
        → (terms : subscribing.Terms) (initial : ℕ) (m : subscribing.Subscribing)
        → subscribers.StandsFor terms initial t.opened t.caller clock x.subscriber m → subscribing.expired terms (clock - t.opened) m ≡ m
        → later ≡ keys_said (clock - t.opened) (Subscribes m) earlier
    by true ends serves subscribes t stored terms initial m stands fresh = ((ends refl).tells t stored terms initial t.opened m stands).keys_are
    by false ends serves subscribes t stored terms initial m stands fresh =
        ((serves refl).transmits subscribes t stored terms initial t.opened m stands fresh refl).keys_are

some_item : {A : Type 0} (xs : List A) (k : ℕ) → k < length xs → (x : A) × (x ≡ get_or xs k x)
some_item [] k lt = absurd (omega (arith, lt))
some_item (x ∷ xs) zero lt = (x, refl)
some_item (x ∷ xs) (suc k) lt = let later = some_item xs k (omega (arith, lt)) in (later.0, later.1)

-- what else a route has for its keys stays
abbrev pub SameRest : (old new : TheRouteKeys) → Type 0
SameRest old new = (new.publish ≡ old.publish) × (new.request ≡ old.request) × (new.limiter ≡ old.limiter) × (new.pool ≡ old.pool)

pub keys_done : (e : Terms) (index clock : ℕ) (over : Bool) (at : ℕ) (table : Table) (ss : List Session) (old new : TheRouteKeys) (m : RouteKeys)
    → IsTable e index clock table ss → AreKeys e old m → secures e Request ≡ true → length table.seats.items ≤ at
    → SameRest old new → EachIn (KeepsPlace clock over table.seats.items) at old.slots.items new.slots.items
    → AreKeys e new (keys_finished e clock ss m)
keys_done e index clock over at table ss old new m body are secured all rest h =
    subst (λ (b : Bool). AreKeys e new (keys_finished_if b clock ss m)) (sym secured)
    (record {
      publish_is = ap (λ (p : _). option_map string_bytes p) rest.0 ∙ are.publish_is;
      request_is = ap (λ (p : _). option_map string_bytes p) rest.1 ∙ are.request_is;
      moments_are = ap (λ (l : _). moments_of l) rest.2 ∙ are.moments_are;
      pool_is = ap (λ (p : _). pool_of p) rest.3 ∙ are.pool_is;
      places_are = λ has. h.same_length ∙ are.places_are has;
      held_are = λ has slot d below. one has slot d below;
    })
  where
    one : has_secured_role e ≡ true → (slot : ℕ) (d : KeyPlace) → slot < e.sessions
        → place_keys_of (get_or new.slots.items slot d) ≡ keys_in_slot clock (find (is_open_in slot) ss) (m.held slot)
    one has slot d below =
        let inside : slot < length table.seats.items = omega (arith, below, body.places_are) in
        let place : slot < length old.slots.items = omega (arith, below, are.places_are has) in
        let x = some_item table.seats.items slot inside in
        let it = h.done slot d (omega (arith, inside, all)) place x.0 x.1 in
        served_keys e index clock over slot (buffers_of table.publishers.items x.0 (some_buffers table)) x.0 ss
        (place_keys_of (get_or old.slots.items slot d)) (place_keys_of (get_or new.slots.items slot d))
        (seat_at e index clock table ss slot x.0 (some_buffers table) body inside x.1) it
        ∙ ap (keys_in_slot clock (find (is_open_in slot) ss)) (are.held_are has slot d below)
