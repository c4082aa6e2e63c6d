-- One more item.
use Rattle.std.proofs.Common.{◌≡◌, ℕ, ◌≤◌, ◌+◌, ◌*◌, Bool, true, false, Option, List, [], ◌∷◌, ◌++◌, length, map, sym, ap, subst, ◌∙◌, append_assoc, arith}
use Rattle.std.proofs.lemmas.List.{length-map, map-append}
use Rattle.srt_types.specs.Terms.{Terms}
use Rattle.srt_types.specs.Items.{Item, Datagram}
use Rattle.srt_route.specs.declared.reply_queue.ReplyQueue.{ReplyQueue}
use Rattle.srt_route.specs.declared.table.Table.{Table}
use Rattle.srt_route.specs.Written.{written}
use Rattle.srt_route.specs.Sessions.{Session, speaks, advanced}
use Rattle.srt_types.specs.declared.shared.Role.TheVariants.{Request}
use Rattle.srt_session_keys.specs.Subscriber.{Subscriber as Keys}
use Rattle.srt_route.specs.declared.route_keys.RouteKeys.{RouteKeys as TheRouteKeys}
use Rattle.srt_route.specs.RouteKeys.{RouteKeys, own_in, secures}
use Rattle.srt_route.specs.Route.{keys_finished, keys_finished_if, own_by}
use Rattle.srt_route.specs.StoredKeys.{AreKeys}
use Rattle.srt_route.specs.Route.{Reply, Route, Taken, idle_notified, sent, clock_after, heard_as, judged, keys_at, taken, taken_as, taken_by, passed_by}
use Rattle.srt_route.specs.Route.{after_delivery, finished, is_file_over, packets_where, served, replies_at, replies_to, sessions_at, reply, with_input}
use Rattle.srt_route.specs.Tables.{IsTable}
use Rattle.srt_route.specs.inside.Reports.{Queues}
use Rattle.srt_route.specs.inside.Delivery.{changed, after_publisher}
use Rattle.srt_route.specs.inside.Files.{ServesSubscribers}
use Rattle.srt_route.specs.inside.Calls.{TableBecomes, TellsIdle, Transmits}
use Rattle.srt_route.specs.Waits.{replies_of, places_of}
use Rattle.srt_route.proofs.model.Places.{replies_have_places}
use Rattle.srt_route.proofs.steps.Saying.{said_then, same_said}
use Rattle.srt_route.proofs.steps.Serving.{all_finished, keys_after, same_served}

-- the output at an event's end, at a clock
abbrev pub said_at : (own : ℕ → Option Keys) → Terms → (clock : ℕ) → List Session → List Datagram
said_at own e clock ss =
    let later = after_delivery e clock ss in
    map sent (packets_where e clock speaks later ++ served own e clock (is_file_over e later) later)

-- the output of an event before its end, at a clock
abbrev pub answered_at : Terms → (clock : ℕ) → List Session → Taken → List Datagram
answered_at e clock ss took = map sent (idle_notified e clock ss) ++ map sent took.answers

-- the sessions after its end
abbrev pub ended_at : (own : ℕ → Option Keys) → Terms → (clock : ℕ) → List Session → List Session
ended_at own e clock ss = map (finished own e clock (is_file_over e ss)) ss

-- the keys after it
abbrev pub keys_ended_at : Terms → (clock : ℕ) → List Session → RouteKeys → RouteKeys
keys_ended_at e clock ss keys = keys_finished e clock ss keys

-- the same keys in each slot are the same to a route that stores them
keys_by : (secured : Bool) (e : Terms) (clock : ℕ) (ss : List Session) (keys : RouteKeys) (stored : TheRouteKeys)
    → AreKeys e stored (keys_finished_if secured clock (map (changed (after_publisher e clock)) ss) keys)
    → AreKeys e stored (keys_finished_if secured clock ss keys)
keys_by true e clock ss keys stored are =
    record {
      publish_is = are.publish_is;
      request_is = are.request_is;
      moments_are = are.moments_are;
      pool_is = are.pool_is;
      places_are = are.places_are;
      held_are = λ has slot d below. are.held_are has slot d below ∙ keys_after e clock ss keys slot;
    }
keys_by false e clock ss keys stored are = are

-- the sessions went through an event: the last table represents the sessions after it, the keys are those after it, and its
-- output is queued
pub record IsStepped (e : Terms) (index clock : ℕ) (sessions : List Session) (took : Taken) (keys : RouteKeys) (last : Table) (stored : TheRouteKeys)
    (before after : ReplyQueue) : Type 0 where
  pub last_is : IsTable e index clock last (ended_at (own_in e keys) e clock (after_delivery e clock took.sessions))
  pub keys_are : AreKeys e stored (keys_ended_at e clock (after_delivery e clock took.sessions) keys)
  pub said : Queues before after (answered_at e clock sessions took ++ said_at (own_in e keys) e clock took.sessions)

-- the steps, by the tables and queues between them; `took` is what step 3 makes of the item, and `keys` are those after it
pub stepped : (e : Terms) (index before clock : ℕ) (sessions : List Session) (took : Taken) (keys : RouteKeys)
    (first second third fourth last : Table) (earlier later : TheRouteKeys) (queue notified answered middle end : ReplyQueue)
    → IsTable e index before first sessions → TellsIdle clock first queue notified
    → IsTable e index clock second took.sessions → Queues notified answered (map sent took.answers)
    → TableBecomes clock second third (λ d. after_delivery d clock)
    → TableBecomes clock third fourth (λ d. map (changed (after_publisher d clock)))
    → Transmits clock third answered middle (λ d. packets_where d clock speaks)
    → AreKeys e earlier keys → ServesSubscribers clock fourth last earlier later middle end
    → IsStepped e index clock sessions took keys last later queue end
stepped e index before clock sessions took keys first second third fourth last earlier later queue notified answered middle end body tells second_is
    answers delivers publishers published keys_are serves =
    let own = own_in e keys in
    let ss = after_delivery e clock took.sessions in
    let third_is = delivers e index took.sessions second_is in
    let fourth_is = publishers e index ss third_is in
    let it = serves e index (map (changed (after_publisher e clock)) ss) keys fourth_is keys_are in
    let from_publishers = packets_where e clock speaks ss in
    let from_subscribers = served own e clock (is_file_over e ss) ss in
    let rest = same_said (ap (λ (rs : List Reply). map sent rs) (same_served own e index clock third ss third_is)) it.said in
    let both : Queues answered end (said_at own e clock took.sessions) =
    same_said (sym (map-append sent from_publishers from_subscribers))
    (said_then (replies_of answered) (replies_of middle) (replies_of end) _ _ _ (map sent from_publishers) (map sent from_subscribers)
    (published e index ss third_is) rest) in
    record {
      last_is = subst (λ (ts : List Session). IsTable e index clock last ts) (all_finished own e clock ss) it.table_is;
      keys_are = keys_by (secures e Request) e clock ss keys later it.keys_are;
      said = said_then (replies_of queue) (replies_of answered) (replies_of end) _ _ _ (answered_at e clock sessions took)
          (said_at own e clock took.sessions)
          (said_then (replies_of queue) (replies_of notified) (replies_of answered) _ _ _ (map sent (idle_notified e clock sessions)) (map sent took.answers)
          (tells e index before sessions body) answers)
          both;
    }

-- the table before the subscribers' step
pub before_subscribers : (e : Terms) (index clock : ℕ) (ss : List Session) (second third fourth : Table)
    → IsTable e index clock second ss → TableBecomes clock second third (λ d. after_delivery d clock)
    → TableBecomes clock third fourth (λ d. map (changed (after_publisher d clock)))
    → IsTable e index clock fourth (map (changed (after_publisher e clock)) (after_delivery e clock ss))
before_subscribers e index clock ss second third fourth second_is delivers publishers =
    publishers e index (after_delivery e clock ss) (delivers e index ss second_is)

-- what step 3 makes of an item at a clock
abbrev pub taken_at : Terms → (index clock : ℕ) → Item → Route → Taken
taken_at e index clock item m =
    let ss = advanced e clock m.sessions in
    let v = (judged e index clock item ss m.keys).verdict in taken_as v (taken e index clock (heard_as v item) ss)

-- the keys after step 3
abbrev pub judged_keys : Terms → (index clock : ℕ) → Item → Route → RouteKeys
judged_keys e index clock item m = (judged e index clock item (advanced e clock m.sessions) m.keys).keys

abbrev pub own_at : Terms → (index clock : ℕ) → Item → Route → (slot : ℕ) → Option Keys
own_at e index clock item m = own_in e (judged_keys e index clock item m)

-- the sessions after an item on an open route
pub passed_table : (e : Terms) (index clock : ℕ) (item : Item) (m : Route) (last : Table) → m.is_closed ≡ false → clock ≡ clock_after item m
    → IsTable e index clock last (ended_at (own_at e index clock item m) e clock (after_delivery e clock (taken_at e index clock item m).sessions))
    → IsTable e index clock last (with_input e index item m).sessions
passed_table e index clock item m last is_open clock_is body =
    subst (λ b. IsTable e index clock last (sessions_at b e index item m)) (sym is_open)
    (subst (λ (n : ℕ). IsTable e index clock last (ended_at (own_at e index n item m) e n (after_delivery e n (taken_at e index n item m).sessions)))
    clock_is body)

-- the keys after an item on an open route
pub passed_keys : (e : Terms) (index clock : ℕ) (item : Item) (m : Route) (keys : TheRouteKeys) → m.is_closed ≡ false → clock ≡ clock_after item m
    → AreKeys e keys (keys_ended_at e clock (after_delivery e clock (taken_at e index clock item m).sessions) (judged_keys e index clock item m))
    → AreKeys e keys (with_input e index item m).keys
passed_keys e index clock item m keys is_open clock_is are =
    subst (λ b. AreKeys e keys (keys_at b e index item m)) (sym is_open)
    (subst
    (λ (n : ℕ). AreKeys e keys (keys_ended_at e n (after_delivery e n (taken_at e index n item m).sessions) (judged_keys e index n item m)))
    clock_is are)

-- the replies to an item on an open route
pub queued_replies : (e : Terms) (index clock : ℕ) (item : Item) (m : Route) (before after : ReplyQueue)
    → m.is_closed ≡ false → clock ≡ clock_after item m
    → Queues before after
    (answered_at e clock m.sessions (taken_at e index clock item m)
    ++ said_at (own_at e index clock item m) e clock (taken_at e index clock item m).sessions)
    → Queues before after (map sent (replies_to e index item m))
queued_replies e index clock item m before after is_open clock_is said =
    let answers = (taken_by e index item m).answers in
    let first = packets_where e (clock_after item m) speaks (passed_by e index item m) in
    let second = served (own_by e index item m) e (clock_after item m) (is_file_over e (passed_by e index item m)) (passed_by e index item m) in
    let idle = idle_notified e (clock_after item m) m.sessions in
    let all : map sent idle ++ map sent answers ++ map sent (first ++ second) ≡ map sent (replies_to e index item m) =
    ap (λ (ds : List Datagram). ds ++ map sent (first ++ second)) (sym (map-append sent idle answers))
    ∙ sym (map-append sent (idle ++ answers) (first ++ second))
    ∙ ap (λ (rs : List Reply). map sent rs) (sym (append_assoc (idle ++ answers) first second))
    ∙ ap (λ b. map sent (replies_at b e index item m)) (sym is_open) in
    same_said
    (ap
    (λ (n : ℕ). answered_at e n m.sessions (taken_at e index n item m)
    ++ said_at (own_at e index n item m) e n (taken_at e index n item m).sessions)
    clock_is
    ∙ all)
    said

-- the replies wait in a queue that was empty
pub replies_wait : (e : Terms) (index : ℕ) (items : List Item) (item : Item) (before later : ReplyQueue)
    → 4 + 66 * e.sessions ≤ places_of before → map written (replies_of before) ≡ []
    → Queues before later (reply e index (item ∷ items)) → map written (replies_of later) ≡ reply e index (item ∷ items)
replies_wait e index items item before later room none said =
    let empty : length (replies_of before) ≡ 0 = sym (length-map (replies_of before) written) ∙ ap length none in
    said.waiting (omega (arith, empty, replies_have_places e index (item ∷ items), room))
    ∙ ap (λ (ds : List Datagram). ds ++ reply e index (item ∷ items)) none
