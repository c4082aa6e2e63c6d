-- A closed route: what is left of its table, and what it shows of its sessions, all of which have ended.
use Rattle.std.proofs.Common.{◌≡◌, ℕ, zero, suc, ◌+◌, ◌*◌, ◌%◌, ◌<◌, ◌≤◌, Bool, true, false, ◌||◌, max, Option, None, Some, List, [], ◌∷◌}
use Rattle.std.proofs.Common.{length, find, get_or, refl, sym, ap, subst, ◌∙◌, arith}
use Rattle.srt_types.specs.Terms.{Terms}
use Rattle.srt_types.specs.Items.{Item, moment_of}
use Rattle.srt_pub.specs.declared.session.Publisher.{Publisher}
use Rattle.srt_sub.specs.declared.session.Subscriber.{Subscriber}
use Rattle.srt_route.specs.declared.reply_queue.ReplyQueue.{ReplyQueue}
use Rattle.srt_route.specs.declared.reply_queue.ScratchBoxes.{ScratchBoxes}
use Rattle.srt_route.specs.declared.route.Route.{Route as TheRoute}
use Rattle.srt_route.specs.declared.route_keys.RouteKeys.{RouteKeys}
use Rattle.srt_route.specs.declared.seat.Seat.{Seat}
use Rattle.srt_route.specs.declared.stage.Stage.{Stage}
use Rattle.srt_route.specs.declared.stage.Stage.TheVariants.{Open, Closed}
use Rattle.srt_route.specs.declared.table.Table.{Table}
use Rattle.srt_route.specs.declared.totals.Totals.{Totals}
use Rattle.srt_route.specs.Buffers.{IsSeated}
use Rattle.srt_route.specs.Waits.{IsTrimmed}
use Rattle.srt_route.specs.Sessions.{Session, generation_of, is_open_in, open_publishers}
use Rattle.srt_route.specs.Route.{Route, after, closes, sessions_at}
use Rattle.srt_route.specs.Stages.{AreGenerations, HasKeys, HasRoom, Represents, buffers_in, is_closed}
use Rattle.srt_route.specs.Stands.{HasGivenBack, IsRoute, places}
use Rattle.srt_route.specs.Tables.{IsTable}
use Rattle.srt_route.specs.Totals.{AddUp}
use Rattle.srt_route.specs.Viewing.{Shows, ShowsSession}
use Rattle.srt_route.specs.inside.Event.{IsBefore}
use Rattle.srt_route.proofs.model.Lists.{Each}
use Rattle.srt_route.proofs.model.Ending.{HasEnded, closed_ended, none_open}
use Rattle.srt_route.proofs.steps.Passing.{seat_of}
use Rattle.srt_route.proofs.stored.Kept.{some_buffers}
use Rattle.srt_route.proofs.stored.Stored.{some_item}
use Rattle.srt_route.specs.Route.{route_before}
use Rattle.srt_route.proofs.model.GivingUp.{closed_before}
use Rattle.srt_route.specs.Route.{clock_after}

-- a number that is the generation of a table's seat
pub generation_there : (e : Terms) (index clock : ℕ) (table : Table) (ss : List Session) (slot n : ℕ) → IsTable e index clock table ss
    → ((d : Seat) → slot < length table.seats.items → n ≡ (get_or table.seats.items slot d).generation)
    → slot < e.sessions → n ≡ generation_of ss slot % 65536
generation_there e index clock table ss slot n is same below =
    let inside : slot < length table.seats.items = omega (arith, below, is.places_are) in
    let d = some_item table.seats.items slot inside in
    same d inside ∙ (is.seats_are slot d (some_buffers table) inside).count_is

pub generations_left : (e : Terms) (index clock : ℕ) (table : Table) (generations : List ℕ) (ss : List Session) → IsTable e index clock table ss
    → ((slot : ℕ) (d : Seat) → slot < length table.seats.items → get_or generations slot 0 ≡ (get_or table.seats.items slot d).generation)
    → ((slot : ℕ) → length table.seats.items ≤ slot → get_or generations slot 0 ≡ 0)
    → AreGenerations e.sessions generations ss
generations_left e index clock table generations ss is counts none = record {
  counts = λ slot below. generation_there e index clock table ss slot (get_or generations slot 0) is (counts slot) below;
  none = λ slot past. none slot (omega (arith, past, is.places_are));
}

pub no_publishers : (ss : List Session) → Each HasEnded ss → open_publishers ss ≡ 0
no_publishers [] h = refl
no_publishers (s ∷ ss) h = rw (h.0) (no_publishers ss h.1)

pub none_shown : (e : Terms) (index slot : ℕ) (ss : List Session) → Each HasEnded ss → ShowsSession e index slot ss None
none_shown e index slot ss h = subst (λ (o : Option Session). Shows e index ss o None) (sym (none_open slot ss h)) tt

pub none_added : (e : Terms) (index : ℕ) (ss : List Session) (slots : ℕ) (ended : Totals) → Each HasEnded ss → AddUp e index ss slots ended ended
none_added e index ss zero ended h = refl
none_added e index ss (suc slots) ended h = record {
  before = ended;
  shown = None;
  before_is = none_added e index ss slots ended h;
  shows = none_shown e index slots ss h;
  all_is = refl;
}

-- a route's stage, and what it represents then
pub was_open : (e : Terms) (index : ℕ) (r : TheRoute) (m : Route) (table : Table) (keys : RouteKeys) (scratch : ScratchBoxes)
    → IsRoute e index r m → r.stage ≡ Open table keys scratch → m.is_closed ≡ false
was_open e index r m table keys scratch h is = h.closed_is ∙ ap is_closed is

pub was_closed : (e : Terms) (index : ℕ) (r : TheRoute) (m : Route) (generations : List ℕ)
    → IsRoute e index r m → r.stage ≡ Closed generations → m.is_closed ≡ true
was_closed e index r m generations h is = h.closed_is ∙ ap is_closed is

pub table_of : (e : Terms) (index : ℕ) (r : TheRoute) (m : Route) (table : Table) (keys : RouteKeys) (scratch : ScratchBoxes)
    → IsRoute e index r m → r.stage ≡ Open table keys scratch → IsTable e index r.clock table m.sessions
table_of e index r m table keys scratch h is = subst (λ (s : Stage). Represents e index r.clock s m.sessions) is h.stage_is

pub room_of : (e : Terms) (index : ℕ) (r : TheRoute) (m : Route) (table : Table) (keys : RouteKeys) (scratch : ScratchBoxes)
    → IsRoute e index r m → r.stage ≡ Open table keys scratch → 4 + 66 * e.sessions ≤ places r
room_of e index r m table keys scratch h is = subst (λ (s : Stage). HasRoom s e.sessions r.waiting) is h.room

pub left_of : (e : Terms) (index : ℕ) (r : TheRoute) (m : Route) (generations : List ℕ)
    → IsRoute e index r m → r.stage ≡ Closed generations → AreGenerations e.sessions generations m.sessions
left_of e index r m generations h is = subst (λ (s : Stage). Represents e index r.clock s m.sessions) is h.stage_is

pub given_back : (e : Terms) (index : ℕ) (r : TheRoute) (m : Route) (generations : List ℕ)
    → IsRoute e index r m → r.stage ≡ Closed generations → HasGivenBack r
given_back e index r m generations h is = record {
  buffers = ap buffers_in is;
  queue = subst (λ (s : Stage). HasRoom s e.sessions r.waiting) is h.room;
}

pub all_ended : (e : Terms) (index : ℕ) (items : List Item) (r : TheRoute) (generations : List ℕ)
    → IsRoute e index r (after e index items) → r.stage ≡ Closed generations → Each HasEnded (after e index items).sessions
all_ended e index items r generations h is =
    closed_ended e index items (was_closed e index r (after e index items) generations h is)

-- before an event on an open route
pub comes_before : (e : Terms) (index clock : ℕ) (item : Item) (r : TheRoute) (m : Route) (table : Table) (keys : RouteKeys) (scratch : ScratchBoxes)
    → IsRoute e index r m → r.stage ≡ Open table keys scratch → clock ≡ max r.clock (moment_of item) → IsBefore e index clock item table keys m
comes_before e index clock item r m table keys scratch h is moment = record {
  is_open = was_open e index r m table keys scratch h is;
  clock_is = moment ∙ ap (λ (n : ℕ). max n (moment_of item)) h.clock_is;
  table_is = subst (λ (n : ℕ). IsTable e index n table m.sessions) h.clock_is (table_of e index r m table keys scratch h is);
  keys_are = subst (λ (s : Stage). HasKeys e s m.keys) is h.keys_are;
}

-- in a closed route only the clock advances
pub stays_closed : (e : Terms) (index : ℕ) (items : List Item) (item : Item) (old new : TheRoute) (generations : List ℕ)
    → IsRoute e index old (after e index items) → old.stage ≡ Closed generations → new.clock ≡ max old.clock (moment_of item)
    → new.stage ≡ old.stage → new.waiting ≡ old.waiting → IsRoute e index new (after e index (item ∷ items))
stays_closed e index items item old new generations h is moment same queue =
    let m = after e index items in
    let closed : m.is_closed ≡ true = was_closed e index old m generations h is in
    record {
      clock_is = moment ∙ ap (λ (n : ℕ). max n (moment_of item)) h.clock_is;
      stage_is =
          subst (λ (b : Bool). Represents e index new.clock new.stage (sessions_at b e index item (route_before e index item items))) (sym closed)
          (subst (λ (ss : List Session). Represents e index new.clock new.stage ss) (sym (closed_before e (clock_after item m) m closed))
          (subst (λ (s : Stage). Represents e index new.clock s m.sessions) (sym (same ∙ is)) (left_of e index old m generations h is)));
      room =
          subst (λ (s : Stage). HasRoom s e.sessions new.waiting) (sym same)
          (subst (λ (w : ReplyQueue). HasRoom old.stage e.sessions w) (sym queue) h.room);
      closed_is = ap (λ (b : Bool). b || closes item) closed ∙ sym (ap is_closed (same ∙ is));
      keys_are = subst (λ (s : Stage). HasKeys e s (after e index (item ∷ items)).keys) (sym (same ∙ is)) tt;
    }

-- the route after the event that closes it
pub closes_down : (e : Terms) (index : ℕ) (items : List Item) (item : Item) (r : TheRoute) (generations : List ℕ)
    → r.stage ≡ Closed generations → r.clock ≡ (after e index (item ∷ items)).clock → (after e index items).is_closed ≡ false
    → AreGenerations e.sessions generations (after e index (item ∷ items)).sessions → IsTrimmed r.waiting → closes item ≡ true
    → IsRoute e index r (after e index (item ∷ items))
closes_down e index items item r generations is clock is_open left trimmed shut = record {
  clock_is = clock;
  stage_is = subst (λ (s : Stage). Represents e index r.clock s (after e index (item ∷ items)).sessions) (sym is) left;
  room = subst (λ (s : Stage). HasRoom s e.sessions r.waiting) (sym is) trimmed;
  closed_is = ap (λ (b : Bool). b || closes item) is_open ∙ (shut ∙ sym (ap is_closed is));
  keys_are = subst (λ (s : Stage). HasKeys e s (after e index (item ∷ items)).keys) (sym is) tt;
}

-- the buffers of a slot's open session: if there is one, the route wasn't closed
pub seat_in : (e : Terms) (index : ℕ) (items : List Item) (r : TheRoute) → IsRoute e index r (after e index items) → (slot : ℕ) (s : Session)
    → find (is_open_in slot) (after e index items).sessions ≡ Some s → (p : Publisher) × (x : Subscriber) × IsSeated e r.clock p x s
seat_in e index items r h slot s found = by r.stage refl
  where
    by : (stage : Stage) → r.stage ≡ stage → (p : Publisher) × (x : Subscriber) × IsSeated e r.clock p x s
    by (Open table keys scratch) is =
        seat_of e index r.clock table (after e index items).sessions (table_of e index r (after e index items) table keys scratch h is) slot s found
    by (Closed generations) is =
        let none = none_open slot (after e index items).sessions (all_ended e index items r generations h is) in
        absurd (let bad : None ≡ Some s = sym none ∙ found in cc)
