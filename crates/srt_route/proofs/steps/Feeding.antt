-- The room of a slot's subscriber, and what it is fed.
use Rattle.std.proofs.Common.{◌≡◌, ℕ, suc, ◌+◌, ◌-◌, ◌<◌, ◌≤◌, Bool, true, false, not, cond, Option, None, Some, List, length, find, get_or}
use Rattle.std.proofs.Common.{refl, sym, ap, subst, ◌∙◌, arith}
use Rattle.std.specs.Prelude.{filter_map, fold}
use Rattle.srt_types.specs.declared.shared.Mode.TheVariants.{Buffer}
use Rattle.srt_types.specs.Runs.{numbers_from}
use Rattle.srt_types.specs.Terms.{Terms}
use Rattle.srt_sendbuf.specs.Sending.{room}
use Rattle.srt_pub.specs.declared.session.Publisher.{Publisher}
use Rattle.srt_sub.specs.Subscribing as subscribing
use Rattle.srt_sub.specs.Stands as subscribers
use Rattle.srt_sub.proofs.Freshness.{expires_once}
use Rattle.srt_sub.specs.declared.session.Subscriber.{Subscriber}
use Rattle.srt_route.specs.declared.seat.Session.{Session as TheSession}
use Rattle.srt_route.specs.declared.seat.Seat.{Seat}
use Rattle.srt_route.specs.declared.table.Table.{Table}
use Rattle.srt_route.specs.Past.{Past, Publishes, Subscribes, least_with}
use Rattle.srt_route.specs.Sessions.{Session, is_open_in, publishes, terms_of, time_in}
use Rattle.srt_route.specs.Buffers.{IsPast, IsSeated}
use Rattle.srt_route.specs.Parts.{role_of}
use Rattle.srt_route.specs.Tables.{IsSession, IsStored, IsSeat, IsTable, buffers_of, has_subscriber}
use Rattle.srt_route.specs.Seats.{session_passes}
use Rattle.srt_route.specs.inside.Delivery.{changed, fed, fed_past, HasRoom, HaveRoom, lesser}
use Rattle.srt_route.proofs.model.Found.{changed as becomes}
use Rattle.srt_route.proofs.stored.Kept.{still_stored, Becomes, same_buffers, some_buffers, seat_at}
use Rattle.srt_route.proofs.model.Changes.{is_there}

abbrev pub subscribes : Option TheSession → Bool
subscribes o = session_passes (λ t. not (publishes (role_of t.part))) o

pub changed_is : (s : Session) (g : Session → Past) (past : Past) → s.is_open ≡ true → g s ≡ past → changed g s ≡ record s { past = past }
changed_is s g past o is = ap (λ (b : Bool). cond b (record s { past = g s }) s) o ∙ ap (λ (p : Past). record s { past = p }) is

-- the buffers represent a changed session if they represent its new past
pub seated_with : (e : Terms) (clock : ℕ) (p : Publisher) (y : Subscriber) (s : Session) (g : Session → Past) (past : Past)
    → s.is_open ≡ true → g s ≡ past → IsPast e clock p y s past → s.opening ≤ clock → IsSeated e clock p y (changed g s)
seated_with e clock p y s g past o is h opened =
    subst (λ (t : Session). IsSeated e clock p y t) (sym (changed_is s g past o is)) (record { past_is = h; opened = opened })

pub publisher_subscribes : (e : Terms) (index : ℕ) (t : TheSession) (s : Session)
    → IsSession e index t s → publishes s.conclusion.role ≡ true → subscribes (Some t) ≡ false
publisher_subscribes e index t s is h = rw (is.role_is, h) refl

pub subscriber_subscribes : (e : Terms) (index : ℕ) (t : TheSession) (s : Session)
    → IsSession e index t s → publishes s.conclusion.role ≡ false → subscribes (Some t) ≡ true
subscriber_subscribes e index t s is h = rw (is.role_is, h) refl

-- the effect of a call on a slot's subscriber
abbrev pub Stays : Option TheSession → (x y : Subscriber) → Type 0
Stays o x y = subscribes o ≡ false → y ≡ x

abbrev pub Feeds : (clock : ℕ) (payload : List ℕ) → Option TheSession → (x y : Subscriber) → Type 0
Feeds clock payload o x y =
    subscribes o ≡ true → (terms : subscribing.Terms) (initial opening caller : ℕ) (m : subscribing.Subscribing)
    → subscribers.StandsFor terms initial opening caller clock x m → 0 < length payload → (terms.mode ≡ Buffer → 0 < room terms.width m.sending)
    → subscribers.StandsFor terms initial opening caller clock y
    (subscribing.fed terms (clock - opening) payload (subscribing.expired terms (clock - opening) m))

pub wide_by : (e : Terms) (clock : ℕ) (y : Subscriber) (s : Session) (m : subscribing.Subscribing)
    → subscribers.StandsFor (terms_of e s).subscriber s.conclusion.initial s.opening s.conclusion.caller clock y m
    → subscribers.IsWide e.buffer y
wide_by e clock y s m h = (s.conclusion.initial, m.sending, h.buffer_is)

pub record IsFed (e : Terms) (clock : ℕ) (p : Publisher) (y : Subscriber) (s : Session) : Type 0 where
  pub wide : subscribers.IsWide e.buffer y
  pub seated : IsSeated e clock p y s

pub fed_seat : (e : Terms) (index clock : ℕ) (p : Publisher) (x y : Subscriber) (o : Option TheSession) (s : Session) (payload : List ℕ)
    → IsStored e index o (Some s) → IsSeated e clock p x s → s.is_open ≡ true → subscribers.IsWide e.buffer x → 0 < length payload
    → HasRoom e 1 s.past → Stays o x y → Feeds clock payload o x y
    → IsFed e clock p y (changed (fed e clock payload) s)
fed_seat e index clock p x y None s payload is seat opened wide some has stays feeds = absurd is
fed_seat e index clock p x y (Some t) s payload is seat opened wide some has stays feeds = by s.past refl seat.past_is has
  where
    by : (past : Past) → s.past ≡ past → IsPast e clock p x s past → HasRoom e 1 past → IsFed e clock p y (changed (fed e clock payload) s)
    by (Publishes m) q h r =
        let same : y ≡ x = stays (publisher_subscribes e index t s is h.0) in
        subst (λ (z : Subscriber). IsFed e clock p z (changed (fed e clock payload) s)) (sym same)
        (record {
          wide = wide;
          seated = seated_with e clock p x s (fed e clock payload) (Publishes m) opened
              (ap (fed_past (terms_of e s) (time_in s clock) payload) q) h seat.opened;
        })
    by (Subscribes m) q h r =
        let terms = (terms_of e s).subscriber in
        let later = feeds (subscriber_subscribes e index t s is h.0) terms s.conclusion.initial s.opening s.conclusion.caller m h.1 some
        (λ b. let places : 1 ≤ room e.buffer m.sending = r b in omega (arith, places)) in
        let now : subscribers.StandsFor terms s.conclusion.initial s.opening s.conclusion.caller clock y (subscribing.fed terms (clock - s.opening) payload m) =
        subst
        (λ (k : subscribing.Subscribing). subscribers.StandsFor terms s.conclusion.initial s.opening s.conclusion.caller clock y
        (subscribing.fed terms (clock - s.opening) payload k))
        h.2 later in
        record {
          wide = wide_by e clock y s (subscribing.fed terms (clock - s.opening) payload m) now;
          seated = seated_with e clock p y s (fed e clock payload) (Subscribes (subscribing.fed terms (clock - s.opening) payload m)) opened
              (ap (fed_past (terms_of e s) (time_in s clock) payload) q)
              (h.0, now, expires_once.fed terms (clock - s.opening) payload m h.2) seat.opened;
        }

-- the room of a slot's subscriber
abbrev pub Tells : Option TheSession → (x : Subscriber) → Option ℕ → Type 0
Tells o x result =
    subscribes o ≡ true → (terms : subscribing.Terms) (initial opening caller last : ℕ) (m : subscribing.Subscribing)
    → subscribers.StandsFor terms initial opening caller last x m
    → result ≡ Some (room terms.width m.sending)

pub least_is : (e : Terms) (index clock : ℕ) (p : Publisher) (x : Subscriber) (o : Option TheSession) (s : Session)
    (found result : Option ℕ)
    → IsStored e index o (Some s) → IsSeated e clock p x s → (subscribes o ≡ false → result ≡ None) → Tells o x result
    → least_with e.buffer found s.past ≡ lesser found result
least_is e index clock p x None s found result is seat none some = absurd is
least_is e index clock p x (Some t) s found result is seat none some = by s.past seat.past_is
  where
    by : (past : Past) → IsPast e clock p x s past → least_with e.buffer found past ≡ lesser found result
    by (Publishes m) h = ap (lesser found) (sym (none (publisher_subscribes e index t s is h.0)))
    by (Subscribes m) h = ap (lesser found)
        (sym (some (subscriber_subscribes e index t s is h.0) (terms_of e s).subscriber s.conclusion.initial s.opening s.conclusion.caller
        clock m h.1))

pub vacant_subscribes : (e : Terms) (index : ℕ) (o : Option TheSession) → IsStored e index o None → subscribes o ≡ false
vacant_subscribes e index None is = refl
vacant_subscribes e index (Some t) is = absurd is

pub stays_vacant : (e : Terms) (index : ℕ) (o : Option TheSession) (x y : Subscriber) → IsStored e index o None → Stays o x y → y ≡ x
stays_vacant e index o x y is stays = stays (vacant_subscribes e index o is)

-- the smallest room of a range of slots, starting from that found before
abbrev pub least_from : Terms → List Session → (found : Option ℕ) → (from count : ℕ) → Option ℕ
least_from e ss found from count =
    fold (λ found (s : Session). least_with e.buffer found s.past) found
    (filter_map (λ slot. find (is_open_in slot) ss) (numbers_from from count))

pub least_more : (e : Terms) (ss : List Session) (found result : Option ℕ) (from count : ℕ) (o : Option Session)
    → find (is_open_in from) ss ≡ o → (o ≡ None → result ≡ None)
    → ((s : Session) → o ≡ Some s → least_with e.buffer found s.past ≡ lesser found result)
    → least_from e ss found from (suc count) ≡ least_from e ss (lesser found result) (from + 1) count
least_more e ss found result from count None is none some = let r = none refl in rw (is, r) refl
least_more e ss found result from count (Some s) is none some = rw (is) (ap (λ (d : Option ℕ). least_from e ss d (from + 1) count) (some s refl))

-- one more slot in the search for the smallest room
pub least_step : (e : Terms) (index clock : ℕ) (table : Table) (ss : List Session) (found result total : Option ℕ) (at : ℕ) (x : Seat)
    → IsTable e index clock table ss → at < length table.seats.items → x ≡ get_or table.seats.items at x
    → (has_subscriber x ≡ false → result ≡ None) → Tells x.session x.subscriber result → least_from e ss found at (e.sessions - at) ≡ total
    → least_from e ss (lesser found result) (at + 1) (e.sessions - (at + 1)) ≡ total
least_step e index clock table ss found result total at x body below there none tells h =
    let seat = seat_at e index clock table ss at x (some_buffers table) body below there in
    let more : e.sessions - at ≡ suc (e.sessions - (at + 1)) = omega (arith, below, body.places_are) in
    sym (least_more e ss found result at (e.sessions - (at + 1)) (find (is_open_in at) ss) refl
    (λ is. none (vacant_subscribes e index x.session (subst (λ (f : Option Session). IsStored e index x.session f) is seat.session_is)))
    (λ s is. least_is e index clock (buffers_of table.publishers.items x (some_buffers table)) x.subscriber x.session s found result
    (subst (λ (f : Option Session). IsStored e index x.session f) is seat.session_is) (seat.seated s is) none tells))
    ∙ (sym (ap (λ (n : ℕ). least_from e ss found at n) more) ∙ h)

-- a seat once the pasts of open sessions have changed
stored_past : (e : Terms) (index : ℕ) (g : Session → Past) (o : Option TheSession) (f : Option Session)
    → ((s : Session) → f ≡ Some s → s.is_open ≡ true) → IsStored e index o f → IsStored e index o (becomes (changed g) f)
stored_past e index g None None opens is = tt
stored_past e index g None (Some s) opens is = absurd is
stored_past e index g (Some t) None opens is = absurd is
stored_past e index g (Some t) (Some s) opens is =
    rw (opens s refl)
    (still_stored e index t s _ _ is)

pub past_becomes : (g : Session → Past) (e : Terms) (index clock at : ℕ) (p q : Publisher) (x y : Seat) (ss : List Session)
    → IsSeat e index clock at p x ss → y.generation ≡ x.generation → y.session ≡ x.session → subscribers.IsWide e.buffer y.subscriber
    → ((s : Session) → find (is_open_in at) ss ≡ Some s → IsSeated e clock q y.subscriber (changed g s))
    → Becomes (changed g) e index clock at q x y ss
past_becomes g e index clock at p q x y ss is count stored wide seated =
    record {
      count_is = count;
      session_is = subst (λ (o : Option TheSession). IsStored e index o (becomes (changed g) (find (is_open_in at) ss))) (sym stored)
          (stored_past e index g x.session (find (is_open_in at) ss) (λ s found. (is_there at ss s found).0) is.session_is);
      buffers_stay = same_buffers x.session y.session stored;
      wide = wide;
      seated = λ s found o. seated s found;
    }

-- if a subscriber's session is open in the seat, its buffers have changed as Q states; nothing else has changed
pub record Changes (Q : Option TheSession → Subscriber → Subscriber → Type 0) (x y : Seat) : Type 0 where
  pub count_is : y.generation ≡ x.generation
  pub session_is : y.session ≡ x.session
  pub stays : Stays x.session x.subscriber y.subscriber
  pub changes : Q x.session x.subscriber y.subscriber

pub seat_becomes : (Q : Option TheSession → Subscriber → Subscriber → Type 0) (g : Session → Past) (e : Terms) (index clock at : ℕ)
    (p : Publisher) (x y : Seat) (ss : List Session)
    → IsSeat e index clock at p x ss → Changes Q x y
    → ((s : Session) → find (is_open_in at) ss ≡ Some s → s.is_open ≡ true → IsStored e index x.session (Some s)
    → IsFed e clock p y.subscriber (changed g s))
    → Becomes (changed g) e index clock at p x y ss
seat_becomes Q g e index clock at p x y ss is h one =
    past_becomes g e index clock at p p x y ss is h.count_is h.session_is (by (find (is_open_in at) ss) refl) (λ s found. (here s found).seated)
  where
    stored : (f : Option Session) → find (is_open_in at) ss ≡ f → IsStored e index x.session f
    stored f found = subst (λ (g : Option Session). IsStored e index x.session g) found is.session_is

    here : (s : Session) → find (is_open_in at) ss ≡ Some s → IsFed e clock p y.subscriber (changed g s)
    here s found = one s found (is_there at ss s found).0 (stored (Some s) found)

    by : (f : Option Session) → find (is_open_in at) ss ≡ f → subscribers.IsWide e.buffer y.subscriber
    by None found = subst (λ (z : Subscriber). subscribers.IsWide e.buffer z)
        (sym (stays_vacant e index x.session x.subscriber y.subscriber (stored None found) h.stays)) is.wide
    by (Some s) found = (here s found).wide

pub fed_becomes : (e : Terms) (index clock at : ℕ) (p : Publisher) (x y : Seat) (payload : List ℕ) (ss : List Session) → 0 < length payload
    → HaveRoom e 1 ss → IsSeat e index clock at p x ss → Changes (Feeds clock payload) x y
    → Becomes (changed (fed e clock payload)) e index clock at p x y ss
fed_becomes e index clock at p x y payload ss some has is h =
    seat_becomes (Feeds clock payload) (fed e clock payload) e index clock at p x y ss is h
    (λ s found opens stored. fed_seat e index clock p x.subscriber y.subscriber x.session s payload stored (is.seated s found) opens is.wide
    some (has at s found) h.stays h.changes)
