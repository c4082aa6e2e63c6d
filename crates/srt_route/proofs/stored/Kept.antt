-- A table in which each session changes.
use Rattle.std.proofs.Common.{◌≡◌, ◌≢◌, ℕ, ◌+◌, ◌%◌, ◌^◌, ◌<◌, ◌≤◌, Bool, true, cond, Option, None, Some, List, [], ◌∷◌, length, map, find}
use Rattle.std.proofs.Common.{get_or, set, refl, sym, ap, subst, ◌∙◌, inl, inr, arith}
use Rattle.std.specs.Prelude.{⊤}
use Rattle.std.proofs.lemmas.Bool.{cases_eq, cases_lt, and_parts, and_from}
use Rattle.std.proofs.lemmas.List.{get_or-set_same, get_or-set_other, get_or_default, get_or_past, length-set}
use Rattle.srt_types.specs.Terms.{Terms}
use Rattle.srt_pub.specs.declared.session.Publisher.{Publisher}
use Rattle.srt_sub.specs.Stands as subscriber
use Rattle.srt_route.specs.declared.seat.Session.{Session as TheSession}
use Rattle.srt_route.specs.declared.seat.Seat.{Seat}
use Rattle.srt_route.specs.declared.table.Table.{Table}
use Rattle.srt_route.specs.Sessions.{Session, is_open_in, is_publisher, publishes}
use Rattle.srt_route.specs.Buffers.{IsSeated}
use Rattle.srt_route.specs.declared.publisher_buffers.PublisherBuffers.{PublisherBuffers}
use Rattle.srt_route.specs.Parts.{buffers_used}
use Rattle.srt_route.specs.PublisherBuffers.{place_of}
use Rattle.srt_route.specs.Past.{Past}
use Rattle.srt_route.specs.Tables.{IsSession, IsStored, IsSeat, AreSeats, AreAlone, IsTable, IsPublishing, ArePublishers, AreWide, UseSameBuffers}
use Rattle.srt_route.specs.Tables.{UseTheSame, buffers_by, used_buffers, buffers_of}
use Rattle.srt_route.proofs.model.Found.{found_passes, found_in_place, open_parts, Keeps, alone_kept, counted_kept, place_kept, changed, changed_from}
use Rattle.srt_route.proofs.model.TakeOver.{OpensNone, KeepsMarks, stays_active}

-- the values of the entry and the leading buffers are the same
abbrev pub Alike : (old new : Table) → Type 0
Alike old new =
    (new.index ≡ old.index) × (new.mode ≡ old.mode) × (new.latency_ms ≡ old.latency_ms) × (new.buffer ≡ old.buffer) ×
    (new.leading ≡ old.leading) × (new.rules ≡ old.rules)

-- a stored session contains neither whether the session is open nor its past
pub still_stored : (e : Terms) (index : ℕ) (t : TheSession) (s : Session) (is_open : Bool) (past : Past)
    → IsSession e index t s → IsSession e index t (record s { is_open = is_open; past = past })
still_stored e index t s is_open past is =
    record {
      peer_is = is.peer_is;
      caller_is = is.caller_is;
      id_is = is.id_is;
      role_is = is.role_is;
      opened_is = is.opened_is;
      heard_is = is.heard_is;
      drains_is = is.drains_is;
      file_is = is.file_is;
      given_up_is = is.given_up_is;
      answer_is = is.answer_is;
    }

-- any buffers of the table
pub some_buffers : Table → Publisher
some_buffers table = by table.publishers.items (omega (arith, table.two))
  where
    by : (ps : List Publisher) → 0 < length ps → Publisher
    by [] h = absurd (omega (arith, h))
    by (p ∷ ps) h = p

-- a stored session that stays uses the same buffers
abbrev pub KeepsBuffers : (old new : Option TheSession) → Type 0
KeepsBuffers o None = ⊤
KeepsBuffers None (Some t) = ⊥
KeepsBuffers (Some u) (Some t) = (buffers_used t.part) ≡ (buffers_used u.part)

pub same_buffers : (o n : Option TheSession) → n ≡ o → KeepsBuffers o n
same_buffers o n same = subst (λ (x : Option TheSession). KeepsBuffers o x) (sym same) (by o)
  where
    by : (x : Option TheSession) → KeepsBuffers x x
    by None = tt
    by (Some t) = refl

-- a seat once each session has changed
pub record Becomes (f : Session → Session) (e : Terms) (index clock at : ℕ) (p : Publisher) (x y : Seat) (ss : List Session) : Type 0 where
  pub count_is : y.generation ≡ x.generation
  pub session_is : IsStored e index y.session (changed f (find (is_open_in at) ss))
  pub buffers_stay : KeepsBuffers x.session y.session
  pub wide : subscriber.IsWide e.buffer y.subscriber
  pub seated : (s : Session) → find (is_open_in at) ss ≡ Some s → (f s).is_open ≡ true → IsSeated e clock p y.subscriber (f s)

-- a change that keeps the sessions opens no publisher
pub no_opening : (f : Session → Session) → Keeps f → OpensNone f
no_opening f keeps s h =
    let role : publishes (f s).conclusion.role ≡ true = (and_parts (f s).is_open (publishes (f s).conclusion.role) h).1 in
    and_from s.is_open (publishes s.conclusion.role) (keeps.opens_none s (and_parts (f s).is_open (publishes (f s).conclusion.role) h).0)
    (rw (← keeps.conclusion s) role)

-- a slot with an open session is one of the seats
pub below_seats : (e : Terms) (index clock : ℕ) (table : Table) (ss : List Session) (at : ℕ) (s : Session)
    → IsTable e index clock table ss → find (is_open_in at) ss ≡ Some s → at < length table.seats.items
below_seats e index clock table ss at s is here =
    let there = found_in_place (is_open_in at) (λ t h. (open_parts at t h).0) e.sessions ss is.alone s here in
    omega (arith, there.0, (open_parts at s (found_passes (is_open_in at) ss s here)).1, is.places_are)

-- the publishers after a change
publishers_kept : (f : Session → Session) → Keeps f → KeepsMarks f
    → (e : Terms) (index before : ℕ) (old : Table) (leading : PublisherBuffers) (seats : List Seat) (ss : List Session) → IsTable e index before old ss
    → leading ≡ old.leading
    → ((at : ℕ) (d : Seat) (s : Session)
    → find (is_open_in at) ss ≡ Some s → (f s).is_open ≡ true → used_buffers (get_or seats at d) ≡ used_buffers (get_or old.seats.items at d))
    → ArePublishers leading seats (map f ss)
publishers_kept f keeps marks e index before old leading seats ss is same uses =
    record {
      apart = λ at k d s t one other both.
          let a = was at s one in
          let b = was k t other in
          is.publishers_are.apart at k d a.0 b.0 a.1 b.1 (sym (uses at d a.0 a.1.found a.2) ∙ (both ∙ uses k d b.0 b.1.found b.2));
      leading_is_active = λ at d s one first.
          let a = was at s one in
          let lives : is_publisher (f a.0) ≡ true = ap is_publisher a.3 ∙ one.publishes in
          stays_active f (no_opening f keeps) marks ss a.0
          (is.publishers_are.leading_is_active at d a.0 a.1 (sym (uses at d a.0 a.1.found a.2) ∙ (first ∙ same))) lives
          ∙ ap (λ (u : Session). Some u) a.3;
    }
  where
    was : (at : ℕ) (t : Session) → IsPublishing (map f ss) at t → (s : Session) × IsPublishing ss at s × ((f s).is_open ≡ true) × (f s ≡ t)
    was at t one =
        let from = changed_from f keeps at e.sessions ss is.alone t one.found in
        (from.0, record { found = from.1; publishes = no_opening f keeps from.0 (ap is_publisher from.3 ∙ one.publishes) }, from.2, from.3)

uses_kept : (e : Terms) (index : ℕ) (o n : Option TheSession) (s : Session)
    → KeepsBuffers o n → IsStored e index n (Some s) → buffers_by n ≡ buffers_by o
uses_kept e index o None s keeps is = absurd is
uses_kept e index None (Some t) s keeps is = absurd keeps
uses_kept e index (Some u) (Some t) s keeps is = keeps

-- a table with the same entry represents these sessions if its buffers and its seats do
abbrev pub SameEntry : (old new : Table) → Type 0
SameEntry old new =
    (new.index ≡ old.index) × (new.mode ≡ old.mode) × (new.latency_ms ≡ old.latency_ms) × (new.buffer ≡ old.buffer) ×
    (new.rules ≡ old.rules)

pub table_stands : (e : Terms) (index before clock : ℕ) (old new : Table) (ss ts : List Session) → IsTable e index before old ss
    → clock < 2 ^ 62 → SameEntry old new → AreWide e.buffer new.publishers.items → length new.seats.items ≡ length old.seats.items
    → AreSeats e index clock new.publishers.items new.seats.items ts → AreAlone e.sessions ts
    → ArePublishers new.leading new.seats.items ts
    → IsTable e index clock new ts
table_stands e index before clock old new ss ts is early alike wide same_length seats alone publishers =
    record {
      limits = is.limits;
      early = early;
      index_is = alike.0 ∙ is.index_is;
      mode_is = alike.1 ∙ is.mode_is;
      latency_is = alike.2 ∙ is.latency_is;
      buffer_is = alike.3 ∙ is.buffer_is;
      rules_are = alike.4 ∙ is.rules_are;
      publishers_wide = wide;
      places_are = same_length ∙ is.places_are;
      seats_are = seats;
      alone = alone;
      publishers_are = publishers;
    }

-- the seats, and the buffers that their sessions use, once each session has changed
pub record HasSeats (f : Session → Session) (e : Terms) (index clock : ℕ) (old new : Table) (ss : List Session) : Type 0 where
  pub seats_are : AreSeats e index clock new.publishers.items new.seats.items (map f ss)
  pub uses : (at : ℕ) (d : Seat) (s : Session) → at < length old.seats.items → find (is_open_in at) ss ≡ Some s → (f s).is_open ≡ true
      → used_buffers (get_or new.seats.items at d) ≡ used_buffers (get_or old.seats.items at d)

pub seats_kept : (f : Session → Session) → Keeps f → (e : Terms) (index before clock : ℕ) (old new : Table) (ss : List Session)
    → IsTable e index before old ss → length new.seats.items ≡ length old.seats.items
    → ((at : ℕ) (d : Seat) (p : Publisher) → at < length old.seats.items
    → Becomes f e index clock at (buffers_of new.publishers.items (get_or old.seats.items at d) p) (get_or old.seats.items at d)
    (get_or new.seats.items at d) ss)
    → HasSeats f e index clock old new ss
seats_kept f keeps e index before clock old new ss is same_length becomes =
    record { seats_are = λ at d p below. one at d p (omega (arith, below, same_length)); uses = uses }
  where
    stored : (at : ℕ) (d : Seat) (s : Session) → at < length old.seats.items → find (is_open_in at) ss ≡ Some s → (f s).is_open ≡ true
        → IsStored e index (get_or new.seats.items at d).session (Some (f s))
    stored at d s below here stays =
        let h = becomes at d (some_buffers old) below in
        subst (λ (g : Option Session). IsStored e index (get_or new.seats.items at d).session g)
        (ap (changed f) here ∙ ap (λ (b : Bool). cond b (Some (f s)) None) stays) h.session_is

    uses : (at : ℕ) (d : Seat) (s : Session) → at < length old.seats.items → find (is_open_in at) ss ≡ Some s → (f s).is_open ≡ true
        → used_buffers (get_or new.seats.items at d) ≡ used_buffers (get_or old.seats.items at d)
    uses at d s below here stays =
        uses_kept e index (get_or old.seats.items at d).session (get_or new.seats.items at d).session (f s)
        (becomes at d (some_buffers old) below).buffers_stay (stored at d s below here stays)

    one : (at : ℕ) (d : Seat) (p : Publisher) → at < length old.seats.items
        → IsSeat e index clock at (buffers_of new.publishers.items (get_or new.seats.items at d) p) (get_or new.seats.items at d) (map f ss)
    one at d p below =
        let h = becomes at d p below in
        record {
          session_is = subst (λ (g : Option Session). IsStored e index (get_or new.seats.items at d).session g)
              (sym (place_kept f keeps at e.sessions ss is.alone)) h.session_is;
          count_is = h.count_is ∙ ((is.seats_are at d p below).count_is ∙ ap (λ (n : ℕ). n % 65536) (sym (counted_kept f keeps at ss)));
          wide = h.wide;
          seated = λ t found.
              let from = changed_from f keeps at e.sessions ss is.alone t found in
              subst (λ (b : PublisherBuffers). IsSeated e clock (get_or new.publishers.items (place_of b) p) (get_or new.seats.items at d).subscriber t)
              (sym (uses at d from.0 below from.1 from.2))
              (subst
              (λ (u : Session).
              IsSeated e clock (buffers_of new.publishers.items (get_or old.seats.items at d) p) (get_or new.seats.items at d).subscriber u)
              from.3 (h.seated from.0 from.1 from.2));
        }

pub table_kept : (f : Session → Session) → Keeps f → KeepsMarks f → (e : Terms) (index before clock : ℕ) (old new : Table) (ss : List Session)
    → IsTable e index before old ss → clock < 2 ^ 62 → Alike old new → AreWide e.buffer new.publishers.items
    → length new.seats.items ≡ length old.seats.items
    → ((at : ℕ) (d : Seat) (p : Publisher) → at < length old.seats.items
    → Becomes f e index clock at (buffers_of new.publishers.items (get_or old.seats.items at d) p) (get_or old.seats.items at d)
    (get_or new.seats.items at d) ss)
    → IsTable e index clock new (map f ss)
table_kept f keeps marks e index before clock old new ss is early alike wide same_length becomes =
    let seats = seats_kept f keeps e index before clock old new ss is same_length becomes in
    table_stands e index before clock old new ss (map f ss) is early (alike.0, alike.1, alike.2, alike.3, alike.5) wide same_length
    seats.seats_are (alone_kept f keeps e.sessions ss is.alone)
    (publishers_kept f keeps marks e index before old new.leading new.seats.items ss is alike.4
    (λ at d s here stays. seats.uses at d s (below_seats e index before old ss at s is here) here stays))

-- a seat of the table
pub seat_at : (e : Terms) (index clock : ℕ) (table : Table) (ss : List Session) (at : ℕ) (x : Seat) (p : Publisher)
    → IsTable e index clock table ss → at < length table.seats.items → x ≡ get_or table.seats.items at x
    → IsSeat e index clock at (buffers_of table.publishers.items x p) x ss
seat_at e index clock table ss at x p is inside there =
    subst (λ (z : Seat). IsSeat e index clock at (buffers_of table.publishers.items z p) z ss) (sym there) (is.seats_are at x p inside)

-- tables with the same fields are the same table
pub table_same : (e : Terms) (index clock : ℕ) (old new : Table) (ss : List Session)
    → IsTable e index clock old ss → Alike old new → new.publishers ≡ old.publishers → new.seats ≡ old.seats → IsTable e index clock new ss
table_same e index clock old new ss is alike publishers seats =
    table_stands e index clock clock old new ss ss is is.early (alike.0, alike.1, alike.2, alike.3, alike.5)
    (subst (λ (v : _). AreWide e.buffer v.items) (sym publishers) is.publishers_wide)
    (ap (λ (v : _). length v.items) seats)
    (subst (λ (v : _). AreSeats e index clock new.publishers.items v.items ss) (sym seats)
    (subst (λ (v : _). AreSeats e index clock v.items old.seats.items ss) (sym publishers) is.seats_are))
    is.alone
    (subst (λ (v : _). ArePublishers new.leading v.items ss) (sym seats)
    (subst (λ (b : PublisherBuffers). ArePublishers b old.seats.items ss) (sym alike.4) is.publishers_are))

-- a session that doesn't change keeps its seat
pub seat_stays : (f : Session → Session) (e : Terms) (index clock at : ℕ) (p q : Publisher) (x : Seat) (ss : List Session)
    → IsSeat e index clock at p x ss → ((s : Session) → find (is_open_in at) ss ≡ Some s → f s ≡ s)
    → ((s : Session) → find (is_open_in at) ss ≡ Some s → IsSeated e clock p x.subscriber s → IsSeated e clock q x.subscriber s)
    → Becomes f e index clock at q x x ss
seat_stays f e index clock at p q x ss is same other =
    record {
      count_is = refl;
      session_is = subst (λ (g : Option Session). IsStored e index x.session g) (sym (unchanged (find (is_open_in at) ss) refl)) is.session_is;
      buffers_stay = same_buffers x.session x.session refl;
      wide = is.wide;
      seated = λ s found o. subst (λ (u : Session). IsSeated e clock q x.subscriber u) (sym (same s found)) (other s found (is.seated s found));
    }
  where
    unchanged : (g : Option Session) → find (is_open_in at) ss ≡ g → changed f g ≡ g
    unchanged None h = refl
    unchanged (Some s) h = rw (same s h, (open_parts at s (found_passes (is_open_in at) ss s h)).0) refl

-- one seat changes, and the others stay
pub table_put : (f : Session → Session) → Keeps f → KeepsMarks f
    → (e : Terms) (index clock : ℕ) (old new : Table) (ss : List Session) (at : ℕ) (x y : Seat) → IsTable e index clock old ss → Alike old new
    → AreWide e.buffer new.publishers.items → at < length old.seats.items → x ≡ get_or old.seats.items at x
    → new.seats.items ≡ set old.seats.items at y → ((p : Publisher) → Becomes f e index clock at (buffers_of new.publishers.items x p) x y ss)
    → ((k : ℕ) (s : Session) → k ≢ at → k < e.sessions → find (is_open_in k) ss ≡ Some s → f s ≡ s)
    → ((k : ℕ) (d : Seat) (p : Publisher) (s : Session) → k ≢ at → find (is_open_in k) ss ≡ Some s
    → IsSeated e clock (buffers_of old.publishers.items (get_or old.seats.items k d) p) (get_or old.seats.items k d).subscriber s
    → IsSeated e clock (buffers_of new.publishers.items (get_or old.seats.items k d) p) (get_or old.seats.items k d).subscriber s)
    → IsTable e index clock new (map f ss)
table_put f keeps marks e index clock old new ss at x y is alike wide inside there put becomes same others =
    table_kept f keeps marks e index clock clock old new ss is is.early alike wide (ap length put ∙ length-set old.seats.items at y)
    (λ k d p below. subst
    (λ (seats : List Seat). Becomes f e index clock k (buffers_of new.publishers.items (get_or old.seats.items k d) p)
    (get_or old.seats.items k d) (get_or seats k d) ss)
    (sym put) (one k d p below))
  where
    one : (k : ℕ) (d : Seat) (p : Publisher) → k < length old.seats.items
        → Becomes f e index clock k (buffers_of new.publishers.items (get_or old.seats.items k d) p) (get_or old.seats.items k d)
        (get_or (set old.seats.items at y) k d) ss
    one k d p below = elim (cases_eq k at) [
      | inl here ↦
          subst
          (λ (n : ℕ). Becomes f e index clock n (buffers_of new.publishers.items (get_or old.seats.items n d) p)
          (get_or old.seats.items n d) (get_or (set old.seats.items at y) n d) ss)
          (sym here)
          (subst
          (λ (z : Seat).
          Becomes f e index clock at (buffers_of new.publishers.items (get_or old.seats.items at d) p) (get_or old.seats.items at d) z ss)
          (sym (get_or-set_same old.seats.items at y d inside))
          (subst (λ (z : Seat). Becomes f e index clock at (buffers_of new.publishers.items z p) z y ss)
          (there ∙ get_or_default old.seats.items at x d inside) (becomes p)))
      | inr apart ↦
          subst
          (λ (z : Seat).
          Becomes f e index clock k (buffers_of new.publishers.items (get_or old.seats.items k d) p) (get_or old.seats.items k d) z ss)
          (sym (get_or-set_other old.seats.items at k y d apart))
          (seat_stays f e index clock k (buffers_of old.publishers.items (get_or old.seats.items k d) p)
          (buffers_of new.publishers.items (get_or old.seats.items k d) p) (get_or old.seats.items k d) ss (is.seats_are k d p below)
          (λ s found. same k s apart (omega (arith, below, is.places_are)) found) (λ s found h. others k d p s apart found h))
    ]

-- the same if the publishers' buffers stay
pub seat_put : (f : Session → Session) → Keeps f → KeepsMarks f → (e : Terms) (index clock : ℕ) (old new : Table) (ss : List Session) (at : ℕ) (x y : Seat)
    → IsTable e index clock old ss → Alike old new → new.publishers ≡ old.publishers → at < length old.seats.items
    → x ≡ get_or old.seats.items at x → new.seats.items ≡ set old.seats.items at y
    → ((p : Publisher) → Becomes f e index clock at (buffers_of old.publishers.items x p) x y ss)
    → ((k : ℕ) (s : Session) → k ≢ at → k < e.sessions → find (is_open_in k) ss ≡ Some s → f s ≡ s)
    → IsTable e index clock new (map f ss)
seat_put f keeps marks e index clock old new ss at x y is alike same inside there put becomes stay =
    table_put f keeps marks e index clock old new ss at x y is alike
    (subst (λ (v : _). AreWide e.buffer v.items) (sym same) is.publishers_wide) inside there put
    (λ p. subst (λ (v : _). Becomes f e index clock at (buffers_of v.items x p) x y ss) (sym same) (becomes p)) stay
    (λ k d p s apart found h. subst
    (λ (v : _). IsSeated e clock (buffers_of v.items (get_or old.seats.items k d) p) (get_or old.seats.items k d).subscriber s) (sym same) h)

-- the items below `at` have changed as R states, and the others haven't
pub record EachUpTo {A : Type 0} (R : A → A → Type 0) (at : ℕ) (old new : List A) : Type 0 where
  pub same_length : length new ≡ length old
  pub done : (k : ℕ) (d : A) → k < at → k < length old → R (get_or old k d) (get_or new k d)
  pub ahead : (k : ℕ) (d : A) → at ≤ k → get_or new k d ≡ get_or old k d

pub none_yet : {A : Type 0} (R : A → A → Type 0) (xs : List A) → EachUpTo R 0 xs xs
none_yet R xs = record { same_length = refl; done = λ k d lt inside. absurd (omega (arith, lt)); ahead = λ k d le. refl }

pub one_more : {A : Type 0} (R : A → A → Type 0) (at : ℕ) (old new later : List A) (x y : A)
    → EachUpTo R at old new → at < length old → x ≡ get_or new at x → R x y → later ≡ set new at y → EachUpTo R (at + 1) old later
one_more {A} R at old new later x y h inside there changes put =
    record {
      same_length = ap length put ∙ (length-set new at y ∙ h.same_length);
      done = λ k d lt below. subst (λ (xs : List A). R (get_or old k d) (get_or xs k d)) (sym put) (one k d lt below);
      ahead = λ k d le. ap (λ (xs : List A). get_or xs k d) put
          ∙ (get_or-set_other new at k y d (λ same_place. omega (arith, le, same_place)) ∙ h.ahead k d (omega (arith, le)));
    }
  where
    in_new : at < length new
    in_new = omega (arith, inside, h.same_length)

    one : (k : ℕ) (d : A) → k < at + 1 → k < length old → R (get_or old k d) (get_or (set new at y) k d)
    one k d lt below = elim (cases_eq k at) [
      | inl here ↦
          subst (λ (n : ℕ). R (get_or old n d) (get_or (set new at y) n d)) (sym here)
          (subst (λ (z : A). R (get_or old at d) z) (sym (get_or-set_same new at y d in_new))
          (subst (λ (z : A). R z y) ((there ∙ h.ahead at x (omega arith)) ∙ get_or_default old at x d inside) changes))
      | inr apart ↦ subst (λ (z : A). R (get_or old k d) z) (sym (get_or-set_other new at k y d apart)) (h.done k d (omega (arith, lt, apart)) below)
    ]

-- the seats below `at` have changed as R states, and nothing else has
pub record UpTo (R : Seat → Seat → Type 0) (at : ℕ) (old new : Table) : Type 0 where
  pub alike : Alike old new
  pub publishers_are : new.publishers ≡ old.publishers
  pub seats : EachUpTo R at old.seats.items new.seats.items

pub none_done : (R : Seat → Seat → Type 0) (table : Table) → UpTo R 0 table table
none_done R table = record { alike = (refl, refl, refl, refl, refl, refl); publishers_are = refl; seats = none_yet R table.seats.items }

-- the next seat is still as it was
pub next_is : (R : Seat → Seat → Type 0) (at : ℕ) (old new : Table) (x : Seat)
    → UpTo R at old new → at < length old.seats.items → x ≡ get_or new.seats.items at x → x ≡ get_or old.seats.items at x
next_is R at old new x h inside there = there ∙ h.seats.ahead at x (omega arith)

pub one_done : (R : Seat → Seat → Type 0) (at : ℕ) (old new later : Table) (x y : Seat) → UpTo R at old new → at < length old.seats.items
    → x ≡ get_or new.seats.items at x → R x y → Alike new later → later.publishers ≡ new.publishers
    → later.seats.items ≡ set new.seats.items at y
    → UpTo R (at + 1) old later
one_done R at old new later x y h inside there changes alike same put =
    record {
      alike = (alike.0 ∙ h.alike.0, alike.1 ∙ h.alike.1, alike.2 ∙ h.alike.2, alike.3 ∙ h.alike.3, alike.4 ∙ h.alike.4, alike.5 ∙ h.alike.5);
      publishers_are = same ∙ h.publishers_are;
      seats = one_more R at old.seats.items new.seats.items later.seats.items x y h.seats inside there changes put;
    }

-- all seats have changed
pub all_done : (R : Seat → Seat → Type 0) (f : Session → Session) → Keeps f → KeepsMarks f
    → (e : Terms) (index before clock at : ℕ) (old new : Table) (ss : List Session) → IsTable e index before old ss → clock < 2 ^ 62
    → UpTo R at old new → length old.seats.items ≤ at
    → ((k : ℕ) (p : Publisher) (x y : Seat) → IsSeat e index before k p x ss → R x y → Becomes f e index clock k p x y ss)
    → IsTable e index clock new (map f ss)
all_done R f keeps marks e index before clock at old new ss is early h all becomes =
    table_kept f keeps marks e index before clock old new ss is early h.alike
    (subst (λ (v : _). AreWide e.buffer v.items) (sym h.publishers_are) is.publishers_wide) h.seats.same_length
    (λ k d p below. subst
    (λ (v : _). Becomes f e index clock k (buffers_of v.items (get_or old.seats.items k d) p) (get_or old.seats.items k d)
    (get_or new.seats.items k d) ss)
    (sym h.publishers_are)
    (becomes k (buffers_of old.publishers.items (get_or old.seats.items k d) p) (get_or old.seats.items k d) (get_or new.seats.items k d)
    (is.seats_are k d p below) (h.seats.done k d (omega (arith, below, all)) below)))

-- all use the same buffers as before, if a seat's session stays
pub seats_use_the_same : (R : Seat → Seat → Type 0) (at : ℕ) (old new : List Seat)
    → EachUpTo R at old new → length old ≤ at → ((x y : Seat) → R x y → y.session ≡ x.session) → UseSameBuffers old new
seats_use_the_same R at old new h all same k d = elim (cases_lt k at) [
  | inl done ↦ elim (cases_lt k (length old)) [
    | inl inside ↦ ap buffers_by (same (get_or old k d) (get_or new k d) (h.done k d done inside))
    | inr outside ↦ ap used_buffers (get_or_past new k d (omega (arith, outside, h.same_length)) ∙ sym (get_or_past old k d (omega (arith, outside))))
  ]
  | inr ahead ↦ ap used_buffers (h.ahead k d (omega (arith, ahead)))
]

pub all_use_the_same : (R : Seat → Seat → Type 0) (at : ℕ) (old new : Table)
    → UpTo R at old new → length old.seats.items ≤ at → ((x y : Seat) → R x y → y.session ≡ x.session) → UseTheSame old new
all_use_the_same R at old new h all same = seats_use_the_same R at old.seats.items new.seats.items h.seats all same
