-- The sessions that seats store, and their changes.
use Rattle.std.proofs.Common.{◌≡◌, ℕ, zero, suc, ◌+◌, ◌%◌, ◌<◌, ◌≤◌, Bool, true, false, not, ◌||◌, cond, Option, None, Some, ◌&&◌}
use Rattle.std.proofs.Common.{List, [], ◌∷◌, length, find, take, get_or, refl, sym, ap, subst, ◌∙◌, ◌≢◌, inl, inr, add-zero, arith}
use Rattle.std.specs.Prelude.{count_by}
use Rattle.std.specs.Option.{option_map, is_some}
use Rattle.std.specs.List.{list_any, position, position_or_len}
use Rattle.std.proofs.lemmas.Bool.{cases_lt, and_parts, false_from_ne_true, lt-ltb, or_left, or_right}
use Rattle.std.proofs.lemmas.List.{get_or_default, take_more}
use Rattle.std.proofs.lemmas.List.Quantifiers.{position-Some}
use Rattle.std.proofs.lemmas.List.Sums.{fails_before_first, sum_by-cons, sum_by_push}
use Rattle.srt_types.specs.declared.shared.Peer.{Peer}
use Rattle.srt_types.specs.Access.{is_same_site}
use Rattle.srt_types.specs.Runs.{numbers_from}
use Rattle.srt_types.specs.Terms.{Terms}
use Rattle.srt_packet.specs.Grammar.{Packet}
use Rattle.srt_route.specs.declared.seat.Session.{Session as TheSession}
use Rattle.srt_pub.specs.declared.session.Publisher.{Publisher}
use Rattle.srt_sub.specs.Stands as subscriber
use Rattle.srt_sub.specs.declared.session.Subscriber.{Subscriber}
use Rattle.srt_route.specs.declared.seat.Seat.{Seat}
use Rattle.srt_route.specs.declared.table.Table.{Table}
use Rattle.srt_route.specs.Past.{Past, Publishes, Subscribes, ends_with}
use Rattle.srt_route.specs.Sessions.{Session, is_open_in, is_publisher, open_publishers, publishes, is_free, free_slot, free_slots}
use Rattle.srt_route.specs.Sessions.{is_from, sessions_from}
use Rattle.srt_route.specs.Sessions.{drains_open, ends_unless, is_draining, is_over, number_draining, session_id, terms_of, took}
use Rattle.srt_route.specs.Route.{is_of, is_for, heard_if, took_if}
use Rattle.srt_route.specs.Buffers.{IsPast, IsSeated}
use Rattle.srt_route.specs.Parts.{role_of, until_of}
use Rattle.srt_route.specs.Tables.{IsSession, IsStored, IsSeat, IsTable, AreAlone, holds, has_address, has_draining, has_expired}
use Rattle.srt_route.specs.Seats.{has_publisher}
use Rattle.srt_route.specs.Tables.{is_vacant, buffers_of}
use Rattle.srt_route.specs.Tables.{is_session_of, heard_at, is_stored_for, is_stored_over, stored_after, with_stored}
use Rattle.srt_route.specs.Seats.{session_passes}
use Rattle.srt_route.proofs.model.Lists.{how_many, one_more}
use Rattle.srt_route.proofs.model.Found.{found_passes, any_is, found_in_place, found_of_caller, found_narrower, for_open, for_parts, open_parts, open_from}
use Rattle.srt_route.proofs.model.Found.{of_parts, Keeps, changed, while_open}
use Rattle.srt_route.proofs.model.TakeOver.{AreApart, AreInside, KeepsMarks, one_if, counted, count_at, count_next, counted_slots}
use Rattle.srt_route.proofs.stored.Kept.{Becomes, KeepsBuffers, some_buffers, seat_at}
use Rattle.srt_route.proofs.stored.Parts.{after_buffers, after_lasts, after_records, after_role, after_until}

-- a list in which something is found, or that is long enough, has an element
pub some_found : {A : Type 0} (p : A → Bool) (xs : List A) (i : ℕ) → position p xs ≡ Some i → A
some_found p [] i h = absurd (let bad : None ≡ Some i = h in cc)
some_found p (x ∷ xs) i h = x

pub some_item : {A : Type 0} (xs : List A) (n : ℕ) → n < length xs → A
some_item [] n h = absurd (omega (arith, h))
some_item (x ∷ xs) n h = x

-- if nothing is found, nothing passes
pub position_none : {A : Type 0} (p : A → Bool) (xs : List A) → position p xs ≡ None → (i : ℕ) (d : A) → i < length xs → p (get_or xs i d) ≡ false
position_none p xs h i d below = elim (cases_lt (position_or_len p xs) (length xs)) [
  | inl inside ↦ absurd (let test = lt-ltb (position_or_len p xs) (length xs) inside in let bad : Some (position_or_len p xs) ≡ None = rw (test) at h in cc)
  | inr outside ↦ fails_before_first p xs i d (omega arith)
]

-- a test of what is found
abbrev pub found_test : (Session → Bool) → Option Session → Bool
found_test test None = false
found_test test (Some s) = test s

abbrev IsOpenFound : Option Session → Type 0
IsOpenFound None = Unit
IsOpenFound (Some s) = s.is_open ≡ true

passes_alike : (e : Terms) (index : ℕ) (stored : TheSession → Bool) (test : Session → Bool)
    → ((t : TheSession) (s : Session) → IsSession e index t s → s.is_open ≡ true → test s ≡ stored t)
    → (seat : Option TheSession) (found : Option Session) → IsStored e index seat found → IsOpenFound found
    → found_test test found ≡ session_passes stored seat
passes_alike e index stored test alike None None is o = refl
passes_alike e index stored test alike (Some t) (Some s) is o = alike t s is o
passes_alike e index stored test alike None (Some s) is o = absurd is
passes_alike e index stored test alike (Some t) None is o = absurd is

pub open_found : (at : ℕ) (ss : List Session) (found : Option Session) → find (is_open_in at) ss ≡ found → IsOpenFound found
open_found at ss None h = tt
open_found at ss (Some s) h = (open_parts at s (found_passes (is_open_in at) ss s h)).0

-- a slot's session is this caller's exactly if the stored one is
of_alike : (e : Terms) (index : ℕ) (peer : Peer) (caller : ℕ) (t : TheSession) (s : Session)
    → IsSession e index t s → s.is_open ≡ true → is_of peer caller s ≡ is_session_of peer caller t
of_alike e index peer caller t s is o = rw (o, is.peer_is, is.caller_is, is.drains_is) refl

pub publisher_alike : (e : Terms) (index : ℕ) (t : TheSession) (s : Session) → IsSession e index t s → s.is_open ≡ true
    → is_publisher s ≡ publishes (role_of t.part)
publisher_alike e index t s is o = rw (o, is.role_is) refl

pub seat_passes : (e : Terms) (index clock : ℕ) (table : Table) (ss : List Session) → IsTable e index clock table ss
    → (stored : TheSession → Bool) (test : Session → Bool)
    → ((t : TheSession) (s : Session) → IsSession e index t s → s.is_open ≡ true → test s ≡ stored t) → (at : ℕ) (d : Seat)
    → at < length table.seats.items
    → found_test test (find (is_open_in at) ss) ≡ session_passes stored (get_or table.seats.items at d).session
seat_passes e index clock table ss are stored test alike at d below =
    passes_alike e index stored test alike (get_or table.seats.items at d).session (find (is_open_in at) ss)
    (are.seats_are at d (some_buffers table) below).session_is (open_found at ss (find (is_open_in at) ss) refl)

-- if no slot passes, no session does
none_passes : (e : Terms) (index clock : ℕ) (table : Table) (ss : List Session) → IsTable e index clock table ss
    → (stored : TheSession → Bool) (test : Session → Bool)
    → ((t : TheSession) (s : Session) → IsSession e index t s → s.is_open ≡ true → test s ≡ stored t)
    → ((s : Session) → test s ≡ true → s.is_open ≡ true)
    → ((at : ℕ) (d : Seat) → at < length table.seats.items → session_passes stored (get_or table.seats.items at d).session ≡ false)
    → (found : Option Session) → find test ss ≡ found
    → found ≡ None
none_passes e index clock table ss are stored test alike opens none None h = refl
none_passes e index clock table ss are stored test alike opens none (Some s) h =
    let there = found_in_place test opens e.sessions ss are.alone s h in
    let below : s.slot < length table.seats.items = omega (arith, there.0, are.places_are) in
    let d = some_item table.seats.items s.slot below in
    let same = seat_passes e index clock table ss are stored test alike s.slot d below in
    let passes : test s ≡ false = (ap (found_test test) (sym there.1) ∙ same) ∙ none s.slot d below in
    absurd (let so : test s ≡ true = found_passes test ss s h in cc)

-- no slot has a session of this caller
pub none_of_caller : (e : Terms) (index clock : ℕ) (table : Table) (ss : List Session) (peer : Peer) (caller : ℕ)
    → IsTable e index clock table ss → position (holds peer caller) table.seats.items ≡ None → find (is_of peer caller) ss ≡ None
none_of_caller e index clock table ss peer caller are none =
    none_passes e index clock table ss are (is_session_of peer caller) (is_of peer caller) (of_alike e index peer caller) (λ s h. (of_parts peer caller s h).0)
    (λ at x below. position_none (holds peer caller) table.seats.items none at x below) (find (is_of peer caller) ss) refl

-- the session of this caller has this slot
pub caller_at : (e : Terms) (index clock : ℕ) (table : Table) (ss : List Session) (peer : Peer) (caller at : ℕ) (seat : Seat)
    → IsTable e index clock table ss → position (holds peer caller) table.seats.items ≡ Some at → seat ≡ get_or table.seats.items at seat
    → (t : TheSession) × (s : Session) × (seat.session ≡ Some t) × (find (is_open_in at) ss ≡ Some s) × IsSession e index t s ×
    (is_of peer caller s ≡ true) × (find (is_of peer caller) ss ≡ Some s)
caller_at e index clock table ss peer caller at seat are first there =
    let found = position-Some (holds peer caller) table.seats.items at seat first in
    let seat_is : IsSeat e index clock at (buffers_of table.publishers.items seat (some_buffers table)) seat ss =
    seat_at e index clock table ss at seat (some_buffers table) are found.0 there in
    let holds_it : session_passes (is_session_of peer caller) seat.session ≡ true = ap (λ (x : Seat). holds peer caller x) there ∙ found.1 in
    at_place seat.session refl (find (is_open_in at) ss) refl seat_is.session_is holds_it
  where
    at_place : (o : Option TheSession) → seat.session ≡ o → (f : Option Session) → find (is_open_in at) ss ≡ f → IsStored e index o f
        → session_passes (is_session_of peer caller) o ≡ true
        → (t : TheSession) × (s : Session) × (seat.session ≡ Some t) × (find (is_open_in at) ss ≡ Some s) × IsSession e index t s ×
        (is_of peer caller s ≡ true) × (find (is_of peer caller) ss ≡ Some s)
    at_place None a f b is h = absurd (let bad : false ≡ true = h in cc)
    at_place (Some t) a None b is h = absurd is
    at_place (Some t) a (Some s) b is h =
        let o = (open_parts at s (found_passes (is_open_in at) ss s b)).0 in
        let mine : is_of peer caller s ≡ true = of_alike e index peer caller t s is o ∙ h in
        (t, s, a, b, is, mine, found_of_caller peer caller at e.sessions ss are.alone s b mine)

-- an element that one test finds passes another, so some element does
pub any_from : {A : Type 0} (p q : A → Bool) (xs : List A) (x : A) → find q xs ≡ Some x → p x ≡ true → list_any p xs ≡ true
any_from p q [] x h passes = absurd (let bad : None ≡ Some x = h in cc)
any_from p q (y ∷ ys) x h passes = at_head (q y) refl (λ later. any_from p q ys x later passes) h
  where
    at_head : (b : Bool) → q y ≡ b → (find q ys ≡ Some x → list_any p ys ≡ true) → cond b (Some y) (find q ys) ≡ Some x → (p y || list_any p ys) ≡ true
    at_head true e rest h = let same : y ≡ x = cc in or_left (p y) (list_any p ys) (ap p same ∙ passes)
    at_head false e rest h = or_right (p y) (list_any p ys) (rest h)

-- there are as many open publishers as seats with a publisher
pub alone_apart : (places : ℕ) (ss : List Session) → AreAlone places ss → AreApart ss × AreInside places ss
alone_apart places [] h = (tt, tt)
alone_apart places (s ∷ ss) h = let rest = alone_apart places ss h.1 in (((λ o. (h.0 o).slot_alone), rest.0), ((λ o. (h.0 o).inside), rest.1))

-- one more seat
count_by_more : (p : Seat → Bool) (x : Seat) (xs : List Seat) → count_by p (x ∷ xs) ≡ one_if (p x) + count_by p xs
unfolding one_if
count_by_more p x xs = sum_by-cons (λ y. cond (p y) 1 0) x xs ∙ by (p x)
  where
    by : (b : Bool) → cond b 1 0 + count_by p xs ≡ one_if b + count_by p xs
    by true = refl
    by false = refl

-- as many open sessions pass a test as stored sessions of seats do
pub among : (e : Terms) (index clock : ℕ) (table : Table) (ss : List Session) (stored : TheSession → Bool) (test : Session → Bool)
    → ((t : TheSession) (s : Session) → IsSession e index t s → s.is_open ≡ true → test s ≡ stored t)
    → ((s : Session) → test s ≡ true → s.is_open ≡ true)
    → IsTable e index clock table ss → count_by (λ seat. session_passes stored seat.session) table.seats.items ≡ how_many test ss
unfolding one_if counted count_at
among e index clock table ss stored test alike opens are =
    let apart = alone_apart e.sessions ss are.alone in
    counted_seats (λ k. find (is_open_in k) ss) passes 0 table.seats.items
    (λ k d below. subst (λ (n : ℕ). counted test (find (is_open_in n) ss) ≡ one_if (passes (get_or table.seats.items k d))) (omega arith)
    (counted_is (find (is_open_in k) ss) ∙ ap one_if (seat_passes e index clock table ss are stored test alike k d below)))
    ∙ (ap (λ (n : ℕ). count_at test (λ k. find (is_open_in k) ss) 0 n) are.places_are ∙ counted_slots test opens e.sessions ss apart.0 apart.1)
  where
    passes : Seat → Bool
    passes seat = session_passes stored seat.session

    counted_is : (f : Option Session) → counted test f ≡ one_if (found_test test f)
    counted_is None = refl
    counted_is (Some s) = refl

    counted_seats : (g : ℕ → Option Session) (p : Seat → Bool) (from : ℕ) (xs : List Seat)
        → ((k : ℕ) (d : Seat) → k < length xs → counted test (g (from + k)) ≡ one_if (p (get_or xs k d)))
        → count_by p xs ≡ count_at test g from (length xs)
    counted_seats g p from [] same = refl
    counted_seats g p from (x ∷ xs) same =
        let here : counted test (g from) ≡ one_if (p x) = subst (λ (n : ℕ). counted test (g n) ≡ one_if (p x)) (omega arith) (same 0 x (omega arith)) in
        let rest = counted_seats g p (from + 1) xs
        (λ k d below.
        subst (λ (n : ℕ). counted test (g n) ≡ one_if (p (get_or xs k d))) (omega arith) (same (suc k) d (omega (arith, below)))) in
        omega (arith, count_by_more p x xs, here, rest, count_next test g from (length xs))

-- the open publishers, and the open sessions of an address
pub publishers_among : (e : Terms) (index clock : ℕ) (table : Table) (ss : List Session)
    → IsTable e index clock table ss → count_by has_publisher table.seats.items ≡ open_publishers ss
publishers_among e index clock table ss are =
    among e index clock table ss (λ t. publishes (role_of t.part)) is_publisher (publisher_alike e index)
    (λ s h. (and_parts s.is_open (publishes s.conclusion.role) h).0) are

pub address_among : (e : Terms) (index clock : ℕ) (table : Table) (ss : List Session) (ip : List ℕ)
    → IsTable e index clock table ss → count_by (has_address ip) table.seats.items ≡ sessions_from ip ss
address_among e index clock table ss ip are =
    among e index clock table ss (λ t. is_same_site t.peer.ip ip) (is_from ip) (λ t s is o. rw (o, is.peer_is) refl)
    (λ s h. (and_parts s.is_open (is_same_site s.peer.ip ip) h).0) are

-- the draining sessions
pub draining_among : (e : Terms) (index clock : ℕ) (table : Table) (ss : List Session)
    → IsTable e index clock table ss → count_by has_draining table.seats.items ≡ number_draining ss
draining_among e index clock table ss are =
    among e index clock table ss (λ t. is_some (until_of t.part)) drains_open (λ t s is o. rw (o, is.drains_is) refl)
    (λ s h. (and_parts s.is_open (is_draining s) h).0) are

-- the expired sessions
abbrev pub has_expired_open : (clock : ℕ) → Session → Bool
has_expired_open clock s = s.is_open && is_over s clock

pub expired_among : (e : Terms) (index before clock : ℕ) (table : Table) (ss : List Session)
    → IsTable e index before table ss → count_by (has_expired clock) table.seats.items ≡ how_many (has_expired_open clock) ss
expired_among e index before clock table ss are =
    among e index before table ss (is_stored_over clock) (has_expired_open clock) (λ t s is o. rw (o, is.drains_is, is.heard_is, is.given_up_is) refl)
    (λ s h. (and_parts s.is_open (is_over s clock) h).0) are

-- one more is counted
pub count_more_taken : (p : Seat → Bool) (xs : List Seat) (at : ℕ) (x : Seat)
    → at < length xs → x ≡ get_or xs at x → count_by p (take (at + 1) xs) ≡ count_by p (take at xs) + cond (p x) 1 0
count_more_taken p xs at x below there =
    ap (λ (ys : List Seat). count_by p ys) (take_more xs at x below)
    ∙ (sum_by_push (λ y. cond (p y) 1 0) (take at xs) (get_or xs at x) ∙ ap (λ (y : Seat). count_by p (take at xs) + cond (p y) 1 0) (sym there))

-- the least number that passes
find_number : (p : ℕ → Bool) (from count i : ℕ)
    → i < count → p (from + i) ≡ true → ((k : ℕ) → k < i → p (from + k) ≡ false) → find p (numbers_from from count) ≡ Some (from + i)
find_number p from zero i below passes fails = absurd (omega arith)
find_number p from (suc count) zero below passes fails =
    let here : p from ≡ true = rw (← add-zero from) passes in
    rw (here, add-zero from) refl
find_number p from (suc count) (suc i) below passes fails =
    let here : p from ≡ false = rw (← add-zero from) (fails 0 (omega arith)) in
    let later = find_number p (from + 1) count i (omega arith) (subst (λ (n : ℕ). p n ≡ true) (omega arith) passes)
    (λ k lt. subst (λ (n : ℕ). p n ≡ false) (omega arith) (fails (suc k) (omega arith))) in
    rw (here) (later ∙ ap (λ (n : ℕ). Some n) (omega arith))

no_number : (p : ℕ → Bool) (from count : ℕ) → ((k : ℕ) → k < count → p (from + k) ≡ false) → find p (numbers_from from count) ≡ None
no_number p from zero fails = refl
no_number p from (suc count) fails =
    let here : p from ≡ false = rw (← add-zero from) (fails 0 (omega arith)) in
    rw (here) (no_number p (from + 1) count (λ k lt. subst (λ (n : ℕ). p n ≡ false) (omega arith) (fails (suc k) (omega arith))))

-- a slot is free exactly if its seat is vacant
free_is : (e : Terms) (index clock at : ℕ) (p : Publisher) (seat : Seat) (ss : List Session)
    → IsSeat e index clock at p seat ss → is_free ss at ≡ is_vacant seat
free_is e index clock at p seat ss is = ap not (any_is (is_open_in at) ss) ∙ both seat.session (find (is_open_in at) ss) is.session_is
  where
    both : (o : Option TheSession) (f : Option Session) → IsStored e index o f → not (is_some f) ≡ is_vacant (record seat { session = o })
    both None None h = refl
    both (Some t) (Some s) h = refl
    both None (Some s) h = absurd h
    both (Some t) None h = absurd h

pub free_at : (e : Terms) (index clock : ℕ) (table : Table) (ss : List Session) (at : ℕ) → IsTable e index clock table ss
    → position is_vacant table.seats.items ≡ Some at
    → (at < length table.seats.items) × (free_slot e ss ≡ Some at) × (find (is_open_in at) ss ≡ None)
free_at e index clock table ss at are first =
    let d = some_found is_vacant table.seats.items at first in
    let found = position-Some is_vacant table.seats.items at d first in
    let free : is_free ss at ≡ true =
    free_is e index clock at (buffers_of table.publishers.items (get_or table.seats.items at d) (some_buffers table))
    (get_or table.seats.items at d) ss (are.seats_are at d (some_buffers table) found.0)
    ∙ found.1 in (
      found.0,
      find_number (is_free ss) 0 e.sessions at (omega (arith, found.0, are.places_are)) (from_zero at true free)
          (λ k lt. from_zero k false
          (free_is e index clock k (buffers_of table.publishers.items (get_or table.seats.items k d) (some_buffers table))
          (get_or table.seats.items k d) ss (are.seats_are k d (some_buffers table) (omega (arith, found.0)))
          ∙ found.2 k lt))
          ∙ ap (λ (n : ℕ). Some n) (omega arith),
      nothing (find (is_open_in at) ss) refl free,
    )
  where
    from_zero : (k : ℕ) (b : Bool) → is_free ss k ≡ b → is_free ss (0 + k) ≡ b
    from_zero k b h = subst (λ (n : ℕ). is_free ss n ≡ b) (omega arith) h

    nothing : (f : Option Session) → find (is_open_in at) ss ≡ f → is_free ss at ≡ true → f ≡ None
    nothing None h free = refl
    nothing (Some s) h free =
        absurd (let some : is_free ss at ≡ false = ap not (any_is (is_open_in at) ss) ∙ ap (λ (g : Option Session). not (is_some g)) h in
        cc)

-- no session is open in the lowest free slot
pub free_is_vacant : (e : Terms) (ss : List Session) (at : ℕ) → free_slot e ss ≡ Some at → find (is_open_in at) ss ≡ None
free_is_vacant e ss at free = nothing (find (is_open_in at) ss) refl (found_passes (is_free ss) (numbers_from 0 e.sessions) at free)
  where
    nothing : (f : Option Session) → find (is_open_in at) ss ≡ f → is_free ss at ≡ true → f ≡ None
    nothing None h passes = refl
    nothing (Some s) h passes =
        absurd (let some : is_free ss at ≡ false = ap not (any_is (is_open_in at) ss) ∙ ap (λ (g : Option Session). not (is_some g)) h in
        cc)

pub none_free : (e : Terms) (index clock : ℕ) (table : Table) (ss : List Session)
    → IsTable e index clock table ss → position is_vacant table.seats.items ≡ None → free_slot e ss ≡ None
none_free e index clock table ss are none =
    no_number (is_free ss) 0 e.sessions (λ k lt.
    let below : k < length table.seats.items = omega (arith, are.places_are) in
    let d = some_item table.seats.items k below in
    subst (λ (n : ℕ). is_free ss n ≡ false) (omega arith)
    (free_is e index clock k (buffers_of table.publishers.items (get_or table.seats.items k d) (some_buffers table))
    (get_or table.seats.items k d) ss (are.seats_are k d (some_buffers table) below)
    ∙ position_none is_vacant table.seats.items none k d below))

-- there are as many free slots as vacant seats
pub vacant_among : (e : Terms) (index clock : ℕ) (table : Table) (ss : List Session)
    → IsTable e index clock table ss → count_by is_vacant table.seats.items ≡ free_slots e ss
unfolding one_if
vacant_among e index clock table ss are =
    counted_places is_vacant (is_free ss) 0 table.seats.items
    (λ k d below.
    subst (λ (n : ℕ). is_free ss n ≡ is_vacant (get_or table.seats.items k d)) (omega arith)
    (free_is e index clock k (buffers_of table.publishers.items (get_or table.seats.items k d) (some_buffers table))
    (get_or table.seats.items k d) ss (are.seats_are k d (some_buffers table) below)))
    ∙ ap (λ (n : ℕ). how_many (is_free ss) (numbers_from 0 n)) are.places_are
  where
    next : (q : ℕ → Bool) (from count : ℕ) (b : Bool)
        → q from ≡ b → how_many q (numbers_from from (suc count)) ≡ one_if b + how_many q (numbers_from (from + 1) count)
    next q from count true h = omega (arith, one_more q from (numbers_from (from + 1) count) true h)
    next q from count false h = omega (arith, one_more q from (numbers_from (from + 1) count) false h)

    counted_places : (p : Seat → Bool) (q : ℕ → Bool) (from : ℕ) (xs : List Seat)
        → ((k : ℕ) (d : Seat) → k < length xs → q (from + k) ≡ p (get_or xs k d)) → count_by p xs ≡ how_many q (numbers_from from (length xs))
    counted_places p q from [] same = refl
    counted_places p q from (x ∷ xs) same =
        let here : q from ≡ p x = subst (λ (n : ℕ). q n ≡ p x) (omega arith) (same 0 x (omega arith)) in
        let rest = counted_places p q (from + 1) xs
        (λ k d below. subst (λ (n : ℕ). q n ≡ p (get_or xs k d)) (omega arith) (same (suc k) d (omega (arith, below)))) in
        omega (arith, count_by_more p x xs, rest, next q from (length xs) (p x) here)

-- the effect of a repeated conclusion on a session
pub hears : (peer : Peer) (caller clock : ℕ) → Keeps (λ s. heard_if (is_of peer caller s) clock s)
hears peer caller clock =
    record {
      slot = λ s. slot_of s (is_of peer caller s);
      peer = λ s. peer_of s (is_of peer caller s);
      conclusion = λ s. conclusion_of s (is_of peer caller s);
      opens_none = λ s. opens_of s (is_of peer caller s);
      drains_on = λ s. drains_of s (is_of peer caller s);
    }
  where
    slot_of : (s : Session) (b : Bool) → (heard_if b clock s).slot ≡ s.slot
    slot_of s true = refl
    slot_of s false = refl

    peer_of : (s : Session) (b : Bool) → (heard_if b clock s).peer ≡ s.peer
    peer_of s true = refl
    peer_of s false = refl

    conclusion_of : (s : Session) (b : Bool) → (heard_if b clock s).conclusion ≡ s.conclusion
    conclusion_of s true = refl
    conclusion_of s false = refl

    drains_of : (s : Session) (b : Bool) → is_draining (heard_if b clock s) ≡ false → is_draining s ≡ false
    drains_of s true h = h
    drains_of s false h = h

    opens_of : (s : Session) (b : Bool) → (heard_if b clock s).is_open ≡ true → s.is_open ≡ true
    opens_of s true h = h
    opens_of s false h = h

heard_stored : (e : Terms) (index clock : ℕ) (t : TheSession) (s : Session)
    → IsSession e index t s → IsSession e index (heard_at clock t) (record s { heard = clock })
heard_stored e index clock t s is =
    record {
      peer_is = is.peer_is;
      caller_is = is.caller_is;
      id_is = is.id_is;
      role_is = is.role_is;
      opened_is = is.opened_is;
      heard_is = refl;
      drains_is = is.drains_is;
      file_is = is.file_is;
      given_up_is = is.given_up_is;
      answer_is = is.answer_is;
    }

-- a caller's session is heard
heard_seat : (e : Terms) (clock : ℕ) (p : Publisher) (x : Subscriber) (b : Bool) (s : Session)
    → IsSeated e clock p x s → IsSeated e clock p x (heard_if b clock s)
heard_seat e clock p x false s is = is
heard_seat e clock p x true s is = record { past_is = by s.past is.past_is; opened = is.opened }
  where
    by : (past : Past) → IsPast e clock p x s past → IsPast e clock p x (record s { heard = clock }) past
    by (Publishes m) h = h
    by (Subscribes m) h = h

-- the seat whose session is sent its first answer again
pub heard_becomes : (e : Terms) (index clock : ℕ) (p : Publisher) (ss : List Session) (peer : Peer) (caller at : ℕ) (x y : Seat)
    (t : TheSession) (s : Session)
    → IsSeat e index clock at p x ss → y ≡ with_stored (option_map (heard_at clock) x.session) x → x.session ≡ Some t
    → find (is_open_in at) ss ≡ Some s → IsSession e index t s → is_of peer caller s ≡ true
    → Becomes (λ u. heard_if (is_of peer caller u) clock u) e index clock at p x y ss
heard_becomes e index clock p ss peer caller at x y t s seat_is y_is stored there session_is mine =
    record {
      count_is = ap (λ (z : Seat). z.generation) y_is;
      session_is = subst (λ (o : Option TheSession). IsStored e index o (changed f (find (is_open_in at) ss)))
          (sym (ap (λ (z : Seat). z.session) y_is ∙ ap (option_map (heard_at clock)) stored))
          (rw (changed_is) (heard_stored e index clock t s session_is));
      buffers_stay = subst (λ (o : Option TheSession). KeepsBuffers x.session o) (sym (ap (λ (z : Seat). z.session) y_is)) (heard_keeps x.session);
      wide = subst (λ (z : Subscriber). subscriber.IsWide e.buffer z) (sym (ap (λ (z : Seat). z.subscriber) y_is)) seat_is.wide;
      seated = λ u found o. subst (λ (z : Subscriber). IsSeated e clock p z (f u)) (sym (ap (λ (z : Seat). z.subscriber) y_is))
          (heard_seat e clock p x.subscriber (is_of peer caller u) u (seat_is.seated u found));
    }
  where
    f : Session → Session
    f u = heard_if (is_of peer caller u) clock u

    heard_keeps : (o : Option TheSession) → KeepsBuffers o (option_map (heard_at clock) o)
    heard_keeps None = tt
    heard_keeps (Some t) = refl

    changed_is : changed f (find (is_open_in at) ss) ≡ Some (record s { heard = clock })
    changed_is = let stays_open : s.is_open ≡ true = (of_parts peer caller s mine).0 in rw (there, mine, stays_open) refl

-- the other sessions aren't that caller's
pub not_of_caller : (peer : Peer) (caller clock at k places : ℕ) (ss : List Session) (s u : Session) → AreAlone places ss → k ≢ at
    → find (is_open_in k) ss ≡ Some u → find (is_open_in at) ss ≡ Some s → find (is_of peer caller) ss ≡ Some s → (b : Bool)
    → is_of peer caller u ≡ b
    → heard_if b clock u ≡ u
not_of_caller peer caller clock at k places ss s u alone other here there one false e1 = refl
not_of_caller peer caller clock at k places ss s u alone other here there one true e1 =
    let again = found_of_caller peer caller k places ss alone u here e1 in
    let same : u ≡ s = let both : Some u ≡ Some s = sym again ∙ one in cc in
    let k_is : u.slot ≡ k = (open_parts k u (found_passes (is_open_in k) ss u here)).1 in
    let at_is : s.slot ≡ at = (open_parts at s (found_passes (is_open_in at) ss s there)).1 in
    absurd (other (sym k_is ∙ (ap (λ (x : Session). x.slot) same ∙ at_is)))

pub hears_marks : (peer : Peer) (caller clock : ℕ) → KeepsMarks (λ s. heard_if (is_of peer caller s) clock s)
hears_marks peer caller clock s = by (is_of peer caller s)
  where
    by : (b : Bool) → (heard_if b clock s).took_over ≡ s.took_over
    by true = refl
    by false = refl

pub takes_marks : (drains : Option ℕ) (e : Terms) (index clock : ℕ) (peer : Peer) (packet : Packet)
    → KeepsMarks (λ s. took_if drains (is_for index peer packet.dest s) e clock packet s)
takes_marks drains e index clock peer packet s = by (is_for index peer packet.dest s)
  where
    by : (b : Bool) → (took_if drains b e clock packet s).took_over ≡ s.took_over
    by true = refl
    by false = refl

-- the effect of a packet on a session
pub takes : (drains : Option ℕ) (e : Terms) (index clock : ℕ) (peer : Peer) (packet : Packet)
    → Keeps (λ s. took_if drains (is_for index peer packet.dest s) e clock packet s)
takes drains e index clock peer packet =
    record {
      slot = λ s. slot_of s (is_for index peer packet.dest s);
      peer = λ s. peer_of s (is_for index peer packet.dest s);
      conclusion = λ s. conclusion_of s (is_for index peer packet.dest s);
      opens_none = λ s. opens_of s (is_for index peer packet.dest s) refl;
      drains_on = λ s. drains_of s (is_for index peer packet.dest s) refl;
    }
  where
    slot_of : (s : Session) (b : Bool) → (took_if drains b e clock packet s).slot ≡ s.slot
    slot_of s true = refl
    slot_of s false = refl

    peer_of : (s : Session) (b : Bool) → (took_if drains b e clock packet s).peer ≡ s.peer
    peer_of s true = refl
    peer_of s false = refl

    conclusion_of : (s : Session) (b : Bool) → (took_if drains b e clock packet s).conclusion ≡ s.conclusion
    conclusion_of s true = refl
    conclusion_of s false = refl

    drains_of : (s : Session) (b : Bool) → is_for index peer packet.dest s ≡ b → is_draining (took_if drains b e clock packet s) ≡ false
        → is_draining s ≡ false
    drains_of s true q h = (for_parts index peer packet.dest s q).3
    drains_of s false q h = h

    opens_of : (s : Session) (b : Bool) → is_for index peer packet.dest s ≡ b → (took_if drains b e clock packet s).is_open ≡ true → s.is_open ≡ true
    opens_of s true q h = for_open index peer packet.dest s q
    opens_of s false q h = h

-- the low byte of a session's ID is its slot
slot_of_id : (index k dest : ℕ) (peer : Peer) (ss : List Session) (u : Session)
    → k < 256 → find (is_open_in k) ss ≡ Some u → is_for index peer dest u ≡ true → k ≡ dest % 256
slot_of_id index k dest peer ss u small here mine =
    let k_is : u.slot ≡ k = (open_parts k u (found_passes (is_open_in k) ss u here)).1 in
    let id_is : session_id index u ≡ dest = (for_parts index peer dest u mine).2 in
    omega (arith, k_is, id_is)

-- a packet is for none of the sessions
abbrev pub IsForNone : (index : ℕ) → Peer → (dest places : ℕ) → List Session → Type 0
IsForNone index peer dest places ss = (k : ℕ) (u : Session) → k < places → find (is_open_in k) ss ≡ Some u → is_for index peer dest u ≡ false

pub for_none_beyond : (index : ℕ) (peer : Peer) (dest places : ℕ) (ss : List Session) → places ≤ 17 → places ≤ dest % 256 → IsForNone index peer dest places ss
for_none_beyond index peer dest places ss few beyond k u below here =
    false_from_ne_true (is_for index peer dest u)
    (λ h.
    let same : k ≡ dest % 256 = slot_of_id index k dest peer ss u (omega (arith, below, few)) here h in
    absurd (omega (arith, same, below, beyond)))

for_alike : (e : Terms) (index : ℕ) (peer : Peer) (dest : ℕ) (t : TheSession) (s : Session)
    → IsSession e index t s → s.is_open ≡ true → is_for index peer dest s ≡ is_stored_for peer dest t
for_alike e index peer dest t s is o = rw (o, is.peer_is, is.id_is, is.drains_is) refl

-- a packet is for no session if the session of its slot isn't the one that it is for
pub for_none_stored : (e : Terms) (index clock : ℕ) (table : Table) (ss : List Session) (peer : Peer) (dest at : ℕ) (seat : Seat)
    → IsTable e index clock table ss → length table.seats.items ≤ 17 → at ≡ dest % 256 → at < length table.seats.items
    → seat ≡ get_or table.seats.items at seat → session_passes (is_stored_for peer dest) seat.session ≡ false
    → IsForNone index peer dest e.sessions ss
for_none_stored e index clock table ss peer dest at seat are few place below there none k u in_it here = false_from_ne_true (is_for index peer dest u) (λ h.
    let same : k ≡ at = slot_of_id index k dest peer ss u (omega (arith, in_it, few, are.places_are)) here h ∙ sym place in
    let found : find (is_open_in at) ss ≡ Some u = subst (λ (n : ℕ). find (is_open_in n) ss ≡ Some u) same here in
    let alike = seat_passes e index clock table ss are (is_stored_for peer dest) (is_for index peer dest) (for_alike e index peer dest) at seat below in
    let stored : session_passes (is_stored_for peer dest) (get_or table.seats.items at seat).session ≡ false =
    subst (λ (x : Seat). session_passes (is_stored_for peer dest) x.session ≡ false) there none in
    let tested : found_test (is_for index peer dest) (Some u) ≡ false = ap (found_test (is_for index peer dest)) (sym found) ∙ (alike ∙ stored) in
    absurd (let bad : true ≡ false = sym h ∙ tested in cc))

-- then none is found
pub none_found_for : (index : ℕ) (peer : Peer) (dest places : ℕ) (ss : List Session)
    → AreAlone places ss → IsForNone index peer dest places ss → (o : Option Session) → find (is_for index peer dest) ss ≡ o → o ≡ None
none_found_for index peer dest places ss alone none None h = refl
none_found_for index peer dest places ss alone none (Some u) h =
    let place = found_in_place (is_for index peer dest) (for_open index peer dest) places ss alone u h in
    let is : is_for index peer dest u ≡ true = found_passes (is_for index peer dest) ss u h in
    absurd (let not_it : is_for index peer dest u ≡ false = none u.slot u place.0 place.1 in cc)

-- then none is changed
pub none_changes : (drains : Option ℕ) (e : Terms) (index clock : ℕ) (peer : Peer) (packet : Packet) (u : Session)
    → is_for index peer packet.dest u ≡ false → took_if drains (is_for index peer packet.dest u) e clock packet u ≡ u
none_changes drains e index clock peer packet u h = rw (h) refl

-- the session of a slot that passes
pub passes_at : (e : Terms) (index clock : ℕ) (table : Table) (ss : List Session) (stored : TheSession → Bool) (test : Session → Bool)
    (at : ℕ) (seat : Seat)
    → IsTable e index clock table ss → ((t : TheSession) (s : Session) → IsSession e index t s → s.is_open ≡ true → test s ≡ stored t)
    → at < length table.seats.items → seat ≡ get_or table.seats.items at seat → session_passes stored seat.session ≡ true
    → (t : TheSession) × (s : Session) × (seat.session ≡ Some t) × (find (is_open_in at) ss ≡ Some s) × IsSession e index t s ×
    (test s ≡ true)
passes_at e index clock table ss stored test at seat are alike below there passes =
    let seat_is : IsSeat e index clock at (buffers_of table.publishers.items seat (some_buffers table)) seat ss =
    seat_at e index clock table ss at seat (some_buffers table) are below there in
    at_place seat.session refl (find (is_open_in at) ss) refl seat_is.session_is passes
  where
    at_place : (o : Option TheSession) → seat.session ≡ o → (f : Option Session) → find (is_open_in at) ss ≡ f → IsStored e index o f
        → session_passes stored o ≡ true
        → (t : TheSession) × (s : Session) × (seat.session ≡ Some t) × (find (is_open_in at) ss ≡ Some s) × IsSession e index t s ×
        (test s ≡ true)
    at_place None a f b is h = absurd (let bad : false ≡ true = h in cc)
    at_place (Some t) a None b is h = absurd is
    at_place (Some t) a (Some s) b is h = (t, s, a, b, is, alike t s is (open_parts at s (found_passes (is_open_in at) ss s b)).0 ∙ h)

-- the session that a packet is for
pub record IsHere (e : Terms) (index : ℕ) (ss : List Session) (peer : Peer) (dest at : ℕ) (seat : Seat) (t : TheSession) (s : Session) : Type 0 where
  pub below : at < e.sessions
  pub stored_is : seat.session ≡ Some t
  pub found_is : find (is_open_in at) ss ≡ Some s
  pub session_is : IsSession e index t s
  pub for_it : is_for index peer dest s ≡ true
  pub is_open : s.is_open ≡ true
  pub found_for : find (is_for index peer dest) ss ≡ Some s
  pub others : (k : ℕ) (u : Session) → k ≢ at → k < e.sessions → find (is_open_in k) ss ≡ Some u → is_for index peer dest u ≡ false

pub for_one : (e : Terms) (index clock : ℕ) (table : Table) (ss : List Session) (peer : Peer) (dest at : ℕ) (seat : Seat)
    → IsTable e index clock table ss → length table.seats.items ≤ 17 → at ≡ dest % 256 → at < length table.seats.items
    → seat ≡ get_or table.seats.items at seat → session_passes (is_stored_for peer dest) seat.session ≡ true
    → (t : TheSession) × (s : Session) × IsHere e index ss peer dest at seat t s
for_one e index clock table ss peer dest at seat are few place below there passes =
    let found = passes_at e index clock table ss (is_stored_for peer dest) (is_for index peer dest) at seat are
    (for_alike e index peer dest) below there passes in (
      found.0,
      found.1,
      record {
        below = omega (arith, below, are.places_are);
        stored_is = found.2;
        found_is = found.3;
        session_is = found.4;
        for_it = found.5;
        is_open = for_open index peer dest found.1 found.5;
        found_for = found_narrower (is_open_in at) (is_for index peer dest) (for_open index peer dest) e.sessions in_place ss are.alone found.1 found.3 found.5;
        others = λ k u other in_it here. false_from_ne_true (is_for index peer dest u)
            (λ h. absurd (other (slot_of_id index k dest peer ss u (omega (arith, in_it, few, are.places_are)) here h ∙ sym place)));
      },
    )
  where
    in_place : (u : Session) → is_for index peer dest u ≡ true → u.slot < e.sessions → is_open_in at u ≡ true
    in_place u h inside =
        let id_is : session_id index u ≡ dest = (for_parts index peer dest u h).2 in
        open_from at u (for_open index peer dest u h) (omega (arith, id_is, inside, few, are.places_are, place))

-- the seat whose session a packet is for
pub took_becomes : (drains : Option ℕ) (e : Terms) (index clock : ℕ) (q : Publisher) (ss : List Session) (peer : Peer) (packet : Packet) (at : ℕ) (x y : Seat)
    (t : TheSession) (s : Session)
    → IsHere e index ss peer packet.dest at x t s → y.generation ≡ x.generation
    → y.session ≡ stored_after (ends_unless drains (ends_with (terms_of e s) s.conclusion.initial packet.body s.past)) drains clock x.session
    → (publishes s.conclusion.role ≡ false → drains ≡ None)
    → subscriber.IsWide e.buffer y.subscriber → IsSeated e clock q y.subscriber (took drains e clock packet.stamp packet.body s)
    → Becomes (λ u. took_if drains (is_for index peer packet.dest u) e clock packet u) e index clock at q x y ss
took_becomes drains e index clock q ss peer packet at x y t s here count stored never wide seated =
    record {
      count_is = count;
      session_is =
          subst (λ (g : Option Session). IsStored e index y.session (changed f g)) (sym here.found_is)
          (subst (λ (o : Option TheSession). IsStored e index o (while_open (f s))) (sym (stored ∙ ap (stored_after ends drains clock) here.stored_is))
          (subst (λ (b : Bool). IsStored e index (stored_after ends drains clock (Some t)) (while_open (took_if drains b e clock packet s)))
          (sym here.for_it) (ended ends refl)));
      buffers_stay = subst (λ (o : Option TheSession). KeepsBuffers x.session o) (sym stored) (after_keeps ends x.session);
      wide = wide;
      seated = λ u found o.
          let it : s ≡ u = let both : Some s ≡ Some u = sym here.found_is ∙ found in cc in
          subst (λ (v : Session). IsSeated e clock q y.subscriber (f v)) it
          (subst (λ (b : Bool). IsSeated e clock q y.subscriber (took_if drains b e clock packet s)) (sym here.for_it) seated);
    }
  where
    f : Session → Session
    f u = took_if drains (is_for index peer packet.dest u) e clock packet u

    ends : Bool
    ends = ends_unless drains (ends_with (terms_of e s) s.conclusion.initial packet.body s.past)

    after_keeps : (b : Bool) (o : Option TheSession) → KeepsBuffers o (stored_after b drains clock o)
    after_keeps b None = tt
    after_keeps true (Some u) = tt
    after_keeps false (Some u) = after_buffers drains u.part

    stays : is_some (until_of t.part) ≡ false
    stays = ap is_some here.session_is.drains_is ∙ (for_parts index peer packet.dest s here.for_it).3

    ended : (b : Bool) → ends_unless drains (ends_with (terms_of e s) s.conclusion.initial packet.body s.past) ≡ b
        → IsStored e index (stored_after b drains clock (Some t)) (while_open (took drains e clock packet.stamp packet.body s))
    ended true h = rw (h) tt
    ended false h = rw (h)
        (record {
          peer_is = here.session_is.peer_is;
          caller_is = here.session_is.caller_is;
          id_is = here.session_is.id_is;
          role_is = after_role drains t.part ∙ here.session_is.role_is;
          opened_is = here.session_is.opened_is;
          heard_is = refl;
          drains_is = after_until drains t.part stays (λ no_one. never (ap publishes (sym here.session_is.role_is) ∙ no_one));
          file_is = after_records drains t.part s.file_ended here.session_is.file_is;
          given_up_is = after_lasts drains t.part ∙ here.session_is.given_up_is;
          answer_is = here.session_is.answer_is;
        })

-- two reads at one index
pub same_read : {A : Type 0} (xs : List A) (at : ℕ) (x y : A) → at < length xs → x ≡ get_or xs at x → y ≡ get_or xs at y → x ≡ y
same_read xs at x y below one other = one ∙ (get_or_default xs at x y below ∙ sym other)
