-- A route that is closed.
use Rattle.std.proofs.Common.{◌≡◌, ℕ, suc, ◌+◌, ◌-◌, ◌<◌, ◌≤◌, ◌^◌, Bool, true, false, ◌||◌, ◌&&◌, Option, None, Some, List, [], ◌∷◌, ◌++◌, map}
use Rattle.std.proofs.Common.{find, refl, sym, ap, subst, ◌∙◌, append_assoc, append-nil, arith}
use Rattle.std.specs.List.{cons_option}
use Rattle.srt_types.specs.declared.shared.Callers.{Callers}
use Rattle.srt_types.specs.declared.shared.Callers.TheVariants.{Draft, Libsrt}
use Rattle.srt_types.specs.Terms.{Terms}
use Rattle.srt_types.specs.Items.{Datagram, Item, Received, Tick, Close}
use Rattle.srt_pub.specs.declared.session.Publisher.{Publisher}
use Rattle.srt_session_keys.specs.Subscriber.{Subscriber as Keys}
use Rattle.srt_route.specs.Route.{own_by}
use Rattle.srt_route.specs.declared.replies.Reply.{Reply}
use Rattle.srt_route.specs.declared.seat.Session.{Session as TheSession}
use Rattle.srt_route.specs.declared.seat.Seat.{Seat}
use Rattle.srt_route.specs.declared.table.Table.{Table}
use Rattle.srt_route.specs.Past.{has_left}
use Rattle.srt_route.specs.Sessions.{Session, advanced, by_slot, is_active, is_open_in, time_in, passed_at, reported_at, terms_of}
use Rattle.srt_route.specs.Sessions.{open_publishers, settled, settled_at, with_end}
use Rattle.srt_route.specs.Route.{after_delivery, drain_end, gives_some, settled_by}
use Rattle.srt_route.specs.Route.{Route, sent, ended, shutdown_to, closes, clock_after, passed_by, sessions_at, taken, taken_by, least_room}
use Rattle.srt_route.specs.Route.{room_if, delivery, delivered, after, finished_at, has_whole_file, is_file_over, notified_if}
use Rattle.srt_route.specs.Tables.{IsSession, IsStored, IsSeat, IsTable, with_stored}
use Rattle.srt_route.specs.inside.OneSession.{shutdowns_if, shutdowns_to}
use Rattle.srt_route.specs.inside.Reports.{AreSaid}
use Rattle.srt_route.proofs.model.Lists.{Each, each_mapped}
use Rattle.srt_route.proofs.model.Found.{Keeps, changed}
use Rattle.srt_route.proofs.model.Secured.{closing_is_heard}
use Rattle.srt_route.proofs.model.TakeOver.{KeepsMarks}
use Rattle.srt_route.proofs.stored.Kept.{Becomes, table_stands}
use Rattle.srt_route.proofs.steps.Delivered.{from_places}
use Rattle.srt_route.proofs.steps.Saying.{same_said, said_then}
use Rattle.srt_route.specs.GivingUp.{given_up_at}
use Rattle.srt_route.specs.Route.{giving_up, route_before}
use Rattle.srt_route.proofs.model.GivingUp.{each_before}

-- the session of a seat ends
abbrev pub IsEnded : (x y : Seat) → Type 0
IsEnded x y = y ≡ with_stored None x

pub ends : Keeps ended
ends =
    record {
      slot = λ s. refl;
      peer = λ s. refl;
      conclusion = λ s. refl;
      opens_none = λ s h. absurd (let bad : false ≡ true = h in cc);
      drains_on = λ s h. h;
    }

pub ends_marks : KeepsMarks ended
ends_marks s = refl

pub ended_becomes : (e : Terms) (index clock at : ℕ) (p : Publisher) (x y : Seat) (ss : List Session)
    → IsSeat e index clock at p x ss → IsEnded x y → Becomes ended e index clock at p x y ss
ended_becomes e index clock at p x y ss is h =
    subst (λ (z : Seat). Becomes ended e index clock at p x z ss) (sym h)
    (record {
      count_is = refl;
      session_is = by (find (is_open_in at) ss);
      buffers_stay = tt;
      wide = is.wide;
      seated = λ s found stays. absurd (let bad : false ≡ true = stays in cc);
    })
  where
    by : (g : Option Session) → IsStored e index None (changed ended g)
    by None = tt
    by (Some s) = tt

-- the SHUTDOWNs of a range of slots
abbrev pub ended_from : (clock : ℕ) → List Session → (from count : ℕ) → List Datagram
ended_from clock ss from count = map sent (map (shutdown_to clock) (from_places ss from count))

-- the SHUTDOWNs sent to the slots below `at` with those of the remaining slots are the SHUTDOWNs of all
pub record IsEnding (e : Terms) (clock at : ℕ) (ss : List Session) (before now : List Reply) (places more : ℕ) : Type 0 where
  pub notified : List Datagram
  pub said : AreSaid before now places more notified
  pub whole : notified ++ ended_from clock ss at (e.sessions - at) ≡ map sent (map (shutdown_to clock) (by_slot e ss))

-- the SHUTDOWN of a seat is that of its slot's session
pub stored_shutdown : (e : Terms) (index clock : ℕ) (t : TheSession) (s : Session)
    → IsSession e index t s → shutdowns_to clock (Some t) ≡ map sent (shutdown_to clock s ∷ [])
stored_shutdown e index clock t s is = rw (is.peer_is, is.caller_is, is.opened_is) refl

-- the same of a SHUTDOWN that is sent only on a route for libsrt callers
pub notified_alike : (e : Terms) (index clock : ℕ) (callers : Callers) (over : Bool) (t : TheSession) (s : Session)
    → IsSession e index t s → shutdowns_if callers over clock (Some t) ≡ map sent (notified_if callers over clock s)
notified_alike e index clock Draft over t s is = refl
notified_alike e index clock Libsrt true t s is = stored_shutdown e index clock t s is
notified_alike e index clock Libsrt false t s is = refl

next_shutdown : (e : Terms) (index clock : ℕ) (ss : List Session) (at count : ℕ) (o : Option TheSession) (f : Option Session)
    → find (is_open_in at) ss ≡ f → IsStored e index o f
    → ended_from clock ss at (suc count) ≡ shutdowns_to clock o ++ ended_from clock ss (at + 1) count
next_shutdown e index clock ss at count None None found is =
    ap (λ (g : Option Session). map sent (map (shutdown_to clock) (cons_option g (from_places ss (at + 1) count)))) found
next_shutdown e index clock ss at count None (Some s) found is = absurd is
next_shutdown e index clock ss at count (Some t) None found is = absurd is
next_shutdown e index clock ss at count (Some t) (Some s) found is =
    ap (λ (g : Option Session). map sent (map (shutdown_to clock) (cons_option g (from_places ss (at + 1) count)))) found
    ∙ ap (λ (ds : List Datagram). ds ++ ended_from clock ss (at + 1) count) (sym (stored_shutdown e index clock t s is))

-- one more slot
pub end_slot : (e : Terms) (index clock : ℕ) (p : Publisher) (ss : List Session) (at : ℕ) (x : Seat) (before now then_ : List Reply)
    (places more most : ℕ)
    → at < e.sessions → IsSeat e index clock at p x ss → AreSaid now then_ more most (shutdowns_to clock x.session)
    → IsEnding e clock at ss before now places more
    → IsEnding e clock (at + 1) ss before then_ places most
end_slot e index clock p ss at x before now then_ places more most below is says h =
    let one = shutdowns_to clock x.session in
    let rest = ended_from clock ss (at + 1) (e.sessions - (at + 1)) in
    let count : e.sessions - at ≡ suc (e.sessions - (at + 1)) = omega (arith, below) in
    record {
      notified = h.notified ++ one;
      said = said_then before now then_ places more most h.notified one h.said says;
      whole = append_assoc h.notified one rest
          ∙ (ap (λ (ds : List Datagram). h.notified ++ ds)
          (sym (next_shutdown e index clock ss at (e.sessions - (at + 1)) x.session (find (is_open_in at) ss) refl is.session_is))
          ∙ (ap (λ (n : ℕ). h.notified ++ ended_from clock ss at n) (sym count) ∙ h.whole));
    }

-- all slots
pub all_ended : (e : Terms) (clock at : ℕ) (ss : List Session) (before now : List Reply) (places more : ℕ) → e.sessions ≤ at
    → IsEnding e clock at ss before now places more
    → AreSaid before now places more (map sent (map (shutdown_to clock) (by_slot e ss)))
all_ended e clock at ss before now places more all h =
    let none : e.sessions - at ≡ 0 = omega (arith, all) in
    same_said (sym (append-nil h.notified) ∙ (sym (ap (λ (n : ℕ). h.notified ++ ended_from clock ss at n) none) ∙ h.whole)) h.said

-- the sessions of a closed route have ended
abbrev pub HasEnded : Session → Type 0
HasEnded s = s.is_open ≡ false

passed_ended : (e : Terms) (here : Bool) (time : ℕ) (room : Option ℕ) (delivery : List (List ℕ)) (s : Session)
    → HasEnded s → HasEnded (passed_at e here time room delivery s)
passed_ended e true time room delivery s h = h
passed_ended e false time room delivery s h = h

reported_ended : (keys : Option Keys) (e : Terms) (here : Bool) (clock : ℕ) (s : Session) → HasEnded s → HasEnded (reported_at keys e here clock s)
reported_ended keys e true clock s h = h
reported_ended keys e false clock s h = h

finished_ended : (whole : Bool) (keys : Option Keys) (e : Terms) (clock : ℕ) (s : Session) → HasEnded s → HasEnded (finished_at whole keys e clock s)
finished_ended true keys e clock s h = refl
finished_ended false keys e clock s h = reported_ended keys e s.is_open clock s h

all_end : (ss : List Session) → Each HasEnded (map ended ss)
all_end [] = tt
all_end (s ∷ ss) = (refl, all_end ss)

delivered_ended : (e : Terms) (clock : ℕ) (ss : List Session) → Each HasEnded ss → Each HasEnded (delivered e clock ss)
delivered_ended e clock ss h =
    each_mapped HasEnded HasEnded _
    (λ s k.
    passed_ended e s.is_open (time_in s clock) (room_if (is_active ss s) (least_room e ss)) (delivery e clock (least_room e ss) ss) s k)
    ss h

settled_ended : (d : Option ℕ) (e : Terms) (given : Bool) (clock : ℕ) (s : Session) → HasEnded s → HasEnded (settled_at d e given clock s)
settled_ended None e given clock s h = h
settled_ended (Some until) e given clock s h = ap (λ (b : Bool). b && has_left (terms_of e s) s.past) h

end_ended : (end : Option Bool) (s : Session) → HasEnded s → HasEnded (with_end end s)
end_ended None s h = h
end_ended (Some by_shutdown) s h = h

all_settled_ended : (c : Callers) (e : Terms) (clock : ℕ) (given : Bool) (ss : List Session)
    → Each HasEnded ss → Each HasEnded (settled_by c e clock given ss)
all_settled_ended Draft e clock given ss h = h
all_settled_ended Libsrt e clock given ss h =
    let later = map (settled e given clock) ss in
    let end = drain_end (open_publishers ss) (open_publishers later) in
    each_mapped HasEnded HasEnded (with_end end) (λ s k. end_ended end s k) later
    (each_mapped HasEnded HasEnded (settled e given clock) (λ s k. settled_ended s.drains e given clock s k) ss h)

after_delivery_ended : (e : Terms) (clock : ℕ) (ss : List Session) → Each HasEnded ss → Each HasEnded (after_delivery e clock ss)
after_delivery_ended e clock ss h =
    all_settled_ended e.rules.callers e clock (gives_some e clock ss) (delivered e clock ss) (delivered_ended e clock ss h)

taken_ended : (e : Terms) (index : ℕ) (item : Item) (m : Route) → closes item ≡ true → Each HasEnded (taken_by e index item m).sessions
taken_ended e index (Received d moment) m h = absurd (let bad : false ≡ true = h in cc)
taken_ended e index (Tick moment) m h = absurd (let bad : false ≡ true = h in cc)
taken_ended e index (Close moment) m h =
    let clock = clock_after (Close moment) m in
    subst (λ (i : Item). Each HasEnded (taken e index clock i (advanced e clock m.sessions)).sessions) (sym (closing_is_heard e index moment m)) (all_end _)

more_ended : (e : Terms) (index : ℕ) (item : Item) (m : Route) (was : Bool)
    → (was ≡ true → Each HasEnded m.sessions) → (was || closes item) ≡ true → Each HasEnded (sessions_at was e index item m)
more_ended e index item m true before h = before refl
more_ended e index item m false before h =
    let over = is_file_over e (passed_by e index item m) in
    each_mapped HasEnded HasEnded _ (λ s k. finished_ended (has_whole_file over s) (own_by e index item m s.slot) e (clock_after item m) s k)
    (passed_by e index item m)
    (after_delivery_ended e (clock_after item m) (taken_by e index item m).sessions (taken_ended e index item m h))

late_ended : (late : Bool) (s : Session) → HasEnded s → HasEnded (given_up_at late s)
late_ended true s h = h
late_ended false s h = h

pub before_ended : (e : Terms) (clock : ℕ) (m : Route) → Each HasEnded m.sessions → Each HasEnded (giving_up e clock m).sessions
before_ended e clock m h = each_before HasEnded late_ended e clock m h

pub closed_ended : (e : Terms) (index : ℕ) (items : List Item) → (after e index items).is_closed ≡ true → Each HasEnded (after e index items).sessions
closed_ended e index [] h = tt
closed_ended e index (item ∷ items) h =
    let m = route_before e index item items in
    more_ended e index item m m.is_closed (λ was. before_ended e (clock_after item m) (after e index items) (closed_ended e index items was)) h

pub none_open : (at : ℕ) (ss : List Session) → Each HasEnded ss → find (is_open_in at) ss ≡ None
none_open at [] h = refl
none_open at (s ∷ ss) h = rw (h.0) (none_open at ss h.1)

-- time doesn't change ended sessions
pub ended_table : (e : Terms) (index before clock : ℕ) (table : Table) (ss : List Session)
    → IsTable e index before table ss → clock < 2 ^ 62 → Each HasEnded ss → IsTable e index clock table ss
ended_table e index before clock table ss is early h =
    table_stands e index before clock table table ss ss is early (refl, refl, refl, refl, refl) is.publishers_wide refl
    (λ at d p below.
    let seat = is.seats_are at d p below in
    record {
      session_is = seat.session_is;
      count_is = seat.count_is;
      wide = seat.wide;
      seated = λ s found. absurd (let bad : None ≡ Some s = sym (none_open at ss h) ∙ found in cc);
    })
    is.alone is.publishers_are
