-- A closed route has no open session, and replies to nothing.
use Rattle.std.proofs.Common.{◌≡◌, ℕ, Bool, true, false, ◌||◌, ◌&&◌, Option, None, Some, List, [], ◌∷◌, map, refl, sym, ap, subst, ◌∙◌}
use Rattle.std.specs.List.{list_any}
use Rattle.srt_types.specs.declared.shared.Callers.{Callers}
use Rattle.srt_types.specs.declared.shared.Callers.TheVariants.{Draft, Libsrt}
use Rattle.srt_types.specs.Terms.{Terms}
use Rattle.srt_types.specs.Items.{Item, Received, Tick, Close}
use Rattle.srt_session_keys.specs.Subscriber.{Subscriber as Keys}
use Rattle.srt_route.specs.Route.{own_by}
use Rattle.srt_route.specs.Past.{has_left}
use Rattle.srt_route.specs.Sessions.{Session, is_active, time_in, advanced, passed_at, passed, reported_at, terms_of}
use Rattle.srt_route.specs.Sessions.{open_publishers, settled, settled_at, with_end}
use Rattle.srt_route.specs.Route.{after_delivery, drain_end, finished, finished_at, gives_some, has_whole_file, is_file_over, settled_by}
use Rattle.srt_route.specs.Route.{Route, ended, closes, clock_after, least_room, delivery, room_if, delivered, replies_at, sessions_at, sent, taken, taken_by}
use Rattle.srt_route.specs.Route.{after, route_before}
use Rattle.srt_route.proofs.model.Secured.{closing_is_heard}
use Rattle.srt_route.specs.Closed.{ClosesOnce, ClosedHasNoSession, ClosedIsQuiet}
use Rattle.srt_route.proofs.model.GivingUp.{closed_before}

abbrev pub none_open : List Session → Bool
none_open ss = list_any (λ (s : Session). s.is_open) ss

pub each_ended : (ss : List Session) → none_open (map ended ss) ≡ false
each_ended [] = refl
each_ended (s ∷ ss) = each_ended ss

-- a change that keeps which sessions are open
all_stay : (f : Session → Session) → ((s : Session) → (f s).is_open ≡ s.is_open) → (ss : List Session) → none_open (map f ss) ≡ none_open ss
all_stay f same [] = refl
all_stay f same (s ∷ ss) = ap (λ b. b || none_open (map f ss)) (same s) ∙ ap (λ b. s.is_open || b) (all_stay f same ss)

passed_stays : (e : Terms) (here : Bool) (time : ℕ) (room : Option ℕ) (fed : List (List ℕ)) (s : Session)
    → (passed_at e here time room fed s).is_open ≡ s.is_open
passed_stays e true time room fed s = refl
passed_stays e false time room fed s = refl

reported_stays : (keys : Option Keys) (e : Terms) (here : Bool) (clock : ℕ) (s : Session) → (reported_at keys e here clock s).is_open ≡ s.is_open
reported_stays keys e true clock s = refl
reported_stays keys e false clock s = refl

finished_stays : (whole : Bool) (keys : Option Keys) (e : Terms) (clock : ℕ) (s : Session)
    → s.is_open ≡ false → (finished_at whole keys e clock s).is_open ≡ false
finished_stays true keys e clock s h = refl
finished_stays false keys e clock s h = reported_stays keys e s.is_open clock s ∙ h

-- if no session is open, a change that opens none leaves none open
still_none : (f : Session → Session) → ((s : Session) → s.is_open ≡ false → (f s).is_open ≡ false) → (ss : List Session)
    → none_open ss ≡ false → none_open (map f ss) ≡ false
still_none f same [] h = refl
still_none f same (s ∷ ss) h = by (λ k. still_none f same ss k) s.is_open refl h
  where
    by : (none_open ss ≡ false → none_open (map f ss) ≡ false) → (b : Bool) → s.is_open ≡ b → (b || none_open ss) ≡ false
        → ((f s).is_open || none_open (map f ss)) ≡ false
    by rest true is k = absurd (let bad : true ≡ false = k in cc)
    by rest false is k = ap (λ b. b || none_open (map f ss)) (same s is) ∙ rest k

pub delivered_stay : (e : Terms) (clock : ℕ) (ss : List Session) → none_open (delivered e clock ss) ≡ none_open ss
delivered_stay e clock ss =
    let room = least_room e ss in
    let fed = delivery e clock room ss in
    all_stay (λ s. passed e clock (room_if (is_active ss s) room) fed s)
    (λ s. passed_stays e s.is_open (time_in s clock) (room_if (is_active ss s) room) fed s) ss

settled_stays : (d : Option ℕ) (e : Terms) (given : Bool) (clock : ℕ) (s : Session) → s.is_open ≡ false → (settled_at d e given clock s).is_open ≡ false
settled_stays None e given clock s h = h
settled_stays (Some until) e given clock s h = ap (λ (b : Bool). b && has_left (terms_of e s) s.past) h

end_stays : (end : Option Bool) (s : Session) → s.is_open ≡ false → (with_end end s).is_open ≡ false
end_stays None s h = h
end_stays (Some by_shutdown) s h = h

settled_none : (c : Callers) (e : Terms) (clock : ℕ) (given : Bool) (ss : List Session)
    → none_open ss ≡ false → none_open (settled_by c e clock given ss) ≡ false
settled_none Draft e clock given ss h = h
settled_none Libsrt e clock given ss h =
    let later = map (settled e given clock) ss in
    let end = drain_end (open_publishers ss) (open_publishers later) in
    still_none (with_end end) (λ s none. end_stays end s none) later
    (still_none (settled e given clock) (λ s none. settled_stays s.drains e given clock s none) ss h)

-- the deliveries of an event open no session
pub after_delivery_none : (e : Terms) (clock : ℕ) (ss : List Session) → none_open ss ≡ false → none_open (after_delivery e clock ss) ≡ false
after_delivery_none e clock ss h =
    settled_none e.rules.callers e clock (gives_some e clock ss) (delivered e clock ss) (delivered_stay e clock ss ∙ h)

ends_all : (is_closed : Bool) (e : Terms) (index : ℕ) (item : Item) (m : Route) → (is_closed ≡ true → none_open m.sessions ≡ false)
    → (is_closed || closes item) ≡ true
    → none_open (sessions_at is_closed e index item m) ≡ false
ends_all true e index item m earlier h = earlier refl
ends_all false e index (Received datagram moment) m earlier h = cc
ends_all false e index (Tick moment) m earlier h = cc
ends_all false e index (Close moment) m earlier h =
    let clock = clock_after (Close moment) m in
    let ss = (taken_by e index (Close moment) m).sessions in
    let later = after_delivery e clock ss in
    let over = is_file_over e later in
    let own = own_by e index (Close moment) m in
    still_none (finished own e clock over) (λ s none. finished_stays (has_whole_file over s) (own s.slot) e clock s none) later
    (after_delivery_none e clock ss
    (subst (λ (i : Item). none_open (taken e index clock i (advanced e clock m.sessions)).sessions ≡ false) (sym (closing_is_heard e index moment m))
    (each_ended (advanced e clock m.sessions))))

pub has_no_session : ClosedHasNoSession
has_no_session e index [] h = refl
has_no_session e index (item ∷ items) h =
    let m = route_before e index item items in
    ends_all m.is_closed e index item m
    (λ was. ap none_open (closed_before e (clock_after item m) (after e index items) was) ∙ has_no_session e index items was) h

pub is_quiet : ClosedIsQuiet
is_quiet e index items h item =
    let m = route_before e index item items in (
      ap (λ b. map sent (replies_at b e index item m)) h,
      ap (λ b. sessions_at b e index item m) h ∙ closed_before e (clock_after item m) (after e index items) h,
    )

either : (a b : Bool) → (a || b) ≡ (b || a)
either true true = refl
either true false = refl
either false true = refl
either false false = refl

pub closes_once : ClosesOnce
closes_once e index [] = refl
closes_once e index (item ∷ items) = ap (λ b. b || closes item) (closes_once e index items) ∙ either (list_any closes items) (closes item)
