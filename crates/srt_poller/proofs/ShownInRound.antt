-- Which routes a round shows and hides, name by name.
use Rattle.std.proofs.Common.{◌≡◌, ℕ, zero, suc, ◌+◌, ◌<◌, ◌==◌, Bool, true, false, ◌&&◌, ◌||◌, None, Some, List, [], ◌∷◌, ◌++◌, length, map}
use Rattle.std.proofs.Common.{take, slice_get, refl, sym, ap, ◌∙◌, subst, append-nil, arith}
use Rattle.std.specs.Prelude.{if◌then◌else◌}
use Rattle.std.proofs.lemmas.Grind.{fold-append}
use Rattle.std.proofs.lemmas.List.{map-append, length-map}
use Rattle.srt_types.specs.declared.shared.Schedule.{Schedule}
use Rattle.srt_lobby.specs.Names.{RouteName, as_shown, name_of, shows, is_shown_at, AreDistinct}
use Rattle.srt_types.specs.Terms.{Terms}
use Rattle.srt_lobby.specs.Opening.{fault_of}
use Rattle.srt_lobby.proofs.Distinct.{names_are_distinct}
use Rattle.srt_lobby.specs.Changing.{marked_at, hidden_at, shown_at}
use Rattle.srt_poller.specs.Schedules.{CloseOffer, offered, opened, opened_if, is_due, due_from, due, hidden_by, closed, AllDiffer}
use Rattle.srt_poller.specs.declared.ends.Ends.{Ends}
use Rattle.srt_poller.specs.History.{State, Event, state_by, state_after, names_by, Begins, Waits, WaitFails, ReadsNothing, ReadFails}
use Rattle.srt_poller.specs.History.{Answers, Accepts, Overflows, Refuses, Drops, Sends, Resends}
use Rattle.srt_poller.specs.Beginnings.{all_shown, Rests, NoneMayOpen, RouteRests, Closes, AreClosed}
use Rattle.srt_poller.specs.Plans.{may_open}
use Rattle.srt_poller.proofs.Steps.{are_later_none, closings_then}

abbrev pub no_schedule : Schedule
no_schedule = record { open_round = 0; close_round = None }

-- the schedule of one route more
pub opened_step : (round r : ℕ) (ss : List Schedule) (s : Schedule) (ns : List RouteName) → slice_get ss r ≡ Some s → length ss ≡ length ns →
    opened round (take (r + 1) ss) ns ≡ (if s.open_round == round then shown_at r (opened round (take r ss) ns) else opened round (take r ss) ns)
opened_step round r [] s ns h e = cc
opened_step round r (x ∷ ss) s [] h e = absurd (omega (arith, e))
opened_step round zero (x ∷ ss) s (n ∷ ns) h e =
    let same : x ≡ s = cc in
    rw same (by (s.open_round == round))
  where
    by : (b : Bool) → (if b then as_shown n else n) ∷ ns ≡ (if b then shown_at 0 (n ∷ ns) else n ∷ ns)
    by true = refl
    by false = refl
opened_step round (suc r) (x ∷ ss) s (n ∷ ns) h e =
    let count : suc r + 1 ≡ suc (r + 1) = omega arith in
    let here : RouteName = if x.open_round == round then as_shown n else n in
    ap (λ k. opened round (take k (x ∷ ss)) (n ∷ ns)) count
    ∙ ap (λ (l : List RouteName). here ∷ l) (opened_step round r ss s ns h (omega (arith, e)))
    ∙ by here (s.open_round == round)
  where
    by : (m : RouteName) (b : Bool) → m ∷ (if b then shown_at r (opened round (take r ss) ns) else opened round (take r ss) ns)
        ≡ (if b then shown_at (suc r) (m ∷ opened round (take r ss) ns) else m ∷ opened round (take r ss) ns)
    by m true = refl
    by m false = refl

due_from_step : (index : ℕ) (a : Bool) (round r : ℕ) (ss : List Schedule) (s : Schedule) (ns : List RouteName)
    → slice_get ss r ≡ Some s → length ss ≡ length ns →
    due_from index a round (take (r + 1) ss) ns
    ≡ due_from index a round (take r ss) ns ++ (if is_due a round s.close_round && is_shown_at ns r then (index + r) ∷ [] else [])
due_from_step index a round r [] s ns h e = cc
due_from_step index a round r (x ∷ ss) s [] h e = absurd (omega (arith, e))
due_from_step index a round zero (x ∷ ss) s (n ∷ ns) h e =
    let same : x ≡ s = cc in
    let at : index + 0 ≡ index = omega arith in
    rw (same, at) (by (is_due a round s.close_round && n.is_shown))
  where
    by : (b : Bool) → (if b then index ∷ [] else []) ≡ [] ++ (if b then index ∷ [] else [])
    by true = refl
    by false = refl
due_from_step index a round (suc r) (x ∷ ss) s (n ∷ ns) h e =
    let count : suc r + 1 ≡ suc (r + 1) = omega arith in
    let at : index + suc r ≡ suc index + r = omega arith in
    ap (λ k. due_from index a round (take k (x ∷ ss)) (n ∷ ns)) count
    ∙ ap (λ (l : List ℕ). if is_due a round x.close_round && n.is_shown then index ∷ l else l)
    (due_from_step (suc index) a round r ss s ns h (omega (arith, e)))
    ∙ by (is_due a round x.close_round && n.is_shown) (due_from (suc index) a round (take r ss) ns)
    (if is_due a round s.close_round && is_shown_at ns r then (suc index + r) ∷ [] else [])
    ∙ ap
    (λ k. (if is_due a round x.close_round && n.is_shown then index ∷ due_from (suc index) a round (take r ss) ns
    else due_from (suc index) a round (take r ss) ns)
    ++ (if is_due a round s.close_round && is_shown_at ns r then k ∷ [] else []))
    (sym at)
  where
    by : (b : Bool) (xs ys : List ℕ) → (if b then index ∷ (xs ++ ys) else xs ++ ys) ≡ (if b then index ∷ xs else xs) ++ ys
    by true xs ys = refl
    by false xs ys = refl

pub due_step : (a : Bool) (round r : ℕ) (ss : List Schedule) (s : Schedule) (ns : List RouteName) → slice_get ss r ≡ Some s → length ss ≡ length ns →
    due a round (take (r + 1) ss) ns ≡ due a round (take r ss) ns ++ (if is_due a round s.close_round && is_shown_at ns r then r ∷ [] else [])
due_step a round r ss s ns h e =
    let at : 0 + r ≡ r = omega arith in
    due_from_step 0 a round r ss s ns h e ∙ ap (λ k. due a round (take r ss) ns ++ (if is_due a round s.close_round && is_shown_at ns r then k ∷ [] else [])) at

-- one route more rests
or_left : (x y : Bool) → (x || y) ≡ false → x ≡ false
or_left true y e = e
or_left false y e = refl

none_more : (round r : ℕ) (ss : List Schedule) (s : Schedule) → slice_get ss r ≡ Some s → NoneMayOpen round (take r ss) → may_open round s ≡ false →
    NoneMayOpen round (take (r + 1) ss)
none_more round r [] s h before this = cc
none_more round zero (x ∷ ss) s h before this = let same : s ≡ x = cc in (ap (may_open round) (sym same) ∙ this, tt)
none_more round (suc r) (x ∷ ss) s h before this =
    let count : suc (r + 1) ≡ suc r + 1 = omega arith in
    subst (λ (n : ℕ). NoneMayOpen round (take n (x ∷ ss))) count (before.0, none_more round r ss s h before.1 this)

pub rests_none : (round : ℕ) (ns : List RouteName) → Rests round [] ns
rests_none round ns = (refl, refl, tt)

pub rests_more : (round r : ℕ) (ss : List Schedule) (s : Schedule) (ns : List RouteName) → slice_get ss r ≡ Some s → length ss ≡ length ns →
    Rests round (take r ss) ns → RouteRests round s (is_shown_at ns r) → Rests round (take (r + 1) ss) ns
rests_more round r ss s ns h e before this = (
  opened_step round r ss s ns h e ∙ rw (or_left (s.open_round == round) _ this.0) before.0,
  due_step false round r ss s ns h e ∙ rw (this.1, before.1) refl,
  none_more round r ss s h before.2 this.0,
)

-- the texts stay
pub texts_opened : (round : ℕ) (ss : List Schedule) (ns : List RouteName) → all_shown (opened round ss ns) ≡ all_shown ns
texts_opened round [] ns = refl
texts_opened round (s ∷ ss) [] = refl
texts_opened round (s ∷ ss) (n ∷ ns) = by (s.open_round == round) ∙ ap (λ (l : List RouteName). as_shown n ∷ l) (texts_opened round ss ns)
  where
    by : (b : Bool) → as_shown (if b then as_shown n else n) ∷ all_shown (opened round ss ns) ≡ as_shown n ∷ all_shown (opened round ss ns)
    by true = refl
    by false = refl

pub texts_opened_if : (closes_all : Bool) (round : ℕ) (ss : List Schedule) (ns : List RouteName) → all_shown (opened_if closes_all round ss ns) ≡ all_shown ns
texts_opened_if true round ss ns = refl
texts_opened_if false round ss ns = texts_opened round ss ns

pub texts_marked : (b : Bool) (r : ℕ) (ns : List RouteName) → all_shown (marked_at b r ns) ≡ all_shown ns
texts_marked b r [] = refl
texts_marked b zero (n ∷ ns) = refl
texts_marked b (suc r) (n ∷ ns) = ap (λ (l : List RouteName). as_shown n ∷ l) (texts_marked b r ns)

texts_hidden : (o : CloseOffer) (ns : List RouteName) → all_shown (hidden_by ns o) ≡ all_shown ns
texts_hidden o ns = by o.is_accepted
  where
    by : (b : Bool) → all_shown (if b then hidden_at o.route ns else ns) ≡ all_shown ns
    by true = texts_marked false o.route ns
    by false = refl

pub texts_closed : (os : List CloseOffer) (ns : List RouteName) → all_shown (closed os ns) ≡ all_shown ns
texts_closed [] ns = refl
texts_closed (o ∷ os) ns = texts_closed os (hidden_by ns o) ∙ texts_hidden o ns

-- no event changes a text
pub texts_after : (schedules : List Schedule) (s : State) (events : List Event) → all_shown (state_after schedules s events).names ≡ all_shown s.names
texts_after schedules s [] = refl
texts_after schedules s (event ∷ events) = texts_after schedules (state_by schedules s event) events ∙ by event
  where
    by : (e : Event) → all_shown (names_by schedules s e) ≡ all_shown s.names
    by (Begins b m os) = texts_closed os (opened_if b s.round schedules s.names) ∙ texts_opened_if b s.round schedules s.names
    by Waits = refl
    by WaitFails = refl
    by ReadsNothing = refl
    by ReadFails = refl
    by (Answers a b o) = refl
    by (Accepts a r) = refl
    by (Overflows a r) = refl
    by (Refuses a r) = refl
    by (Drops a cause) = refl
    by (Sends r d o) = refl
    by (Resends r d o) = refl

pub as_many : (ns ms : List RouteName) → all_shown ns ≡ all_shown ms → length ns ≡ length ms
as_many ns ms e = sym (length-map ns (λ (n : RouteName). as_shown n)) ∙ ap length e ∙ length-map ms (λ (n : RouteName). as_shown n)

pub differ_as : (ns ms : List RouteName) → all_shown ns ≡ all_shown ms → AllDiffer ms → AllDiffer ns
differ_as ns ms e h = subst AreDistinct (sym e) h

-- a route is hidden, those after it stay
stays : (b : Bool) (ns : List RouteName) (r k : ℕ) → r < k → slice_get (marked_at b r ns) k ≡ slice_get ns k
stays b [] r k h = refl
stays b (n ∷ ns) zero zero h = absurd (omega (arith, h))
stays b (n ∷ ns) zero (suc k) h = refl
stays b (n ∷ ns) (suc r) zero h = refl
stays b (n ∷ ns) (suc r) (suc k) h = stays b ns r k (omega (arith, h))

pub hidden_stays : (o : CloseOffer) (ns : List RouteName) (k : ℕ) → o.route < k → slice_get (hidden_by ns o) k ≡ slice_get ns k
hidden_stays o ns k h = by o.is_accepted
  where
    by : (b : Bool) → slice_get (if b then hidden_at o.route ns else ns) k ≡ slice_get ns k
    by true = stays false ns o.route k h
    by false = refl

pub closed_then : (os : List CloseOffer) (o : CloseOffer) (ns : List RouteName) → closed (os ++ o ∷ []) ns ≡ hidden_by (closed os ns) o
closed_then os o ns = fold-append hidden_by ns os (o ∷ [])

-- the closings of the first routes
pub closed_none : (a : Bool) (moment round : ℕ) (ns : List RouteName) (es : List Ends) → AreDistinct ns → AreClosed a moment round [] ns ns es es
closed_none a moment round ns es distinct = (
  [],
  record {
    distinct = distinct;
    routes = refl;
    names = refl;
    ends = are_later_none (Begins a moment [] ∷ []) es (λ r. refl) (λ r. refl);
  },
)

-- what one list has at a place the other one has too, if they have the same there
pub below_both : {A : Type 0} (xs ys : List A) (k : ℕ) → slice_get xs k ≡ slice_get ys k → k < length ys → k < length xs
below_both [] [] k e lt = lt
below_both [] (y ∷ ys) zero e lt = absurd cc
below_both [] (y ∷ ys) (suc k) e lt = let h : k < 0 = below_both [] ys k e (omega (arith, lt)) in absurd (omega (arith, h))
below_both (x ∷ xs) [] k e lt = absurd (omega (arith, lt))
below_both (x ∷ xs) (y ∷ ys) zero e lt = omega arith
below_both (x ∷ xs) (y ∷ ys) (suc k) e lt = let h = below_both xs ys k e (omega (arith, lt)) in omega (arith, h)

pub closed_skip : (a : Bool) (moment round r : ℕ) (ss : List Schedule) (s : Schedule) (ns now : List RouteName) (before after : List Ends)
    → slice_get ss r ≡ Some s → length ss ≡ length ns →
    slice_get now r ≡ slice_get ns r → (is_due a round s.close_round && is_shown_at now r) ≡ false
    → AreClosed a moment round (take r ss) ns now before after
    → AreClosed a moment round (take (r + 1) ss) ns now before after
closed_skip a moment round r ss s ns now before after h e same rests c = (
  c.0,
  record {
    distinct = c.1.distinct;
    routes =
        let here : (is_due a round s.close_round && is_shown_at ns r) ≡ false = ap (λ o. is_due a round s.close_round && shows o) (sym same) ∙ rests in
        c.1.routes ∙ sym (due_step a round r ss s ns h e ∙ rw here (append-nil _));
    names = c.1.names;
    ends = c.1.ends;
  },
)

pub closed_more : (a : Bool) (moment round r : ℕ) (is_accepted : Bool) (ss : List Schedule) (s : Schedule) (ns now new : List RouteName)
    (before middle after : List Ends)
    → slice_get ss r ≡ Some s → length ss ≡ length ns
    →
    slice_get now r ≡ slice_get ns r → (is_due a round s.close_round && is_shown_at now r) ≡ true
    → AreClosed a moment round (take r ss) ns now before middle → Closes moment (offered r is_accepted) now new middle after
    →
    AreClosed a moment round (take (r + 1) ss) ns new before after
closed_more a moment round r is_accepted ss s ns now new before middle after h e same comes c this = (
  c.0 ++ offered r is_accepted ∷ [],
  record {
    distinct = c.1.distinct;
    routes =
        let here : (is_due a round s.close_round && is_shown_at ns r) ≡ true = ap (λ o. is_due a round s.close_round && shows o) (sym same) ∙ comes in
        let one : due a round (take (r + 1) ss) ns ≡ due a round (take r ss) ns ++ r ∷ [] = due_step a round r ss s ns h e ∙ rw here refl in
        map-append (λ (o : CloseOffer). o.route) c.0 (offered r is_accepted ∷ []) ∙ ap (λ (l : List ℕ). l ++ r ∷ []) c.1.routes ∙ sym one;
    names = this.0 ∙ ap (λ (l : List RouteName). hidden_by l (offered r is_accepted)) c.1.names ∙ sym (closed_then c.0 (offered r is_accepted) ns);
    ends = closings_then a moment c.0 (offered r is_accepted) before middle after c.1.ends this.1;
  },
)

-- the names of a gateway that opens
pub shown_again : (es : List Terms) → all_shown (map name_of es) ≡ map name_of es
shown_again [] = refl
shown_again (e ∷ es) = ap (λ (l : List RouteName). name_of e ∷ l) (shown_again es)

pub record AreGood (es : List Terms) (ns : List RouteName) : Type 0 where
  pub as_many : length ns ≡ length es
  pub differ : AllDiffer ns

pub are_good : (es : List Terms) (ns : List RouteName) → fault_of es ≡ None → all_shown ns ≡ map name_of es → AreGood es ns
are_good es ns sound h = record {
  as_many = as_many ns (map name_of es) (h ∙ sym (shown_again es)) ∙ length-map es name_of;
  differ = subst AreDistinct (sym h) (names_are_distinct es sound);
}
