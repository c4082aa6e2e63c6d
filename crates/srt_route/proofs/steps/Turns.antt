-- A delivery is the sequence of its steps.
use Rattle.std.proofs.Common.{◌≡◌, ℕ, zero, suc, ◌+◌, ◌-◌, ◌<◌, ◌≤◌, ◌==◌, Bool, true, false, cond, Option, None, Some, List, [], ◌∷◌, ◌++◌}
use Rattle.std.proofs.Common.{map, find, unwrap_or, inl, inr, refl, sym, ap, subst, ◌∙◌, append_assoc, append-nil, arith}
use Rattle.std.specs.Prelude.{min, filter_map, fold}
use Rattle.std.specs.Option.{option_map}
use Rattle.std.specs.List.{cons_option}
use Rattle.std.proofs.lemmas.Bool.{cases_eq}
use Rattle.std.proofs.lemmas.List.{length-append}
use Rattle.srt_types.specs.declared.shared.Mode.{Mode}
use Rattle.srt_types.specs.declared.shared.Mode.TheVariants.{Live, Buffer}
use Rattle.srt_types.specs.Runs.{numbers_from}
use Rattle.srt_types.specs.Terms.{Terms}
use Rattle.srt_recvbuf.specs.Receiving.{Arrival}
use Rattle.srt_sendbuf.specs.Sending.{room, queued}
use Rattle.srt_pub.specs.Publishing as publishing
use Rattle.srt_pub.specs.Publishing.{Publishing}
use Rattle.srt_pub.specs.Calls.{next_delivery, after_delivery, room_after, gives, leaves}
use Rattle.srt_sub.specs.Subscribing as subscribing
use Rattle.srt_route.specs.declared.table.Table.{Table}
use Rattle.srt_route.specs.Past.{Past, Publishes, Subscribes, payload_of, least, least_with}
use Rattle.srt_route.specs.Sessions.{Session, is_open_in, terms_of, time_in}
use Rattle.srt_route.specs.Route.{least_room}
use Rattle.srt_route.specs.Tables.{IsTable}
use Rattle.srt_route.specs.inside.Delivery.{changed, amid, amid_past, IsPublisherAt, HasRoom, HaveRoom, turned, is_given}
use Rattle.srt_route.proofs.model.Changes.{is_there, found_before, find_changed}
use Rattle.srt_route.proofs.steps.Feeding.{changed_is, least_from}
use Rattle.srt_route.proofs.steps.Passing.{amid_more, amid_here, slot_is, inside, past_changed}

-- `calls` calls remain; with them the delivery yields the same payloads and the same past as all calls
pub record IsPassing (e : Terms) (index clock : ℕ) (table : Table) (ss : List Session) (at : ℕ) (s : Session) (places calls : ℕ)
    (given : List (List ℕ)) (left : Publishing) : Type 0 where
  pub done : Publishing
  pub before : List (List ℕ)
  pub body : IsTable e index clock table (map (changed (amid e clock at done before)) ss)
  pub room : HaveRoom e places (map (changed (amid e clock at done before)) ss)
  pub given_is : before ++ map payload_of (gives (terms_of e s).publisher (time_in s clock) places calls done) ≡ given
  pub left_is : leaves (terms_of e s).publisher (time_in s clock) places calls done ≡ left

-- the publisher's session amid the delivery
pub publisher_amid : (e : Terms) (clock : ℕ) (ss : List Session) (at : ℕ) (s : Session) (q done : Publishing) (before : List (List ℕ))
    → IsPublisherAt ss at s q → IsPublisherAt (map (changed (amid e clock at done before)) ss) at (record s { past = Publishes done }) done
publisher_amid e clock ss at s q done before here =
    let there = is_there at ss s here.found in
    record {
      found = find_changed (amid e clock at done before) at ss
          ∙ (ap (option_map (changed (amid e clock at done before))) here.found
          ∙ ap Some
          (changed_is s (amid e clock at done before) (Publishes done) there.0
          (amid_here e clock at done q before s (slot_is ss at at s here.found refl) here.past_is)));
      publishes = here.publishes;
      past_is = refl;
    }

-- one payload uses at most one unit of room
takes_one : (width time : ℕ) (x : List ℕ) (b : Bool) (m : subscribing.Subscribing)
    → room width m.sending ≤ room width (cond b (record m { sending = queued time x m.sending }) m).sending + 1
takes_one width time x true m = omega (arith, length-append m.sending.queue (record { origin = time; payload = x } ∷ []))
takes_one width time x false m = omega arith

room_later : (e : Terms) (clock slot places : ℕ) (r : Publishing) (x : List ℕ) (ss : List Session)
    → HaveRoom e places ss → HaveRoom e (room_after e.mode places) (map (changed (amid e clock slot r (x ∷ []))) ss)
room_later e clock slot places r x ss has at t is =
    let was = found_before (amid e clock slot r (x ∷ [])) at ss t is in
    let past = ap (λ (u : Session). u.past) was.2 ∙ past_changed was.0 (amid e clock slot r (x ∷ [])) (is_there at ss was.0 was.1).0 in
    subst (HasRoom e (room_after e.mode places)) (sym past) (by was.0 (time_in was.0 clock) (was.0.slot == slot) was.0.past (has at was.0 was.1))
  where
    by : (u : Session) (time : ℕ) (mine : Bool) (past : Past)
        → HasRoom e places past → HasRoom e (room_after e.mode places) (amid_past (terms_of e u) time mine r (x ∷ []) past)
    by u time mine (Publishes p) h = tt
    by u time mine (Subscribes m) h = λ b.
        let terms = (terms_of e u).subscriber in
        let less : room_after e.mode places ≡ places - 1 = ap (λ (mode : Mode). room_after mode places) b in
        let before = h b in
        omega (arith, less, before, takes_one e.buffer time x (subscribing.fits terms.mode terms x m.sending) m)

is_some_given : (o : Option Arrival) → true ≡ is_given o → (a : Arrival) × (o ≡ Some a)
is_some_given None h = absurd (let bad : true ≡ false = h in cc)
is_some_given (Some a) h = (a, refl)

is_none_given : (o : Option Arrival) → false ≡ is_given o → o ≡ None
is_none_given None h = refl
is_none_given (Some a) h = absurd (let bad : false ≡ true = h in cc)

gives_more : (terms : publishing.Terms) (time places calls : ℕ) (q : Publishing) (a : Arrival) → next_delivery terms time places q ≡ Some a
    → gives terms time places (suc calls) q ≡ a ∷ gives terms time (room_after terms.mode places) calls (after_delivery terms (Some a) q)
gives_more terms time places calls q a is = rw (gives, is) refl

leaves_more : (terms : publishing.Terms) (time places calls : ℕ) (q : Publishing) (a : Arrival) → next_delivery terms time places q ≡ Some a
    → leaves terms time places (suc calls) q ≡ leaves terms time (room_after terms.mode places) calls (after_delivery terms (Some a) q)
leaves_more terms time places calls q a is = rw (leaves, is) refl

-- no room stays no room
no_room : (mode : Mode) → room_after mode 0 ≡ 0
no_room Live = refl
no_room Buffer = refl

pub leaves_next : (terms : publishing.Terms) (time calls : ℕ) (q : Publishing) (a : Arrival) → next_delivery terms time 0 q ≡ Some a
    → leaves terms time 0 (suc calls) q ≡ leaves terms time 0 calls (after_delivery terms (next_delivery terms time 0 q) q)
leaves_next terms time calls q a is =
    leaves_more terms time 0 calls q a is
    ∙ (ap (λ (n : ℕ). leaves terms time n calls (after_delivery terms (Some a) q)) (no_room terms.mode)
    ∙ ap (λ (o : Option Arrival). leaves terms time 0 calls (after_delivery terms o q)) (sym is))

gives_none : (terms : publishing.Terms) (time places calls : ℕ) (q : Publishing)
    → next_delivery terms time places q ≡ None → gives terms time places (suc calls) q ≡ []
gives_none terms time places calls q is = rw (gives, is) refl

pub leaves_none : (terms : publishing.Terms) (time places calls : ℕ) (q : Publishing)
    → next_delivery terms time places q ≡ None → leaves terms time places (suc calls) q ≡ q
leaves_none terms time places calls q is = rw (leaves, is) refl

-- one more step
pub goes_on : (e : Terms) (index clock : ℕ) (table later : Table) (ss : List Session) (at : ℕ) (s : Session) (places more calls : ℕ)
    (given : List (List ℕ)) (left : Publishing)
    → (h : IsPassing e index clock table ss at s places more given left) → more ≡ suc calls
    → true ≡ is_given (next_delivery (terms_of e s).publisher (time_in s clock) places h.done)
    → IsTable e index clock later
    (turned e clock at (next_delivery (terms_of e s).publisher (time_in s clock) places h.done)
    (after_delivery (terms_of e s).publisher (next_delivery (terms_of e s).publisher (time_in s clock) places h.done) h.done)
    (map (changed (amid e clock at h.done h.before)) ss))
    → IsPassing e index clock later ss at s (room_after e.mode places) calls given left
goes_on e index clock table later ss at s places more calls given left h one some body =
    let terms = (terms_of e s).publisher in
    let time = time_in s clock in
    let a = is_some_given (next_delivery terms time places h.done) some in
    let done = after_delivery terms (Some a.0) h.done in
    let x = payload_of a.0 in
    let middle = map (changed (amid e clock at h.done h.before)) ss in
    let now : IsTable e index clock later (map (changed (amid e clock at done (x ∷ []))) middle) =
    subst (λ (o : Option Arrival). IsTable e index clock later (turned e clock at o (after_delivery terms o h.done) middle)) a.1 body in
    record {
      done = done;
      before = h.before ++ x ∷ [];
      body = subst (λ (ts : List Session). IsTable e index clock later ts) (amid_more e clock at h.done done h.before x ss) now;
      room = subst (λ (ts : List Session). HaveRoom e (room_after e.mode places) ts) (amid_more e clock at h.done done h.before x ss)
          (room_later e clock at places done x middle h.room);
      given_is =
          append_assoc h.before (x ∷ []) (map payload_of (gives terms time (room_after e.mode places) calls done))
          ∙ (ap (λ (arrivals : List Arrival). h.before ++ map payload_of arrivals) (sym (gives_more terms time places calls h.done a.0 a.1))
          ∙ (ap (λ (n : ℕ). h.before ++ map payload_of (gives terms time places n h.done)) (sym one) ∙ h.given_is));
      left_is = sym (leaves_more terms time places calls h.done a.0 a.1) ∙ (ap (λ (n : ℕ). leaves terms time places n h.done) (sym one) ∙ h.left_is);
    }

-- everything is delivered
pub ends : (e : Terms) (index clock : ℕ) (table : Table) (ss : List Session) (at : ℕ) (s : Session) (places : ℕ) (given : List (List ℕ))
    (left : Publishing)
    → IsPassing e index clock table ss at s places 0 given left
    → IsTable e index clock table (map (changed (amid e clock at left given)) ss)
ends e index clock table ss at s places given left h =
    subst (λ (xs : List (List ℕ)). IsTable e index clock table (map (changed (amid e clock at left xs)) ss)) (sym (append-nil h.before) ∙ h.given_is)
    (subst (λ (q : Publishing). IsTable e index clock table (map (changed (amid e clock at q h.before)) ss)) h.left_is h.body)

-- also if the next call yields nothing
pub ends_early : (e : Terms) (index clock : ℕ) (table later : Table) (ss : List Session) (at : ℕ) (s : Session) (places more calls : ℕ)
    (given : List (List ℕ)) (left : Publishing)
    → (h : IsPassing e index clock table ss at s places more given left) → more ≡ suc calls
    → false ≡ is_given (next_delivery (terms_of e s).publisher (time_in s clock) places h.done)
    → IsTable e index clock later
    (turned e clock at (next_delivery (terms_of e s).publisher (time_in s clock) places h.done)
    (after_delivery (terms_of e s).publisher (next_delivery (terms_of e s).publisher (time_in s clock) places h.done) h.done)
    (map (changed (amid e clock at h.done h.before)) ss))
    → IsTable e index clock later (map (changed (amid e clock at left given)) ss)
ends_early e index clock table later ss at s places more calls given left h one none body =
    let terms = (terms_of e s).publisher in
    let time = time_in s clock in
    let is = is_none_given (next_delivery terms time places h.done) none in
    let middle = map (changed (amid e clock at h.done h.before)) ss in
    let now : IsTable e index clock later middle =
    subst (λ (o : Option Arrival). IsTable e index clock later (turned e clock at o (after_delivery terms o h.done) middle)) is body in
    let all : h.before ≡ given =
    sym (append-nil h.before)
    ∙ (ap (λ (arrivals : List Arrival). h.before ++ map payload_of arrivals) (sym (gives_none terms time places calls h.done is))
    ∙ (ap (λ (n : ℕ). h.before ++ map payload_of (gives terms time places n h.done)) (sym one) ∙ h.given_is)) in
    let last : h.done ≡ left =
    sym (leaves_none terms time places calls h.done is) ∙ (ap (λ (n : ℕ). leaves terms time places n h.done) (sym one) ∙ h.left_is) in
    subst (λ (xs : List (List ℕ)). IsTable e index clock later (map (changed (amid e clock at left xs)) ss)) all
    (subst (λ (q : Publishing). IsTable e index clock later (map (changed (amid e clock at q h.before)) ss)) last now)

-- the smallest room is at most that of any
Under : Option ℕ → ℕ → Type 0
Under o n = (r : ℕ) × (o ≡ Some r) × (r ≤ n)

under_less : (found : Option ℕ) (n places : ℕ) → Under found n → (o : ℕ) → o ≡ least found places → o ≤ n
unfolding Under
under_less found n places h o is =
    let one : least found places ≡ min h.0 places = ap (λ (f : Option ℕ). least f places) h.1 in
    omega (arith, is, one, h.2)

under_kept : (width : ℕ) (found : Option ℕ) (past : Past) (n : ℕ) → Under found n → Under (least_with width found past) n
unfolding Under
under_kept width found (Publishes p) n h = h
under_kept width found (Subscribes m) n h =
    (least found (room width m.sending), refl, under_less found n (room width m.sending) h (least found (room width m.sending)) refl)

least_new : (found : Option ℕ) (places : ℕ) → least found places ≤ places
least_new None places = omega arith
least_new (Some other) places = omega arith

under_new : (width : ℕ) (found : Option ℕ) (m : subscribing.Subscribing) → Under (least_with width found (Subscribes m)) (room width m.sending)
unfolding Under
under_new width found m = (least found (room width m.sending), refl, least_new found (room width m.sending))

stays_under : (e : Terms) (ss : List Session) (found : Option ℕ) (n from count : ℕ) → Under found n → Under (least_from e ss found from count) n
stays_under e ss found n from zero h = h
stays_under e ss found n from (suc count) h = by (λ other k. stays_under e ss other n (from + 1) count k) (find (is_open_in from) ss)
  where
    by : ((other : Option ℕ) → Under other n → Under (least_from e ss other (from + 1) count) n) → (o : Option Session)
        → Under
        (fold (λ found (s : Session). least_with e.buffer found s.past) found
        (cons_option o (filter_map (λ slot. find (is_open_in slot) ss) (numbers_from (from + 1) count))))
        n
    by later None = later found h
    by later (Some s) = later (least_with e.buffer found s.past) (under_kept e.buffer found s.past n h)

is_under : (e : Terms) (ss : List Session) (found : Option ℕ) (from count at : ℕ) (s : Session) (m : subscribing.Subscribing) → from ≤ at
    → at < from + count → find (is_open_in at) ss ≡ Some s → s.past ≡ Subscribes m
    → Under (least_from e ss found from count) (room e.buffer m.sending)
is_under e ss found from zero at s m low high is past = absurd (omega (arith, low, high))
is_under e ss found from (suc count) at s m low high is past = elim (cases_eq from at) [
  | inl here ↦
      let there : find (is_open_in from) ss ≡ Some s = ap (λ (n : ℕ). find (is_open_in n) ss) here ∙ is in
      let one : Under (least_with e.buffer found s.past) (room e.buffer m.sending) =
      subst (λ (p : Past). Under (least_with e.buffer found p) (room e.buffer m.sending)) (sym past) (under_new e.buffer found m) in
      subst
      (λ (o : Option Session). Under
      (fold (λ found (s : Session). least_with e.buffer found s.past) found
      (cons_option o (filter_map (λ slot. find (is_open_in slot) ss) (numbers_from (from + 1) count))))
      (room e.buffer m.sending))
      (sym there)
      (stays_under e ss (least_with e.buffer found s.past) (room e.buffer m.sending) (from + 1) count one)
  | inr apart ↦ by (λ other. is_under e ss other (from + 1) count at s m (omega (arith, low, apart)) (omega (arith, high)) is past) (find (is_open_in from) ss)
]
  where
    by : ((other : Option ℕ) → Under (least_from e ss other (from + 1) count) (room e.buffer m.sending)) → (o : Option Session)
        → Under
        (fold (λ found (s : Session). least_with e.buffer found s.past) found
        (cons_option o (filter_map (λ slot. find (is_open_in slot) ss) (numbers_from (from + 1) count))))
        (room e.buffer m.sending)
    by later None = later found
    by later (Some t) = later (least_with e.buffer found t.past)

pub has_least : (e : Terms) (index clock : ℕ) (table : Table) (ss : List Session) (places : ℕ)
    → IsTable e index clock table ss → (e.mode ≡ Buffer → places ≡ unwrap_or (least_room e ss) 0) → HaveRoom e places ss
unfolding Under
has_least e index clock table ss places body least_is at s is = by s.past refl
  where
    by : (past : Past) → s.past ≡ past → HasRoom e places past
    by (Publishes p) e1 = tt
    by (Subscribes m) e1 = λ b.
        let under = is_under e ss None 0 e.sessions at s m (omega arith) (omega (arith, inside e index clock table ss body at s is)) is e1 in
        let room_is : places ≡ under.0 = least_is b ∙ ap (λ (o : Option ℕ). unwrap_or o 0) under.1 in
        omega (arith, room_is, under.2)
