-- Which publisher is active after sessions ended or opened, and that at most two publishers are open.
use Rattle.std.proofs.Common.{◌≡◌, ℕ, zero, suc, ◌+◌, ◌<◌, ◌≤◌, ◌==◌, ◌&&◌, Bool, true, false, cond, Option, None, Some, List, [], ◌∷◌, map}
use Rattle.std.proofs.Common.{length, find, Result, Ok, Err, refl, sym, ap, subst, ◌∙◌, ◌≢◌, ◌⊎◌, inl, inr, arith}
use Rattle.std.specs.List.{cons_option}
use Rattle.std.specs.Prelude.{⊤, filter, filter_map, nat_le, nat_lt, not, ◌||◌}
use Rattle.std.specs.Option.{option_or, option_map}
use Rattle.std.proofs.lemmas.Bool.{and_parts, and_from, eqb-true, eq-eqb, cases_eq, false_from_ne_true}
use Rattle.std.proofs.lemmas.Bool.Decides.{nat_tests}
use Rattle.srt_types.specs.declared.shared.Peer.{Peer}
use Rattle.srt_types.specs.declared.shared.Mode.{Mode}
use Rattle.srt_types.specs.Terms.{Terms}
use Rattle.srt_types.specs.Items.{Item, Received, Tick, Close}
use Rattle.srt_packet.specs.declared.reading.PacketFault.{PacketFault}
use Rattle.srt_packet.specs.Grammar.{Packet}
use Rattle.srt_packet.specs.Reading.{packet_in}
use Rattle.srt_session_keys.specs.Subscriber.{Subscriber as Keys}
use Rattle.srt_route.specs.Route.{own_by}
use Rattle.srt_route.specs.declared.refusals.RefusalCause.{RefusalCause}
use Rattle.srt_route.specs.declared.refusals.RefusalCause.TheVariants as causes
use Rattle.srt_types.specs.Runs.{least_from, numbers_from}
use Rattle.srt_types.specs.declared.shared.Mode.TheVariants.{Live, Buffer}
use Rattle.srt_recvbuf.specs.Receiving.{Request, Receiving, is_dropped, is_requested, is_received, passed as passed_over}
use Rattle.srt_pub.specs.Publishing as publisher
use Rattle.srt_route.specs.declared.conclusion_reading.Conclusion.{Conclusion}
use Rattle.srt_route.specs.Sessions.{Session, publishes, is_publisher, is_open_in, by_slot, open_publishers, active, has_slot, is_active}
use Rattle.srt_route.specs.Sessions.{free_slot, free_slots, generation_of, time_in, is_over, aged_at, aged, passed_at, passed, reported_at, reported}
use Rattle.srt_route.specs.Sessions.{advanced, first_opened, leads, marked, marked_if, sessions_from, takes_over}
use Rattle.srt_route.proofs.model.Lists.{find_through, how_many, one_more}
use Rattle.srt_route.proofs.model.Standbys.{active_through}
use Rattle.srt_route.specs.Route.{differ, is_buffer, refused, session_opened, opens, considered, concluded, heard_if, took_if, is_of}
use Rattle.srt_route.specs.Route.{decided, decision, is_crowded, is_reserved}
use Rattle.srt_route.specs.Route.{is_for, concludes, without_destination, arrived, packet_taken, read_taken, taken, ended, least_room}
use Rattle.srt_route.specs.Route.{after_delivery, drain_end, drain_of, finished, finished_at, gives_some, has_whole_file, is_file_over, packet_end}
use Rattle.srt_route.specs.Route.{settled_by, took_packet}
use Rattle.srt_route.specs.Sessions.{settled, settled_at, terms_of, time_end, with_end}
use Rattle.srt_route.specs.Past.{has_left}
use Rattle.srt_route.proofs.model.Found.{for_open}
use Rattle.srt_types.specs.declared.shared.Callers.{Callers}
use Rattle.srt_types.specs.declared.shared.Callers.TheVariants.{Draft, Libsrt}
use Rattle.srt_route.specs.Route.{delivery, room_if, delivered, taken_by, passed_by, Route, sessions_at, clock_after, after, heard_by}
use Rattle.srt_route.specs.GivingUp.{given_up}
use Rattle.srt_route.specs.Route.{route_before}
use Rattle.srt_route.proofs.model.GivingUp.{all_before, gives_up_publishers}

-- no older session is open in an open session's slot
abbrev pub AreApart : List Session → Type 0
AreApart [] = ⊤
AreApart (s ∷ older) = (s.is_open ≡ true → find (is_open_in s.slot) older ≡ None) × AreApart older

-- a change of the sessions that opens no publisher
abbrev pub OpensNone : (Session → Session) → Type 0
OpensNone f = (s : Session) → is_publisher (f s) ≡ true → is_publisher s ≡ true

unfoldable pub one_if : Bool → ℕ
one_if true = 1
one_if false = 0

-- one more session
pub count_more : (s : Session) (ss : List Session)
    → (b : Bool) → is_publisher s ≡ b → open_publishers (s ∷ ss) ≡ cond b (suc (open_publishers ss)) (open_publishers ss)
count_more s ss true is = ap (λ (b : Bool). length (cond b (s ∷ filter is_publisher ss) (filter is_publisher ss))) is
count_more s ss false is = ap (λ (b : Bool). length (cond b (s ∷ filter is_publisher ss) (filter is_publisher ss))) is

leads_first : (s : Session) (ss : List Session) → leads s ≡ true → active (s ∷ ss) ≡ Some s
leads_first s ss is = ap (λ (b : Bool). option_or (cond b (Some s) (find leads ss)) (first_opened (s ∷ ss))) is

active_more : (s : Session) (ss : List Session) → leads s ≡ false → active (s ∷ ss) ≡ option_or (active ss) (cond (is_publisher s) (Some s) None)
active_more s ss is =
    ap (λ (b : Bool). option_or (cond b (Some s) (find leads ss)) (first_opened (s ∷ ss))) is ∙ by (find leads ss) (cond (is_publisher s) (Some s) None)
  where
    by : (o x : Option Session) → option_or o (option_or (first_opened ss) x) ≡ option_or (option_or o (first_opened ss)) x
    by None x = refl
    by (Some t) x = refl

-- only a publisher leads
pub follows : (s : Session) → is_publisher s ≡ false → leads s ≡ false
follows s is = ap (λ (b : Bool). b && s.took_over) is

-- a session that opens becomes active only if no publisher is active
pub opens_behind : (s : Session) (ss : List Session) (t : Session) → leads s ≡ false → active ss ≡ Some t → active (s ∷ ss) ≡ Some t
opens_behind s ss t none is = active_more s ss none ∙ ap (λ (o : Option Session). option_or o (cond (is_publisher s) (Some s) None)) is

pub opens_active : (s : Session) (ss : List Session) → active ss ≡ None → is_publisher s ≡ true → active (s ∷ ss) ≡ Some s
opens_active s ss none is = by (leads s) refl
  where
    by : (b : Bool) → leads s ≡ b → active (s ∷ ss) ≡ Some s
    by true h = leads_first s ss h
    by false h =
        active_more s ss h ∙ ap (λ (o : Option Session). option_or o (cond (is_publisher s) (Some s) None)) none
        ∙ ap (λ (b : Bool). cond b (Some s) None) is

opens_none : (s : Session) (ss : List Session) → active ss ≡ None → is_publisher s ≡ false → active (s ∷ ss) ≡ None
opens_none s ss none is =
    active_more s ss (follows s is) ∙ ap (λ (o : Option Session). option_or o (cond (is_publisher s) (Some s) None)) none
    ∙ ap (λ (b : Bool). cond b (Some s) None) is

-- the newest session leads, or an older one is active, or the newest is the first publisher, or none is active
pub by_newest : {P : Type 0} → (s : Session) (ss : List Session) → (leads s ≡ true → P)
    → (leads s ≡ false → (x : Session) → active ss ≡ Some x → P)
    → (active ss ≡ None → is_publisher s ≡ true → P)
    → (active ss ≡ None → is_publisher s ≡ false → P)
    → P
by_newest {P} s ss first behind alone none = by (leads s) refl (active ss) refl (is_publisher s) refl
  where
    by : (l : Bool) → leads s ≡ l → (o : Option Session) → active ss ≡ o → (b : Bool) → is_publisher s ≡ b → P
    by true l o was b is = first l
    by false l (Some x) was b is = behind l x was
    by false l None was true is = alone was is
    by false l None was false is = none was is

-- the newest is the active one if it leads, or if it is the first publisher
the_newest : (s t : Session) (ss : List Session) → active (s ∷ ss) ≡ Some s → active (s ∷ ss) ≡ Some t → s ≡ t
the_newest s t ss is h = let both : Some s ≡ Some t = sym is ∙ h in cc

-- the active publisher is an open publisher
pub active_publishes : (ss : List Session) (s : Session) → active ss ≡ Some s → is_publisher s ≡ true
active_publishes [] s h = absurd (let bad : None ≡ Some s = h in cc)
active_publishes (t ∷ ts) s h =
    by_newest t ts
    (λ l. subst (λ (x : Session). is_publisher x ≡ true) (the_newest t s ts (leads_first t ts l) h) (and_parts (is_publisher t) t.took_over l).0)
    (λ l x was. active_publishes ts s (was ∙ (sym (opens_behind t ts x l was) ∙ h)))
    (λ was is. subst (λ (x : Session). is_publisher x ≡ true) (the_newest t s ts (opens_active t ts was is) h) is)
    (λ was is. absurd (let bad : None ≡ Some s = sym (opens_none t ts was is) ∙ h in cc))

-- none is active only if no publisher is open
pub none_active : (ss : List Session) → active ss ≡ None → open_publishers ss ≡ 0
none_active [] h = refl
none_active (t ∷ ts) h =
    by_newest t ts
    (λ l. absurd (let bad : Some t ≡ None = sym (leads_first t ts l) ∙ h in cc))
    (λ l x was. absurd (let bad : Some x ≡ None = sym (opens_behind t ts x l was) ∙ h in cc))
    (λ was is. absurd (let bad : Some t ≡ None = sym (opens_active t ts was is) ∙ h in cc))
    (λ was is. count_more t ts false is ∙ none_active ts was)

pub without_publishers : (ss : List Session) → open_publishers ss ≡ 0 → active ss ≡ None
without_publishers [] h = refl
without_publishers (t ∷ ts) h = by (λ g. without_publishers ts g) (is_publisher t) refl
  where
    by : (open_publishers ts ≡ 0 → active ts ≡ None) → (b : Bool) → is_publisher t ≡ b → active (t ∷ ts) ≡ None
    by rest true is = absurd (omega (arith, h, count_more t ts true is))
    by rest false is = opens_none t ts (rest (sym (count_more t ts false is) ∙ h)) is

-- the active publisher is the open session of its slot
pub active_in_slot : (ss : List Session) (s : Session) → AreApart ss → active ss ≡ Some s → find (is_open_in s.slot) ss ≡ Some s
active_in_slot [] s apart h = absurd (let bad : None ≡ Some s = h in cc)
active_in_slot (t ∷ ts) s apart h =
    by_newest t ts
    (λ l. here (the_newest t s ts (leads_first t ts l) h) (and_parts (is_publisher t) t.took_over l).0)
    (λ l x was. found (active_in_slot ts s apart.1 (was ∙ (sym (opens_behind t ts x l was) ∙ h))) (is_open_in s.slot t) refl)
    (λ was is. here (the_newest t s ts (opens_active t ts was is) h) is)
    (λ was is. absurd (let bad : None ≡ Some s = sym (opens_none t ts was is) ∙ h in cc))
  where
    found : find (is_open_in s.slot) ts ≡ Some s → (b : Bool) → is_open_in s.slot t ≡ b → find (is_open_in s.slot) (t ∷ ts) ≡ Some s
    found there true is =
        let parts = and_parts t.is_open (t.slot == s.slot) is in
        let same : t.slot ≡ s.slot = eqb-true t.slot s.slot parts.1 in
        let none : find (is_open_in s.slot) ts ≡ None = subst (λ (n : ℕ). find (is_open_in n) ts ≡ None) same (apart.0 parts.0) in
        absurd (let bad : None ≡ Some s = sym none ∙ there in cc)
    found there false is = ap (λ (b : Bool). cond b (Some t) (find (is_open_in s.slot) ts)) is ∙ there

    here : t ≡ s → is_publisher t ≡ true → find (is_open_in s.slot) (t ∷ ts) ≡ Some s
    here one is =
        let opens : t.is_open ≡ true = (and_parts t.is_open (publishes t.conclusion.role) is).0 in
        let place : is_open_in s.slot t ≡ true = and_from t.is_open (t.slot == s.slot) opens (eq-eqb t.slot s.slot (ap (λ (x : Session). x.slot) one)) in
        ap (λ (b : Bool). cond b (Some t) (find (is_open_in s.slot) ts)) place ∙ ap (λ (x : Session). Some x) one

-- the test by slots distinguishes the active publisher from the other open sessions
pub is_active_is : (ss : List Session) (at : ℕ) (s : Session)
    → AreApart ss → find (is_open_in at) ss ≡ Some s → s.slot ≡ at → is_active ss s ≡ true → active ss ≡ Some s
is_active_is ss at s apart found place is = by (active ss) refl is
  where
    by : (o : Option Session) → active ss ≡ o → has_slot o s.slot ≡ true → active ss ≡ Some s
    by None was h = absurd (let bad : false ≡ true = h in cc)
    by (Some t) was h =
        let same : t.slot ≡ at = eqb-true t.slot s.slot h ∙ place in
        let there : find (is_open_in at) ss ≡ Some t = subst (λ (n : ℕ). find (is_open_in n) ss ≡ Some t) same (active_in_slot ss t apart was) in
        let both : Some t ≡ Some s = sym there ∙ found in
        let one : t ≡ s = cc in was ∙ ap (λ (x : Session). Some x) one

pub active_is : (ss : List Session) (s : Session) → active ss ≡ Some s → is_active ss s ≡ true
active_is ss s is = ap (λ (o : Option Session). has_slot o s.slot) is ∙ eq-eqb s.slot s.slot refl

-- sessions that end
pub fewer : (f : Session → Session) → OpensNone f → (ss : List Session) → open_publishers (map f ss) ≤ open_publishers ss
fewer f none [] = omega arith
fewer f none (s ∷ ss) = by (fewer f none ss) (is_publisher (f s)) refl (is_publisher s) refl
  where
    by : open_publishers (map f ss) ≤ open_publishers ss → (b : Bool) → is_publisher (f s) ≡ b → (d : Bool) → is_publisher s ≡ d
        → open_publishers (map f (s ∷ ss)) ≤ open_publishers (s ∷ ss)
    by rest true is true was = omega (arith, count_more (f s) (map f ss) true is, count_more s ss true was, rest)
    by rest true is false was = absurd (let bad : is_publisher s ≡ true = none s is in cc)
    by rest false is true was = omega (arith, count_more (f s) (map f ss) false is, count_more s ss true was, rest)
    by rest false is false was = omega (arith, count_more (f s) (map f ss) false is, count_more s ss false was, rest)

pub stays_none : (f : Session → Session) → OpensNone f → (ss : List Session) → active ss ≡ None → active (map f ss) ≡ None
stays_none f none ss is = without_publishers (map f ss) (omega (arith, fewer f none ss, none_active ss is))

-- marks that stay
abbrev pub KeepsMarks : (Session → Session) → Type 0
KeepsMarks f = (s : Session) → (f s).took_over ≡ s.took_over

still_leads : (f : Session → Session) → KeepsMarks f → (s : Session) → leads s ≡ true → is_publisher (f s) ≡ true → leads (f s) ≡ true
still_leads f marks s l is = and_from (is_publisher (f s)) (f s).took_over is (marks s ∙ (and_parts (is_publisher s) s.took_over l).1)

still_follows : (f : Session → Session) → OpensNone f → KeepsMarks f → (s : Session) → leads s ≡ false → leads (f s) ≡ false
still_follows f none marks s l = by (leads (f s)) refl
  where
    by : (b : Bool) → leads (f s) ≡ b → b ≡ false
    by false h = refl
    by true h =
        let parts = and_parts (is_publisher (f s)) (f s).took_over h in
        absurd (let bad : leads s ≡ true = and_from (is_publisher s) s.took_over (none s parts.0) (sym (marks s) ∙ parts.1) in cc)

-- the active publisher stays active until it ends
pub stays_active : (f : Session → Session) → OpensNone f → KeepsMarks f → (ss : List Session) (s : Session)
    → active ss ≡ Some s → is_publisher (f s) ≡ true → active (map f ss) ≡ Some (f s)
stays_active f none marks [] s h lives = absurd (let bad : None ≡ Some s = h in cc)
stays_active f none marks (t ∷ ts) s h lives =
    by_newest t ts
    (λ l.
    let one = the_newest t s ts (leads_first t ts l) h in
    leads_first (f t) (map f ts) (still_leads f marks t l (still one)) ∙ ap (λ (x : Session). Some (f x)) one)
    (λ l x was.
    opens_behind (f t) (map f ts) (f s) (still_follows f none marks t l)
    (stays_active f none marks ts s (was ∙ (sym (opens_behind t ts x l was) ∙ h)) lives))
    (λ was is.
    let one = the_newest t s ts (opens_active t ts was is) h in
    opens_active (f t) (map f ts) (stays_none f none ts was) (still one) ∙ ap (λ (x : Session). Some (f x)) one)
    (λ was is. absurd (let bad : None ≡ Some s = sym (opens_none t ts was is) ∙ h in cc))
  where
    still : t ≡ s → is_publisher (f t) ≡ true
    still one = subst (λ (x : Session). is_publisher (f x) ≡ true) (sym one) lives

-- if it ends, one publisher fewer is open
pub one_less : (f : Session → Session) → OpensNone f → (ss : List Session) (s : Session) → active ss ≡ Some s → is_publisher (f s) ≡ false
    → open_publishers (map f ss) < open_publishers ss
one_less f none [] s h ends = absurd (let bad : None ≡ Some s = h in cc)
one_less f none (t ∷ ts) s h ends =
    by_newest t ts
    (λ l. ends_here (the_newest t s ts (leads_first t ts l) h) (and_parts (is_publisher t) t.took_over l).0)
    (λ l x was.
    behind (one_less f none ts s (was ∙ (sym (opens_behind t ts x l was) ∙ h)) ends) (is_publisher (f t)) refl (is_publisher t) refl)
    (λ was is. ends_here (the_newest t s ts (opens_active t ts was is) h) is)
    (λ was is. absurd (let bad : None ≡ Some s = sym (opens_none t ts was is) ∙ h in cc))
  where
    behind : open_publishers (map f ts) < open_publishers ts → (b : Bool) → is_publisher (f t) ≡ b → (d : Bool) → is_publisher t ≡ d
        → open_publishers (map f (t ∷ ts)) < open_publishers (t ∷ ts)
    behind less true is true was = omega (arith, count_more (f t) (map f ts) true is, count_more t ts true was, less)
    behind less true is false was = absurd (let bad : is_publisher t ≡ true = none t is in cc)
    behind less false is true was = omega (arith, count_more (f t) (map f ts) false is, count_more t ts true was, less)
    behind less false is false was = omega (arith, count_more (f t) (map f ts) false is, count_more t ts false was, less)

    ends_here : t ≡ s → is_publisher t ≡ true → open_publishers (map f (t ∷ ts)) < open_publishers (t ∷ ts)
    ends_here one is =
        let over : is_publisher (f t) ≡ false = subst (λ (x : Session). is_publisher (f x) ≡ false) (sym one) ends in
        omega (arith, count_more (f t) (map f ts) false over, count_more t ts true is, fewer f none ts)

-- an open publisher that is the only one is active
pub some_publisher : (ss : List Session) (at : ℕ) (s : Session) → find (is_open_in at) ss ≡ Some s → is_publisher s ≡ true → 0 < open_publishers ss
some_publisher [] at s h is = absurd (let bad : None ≡ Some s = h in cc)
some_publisher (t ∷ ts) at s h is = by (λ g. some_publisher ts at s g is) (is_open_in at t) h (is_publisher t) refl
  where
    by : (find (is_open_in at) ts ≡ Some s → 0 < open_publishers ts)
        → (b : Bool) → cond b (Some t) (find (is_open_in at) ts) ≡ Some s → (d : Bool) → is_publisher t ≡ d → 0 < open_publishers (t ∷ ts)
    by rest b g true p = omega (arith, count_more t ts true p)
    by rest true g false p = let one : t ≡ s = cc in absurd (let bad : true ≡ false = sym is ∙ subst (λ (y : Session). is_publisher y ≡ false) one p in cc)
    by rest false g false p = omega (arith, count_more t ts false p, rest g)

pub only_one : (ss : List Session) (at : ℕ) (s : Session)
    → open_publishers ss ≤ 1 → find (is_open_in at) ss ≡ Some s → is_publisher s ≡ true → active ss ≡ Some s
only_one [] at s few h is = absurd (let bad : None ≡ Some s = h in cc)
only_one (t ∷ ts) at s few h is = by (λ less g. only_one ts at s less g is) (is_open_in at t) h (is_publisher t) refl
  where
    by : (open_publishers ts ≤ 1 → find (is_open_in at) ts ≡ Some s → active ts ≡ Some s)
        → (b : Bool) → cond b (Some t) (find (is_open_in at) ts) ≡ Some s → (d : Bool) → is_publisher t ≡ d → active (t ∷ ts) ≡ Some s
    by rest true g d p =
        let one : t ≡ s = cc in
        let first : is_publisher t ≡ true = subst (λ (y : Session). is_publisher y ≡ true) (sym one) is in
        let none : open_publishers ts ≡ 0 = omega (arith, few, count_more t ts true first) in
        opens_active t ts (without_publishers ts none) first ∙ ap (λ (x : Session). Some x) one
    by rest false g true p = absurd (omega (arith, few, count_more t ts true p, some_publisher ts at s g is))
    by rest false g false p = opens_behind t ts s (follows t p) (rest (omega (arith, few, count_more t ts false p)) g)

-- of two publishers the standby takes over when the active one ends
pub takes_over_at_end : (f : Session → Session) → OpensNone f → (ss : List Session) (s : Session) (at : ℕ) (t : Session) → open_publishers ss ≤ 2
    → active ss ≡ Some s → is_publisher (f s) ≡ false → find (is_open_in at) (map f ss) ≡ Some t → is_publisher t ≡ true
    → active (map f ss) ≡ Some t
takes_over_at_end f none ss s at t few was ends found is = only_one (map f ss) at t (omega (arith, few, one_less f none ss s was ends)) found is

-- at most one other publisher is open besides the active one
closed_in : (slot : ℕ) → Session → Session
closed_in slot s = cond (s.slot == slot) (record s { is_open = false }) s

closes_none : (slot : ℕ) → OpensNone (closed_in slot)
unfolding closed_in
closes_none slot s h = by (s.slot == slot) h
  where
    by : (b : Bool) → is_publisher (cond b (record s { is_open = false }) s) ≡ true → is_publisher s ≡ true
    by true h = absurd (let bad : false ≡ true = h in cc)
    by false h = h

closes : (s : Session) → is_publisher (closed_in s.slot s) ≡ false
unfolding closed_in
closes s = ap (λ (b : Bool). is_publisher (cond b (record s { is_open = false }) s)) (eq-eqb s.slot s.slot refl)

others_stay : (slot at : ℕ) (s : Session) → at == slot ≡ false → is_open_in at (closed_in slot s) ≡ is_open_in at s
unfolding closed_in
others_stay slot at s apart = by (s.slot == slot) refl (s.slot == at) refl
  where
    by : (b : Bool) → s.slot == slot ≡ b → (d : Bool) → s.slot == at ≡ d → is_open_in at (cond b (record s { is_open = false }) s) ≡ is_open_in at s
    by false is d there = refl
    by true is true there = absurd (let bad : true ≡ false = sym (eq-eqb at slot (sym (eqb-true s.slot at there) ∙ eqb-true s.slot slot is)) ∙ apart in cc)
    by true is false there = sym (ap (λ (x : Bool). s.is_open && x) there ∙ never s.is_open)
      where
        never : (x : Bool) → x && false ≡ false
        never true = refl
        never false = refl

still_found : (slot at : ℕ) (ss : List Session) (t : Session)
    → at == slot ≡ false → find (is_open_in at) ss ≡ Some t → find (is_open_in at) (map (closed_in slot) ss) ≡ Some (closed_in slot t)
still_found slot at ss t apart found =
    find_through (closed_in slot) (is_open_in at) (is_open_in at) (λ s. others_stay slot at s apart) ss
    ∙ ap (λ (o : Option Session). option_map (closed_in slot) o) found

still_publishes : (slot at : ℕ) (t : Session) → at == slot ≡ false → t.slot ≡ at → is_publisher t ≡ true → is_publisher (closed_in slot t) ≡ true
unfolding closed_in
still_publishes slot at t apart place is =
    ap (λ (b : Bool). is_publisher (cond b (record t { is_open = false }) t)) (ap (λ (n : ℕ). n == slot) place ∙ apart) ∙ is

pub one_stands_by : (ss : List Session) (s : Session) (at k : ℕ) (t u : Session) → open_publishers ss ≤ 2 → active ss ≡ Some s
    → at == s.slot ≡ false → k == s.slot ≡ false → t.slot ≡ at → u.slot ≡ k → find (is_open_in at) ss ≡ Some t → find (is_open_in k) ss ≡ Some u
    → is_publisher t ≡ true → is_publisher u ≡ true
    → at ≡ k
unfolding closed_in
one_stands_by ss s at k t u few was left right at_is k_is here there first second =
    let f = closed_in s.slot in
    let less : open_publishers (map f ss) ≤ 1 = omega (arith, few, one_less f (closes_none s.slot) ss s was (closes s)) in
    let one : active (map f ss) ≡ Some (f t) =
    only_one (map f ss) at (f t) less (still_found s.slot at ss t left here) (still_publishes s.slot at t left at_is first) in
    let two : active (map f ss) ≡ Some (f u) =
    only_one (map f ss) k (f u) less (still_found s.slot k ss u right there) (still_publishes s.slot k u right k_is second) in
    let both : Some (f t) ≡ Some (f u) = sym one ∙ two in
    let same : f t ≡ f u = cc in
    sym at_is ∙ (sym (kept t) ∙ (ap (λ (x : Session). x.slot) same ∙ (kept u ∙ k_is)))
  where
    kept : (x : Session) → (closed_in s.slot x).slot ≡ x.slot
    kept x = by (x.slot == s.slot)
      where
        by : (b : Bool) → (cond b (record x { is_open = false }) x).slot ≡ x.slot
        by true = refl
        by false = refl

-- a standby: in buffer mode nothing of it changes, and in live mode it delivers as if it were active
pub buffer_waits : (terms : publisher.Terms) (time : ℕ) (p : publisher.Publishing)
    → terms.mode ≡ Buffer → p.receiving.requests ≡ [] → publisher.delivered terms time None p ≡ p
unfolding publisher.deliveries
buffer_waits terms time p mode none =
    ap (λ (m : Mode). record p { receiving = passed_over terms.width (publisher.deliveries m terms time None p) p.receiving }) mode
    ∙ ap (λ (r : Receiving). record p { receiving = r }) (nothing_passed terms.width p.receiving none)
  where
    first : (test : ℕ → Bool) (from places : ℕ) → test from ≡ true → least_from test from places ≡ from
    first test from zero is = refl
    first test from (suc places) is = ap (λ (b : Bool). elim b as (λ x. ℕ) [ true ↦ from | false ↦ least_from test (from + 1) places ]) is

    nothing_passed : (width : ℕ) (r : Receiving) → r.requests ≡ [] → passed_over width [] r ≡ r
    nothing_passed width r empty =
        ap (λ (n : ℕ). record r { front = n })
        (first (λ n. not (is_dropped width r n)) r.front width
        (ap (λ (qs : List Request). not (is_requested width qs r.front && not (is_received r r.front))) empty))

pub live_goes_on : (terms : publisher.Terms) (time room : ℕ) (p : publisher.Publishing)
    → terms.mode ≡ Live → publisher.delivered terms time None p ≡ publisher.delivered terms time (Some room) p
unfolding publisher.deliveries
live_goes_on terms time room p mode =
    ap (λ (m : Mode). record p { receiving = passed_over terms.width (publisher.deliveries m terms time None p) p.receiving }) mode
    ∙ sym (ap (λ (m : Mode). record p { receiving = passed_over terms.width (publisher.deliveries m terms time (Some room) p) p.receiving }) mode)

-- the number of sessions that pass a test, counted by ascending slots, if only open sessions pass
unfoldable pub count_at : (test : Session → Bool) (g : ℕ → Option Session) (from places : ℕ) → ℕ
count_at test g from places = length (filter test (filter_map g (numbers_from from places)))

unfoldable pub counted : (test : Session → Bool) → Option Session → ℕ
counted test None = 0
counted test (Some s) = one_if (test s)

pub count_next : (test : Session → Bool) (g : ℕ → Option Session) (from places : ℕ)
    → count_at test g from (suc places) ≡ counted test (g from) + count_at test g (from + 1) places
unfolding count_at one_if counted
count_next test g from places = by (g from)
  where
    rest : List Session
    rest = filter_map g (numbers_from (from + 1) places)

    more : (b : Bool) (s : Session) → length (cond b (s ∷ filter test rest) (filter test rest)) ≡ one_if b + length (filter test rest)
    more true s = omega arith
    more false s = omega arith

    by : (o : Option Session) → length (filter test (cons_option o rest)) ≡ counted test o + length (filter test rest)
    by None = omega arith
    by (Some s) = more (test s) s

-- one slot has another session, and the others have the same
count_same : (test : Session → Bool) (g h : ℕ → Option Session) (from places : ℕ) → ((k : ℕ) → from ≤ k → g k ≡ h k)
    → count_at test g from places ≡ count_at test h from places
unfolding count_at
count_same test g h from zero same = refl
count_same test g h from (suc places) same =
    let here : counted test (g from) ≡ counted test (h from) = ap (counted test) (same from (omega arith)) in
    omega (
      arith,
      here,
      count_next test g from places,
      count_next test h from places,
      count_same test g h (from + 1) places (λ k below. same k (omega (arith, below))),
    )

count_other : (test : Session → Bool) (g h : ℕ → Option Session) (at from places : ℕ) → from ≤ at → at < from + places → ((k : ℕ) → k ≢ at → g k ≡ h k)
    → count_at test g from places + counted test (h at) ≡ count_at test h from places + counted test (g at)
unfolding count_at
count_other test g h at from zero low high same = absurd (omega (arith, low, high))
count_other test g h at from (suc places) low high same =
    by (λ under. count_other test g h at (from + 1) places under (omega (arith, high)) same) (cases_eq at from)
  where
    by : (from + 1 ≤ at → count_at test g (from + 1) places + counted test (h at) ≡ count_at test h (from + 1) places + counted test (g at))
        → (at ≡ from) ⊎ (at ≢ from) → count_at test g from (suc places) + counted test (h at) ≡ count_at test h from (suc places) + counted test (g at)
    by rest (inl here) =
        let after = count_same test g h (from + 1) places (λ k above. same k (λ bad. omega (arith, above, bad, here))) in
        let first : counted test (g at) ≡ counted test (g from) = ap (λ (n : ℕ). counted test (g n)) here in
        let second : counted test (h at) ≡ counted test (h from) = ap (λ (n : ℕ). counted test (h n)) here in
        omega (arith, after, first, second, count_next test g from places, count_next test h from places)
    by rest (inr apart) =
        let under : from + 1 ≤ at = omega (arith, low, apart) in
        let first : counted test (g from) ≡ counted test (h from) = ap (counted test) (same from (λ bad. apart (sym bad))) in
        omega (arith, first, rest under, count_next test g from places, count_next test h from places)

count_none : (test : Session → Bool) (from places : ℕ) → count_at test (λ k. find (is_open_in k) []) from places ≡ 0
unfolding count_at counted
count_none test from zero = refl
count_none test from (suc places) = omega (arith, count_next test (λ k. find (is_open_in k) []) from places, count_none test (from + 1) places)

-- an open session has a slot below the bound
abbrev pub AreInside : (places : ℕ) → List Session → Type 0
AreInside places [] = ⊤
AreInside places (s ∷ older) = (s.is_open ≡ true → s.slot < places) × AreInside places older

pub counted_slots : (test : Session → Bool) → ((s : Session) → test s ≡ true → s.is_open ≡ true) → (places : ℕ) (ss : List Session)
    → AreApart ss → AreInside places ss → count_at test (λ k. find (is_open_in k) ss) 0 places ≡ how_many test ss
unfolding count_at counted one_if
counted_slots test opens places [] apart inside = count_none test 0 places
counted_slots test opens places (s ∷ ss) apart inside = by (counted_slots test opens places ss apart.1 inside.1) s.is_open refl
  where
    g : ℕ → Option Session
    g k = find (is_open_in k) (s ∷ ss)

    h : ℕ → Option Session
    h k = find (is_open_in k) ss

    closed : s.is_open ≡ false → (k : ℕ) → g k ≡ h k
    closed o k = ap (λ (b : Bool). cond (b && s.slot == k) (Some s) (h k)) o

    other : (k : ℕ) → k ≢ s.slot → g k ≡ h k
    other k apart_is = ap (λ (b : Bool). cond (s.is_open && b) (Some s) (h k))
        (false_from_ne_true (s.slot == k) (λ is. apart_is (sym (eqb-true s.slot k is))))
        ∙ never s.is_open
      where
        never : (b : Bool) → cond (b && false) (Some s) (h k) ≡ h k
        never true = refl
        never false = refl

    by : count_at test h 0 places ≡ how_many test ss → (b : Bool) → s.is_open ≡ b → count_at test g 0 places ≡ how_many test (s ∷ ss)
    by rest false o =
        let none : test s ≡ false = false_from_ne_true (test s) (λ passes. absurd (let bad : s.is_open ≡ true = opens s passes in cc)) in
        count_same test g h 0 places (λ k above. closed o k) ∙ (rest ∙ sym (one_more test s ss false none))
    by rest true o =
        let place : is_open_in s.slot s ≡ true = and_from s.is_open (s.slot == s.slot) o (eq-eqb s.slot s.slot refl) in
        let mine : g s.slot ≡ Some s = ap (λ (b : Bool). cond b (Some s) (h s.slot)) place in
        let before : counted test (h s.slot) ≡ 0 = ap (counted test) (apart.0 o) in
        let now : counted test (g s.slot) ≡ one_if (test s) = ap (counted test) mine in
        let all = count_other test g h s.slot 0 places (omega arith) (omega (arith, inside.0 o)) other in
        total (test s) refl (omega (arith, all, before, now, rest))
      where
        total : (d : Bool) → test s ≡ d → count_at test g 0 places ≡ how_many test ss + one_if (test s)
            → count_at test g 0 places ≡ how_many test (s ∷ ss)
        total true is sum = omega (arith, sum, ap one_if is, one_more test s ss true is)
        total false is sum = omega (arith, sum, ap one_if is, one_more test s ss false is)

pub publishers_by_slot : (e : Terms) (ss : List Session)
    → AreApart ss → AreInside e.sessions ss → length (filter is_publisher (by_slot e ss)) ≡ open_publishers ss
unfolding count_at
publishers_by_slot e ss apart inside =
    counted_slots is_publisher (λ s h. (and_parts s.is_open (publishes s.conclusion.role) h).0) e.sessions ss apart inside

-- an event opens no publisher, except by a conclusion
and_keeps : (a b d : Bool) → (a ≡ true → b ≡ true) → a && d ≡ true → b && d ≡ true
and_keeps a b d keeps h = let parts = and_parts a d h in and_from b d (keeps parts.0) parts.1

aged_keeps : (e : Terms) (time : ℕ) (lives : Bool) (s : Session) → is_publisher (aged_at e lives time s) ≡ true → is_publisher s ≡ true
aged_keeps e time true s h = h
aged_keeps e time false s h = absurd (let bad : false ≡ true = h in cc)

pub aged_opens_none : (e : Terms) (clock : ℕ) → OpensNone (aged e clock)
aged_opens_none e clock s h = aged_keeps e (time_in s clock) (s.is_open && not (is_over s clock)) s h

pub heard_opens_none : (clock : ℕ) (test : Session → Bool) → OpensNone (λ s. heard_if (test s) clock s)
heard_opens_none clock test s h = by (test s) h
  where
    by : (b : Bool) → is_publisher (heard_if b clock s) ≡ true → is_publisher s ≡ true
    by true h = h
    by false h = h

pub took_opens_none : (drains : Option ℕ) (e : Terms) (index clock : ℕ) (peer : Peer) (packet : Packet)
    → OpensNone (λ s. took_if drains (is_for index peer packet.dest s) e clock packet s)
took_opens_none drains e index clock peer packet s h = by (is_for index peer packet.dest s) refl h
  where
    by : (b : Bool) → is_for index peer packet.dest s ≡ b → is_publisher (took_if drains b e clock packet s) ≡ true → is_publisher s ≡ true
    by true mine h =
        let opens = for_open index peer packet.dest s mine in
        and_from s.is_open (publishes s.conclusion.role) opens (and_parts _ (publishes s.conclusion.role) h).1
    by false mine h = h

end_opens_none : (end : Option Bool) → OpensNone (with_end end)
end_opens_none None s h = h
end_opens_none (Some b) s h = h

took_packet_opens_none : (drains : Option ℕ) (end : Option Bool) (e : Terms) (index clock : ℕ) (peer : Peer) (packet : Packet)
    → OpensNone (took_packet drains end e index clock peer packet)
took_packet_opens_none drains None e index clock peer packet s h = took_opens_none drains e index clock peer packet s h
took_packet_opens_none drains (Some b) e index clock peer packet s h = took_opens_none drains e index clock peer packet s h

pub passed_keeps : (e : Terms) (here : Bool) (time : ℕ) (room : Option ℕ) (fed : List (List ℕ)) (s : Session)
    → is_publisher (passed_at e here time room fed s) ≡ is_publisher s
passed_keeps e true time room fed s = refl
passed_keeps e false time room fed s = refl

pub reported_keeps : (keys : Option Keys) (e : Terms) (here : Bool) (clock : ℕ) (s : Session) → is_publisher (reported_at keys e here clock s) ≡ is_publisher s
reported_keeps keys e true clock s = refl
reported_keeps keys e false clock s = refl

passed_marks : (e : Terms) (here : Bool) (time : ℕ) (room : Option ℕ) (fed : List (List ℕ)) (s : Session)
    → (passed_at e here time room fed s).took_over ≡ s.took_over
passed_marks e true time room fed s = refl
passed_marks e false time room fed s = refl

reported_marks : (keys : Option Keys) (e : Terms) (here : Bool) (clock : ℕ) (s : Session) → (reported_at keys e here clock s).took_over ≡ s.took_over
reported_marks keys e true clock s = refl
reported_marks keys e false clock s = refl

-- a delivery and the end of an event change neither the number of open publishers nor which one is active
pub active_delivered : (e : Terms) (clock : ℕ) (ss : List Session)
    → active (delivered e clock ss)
    ≡ option_map (λ s. passed e clock (room_if (is_active ss s) (least_room e ss)) (delivery e clock (least_room e ss) ss) s) (active ss)
active_delivered e clock ss =
    let room = least_room e ss in
    let fed = delivery e clock room ss in
    active_through (λ s. passed e clock (room_if (is_active ss s) room) fed s)
    (λ s. passed_keeps e s.is_open (time_in s clock) (room_if (is_active ss s) room) fed s)
    (λ s. passed_marks e s.is_open (time_in s clock) (room_if (is_active ss s) room) fed s) ss

pub active_reported : (own : ℕ → Option Keys) (e : Terms) (clock : ℕ) (ss : List Session)
    → active (map (λ s. reported (own s.slot) e clock s) ss) ≡ option_map (λ s. reported (own s.slot) e clock s) (active ss)
active_reported own e clock ss =
    active_through (λ s. reported (own s.slot) e clock s) (λ s. reported_keeps (own s.slot) e s.is_open clock s)
    (λ s. reported_marks (own s.slot) e s.is_open clock s) ss

-- a publisher opens only while at most one is open
reason_left : (a b d : Bool) (x y z : RefusalCause) → cond a (Some x) (cond b (Some y) (cond d (Some z) None)) ≡ None → d ≡ false
reason_left true b d x y z h = absurd (let bad : Some x ≡ None = h in cc)
reason_left false true d x y z h = absurd (let bad : Some y ≡ None = h in cc)
reason_left false false true x y z h = absurd (let bad : Some z ≡ None = h in cc)
reason_left false false false x y z h = refl

pub one_at_most : (mode : Mode) (publishers : ℕ) (c : Conclusion) → refused mode publishers c ≡ None → publishes c.role ≡ true → publishers ≤ 1
one_at_most mode publishers c none role =
    let test : publishes c.role && nat_le 2 publishers ≡ false =
    reason_left (differ c.wants_stream (is_buffer mode))
    (nat_lt c.mtu 76 || c.window == 0 || (not (publishes c.role) && is_buffer mode && nat_lt c.mtu 1500))
    (publishes c.role && nat_le 2 publishers) causes.MessageApi causes.Rogue causes.Peer none in
    let few : nat_le 2 publishers ≡ false = ap (λ (b : Bool). b && nat_le 2 publishers) (sym role) ∙ test in
    grind (arith, nat_tests, few)

-- a session opens only if there is no cause to refuse it
pub record IsDecided (e : Terms) (peer : Peer) (c : Conclusion) (ss : List Session) (slot : ℕ) : Type 0 where
  pub reason : refused e.mode (open_publishers ss) c ≡ None
  pub uncrowded : is_crowded e.rules.sessions_per_address (sessions_from peer.ip ss) ≡ false
  pub free : free_slot e ss ≡ Some slot
  pub unreserved : is_reserved e.rules.reserved (free_slots e ss) (open_publishers ss) c.role ≡ false

pub decided_slot : (e : Terms) (peer : Peer) (c : Conclusion) (ss : List Session) (slot : ℕ) → decision e peer c ss ≡ Ok slot → IsDecided e peer c ss slot
decided_slot e peer c ss slot is =
    let it =
    by (refused e.mode (open_publishers ss) c) (is_crowded e.rules.sessions_per_address (sessions_from peer.ip ss)) (free_slot e ss)
    (is_reserved e.rules.reserved (free_slots e ss) (open_publishers ss) c.role) is in
    record { reason = it.0; uncrowded = it.1; free = it.2; unreserved = it.3 }
  where
    by : (o : Option RefusalCause) (crowded : Bool) (f : Option ℕ) (kept : Bool)
        → decided o crowded f kept ≡ Ok slot → (o ≡ None) × (crowded ≡ false) × (f ≡ Some slot) × (kept ≡ false)
    by (Some cause) crowded f kept h = absurd (let bad : Err cause ≡ Ok slot = h in cc)
    by None true f kept h = absurd (let bad : Err causes.Address ≡ Ok slot = h in cc)
    by None false None kept h = absurd (let bad : Err causes.Resource ≡ Ok slot = h in cc)
    by None false (Some at) true h = absurd (let bad : Err causes.Reserved ≡ Ok slot = h in cc)
    by None false (Some at) false h = (refl, refl, (let same : at ≡ slot = cc in ap (λ (n : ℕ). Some n) same), refl)

-- at most two publishers
abbrev pub AreFew : List Session → Type 0
AreFew ss = open_publishers ss ≤ 2

few_kept : (f : Session → Session) → OpensNone f → (ss : List Session) → AreFew ss → AreFew (map f ss)
few_kept f none ss few = omega (arith, fewer f none ss, few)

opens_few : (e : Terms) (index clock : ℕ) (peer : Peer) (stamp : ℕ) (c : Conclusion) (ss : List Session) (slot : ℕ)
    → (publishes c.role ≡ true → open_publishers ss ≤ 1) → AreFew ss → AreFew (opens e index clock peer stamp c ss slot).sessions
opens_few e index clock peer stamp c ss slot one few = by (publishes c.role) refl
  where
    opened : Session
    opened = session_opened clock peer stamp c slot (generation_of ss slot)

    by : (b : Bool) → publishes c.role ≡ b → AreFew (opened ∷ ss)
    by true is = omega (arith, count_more opened ss true is, one is)
    by false is = omega (arith, count_more opened ss false is, few)

considered_few : (e : Terms) (index clock : ℕ) (peer : Peer) (stamp : ℕ) (c : Conclusion) (ss : List Session) (answer : Result ℕ RefusalCause)
    → ((slot : ℕ) → answer ≡ Ok slot → publishes c.role ≡ true → open_publishers ss ≤ 1) → AreFew ss
    → AreFew (considered e index clock peer stamp c ss answer).sessions
considered_few e index clock peer stamp c ss (Err cause) one few = few
considered_few e index clock peer stamp c ss (Ok slot) one few = opens_few e index clock peer stamp c ss slot (one slot refl) few

concluded_few : (e : Terms) (index clock : ℕ) (peer : Peer) (stamp : ℕ) (c : Conclusion) (ss : List Session) (found : Option Session)
    → AreFew ss → AreFew (concluded e index clock peer stamp c ss found).sessions
concluded_few e index clock peer stamp c ss (Some s) few =
    few_kept (λ t. heard_if (is_of peer c.caller t) clock t) (heard_opens_none clock (is_of peer c.caller)) ss few
concluded_few e index clock peer stamp c ss None few =
    considered_few e index clock peer stamp c ss (decision e peer c ss)
    (λ slot is. one_at_most e.mode (open_publishers ss) c (decided_slot e peer c ss slot is).reason) few

without_few : (e : Terms) (index clock : ℕ) (peer : Peer) (stamp : ℕ) (ss : List Session) (c : Option Conclusion)
    → AreFew ss → AreFew (without_destination e index clock peer stamp ss c).sessions
without_few e index clock peer stamp ss None few = few
without_few e index clock peer stamp ss (Some c) few = concluded_few e index clock peer stamp c ss (find (is_of peer c.caller) ss) few

packet_few : (e : Terms) (index clock : ℕ) (peer : Peer) (packet : Packet) (ss : List Session)
    → AreFew ss → AreFew (packet_taken e index clock peer packet ss).sessions
packet_few e index clock peer packet ss few = by (packet.dest == 0)
  where
    by : (b : Bool)
        → AreFew
        (cond b (without_destination e index clock peer packet.stamp ss (concludes packet.body)) (arrived e index clock peer packet ss)).sessions
    by true = without_few e index clock peer packet.stamp ss (concludes packet.body) few
    by false =
        let found = find (is_for index peer packet.dest) ss in
        let drains = drain_of e clock packet.body ss found in
        let end = packet_end drains e packet.body found in
        few_kept (took_packet drains end e index clock peer packet) (took_packet_opens_none drains end e index clock peer packet) ss few

read_few : (e : Terms) (index clock : ℕ) (peer : Peer) (read : Result Packet PacketFault) (ss : List Session)
    → AreFew ss → AreFew (read_taken e index clock peer read ss).sessions
read_few e index clock peer (Ok packet) ss few = packet_few e index clock peer packet ss few
read_few e index clock peer (Err fault) ss few = few

ended_opens_none : OpensNone ended
ended_opens_none s h = absurd (let bad : false ≡ true = h in cc)

pub taken_few : (e : Terms) (index clock : ℕ) (item : Item) (ss : List Session) → AreFew ss → AreFew (taken e index clock item ss).sessions
taken_few e index clock (Received d moment) ss few = read_few e index clock d.peer (packet_in d.bytes) ss few
taken_few e index clock (Tick moment) ss few = few
taken_few e index clock (Close moment) ss few = few_kept ended ended_opens_none ss few

pub aged_few : (e : Terms) (clock : ℕ) (ss : List Session) → AreFew ss → AreFew (map (aged e clock) ss)
aged_few e clock ss few = few_kept (aged e clock) (aged_opens_none e clock) ss few

pub marked_opens_none : (ss : List Session) → OpensNone (marked ss)
marked_opens_none ss s h = by (is_publisher s) refl h
  where
    by : (b : Bool) → is_publisher s ≡ b → is_publisher (cond b (record s { took_over = not (is_active ss s) }) s) ≡ true → b ≡ true
    by true is h = refl
    by false is h = absurd (let bad : false ≡ true = sym is ∙ h in cc)

marked_few : (due : Bool) (ss : List Session) → AreFew ss → AreFew (marked_if due ss)
marked_few true ss few = few_kept (marked ss) (marked_opens_none ss) ss few
marked_few false ss few = few

pub advanced_few : (e : Terms) (clock : ℕ) (ss : List Session) → AreFew ss → AreFew (advanced e clock ss)
advanced_few e clock ss few =
    let later = map (aged e clock) ss in
    few_kept (with_end (time_end e ss later)) (end_opens_none (time_end e ss later)) (marked_if (takes_over e clock later) later)
    (marked_few (takes_over e clock later) later (aged_few e clock ss few))

pub delivered_few : (e : Terms) (clock : ℕ) (ss : List Session) → AreFew ss → AreFew (delivered e clock ss)
delivered_few e clock ss few =
    let room = least_room e ss in
    let fed = delivery e clock room ss in
    few_kept (λ s. passed e clock (room_if (is_active ss s) room) fed s)
    (λ s h. sym (passed_keeps e s.is_open (time_in s clock) (room_if (is_active ss s) room) fed s) ∙ h) ss few

settled_opens_none : (e : Terms) (given : Bool) (clock : ℕ) → OpensNone (settled e given clock)
settled_opens_none e given clock s h = by s.drains h
  where
    by : (d : Option ℕ) → is_publisher (settled_at d e given clock s) ≡ true → is_publisher s ≡ true
    by None k = k
    by (Some until) k =
        let parts = and_parts (s.is_open && has_left (terms_of e s) s.past) (publishes s.conclusion.role) k in
        and_from s.is_open (publishes s.conclusion.role) (and_parts s.is_open (has_left (terms_of e s) s.past) parts.0).0 parts.1

settled_few : (c : Callers) (e : Terms) (clock : ℕ) (given : Bool) (ss : List Session) → AreFew ss → AreFew (settled_by c e clock given ss)
settled_few Draft e clock given ss few = few
settled_few Libsrt e clock given ss few =
    let later = map (settled e given clock) ss in
    let end = drain_end (open_publishers ss) (open_publishers later) in
    few_kept (with_end end) (end_opens_none end) later (few_kept (settled e given clock) (settled_opens_none e given clock) ss few)

pub after_delivery_few : (e : Terms) (clock : ℕ) (ss : List Session) → AreFew ss → AreFew (after_delivery e clock ss)
after_delivery_few e clock ss few = settled_few e.rules.callers e clock (gives_some e clock ss) (delivered e clock ss) (delivered_few e clock ss few)

finished_opens_none : (own : ℕ → Option Keys) (e : Terms) (clock : ℕ) (over : Bool) → OpensNone (finished own e clock over)
finished_opens_none own e clock over s h = by (has_whole_file over s) h
  where
    by : (b : Bool) → is_publisher (finished_at b (own s.slot) e clock s) ≡ true → is_publisher s ≡ true
    by true k = absurd (let bad : false ≡ true = k in cc)
    by false k = sym (reported_keeps (own s.slot) e s.is_open clock s) ∙ k

finished_few : (own : ℕ → Option Keys) (e : Terms) (clock : ℕ) (over : Bool) (ss : List Session)
    → AreFew ss → AreFew (map (finished own e clock over) ss)
finished_few own e clock over ss few = few_kept (finished own e clock over) (finished_opens_none own e clock over) ss few

sessions_few : (is_closed : Bool) (e : Terms) (index : ℕ) (item : Item) (m : Route) → AreFew m.sessions → AreFew (sessions_at is_closed e index item m)
sessions_few true e index item m few = few
sessions_few false e index item m few =
    let clock = clock_after item m in
    let taken = taken_by e index item m in
    finished_few (own_by e index item m) e clock (is_file_over e (passed_by e index item m)) (passed_by e index item m)
    (after_delivery_few e clock taken.sessions
    (taken_few e index clock (heard_by e index item m) (advanced e clock m.sessions) (advanced_few e clock m.sessions few)))

pub two_at_most : (e : Terms) (index : ℕ) (items : List Item) → AreFew (after e index items).sessions
two_at_most e index [] = omega arith
two_at_most e index (item ∷ items) =
    let m = route_before e index item items in
    sessions_few m.is_closed e index item m
    (all_before AreFew (λ own t ss few. few_kept (given_up own t) (λ s h. sym (gives_up_publishers own t s) ∙ h) ss few) e (clock_after item m)
    (after e index items) (two_at_most e index items))
