-- What the beginnings of rounds are to a route that closes in none.
use Rattle.std.proofs.Common.{◌≡◌, ℕ, zero, suc, ◌+◌, ◌<◌, ◌==◌, ◌&&◌, ◌||◌, Bool, true, false, Some, None, List, [], ◌∷◌, ◌++◌, slice_get, refl, sym, ap}
use Rattle.std.proofs.Common.{subst, ◌∙◌, arith}
use Rattle.std.specs.Prelude.{if◌then◌else◌}
use Rattle.std.specs.List.{list_any}
use Rattle.std.proofs.lemmas.Bool.Decides.{nat_tests}
use Rattle.std.proofs.lemmas.List.Sums.{sum_by-cons}
use Rattle.srt_types.specs.declared.shared.Schedule.{Schedule}
use Rattle.srt_lobby.specs.Names.{RouteName}
use Rattle.srt_poller.specs.Devices.{Call, WaitEnded, WaitFailed, ReadGave, ReadEmpty, ReadFailed}
use Rattle.srt_poller.specs.Schedules.{CloseOffer, offered_routes, opened_if, has_come, due_from}
use Rattle.srt_poller.specs.History.{Sorting, Event, Phase, Between, Begun, Reading, Sending, read_on, sent_on, IsOver, IsReading, MaySend}
use Rattle.srt_poller.specs.History.{Begins, Waits, WaitFails, ReadsNothing, ReadFails, Answers, Accepts, Overflows, Refuses, Drops, Sends, Resends}
use Rattle.srt_poller.specs.History.{State, at_first, state_by, state_after, Follow, calls, waits_by, waits_in, closes_all_by, closes_all_in}
use Rattle.srt_serve.specs.Unchanged.{Beginning, closes_route, beginnings, is_closed_in, OpenRoutesBeginAlike}

-- a route that isn't among those that close
none_before : (i j round : ℕ) (schedules : List Schedule) (names : List RouteName) → j < i
    → list_any (λ k. k == j) (due_from i false round schedules names) ≡ false
none_before i j round [] names h = refl
none_before i j round (s ∷ schedules) [] h = refl
none_before i j round (s ∷ schedules) (n ∷ names) h =
    by (has_come round s.close_round && n.is_shown) (none_before (suc i) j round schedules names (omega (arith, h)))
  where
    apart : (i == j) ≡ false
    apart = grind (arith, nat_tests, h)

    by : (b : Bool) → list_any (λ k. k == j) (due_from (suc i) false round schedules names) ≡ false
        → list_any (λ k. k == j) (if b then i ∷ due_from (suc i) false round schedules names else due_from (suc i) false round schedules names) ≡ false
    by true rest = ap (λ (b : Bool). b || list_any (λ k. k == j) (due_from (suc i) false round schedules names)) apart ∙ rest
    by false rest = rest

not_due : (i round r : ℕ) (schedules : List Schedule) (names : List RouteName) (s : Schedule) → slice_get schedules r ≡ Some s → s.close_round ≡ None
    → list_any (λ k. k == i + r) (due_from i false round schedules names) ≡ false
not_due i round r [] names s at open_always = cc
not_due i round r (x ∷ schedules) [] s at open_always = refl
not_due i round zero (x ∷ schedules) (n ∷ names) s at open_always =
    let same : x ≡ s = cc in
    let here : i + 0 ≡ i = omega arith in
    let never : (has_come round x.close_round && n.is_shown) ≡ false =
    ap (λ (y : Schedule). has_come round y.close_round && n.is_shown) same ∙ ap (λ o. has_come round o && n.is_shown) open_always in
    ap (λ (b : Bool). list_any (λ k. k == i + 0) (if b then i ∷ due_from (suc i) false round schedules names else due_from (suc i) false round schedules names))
    never
    ∙ none_before (suc i) (i + 0) round schedules names (omega (arith, here))
not_due i round (suc r) (x ∷ schedules) (n ∷ names) s at open_always =
    by (has_come round x.close_round && n.is_shown)
    (subst (λ (j : ℕ). list_any (λ k. k == j) (due_from (suc i) false round schedules names) ≡ false) next
    (not_due (suc i) round r schedules names s at open_always))
  where
    next : suc i + r ≡ i + suc r
    next = omega arith

    apart : (i == i + suc r) ≡ false
    apart = grind (arith, nat_tests)

    by : (b : Bool) → list_any (λ k. k == i + suc r) (due_from (suc i) false round schedules names) ≡ false
        → list_any (λ k. k == i + suc r) (if b then i ∷ due_from (suc i) false round schedules names else due_from (suc i) false round schedules names)
        ≡ false
    by true rest = ap (λ (b : Bool). b || list_any (λ k. k == i + suc r) (due_from (suc i) false round schedules names)) apart ∙ rest
    by false rest = rest

offer_apart : (accepted here rest : Bool) → (here || rest) ≡ false → ((accepted && here) ≡ false) × (rest ≡ false)
offer_apart true true rest h = cc
offer_apart true false rest h = (refl, h)
offer_apart false true rest h = cc
offer_apart false false rest h = (refl, h)

not_offered : (r : ℕ) (os : List CloseOffer) → list_any (λ k. k == r) (offered_routes os) ≡ false → list_any (closes_route r) os ≡ false
not_offered r [] h = refl
not_offered r (o ∷ os) h =
    let apart = offer_apart o.is_accepted (o.route == r) (list_any (λ k. k == r) (offered_routes os)) h in
    ap (λ (b : Bool). b || list_any (closes_route r) os) apart.0 ∙ not_offered r os apart.1

zero_more : (n : ℕ) → 0 + n ≡ n
zero_more n = omega arith

one_more : (n : ℕ) → 1 + n ≡ suc n
one_more n = omega arith

-- the beginning of a round in which the route isn't closed, and that many of them
abbrev plain : Beginning
plain = record { closes_all = false; is_closed = false }

abbrev plains : ℕ → List Beginning
plains zero = []
plains (suc n) = plain ∷ plains n

none_closes : (n : ℕ) → is_closed_in (plains n) ≡ false
none_closes zero = refl
none_closes (suc n) = none_closes n

-- one round began that hasn't waited yet, or none
abbrev began_in : Phase → ℕ
began_in Between = 0
began_in (Begun owes) = 1
began_in (Reading reads) = 0
began_in (Sending route sends) = 0

over_began : (p : Phase) → IsOver p → began_in p ≡ 0
over_began Between h = refl
over_began (Begun owes) h = absurd h
over_began (Reading reads) h = absurd h
over_began (Sending route sends) h = refl

read_on_began : (p : Phase) → IsReading p → began_in (read_on p) ≡ began_in p
read_on_began Between h = absurd h
read_on_began (Begun owes) h = absurd h
read_on_began (Reading reads) h = by (reads + 1 == 256)
  where
    by : (b : Bool) → began_in (if b then Sending 0 0 else Reading (reads + 1)) ≡ 0
    by true = refl
    by false = refl
read_on_began (Sending route sends) h = absurd h

reading_began : (p : Phase) → IsReading p → began_in p ≡ 0
reading_began Between h = absurd h
reading_began (Begun owes) h = absurd h
reading_began (Reading reads) h = refl
reading_began (Sending route sends) h = absurd h

sent_began : (p : Phase) (route : ℕ) → MaySend p route → began_in (sent_on route p) ≡ began_in p
sent_began Between route h = absurd h
sent_began (Begun owes) route h = absurd h
sent_began (Reading reads) route h = absurd h
sent_began (Sending last sends) route h = refl

module _ (class : Sorting) (schedules : List Schedule) (r : ℕ) (s : Schedule) (at : slice_get schedules r ≡ Some s) (open_always : s.close_round ≡ None)
  where
    abbrev ArePlain : State → List Event → Type 0
    ArePlain x events = plains (began_in x.phase) ++ beginnings r events ≡ plains (waits_in events)

    -- an event that is no beginning and no wait
    no_wait : (x next : State) (event : Event) (events : List Event) → began_in next.phase ≡ began_in x.phase → waits_by event ≡ 0 → ArePlain next events
        → plains (began_in x.phase) ++ beginnings r events ≡ plains (waits_in (event ∷ events))
    no_wait x next event events phase none more =
        ap (λ (n : ℕ). plains n ++ beginnings r events) (sym phase) ∙ more
        ∙ ap plains (sym (sum_by-cons waits_by event events ∙ ap (λ (n : ℕ). n + waits_in events) none ∙ zero_more (waits_in events)))

    one_wait : (x next : State) (event : Event) (events : List Event) → x.phase ≡ Begun false → began_in next.phase ≡ 0 → waits_by event ≡ 1
        → ArePlain next events
        → plains (began_in x.phase) ++ beginnings r events ≡ plains (waits_in (event ∷ events))
    one_wait x next event events phase none one more =
        ap (λ (p : Phase). plains (began_in p) ++ beginnings r events) phase
        ∙ ap (λ (bs : List Beginning). plain ∷ bs) (ap (λ (n : ℕ). plains n ++ beginnings r events) (sym none) ∙ more)
        ∙ ap plains (sym (sum_by-cons waits_by event events ∙ ap (λ (n : ℕ). n + waits_in events) one ∙ one_more (waits_in events)))

    no_more : (n m : ℕ) → n + m ≡ 0 → m ≡ 0
    no_more n m h = omega (arith, h)

    rest_closes : (event : Event) (events : List Event) → closes_all_in (event ∷ events) ≡ 0 → closes_all_in events ≡ 0
    rest_closes event events h = no_more (closes_all_by event) (closes_all_in events) (sym (sum_by-cons closes_all_by event events) ∙ h)

    are_plain : (x : State) (events : List Event) → Follow class schedules x events → IsOver (state_after schedules x events).phase
        → closes_all_in events ≡ 0 → ArePlain x events
    are_plain x [] follow over none = ap (λ (n : ℕ). plains n ++ []) (over_began x.phase over)
    are_plain x (Begins true moment offers ∷ events) follow over none =
        let counted : 1 + closes_all_in events ≡ 0 = sym (sum_by-cons closes_all_by (Begins true moment offers) events) ∙ none in
        absurd (omega (arith, counted))
    are_plain x (Begins false moment offers ∷ events) follow over none =
        let next = state_by schedules x (Begins false moment offers) in
        let names = opened_if false x.round schedules x.names in
        let zero_is : 0 + r ≡ r = omega arith in
        let apart : list_any (λ k. k == r) (offered_routes offers) ≡ false =
        ap (list_any (λ k. k == r)) follow.0.2
        ∙ subst (λ (j : ℕ). list_any (λ k. k == j) (due_from 0 false x.round schedules names) ≡ false) zero_is
        (not_due 0 x.round r schedules names s at open_always) in
        ap (λ (n : ℕ). plains n ++ beginnings r (Begins false moment offers ∷ events)) (over_began x.phase follow.0.0)
        ∙ ap (λ (b : Bool). record { closes_all = false; is_closed = b } ∷ beginnings r events) (not_offered r offers apart)
        ∙ are_plain next events follow.1 over (rest_closes (Begins false moment offers) events none)
        ∙ ap plains (sym (sum_by-cons waits_by (Begins false moment offers) events ∙ zero_more (waits_in events)))
    are_plain x (Waits ∷ events) follow over none =
        one_wait x (state_by schedules x Waits) Waits events follow.0 refl refl
        (are_plain (state_by schedules x Waits) events follow.1 over (rest_closes Waits events none))
    are_plain x (WaitFails ∷ events) follow over none =
        one_wait x (state_by schedules x WaitFails) WaitFails events follow.0 refl refl
        (are_plain (state_by schedules x WaitFails) events follow.1 over (rest_closes WaitFails events none))
    are_plain x (ReadsNothing ∷ events) follow over none =
        no_wait x (state_by schedules x ReadsNothing) ReadsNothing events (sym (reading_began x.phase follow.0)) refl
        (are_plain (state_by schedules x ReadsNothing) events follow.1 over (rest_closes ReadsNothing events none))
    are_plain x (ReadFails ∷ events) follow over none =
        no_wait x (state_by schedules x ReadFails) ReadFails events (sym (reading_began x.phase follow.0)) refl
        (are_plain (state_by schedules x ReadFails) events follow.1 over (rest_closes ReadFails events none))
    are_plain x (Answers arrival bytes sent ∷ events) follow over none =
        no_wait x (state_by schedules x (Answers arrival bytes sent)) (Answers arrival bytes sent) events (read_on_began x.phase follow.0.0) refl
        (are_plain (state_by schedules x (Answers arrival bytes sent)) events follow.1 over (rest_closes (Answers arrival bytes sent) events none))
    are_plain x (Accepts arrival route ∷ events) follow over none =
        no_wait x (state_by schedules x (Accepts arrival route)) (Accepts arrival route) events (read_on_began x.phase follow.0.0) refl
        (are_plain (state_by schedules x (Accepts arrival route)) events follow.1 over (rest_closes (Accepts arrival route) events none))
    are_plain x (Overflows arrival route ∷ events) follow over none =
        no_wait x (state_by schedules x (Overflows arrival route)) (Overflows arrival route) events (read_on_began x.phase follow.0.0) refl
        (are_plain (state_by schedules x (Overflows arrival route)) events follow.1 over (rest_closes (Overflows arrival route) events none))
    are_plain x (Refuses arrival route ∷ events) follow over none =
        no_wait x (state_by schedules x (Refuses arrival route)) (Refuses arrival route) events (read_on_began x.phase follow.0.0) refl
        (are_plain (state_by schedules x (Refuses arrival route)) events follow.1 over (rest_closes (Refuses arrival route) events none))
    are_plain x (Drops arrival cause ∷ events) follow over none =
        no_wait x (state_by schedules x (Drops arrival cause)) (Drops arrival cause) events (read_on_began x.phase follow.0.0) refl
        (are_plain (state_by schedules x (Drops arrival cause)) events follow.1 over (rest_closes (Drops arrival cause) events none))
    are_plain x (Sends route reply sent ∷ events) follow over none =
        no_wait x (state_by schedules x (Sends route reply sent)) (Sends route reply sent) events (sent_began x.phase route follow.0.0) refl
        (are_plain (state_by schedules x (Sends route reply sent)) events follow.1 over (rest_closes (Sends route reply sent) events none))
    are_plain x (Resends route reply sent ∷ events) follow over none =
        no_wait x (state_by schedules x (Resends route reply sent)) (Resends route reply sent) events (ap began_in (sym follow.0.0)) refl
        (are_plain (state_by schedules x (Resends route reply sent)) events follow.1 over (rest_closes (Resends route reply sent) events none))

-- how often the source waited, by its calls
abbrev wait_of : Call → ℕ
wait_of WaitEnded = 1
wait_of WaitFailed = 1
wait_of (ReadGave a) = 0
wait_of ReadEmpty = 0
wait_of ReadFailed = 0

abbrev waits_of : List Call → ℕ
waits_of [] = 0
waits_of (c ∷ cs) = wait_of c + waits_of cs

waits_more : (e : Event) (events : List Event) → waits_by e + waits_of (calls events) ≡ waits_of (calls (e ∷ events))
waits_more (Begins b m os) events = zero_more (waits_of (calls events))
waits_more Waits events = refl
waits_more WaitFails events = refl
waits_more ReadsNothing events = refl
waits_more ReadFails events = refl
waits_more (Answers a b o) events = refl
waits_more (Accepts a r) events = refl
waits_more (Overflows a r) events = refl
waits_more (Refuses a r) events = refl
waits_more (Drops a cause) events = refl
waits_more (Sends r d o) events = zero_more (waits_of (calls events))
waits_more (Resends r d o) events = zero_more (waits_of (calls events))

waits_are : (events : List Event) → waits_in events ≡ waits_of (calls events)
waits_are [] = refl
waits_are (event ∷ events) =
    sum_by-cons waits_by event events ∙ ap (λ (n : ℕ). waits_by event + n) (waits_are events) ∙ waits_more event events

pub open_routes_begin_alike : OpenRoutesBeginAlike
open_routes_begin_alike t u r s s' ran ran' calls_are at at' open_always open_there none none' =
    let here : beginnings r t.events ≡ plains (waits_in t.events) =
    are_plain t.class t.schedules r s at open_always (at_first t.names) t.events ran.follow ran.over none in
    let there : beginnings r u.events ≡ plains (waits_in u.events) =
    are_plain u.class u.schedules r s' at' open_there (at_first u.names) u.events ran'.follow ran'.over none' in
    let waits : waits_in t.events ≡ waits_in u.events = waits_are t.events ∙ ap waits_of calls_are ∙ sym (waits_are u.events) in (
      here ∙ ap plains waits ∙ sym there,
      ap is_closed_in here ∙ none_closes (waits_in t.events),
    )
