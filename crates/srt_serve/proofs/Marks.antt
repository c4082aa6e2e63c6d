-- Whether a route is visible in each round, by its own schedule and its own closings.
use Rattle.std.proofs.Common.{◌≡◌, ℕ, zero, suc, ◌+◌, ◌==◌, ◌&&◌, ◌||◌, Bool, true, false, not, Some, List, [], ◌∷◌, slice_get, refl, sym, ap, ◌∙◌}
use Rattle.std.proofs.Common.{◌≢◌, ◌⊎◌, inl, inr}
use Rattle.std.specs.Prelude.{if◌then◌else◌}
use Rattle.std.specs.List.{list_any}
use Rattle.std.proofs.lemmas.Bool.{cases_eq, eq-eqb, ne_eqb}
use Rattle.srt_types.specs.declared.shared.Schedule.{Schedule}
use Rattle.srt_lobby.specs.Names.{RouteName, as_shown, shows, is_shown_at}
use Rattle.srt_lobby.specs.Changing.{hidden_at}
use Rattle.srt_lobby.proofs.Changing.{is_hidden, stays}
use Rattle.srt_poller.specs.Beginnings.{all_shown}
use Rattle.srt_poller.specs.Schedules.{CloseOffer, opened, opened_if, hidden_by, closed, begun}
use Rattle.srt_poller.specs.History.{Sorting, Event, Phase, Between, Begun, Reading, Sending, read_on, sent_on, IsOver, IsReading, MaySend}
use Rattle.srt_poller.specs.History.{Begins, Waits, WaitFails, ReadsNothing, ReadFails, Answers, Accepts, Overflows, Refuses, Drops, Sends, Resends}
use Rattle.srt_poller.specs.History.{State, at_first, state_by, Follow}
use Rattle.srt_poller.proofs.ShownInRound.{texts_after}
use Rattle.srt_serve.specs.Unchanged.{marks_from, Beginning, closes_route, beginnings, mark_after, own_marks, MarksAreOwn}
use Rattle.srt_serve.proofs.Sorted.{has_place}

-- the names once those are visible that open in a round
opened_mark : (round : ℕ) (schedules : List Schedule) (names : List RouteName) (r : ℕ) (s : Schedule) (n : RouteName)
    → slice_get schedules r ≡ Some s → slice_get names r ≡ Some n
    → is_shown_at (opened round schedules names) r ≡ (is_shown_at names r || (s.open_round == round))
opened_mark round [] names r s n at named = cc
opened_mark round (x ∷ schedules) [] r s n at named = cc
opened_mark round (x ∷ schedules) (m ∷ names) zero s n at named =
    let same : x ≡ s = cc in
    by (x.open_round == round) m.is_shown ∙ ap (λ (y : Schedule). m.is_shown || (y.open_round == round)) same
  where
    by : (b shown : Bool) → shows (Some (if b then as_shown m else record m { is_shown = shown })) ≡ (shown || b)
    by true true = refl
    by true false = refl
    by false true = refl
    by false false = refl
opened_mark round (x ∷ schedules) (m ∷ names) (suc r) s n at named = opened_mark round schedules names r s n at named

opened_named : (round : ℕ) (schedules : List Schedule) (names : List RouteName) (r : ℕ) (s : Schedule) (n : RouteName) (closes_all : Bool)
    → slice_get schedules r ≡ Some s → slice_get names r ≡ Some n
    → is_shown_at (opened_if closes_all round schedules names) r ≡ (is_shown_at names r || (not closes_all && (s.open_round == round)))
opened_named round schedules names r s n true at named = by (is_shown_at names r)
  where
    by : (b : Bool) → b ≡ (b || false)
    by true = refl
    by false = refl
opened_named round schedules names r s n false at named = opened_mark round schedules names r s n at named

-- the names once those are hidden whose inbox accepted Close
hidden_mark : (o : CloseOffer) (names : List RouteName) (r : ℕ)
    → is_shown_at (hidden_by names o) r ≡ (is_shown_at names r && not (closes_route r o))
hidden_mark o names r = by o.is_accepted (cases_eq o.route r)
  where
    and_true : (b : Bool) → b ≡ (b && true)
    and_true true = refl
    and_true false = refl

    and_false : (b : Bool) → false ≡ (b && false)
    and_false true = refl
    and_false false = refl

    by : (accepted : Bool) → (o.route ≡ r) ⊎ (o.route ≢ r)
        → is_shown_at (if accepted then hidden_at o.route names else names) r ≡ (is_shown_at names r && not (accepted && (o.route == r)))
    by true (inl here) =
        ap (λ (k : ℕ). is_shown_at (hidden_at k names) r) here ∙ is_hidden names r ∙ and_false (is_shown_at names r)
        ∙ ap (λ (b : Bool). is_shown_at names r && not b) (sym (eq-eqb o.route r here))
    by true (inr other) =
        ap shows (stays false names o.route r (λ same. other (sym same))) ∙ and_true (is_shown_at names r)
        ∙ ap (λ (b : Bool). is_shown_at names r && not b) (sym (ne_eqb o.route r other))
    by false either = and_true (is_shown_at names r)

closed_mark : (os : List CloseOffer) (names : List RouteName) (r : ℕ)
    → is_shown_at (closed os names) r ≡ (is_shown_at names r && not (list_any (closes_route r) os))
closed_mark [] names r = by (is_shown_at names r)
  where
    by : (b : Bool) → b ≡ (b && true)
    by true = refl
    by false = refl
closed_mark (o ∷ os) names r =
    closed_mark os (hidden_by names o) r
    ∙ ap (λ (b : Bool). b && not (list_any (closes_route r) os)) (hidden_mark o names r)
    ∙ by (is_shown_at names r) (closes_route r o) (list_any (closes_route r) os)
  where
    by : (shown one rest : Bool) → ((shown && not one) && not rest) ≡ (shown && not (one || rest))
    by true true rest = refl
    by true false rest = refl
    by false one rest = refl

begun_mark : (closes_all : Bool) (round : ℕ) (schedules : List Schedule) (os : List CloseOffer) (names : List RouteName) (r : ℕ) (s : Schedule)
    (n : RouteName)
    → slice_get schedules r ≡ Some s → slice_get names r ≡ Some n
    → is_shown_at (begun closes_all round schedules os names) r
    ≡ mark_after s (is_shown_at names r) round (record { closes_all = closes_all; is_closed = list_any (closes_route r) os })
begun_mark closes_all round schedules os names r s n at named =
    closed_mark os (opened_if closes_all round schedules names) r
    ∙ ap (λ (b : Bool). b && not (list_any (closes_route r) os)) (opened_named round schedules names r s n closes_all at named)

-- the number of the next round to begin
abbrev next_round : Phase → ℕ → ℕ
next_round Between round = round
next_round (Begun owes) round = suc round
next_round (Reading reads) round = round
next_round (Sending route sends) round = round

over_next : (p : Phase) (n : ℕ) → IsOver p → next_round p n ≡ n
over_next Between n h = refl
over_next (Begun owes) n h = absurd h
over_next (Reading reads) n h = absurd h
over_next (Sending route sends) n h = refl

reading_next : (p : Phase) (n : ℕ) → IsReading p → next_round p n ≡ n
reading_next Between n h = absurd h
reading_next (Begun owes) n h = absurd h
reading_next (Reading reads) n h = refl
reading_next (Sending route sends) n h = absurd h

read_on_next : (p : Phase) (n : ℕ) → IsReading p → next_round (read_on p) n ≡ next_round p n
read_on_next Between n h = absurd h
read_on_next (Begun owes) n h = absurd h
read_on_next (Reading reads) n h = by (reads + 1 == 256)
  where
    by : (b : Bool) → next_round (if b then Sending 0 0 else Reading (reads + 1)) n ≡ n
    by true = refl
    by false = refl
read_on_next (Sending route sends) n h = absurd h

sent_next : (p : Phase) (route n : ℕ) → MaySend p route → next_round (sent_on route p) n ≡ next_round p n
sent_next Between route n h = absurd h
sent_next (Begun owes) route n h = absurd h
sent_next (Reading reads) route n h = absurd h
sent_next (Sending last sends) route n h = refl

module _ (class : Sorting) (schedules : List Schedule) (first : List RouteName) (r : ℕ) (name : RouteName) (s : Schedule)
    (named : slice_get first r ≡ Some name) (at : slice_get schedules r ≡ Some s) where
  -- what the marks of all further rounds are
  abbrev AreOwn : State → List Event → Type 0
  AreOwn x events = marks_from r schedules x events ≡ own_marks s (is_shown_at x.names r) (next_round x.phase x.round) (beginnings r events)

  -- an event that begins no round
  no_round : (x next : State) (events : List Event) → next.names ≡ x.names → next_round next.phase next.round ≡ next_round x.phase x.round
      → AreOwn next events
      → marks_from r schedules next events ≡ own_marks s (is_shown_at x.names r) (next_round x.phase x.round) (beginnings r events)
  no_round x next events names round more =
      more
      ∙ ap (λ (ns : List RouteName). own_marks s (is_shown_at ns r) (next_round next.phase next.round) (beginnings r events)) names
      ∙ ap (λ (n : ℕ). own_marks s (is_shown_at x.names r) n (beginnings r events)) round

  are_own : (x : State) (events : List Event) → all_shown x.names ≡ all_shown first → Follow class schedules x events → AreOwn x events
  are_own x [] same follow = refl
  are_own x (Begins closes_all moment offers ∷ events) same follow =
      let next = state_by schedules x (Begins closes_all moment offers) in
      let b : Beginning = record { closes_all = closes_all; is_closed = list_any (closes_route r) offers } in
      let place = has_place x.names first r name same named in
      let mark : is_shown_at next.names r ≡ mark_after s (is_shown_at x.names r) x.round b =
      begun_mark closes_all x.round schedules offers x.names r s place.at_place at place.named in
      ap (λ (ms : List Bool). is_shown_at next.names r ∷ ms)
      (are_own next events (texts_after schedules x (Begins closes_all moment offers ∷ []) ∙ same) follow.1)
      ∙ ap (λ (m : Bool). m ∷ own_marks s m (suc x.round) (beginnings r events)) mark
      ∙ ap (λ (n : ℕ). own_marks s (is_shown_at x.names r) n (b ∷ beginnings r events)) (sym (over_next x.phase x.round follow.0.0))
  are_own x (Waits ∷ events) same follow =
      no_round x (state_by schedules x Waits) events refl (ap (λ (p : Phase). next_round p x.round) (sym follow.0))
      (are_own (state_by schedules x Waits) events same follow.1)
  are_own x (WaitFails ∷ events) same follow =
      no_round x (state_by schedules x WaitFails) events refl (ap (λ (p : Phase). next_round p x.round) (sym follow.0))
      (are_own (state_by schedules x WaitFails) events same follow.1)
  are_own x (ReadsNothing ∷ events) same follow =
      no_round x (state_by schedules x ReadsNothing) events refl (sym (reading_next x.phase x.round follow.0))
      (are_own (state_by schedules x ReadsNothing) events same follow.1)
  are_own x (ReadFails ∷ events) same follow =
      no_round x (state_by schedules x ReadFails) events refl (sym (reading_next x.phase x.round follow.0))
      (are_own (state_by schedules x ReadFails) events same follow.1)
  are_own x (Answers arrival bytes sent ∷ events) same follow =
      no_round x (state_by schedules x (Answers arrival bytes sent)) events refl (read_on_next x.phase x.round follow.0.0)
      (are_own (state_by schedules x (Answers arrival bytes sent)) events same follow.1)
  are_own x (Accepts arrival route ∷ events) same follow =
      no_round x (state_by schedules x (Accepts arrival route)) events refl (read_on_next x.phase x.round follow.0.0)
      (are_own (state_by schedules x (Accepts arrival route)) events same follow.1)
  are_own x (Overflows arrival route ∷ events) same follow =
      no_round x (state_by schedules x (Overflows arrival route)) events refl (read_on_next x.phase x.round follow.0.0)
      (are_own (state_by schedules x (Overflows arrival route)) events same follow.1)
  are_own x (Refuses arrival route ∷ events) same follow =
      no_round x (state_by schedules x (Refuses arrival route)) events refl (read_on_next x.phase x.round follow.0.0)
      (are_own (state_by schedules x (Refuses arrival route)) events same follow.1)
  are_own x (Drops arrival cause ∷ events) same follow =
      no_round x (state_by schedules x (Drops arrival cause)) events refl (read_on_next x.phase x.round follow.0.0)
      (are_own (state_by schedules x (Drops arrival cause)) events same follow.1)
  are_own x (Sends route reply sent ∷ events) same follow =
      no_round x (state_by schedules x (Sends route reply sent)) events refl (sent_next x.phase route x.round follow.0.0)
      (are_own (state_by schedules x (Sends route reply sent)) events same follow.1)
  are_own x (Resends route reply sent ∷ events) same follow =
      no_round x (state_by schedules x (Resends route reply sent)) events refl (ap (λ (p : Phase). next_round p x.round) (sym follow.0.0))
      (are_own (state_by schedules x (Resends route reply sent)) events same follow.1)

pub marks_are_own : MarksAreOwn
marks_are_own t r name s follow is =
    are_own t.class t.schedules t.names r name s is.named is.scheduled (at_first t.names) t.events refl follow
    ∙ ap (λ (b : Bool). own_marks s b 0 (beginnings r t.events)) (ap shows is.named)
