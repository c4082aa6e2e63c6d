-- Routes added after the poller's last round: it did what it does if they had been there, hidden, from the beginning on.
use Rattle.std.proofs.Common.{◌≡◌, ◌⊎◌, inl, inr, sym, ap, subst, ◌∙◌, ℕ, ◌+◌, ◌*◌, ◌^◌, ◌≤◌, false}
use Rattle.std.proofs.Common.{List, [], ◌∷◌, ◌++◌, length, map, append-nil, arith}
use Rattle.std.proofs.Math.Nat.{mul-le-mul_left}
use Rattle.std.proofs.lemmas.List.{map-append, length-append, length-map}
use Rattle.std.proofs.lemmas.List.Sums.{sum_by-cons}
use Rattle.srt_cookie.specs.declared.secret.Secret.{Secret}
use Rattle.srt_types.specs.declared.shared.Schedule.{Schedule}
use Rattle.srt_lobby.specs.Names.{RouteName}
use Rattle.srt_lobby.specs.Changing.{AreHidden}
use Rattle.srt_poller.specs.declared.ends.Ends.{Ends}
use Rattle.srt_poller.specs.Beforehand.{AgreeBefore}
use Rattle.srt_poller.specs.Changes.{PumpedChanging, with_routes}
use Rattle.srt_poller.specs.Devices.{joined}
use Rattle.srt_poller.specs.History.{Event, Begins, Waits, WaitFails, ReadsNothing, ReadFails, Answers, Accepts, Overflows, Refuses, Drops}
use Rattle.srt_poller.specs.History.{Sends, Resends, State, IsOver, at_first, round_by, state_by, state_after, waits_by, waits_in}
use Rattle.srt_poller.specs.Openings.{NewRoute, reported_route, names_in, ends_in, RouteReports, route_reports_more}
use Rattle.srt_poller.specs.Plans.{never, texts_of, ArePlans, waiting}
use Rattle.srt_poller.specs.Pollers.{sorting}
use Rattle.srt_poller.specs.Pumped.{Before, After, PumpedUnder, after}
use Rattle.srt_poller.specs.Starts.{RoundStart, starts_in}
use Rattle.srt_poller.proofs.Starting.{starts_more, grow_none}
use Rattle.srt_poller.proofs.Beforehand.{earlier_rounds_are_same, earlier_starts_are_same, lobby_ignores_later}
use Rattle.srt_poller.proofs.Additions.{hidden_more, nothing_more}
use Rattle.srt_poller.proofs.Extending.{are_later_more}
use Rattle.srt_poller.proofs.Joined.{joined_none}
use Rattle.srt_poller.proofs.Remaking.{all_names, all_ends, reports_twice}
use Rattle.srt_poller.proofs.Replanning.{agree_append, wait_later, plans_as, plans_late}
use Rattle.srt_serve.specs.inside.Polled.{Polled, PolledLate, PumpedLate}

-- the number of the round is that of the waits
round_more : (round : ℕ) (event : Event) → round_by round event ≡ round + waits_by event
round_more round (Begins closes_all moment offers) = omega arith
round_more round Waits = omega arith
round_more round WaitFails = omega arith
round_more round ReadsNothing = omega arith
round_more round ReadFails = omega arith
round_more round (Answers arrival bytes sent) = omega arith
round_more round (Accepts arrival route) = omega arith
round_more round (Overflows arrival route) = omega arith
round_more round (Refuses arrival route) = omega arith
round_more round (Drops arrival cause) = omega arith
round_more round (Sends route reply sent) = omega arith
round_more round (Resends route reply sent) = omega arith

round_after : (schedules : List Schedule) (s : State) (events : List Event) → (state_after schedules s events).round ≡ s.round + waits_in events
round_after schedules s [] = omega arith
round_after schedules s (event ∷ events) =
    let rest = round_after schedules (state_by schedules s event) events in
    let one = round_more s.round event in
    let all = sum_by-cons waits_by event events in
    rest ∙ (let same : round_by s.round event + waits_in events ≡ s.round + waits_in (event ∷ events) = omega (arith, one, all) in same)

-- what was reported, and the names and ends of the routes, with further ones after them
reported_with : (reported : RouteReports) (added more : List NewRoute) (requested : List ℕ) →
    route_reports_more (route_reports_more reported added requested) more [] ≡ route_reports_more reported (added ++ more) requested
reported_with reported added more requested =
    reports_twice reported added more requested []
    ∙ ap (λ (rs : List ℕ). route_reports_more reported (added ++ more) rs) (append-nil requested)

routes_with : (b : Before) (added more : List NewRoute) → with_routes more (with_routes added b) ≡ with_routes (added ++ more) b
routes_with b added more =
    λ i. record { names = all_names b.names added more i; source = b.source; wire = b.wire; ends = all_ends b.ends added more i }

abbrev with_late : List NewRoute → After → After
with_late more a = after (a.names ++ names_in more) a.source a.wire (a.ends ++ ends_in more) a.report

le_then : {a b c : ℕ} → a ≤ b → b ≤ c → a ≤ c
le_then first second = omega (arith, first, second)

-- what a poller did, and what became of the routes' schedules
abbrev Planned : (closes : Type 0) (secret : Secret) (made : ℕ) (schedules later : List Schedule) (requested : List ℕ) → Before → After → Type 0
Planned closes secret made schedules later requested old new =
    (pumped : PumpedUnder (Unit {0}) closes (sorting secret) later made old new)
    × ArePlans made (λ r. Unit {0}) (starts_in later (at_first old.names) pumped.0) schedules (texts_of old.names) requested later

module _ {closes : Type 0} (secret : Secret) (made : ℕ) (more : List NewRoute) (hidden : AreHidden (names_in more)) where
  -- what a poller did, had these routes been there
  pumped_with : (b : Before) (a : After) (plans : List Schedule) → made ≤ never → length plans ≡ length b.names
      → PumpedUnder (Unit {0}) closes (sorting secret) plans made b a
      → PumpedUnder (Unit {0}) closes (sorting secret) (plans ++ map (λ n. waiting) more) made (with_routes more b) (with_late more a)
  pumped_with b a plans small many pumped =
      let events = pumped.0 in
      let p = pumped.1 in
      let later = plans ++ map (λ n. waiting) more in
      let agree : AgreeBefore made plans later (names_in more) =
      agree_append made plans (map (λ n. waiting) more) (names_in more) (wait_later made small more hidden) in
      let rounds = round_after plans (at_first b.names) events in
      let ignores = lobby_ignores_later secret made plans later (names_in more) agree in
      let same = earlier_rounds_are_same (sorting secret) made plans later (names_in more) agree ignores
      events (at_first b.names) many p.follow p.over (omega (arith, rounds, p.waits)) in
      let fewer : length b.ends ≤ length (b.ends ++ ends_in more) = omega (arith, length-append b.ends (ends_in more)) in (
        events,
        record {
          follow = same.0;
          names = ap (λ (ns : List RouteName). ns ++ names_in more) p.names ∙ sym (ap (λ (s : State). s.names) same.1);
          over = subst IsOver (sym (ap (λ (s : State). s.phase) same.1)) p.over;
          gave = p.gave;
          called = p.called;
          handed = p.handed;
          attempted = p.attempted;
          ends = are_later_more events b.ends a.ends (ends_in more) p.ends;
          origins = p.origins;
          report = p.report;
          sums = λ few. p.sums (omega (arith, few, fewer));
          tallies = λ few. p.tallies (omega (arith, few, fewer));
          some_go = p.some_go;
          some_close = p.some_close;
          waits = p.waits;
          reads = p.reads;
          few =
              let each : 259 + 64 * length b.ends ≤ 259 + 64 * length (b.ends ++ ends_in more) = omega (arith, fewer) in
              le_then p.few (mul-le-mul_left made each);
        },
      )

  -- its rounds started so
  starts_with : (b : Before) (a : After) (plans : List Schedule) → made ≤ never → length plans ≡ length b.names
      → (pumped : PumpedUnder (Unit {0}) closes (sorting secret) plans made b a)
      → starts_in (plans ++ map (λ n. waiting) more) (at_first (b.names ++ names_in more)) pumped.0
      ≡ starts_more (names_in more) (starts_in plans (at_first b.names) pumped.0)
  starts_with b a plans small many pumped =
      let events = pumped.0 in
      let p = pumped.1 in
      let later = plans ++ map (λ n. waiting) more in
      let agree : AgreeBefore made plans later (names_in more) =
      agree_append made plans (map (λ n. waiting) more) (names_in more) (wait_later made small more hidden) in
      let rounds = round_after plans (at_first b.names) events in
      let ignores = lobby_ignores_later secret made plans later (names_in more) agree in
      earlier_starts_are_same (sorting secret) made plans later (names_in more) agree ignores events (at_first b.names) many p.follow p.over
      (omega (arith, rounds, p.waits))

  changed_with : (schedules : List Schedule) (b : Before) (a : After) (reported reported' : RouteReports) → made ≤ never
      → PumpedChanging (Unit {0}) closes (sorting secret) schedules made reported reported' b a
      → PumpedLate closes (sorting secret) schedules made reported (route_reports_more reported' more []) b (with_late more a)
  unfolding pumped_with
  changed_with schedules b a reported reported' small changed =
      let added = changed.0 in
      let requested = changed.1 in
      let plans = changed.2 in
      let by = changed.3 in
      let first = b.names ++ names_in added in
      let later = plans ++ map (λ n. waiting) more in
      let many : length plans ≡ length first = by.planned.as_many ∙ length-map first (λ name. name.text) in
      let others : length (texts_of (names_in more)) ≡ length more = length-map (names_in more) (λ name. name.text) ∙ length-map more (λ n. n.name) in
      let starts = starts_in plans (at_first first) by.pumped.0 in
      let longer = starts_more (names_in more) starts in
      let late : ArePlans made (λ r. length plans ≤ r) longer schedules (texts_of first ++ texts_of (names_in more)) requested later =
      plans_late made starts schedules (texts_of first) (texts_of (names_in more)) requested plans more small others by.planned in
      let may_wait : ArePlans made (λ r. Unit {0}) longer schedules (texts_of first ++ texts_of (names_in more)) requested later =
      plans_as made (λ r. length plans ≤ r) (λ r. Unit {0}) longer longer schedules (texts_of first ++ texts_of (names_in more)) requested later
      (λ r below some. tt) (grow_none longer) late in
      let named : ArePlans made (λ r. Unit {0}) longer schedules (texts_of (first ++ names_in more)) requested later =
      subst (λ (ts : List (List ℕ)). ArePlans made (λ r. Unit {0}) longer schedules ts requested later)
      (sym (map-append (λ name. name.text) first (names_in more))) may_wait in
      let planned : ArePlans made (λ r. Unit {0}) (starts_in later (at_first (first ++ names_in more)) by.pumped.0) schedules
      (texts_of (first ++ names_in more)) requested later =
      subst (λ (l : List RoundStart). ArePlans made (λ r. Unit {0}) l schedules (texts_of (first ++ names_in more)) requested later)
      (sym (starts_with (with_routes added b) a plans small many by.pumped)) named in
      let both : Planned closes secret made schedules later requested (with_routes (added ++ more) b) (with_late more a) =
      subst (λ (old : Before). Planned closes secret made schedules later requested old (with_late more a)) (routes_with b added more)
      (pumped_with (with_routes added b) a plans small many by.pumped, planned) in (
        added ++ more,
        requested,
        later,
        record {
          reports = ap (λ (n : RouteReports). route_reports_more n more []) by.reports ∙ reported_with reported added more requested;
          pumped = both.0;
          planned = both.1;
        },
      )

-- What a poller did, after these routes were taken. They were added only if `watched` is known
module _ (watched closes stops : Type 0) (secret : Secret) (made : ℕ) (more : List NewRoute) (hidden : AreHidden (names_in more)) where
  polled_with : (schedules : List Schedule) (rounds : ℕ) (b : Before) (a : After) (reported reported' : RouteReports) → rounds ≤ 2 ^ 48
      → (more ≡ []) ⊎ watched
      → Polled watched closes stops (sorting secret) schedules rounds made reported reported' b a
      → PolledLate watched closes stops (sorting secret) schedules rounds made reported (route_reports_more reported' more []) b (with_late more a)
  unfolding Polled PolledLate
  polled_with schedules rounds b a reported reported' small may polled =
      let within = polled.1 in
      let early : made ≤ never = omega (arith, small, within) in (
        elim polled.0 [
          | inl none ↦ elim may [
            | inl nothing ↦
                inl (
                  none.0,
                  ap (λ (rs : List NewRoute). route_reports_more reported' rs []) nothing ∙ sym (nothing_more reported') ∙ none.1,
                  subst (λ (new : After). PumpedUnder (Unit {0}) closes (sorting secret) schedules made b new)
                      (λ i. record {
                        names = (sym (append-nil a.names) ∙ ap (λ (rs : List NewRoute). a.names ++ names_in rs) (sym nothing)) i;
                        source = a.source;
                        wire = a.wire;
                        ends = (sym (append-nil a.ends) ∙ ap (λ (rs : List NewRoute). a.ends ++ ends_in rs) (sym nothing)) i;
                        report = a.report;
                      }) none.2,
                )
            | inr known ↦ absurd (none.0 known)
          ]
          | inr some ↦ inr (some.0, changed_with secret made more hidden schedules b a reported reported' early some.1)
        ],
        polled.1,
        polled.2,
      )

pub polled_late : (watched closes stops : Type 0) (secret : Secret) (schedules : List Schedule) (rounds made : ℕ) (b : Before) (a : After) (ends : List Ends)
    (reported reported' reported'' : RouteReports)
    →
    rounds ≤ 2 ^ 48
    → (late : (more : List NewRoute) × ((more ≡ []) ⊎ watched) × AreHidden (names_in more) × (reported'' ≡ route_reports_more reported' more [])
    × (ends ≡ a.ends ++ ends_in more))
    → Polled watched closes stops (sorting secret) schedules rounds made reported reported' b a
    → PolledLate watched closes stops (sorting secret) schedules rounds made reported reported'' b
    (after (a.names ++ names_in late.0) a.source a.wire ends a.report)
polled_late watched closes stops secret schedules rounds made b a ends reported reported' reported'' small late polled =
    subst
    (λ (es : List Ends).
    PolledLate watched closes stops (sorting secret) schedules rounds made reported reported'' b
    (after (a.names ++ names_in late.0) a.source a.wire es a.report))
    (sym late.4)
    (subst
    (λ (reports : RouteReports). PolledLate watched closes stops (sorting secret) schedules rounds made reported reports b (with_late late.0 a)) (sym late.3)
    (polled_with watched closes stops secret made late.0 late.2 schedules rounds b a reported reported' small late.1 polled))

-- these routes were taken so far
abbrev pub TakenLate : (reported reported' : RouteReports) → (ends ends' : List Ends) → Type 0
TakenLate reported reported' ends ends' =
    (more : List NewRoute) × AreHidden (names_in more) × (reported' ≡ route_reports_more reported more []) × (ends' ≡ ends ++ ends_in more)

-- one route more
pub late_more : (reported reported' reported'' : RouteReports) (ends ends' ends'' : List Ends) (n : NewRoute) → n.name.is_shown ≡ false
    → reported''.added ≡ joined reported'.added (reported_route n ∷ []) → reported''.requested ≡ reported'.requested → ends'' ≡ ends' ++ n.ends ∷ []
    → TakenLate reported reported' ends ends' → TakenLate reported reported'' ends ends''
late_more reported reported' reported'' ends ends' ends'' n hidden added requested grew late =
    let more = late.0 in
    let next : reported'' ≡ route_reports_more reported' (n ∷ []) [] =
    λ i. record { added = added i; requested = (requested ∙ sym (joined_none reported'.requested)) i } in (
      more ++ n ∷ [],
      hidden_more more n late.1 hidden,
      next ∙ ap (λ (t : RouteReports). route_reports_more t (n ∷ []) []) late.2 ∙ reported_with reported more (n ∷ []) [],
      grew ∙ ap (λ (es : List Ends). es ++ n.ends ∷ []) late.3 ∙ all_ends ends more (n ∷ []),
    )
