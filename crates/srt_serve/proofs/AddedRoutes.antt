-- Routes added while the poller ran: from what was reported of them to what the run did.
use Rattle.std.proofs.Common.{◌≡◌, ◌⊎◌, inl, inr, ℕ, zero, suc, ◌<◌, ◌≤◌, Option, Some, List, [], ◌∷◌, ◌++◌, length, map, take}
use Rattle.std.proofs.Common.{slice_index_or, refl, sym, ap, subst, ◌∙◌, append_assoc, append-nil, arith}
use Rattle.std.proofs.Math.Seq.{take-append_seam}
use Rattle.std.proofs.lemmas.List.{append_cancel_left, map-append, length-append, length-map}
use Rattle.std.proofs.lemmas.Simd.{map-map}
use Rattle.srt_types.specs.declared.shared.Schedule.{Schedule}
use Rattle.srt_types.specs.Terms.{Terms}
use Rattle.srt_lobby.specs.Names.{RouteName, as_shown, as_hidden, name_of}
use Rattle.srt_mailbox.specs.declared.accounts.Account.{Account}
use Rattle.srt_mailbox.specs.Cells.{CellIdentity}
use Rattle.srt_mailbox.specs.Ends.{Producer, Pipe, pipe, Drained, drained}
use Rattle.srt_poller.specs.declared.ends.Ends.{Ends}
use Rattle.srt_supervision.specs.declared.report.Report.{Report}
use Rattle.srt_supervision.specs.Answers.{Answer, AllClose}
use Rattle.srt_supervision.specs.declared.watch.Answers.{Ghosts}
use Rattle.srt_serve.specs.declared.evidence.CloseRequest.{CloseRequest}
use Rattle.srt_serve.specs.inside.Requests.{routes_of}
use Rattle.srt_poller.specs.Beginnings.{all_shown}
use Rattle.srt_poller.specs.Devices.{Heard, Carried, joined}
use Rattle.srt_poller.specs.History.{Sorting, Event, closes_all_in, at_first}
use Rattle.srt_poller.specs.Openings.{NewRoute, ReportedRoute, reported_route, names_in, ends_in, RouteReports, route_reports, route_reports_more}
use Rattle.srt_poller.specs.Plans.{ArePlans, texts_of}
use Rattle.srt_poller.specs.Starts.{starts_in}
use Rattle.srt_poller.specs.Pumped.{PumpedUnder, before, after}
use Rattle.srt_serve.specs.inside.Arrived.{AreIndexed, report_of, marked}
use Rattle.srt_serve.specs.NamesAtStart.{first_names}
use Rattle.srt_serve.specs.Opened.{IsOpened, AreOpened, terms_in, new_clock, new_clocks}
use Rattle.srt_serve.specs.Ran.{RanChanging, WereAdded, WereAnswered, RanUnder, recorded_by, names_before}
use Rattle.srt_serve.specs.Settled.{AreJoined, AreSettled}
use Rattle.srt_serve.specs.inside.Polled.{PolledLate}
use Rattle.srt_serve.proofs.Moments.{HaveTicks}
use Rattle.srt_serve.proofs.NamesAtStart.{texts_at_start}
use Rattle.srt_serve.proofs.Routes.{all_joined, all_ran, all_ran_so}

-- the ends of a route, but for the reply that its end of the outbox has at hand
record Seen : Type 0 where
  ingress : Producer
  outbox : Pipe

abbrev seen : Producer → Drained → Seen
seen ingress d = record { ingress = ingress; outbox = pipe d.queue d.capacity d.through }

abbrev seen_ends : Ends → Seen
seen_ends e = seen e.ingress e.drain

abbrev seen_route : CellIdentity → Seen
seen_route n = record { ingress = new_clock n; outbox = pipe n.outbox n.terms.outbox [] }

abbrev seen_reported : ReportedRoute → Seen
seen_reported t = record { ingress = t.ingress; outbox = t.outbox }

is_seen : (r : ℕ) (n : CellIdentity) (e : Ends) → IsOpened r n e → seen_ends e ≡ seen_route n
is_seen r n e h =
    ap (λ (p : Producer). seen p e.drain) h.ingress
    ∙ ap (λ (d : Drained). seen (new_clock n) d) h.drain

opened_by : (r : ℕ) (n : CellIdentity) (e : Ends) → n.index ≡ r → seen_ends e ≡ seen_route n → IsOpened r n e
opened_by r n e index same = record {
  index_is = index;
  ingress = ap (λ (s : Seen). s.ingress) same;
  drain = ap (λ (s : Seen). drained s.outbox.queue s.outbox.capacity s.outbox.put e.drain.hand) same;
}

all_seen : (routes : List CellIdentity) (ends : List Ends) → length ends ≡ length routes
    → ((r : ℕ) (n : CellIdentity) (e : Ends) → r < length routes → seen_ends (slice_index_or ends r e) ≡ seen_route (slice_index_or routes r n))
    → map seen_ends ends ≡ map seen_route routes
all_seen [] [] m h = refl
all_seen [] (e ∷ ends) m h = absurd (omega (arith, m))
all_seen (n ∷ routes) [] m h = absurd (omega (arith, m))
all_seen (n ∷ routes) (e ∷ ends) m h =
    ap (λ (s : Seen). s ∷ map seen_ends ends) (h zero n e (omega arith))
    ∙ ap (λ (ss : List Seen). seen_route n ∷ ss)
    (all_seen routes ends (omega (arith, m)) (λ r n' e' below. h (suc r) n' e' (omega (arith, below))))

seen_at : (routes : List CellIdentity) (ends : List Ends) → map seen_ends ends ≡ map seen_route routes
    → (r : ℕ) (n : CellIdentity) (e : Ends) → r < length routes → seen_ends (slice_index_or ends r e) ≡ seen_route (slice_index_or routes r n)
seen_at [] ends h r n e below = absurd (omega (arith, below))
seen_at (n' ∷ routes) [] h r n e below = cc
seen_at (n' ∷ routes) (e' ∷ ends) h zero n e below = cc
seen_at (n' ∷ routes) (e' ∷ ends) h (suc r) n e below =
    let tails : map seen_ends ends ≡ map seen_route routes = cc in
    seen_at routes ends tails r n e (omega (arith, below))

-- the ends of the added routes, after those that were there, are those of all routes as they are opened
pub arrived_opened : (routes routes' : List CellIdentity) (ends : List Ends) (newcomers : List NewRoute)
    → AreOpened routes ends → AreIndexed routes' → map report_of routes' ≡ map report_of routes ++ map reported_route newcomers
    → AreOpened routes' (ends ++ ends_in newcomers)
arrived_opened routes routes' ends newcomers opened indexed reported =
    let first : map seen_ends ends ≡ map seen_route routes =
    all_seen routes ends opened.as_many
    (λ r n e below. is_seen r (slice_index_or routes r n) (slice_index_or ends r e) (opened.each r n e below)) in
    let same : map seen_ends (ends ++ ends_in newcomers) ≡ map seen_route routes' =
    map-append seen_ends ends (ends_in newcomers)
    ∙ ap (λ (ss : List Seen). ss ++ map seen_ends (ends_in newcomers)) first
    ∙ ap (λ (ss : List Seen). map seen_route routes ++ ss) (map-map seen_ends (λ (w : NewRoute). w.ends) newcomers)
    ∙ ap (λ (ss : List Seen). ss ++ map (λ (w : NewRoute). seen_reported (reported_route w)) newcomers) (sym (map-map seen_reported report_of routes))
    ∙ ap (λ (ss : List Seen). map seen_reported (map report_of routes) ++ ss) (sym (map-map seen_reported reported_route newcomers))
    ∙ sym (map-append seen_reported (map report_of routes) (map reported_route newcomers))
    ∙ ap (map seen_reported) (sym reported)
    ∙ map-map seen_reported report_of routes' in
    record {
      as_many =
          sym (length-map (ends ++ ends_in newcomers) seen_ends) ∙ ap length same ∙ length-map routes' seen_route;
      each = λ r n e below.
          opened_by r (slice_index_or routes' r n) (slice_index_or (ends ++ ends_in newcomers) r e) (indexed r n below)
          (seen_at routes' (ends ++ ends_in newcomers) same r n e below);
    }

-- the names of the added routes are those of their terms, hidden
pub arrived_names : (routes more : List CellIdentity) (newcomers : List NewRoute)
    → map report_of (routes ++ more) ≡ map report_of routes ++ map reported_route newcomers
    → names_in newcomers ≡ map (λ t. as_hidden (name_of t)) (terms_in more)
arrived_names routes more newcomers reported =
    let given : map report_of routes ++ map report_of more ≡ map report_of routes ++ map reported_route newcomers =
    sym (map-append report_of routes more) ∙ reported in
    let rest : map report_of more ≡ map reported_route newcomers =
    append_cancel_left (map report_of routes) (map report_of more) (map reported_route newcomers) given in
    sym (map-map (λ (t : ReportedRoute). t.name) reported_route newcomers)
    ∙ ap (map (λ (t : ReportedRoute). t.name)) (sym rest)
    ∙ map-map (λ (t : ReportedRoute). t.name) report_of more
    ∙ sym (map-map (λ (t : Terms). as_hidden (name_of t)) (λ (n : CellIdentity). n.terms) more)

-- a name that was hidden is the same once it is visible
hidden_shown : (added : List Terms) → map as_shown (map (λ t. as_hidden (name_of t)) added) ≡ map name_of added
hidden_shown [] = refl
hidden_shown (t ∷ added) = ap (λ (ns : List RouteName). name_of t ∷ ns) (hidden_shown added)

-- the texts of the names, and who may call, are those of the entries and of the added routes
pub texts_before : (schedules : List Schedule) (entries added : List Terms)
    → all_shown (names_before schedules entries added) ≡ map name_of (entries ++ added)
texts_before schedules entries added =
    map-append as_shown (first_names schedules entries) (map (λ t. as_hidden (name_of t)) added)
    ∙ ap (λ (ns : List RouteName). ns ++ map as_shown (map (λ t. as_hidden (name_of t)) added)) (texts_at_start schedules entries)
    ∙ ap (λ (ns : List RouteName). map name_of entries ++ ns) (hidden_shown added)
    ∙ sym (map-append name_of entries added)

-- the names with which a poller began, with those of the added routes after them
pub names_with : (schedules : List Schedule) (entries : List Terms) (names : List RouteName) (routes more : List CellIdentity)
    (newcomers : List NewRoute)
    → names ≡ first_names schedules entries → map report_of (routes ++ more) ≡ map report_of routes ++ map reported_route newcomers
    → names ++ names_in newcomers ≡ names_before schedules entries (terms_in more)
names_with schedules entries names routes more newcomers named reported =
    ap (λ (ns : List RouteName). ns ++ names_in newcomers) named
    ∙ ap (λ (ns : List RouteName). first_names schedules entries ++ ns) (arrived_names routes more newcomers reported)

some_same : {X : Type 0} {a b : X} → Some a ≡ Some b → a ≡ b
some_same h = cc

-- what was reported of routes while rounds were made
reported_more : (routes routes' : List CellIdentity) (requested requested' : List ℕ) (newcomers : List NewRoute) (closed : List ℕ)
    → route_reports (Some (map report_of routes')) (Some requested') ≡ route_reports_more (route_reports (Some (map report_of routes)) (Some requested))
    newcomers closed
    → map report_of routes' ≡ map report_of routes ++ map reported_route newcomers
reported_more routes routes' requested requested' newcomers closed h = some_same (ap (λ (n : RouteReports). n.added) h)

requested_more : (routes routes' : List CellIdentity) (requested requested' : List ℕ) (newcomers : List NewRoute) (closed : List ℕ)
    → route_reports (Some (map report_of routes')) (Some requested') ≡ route_reports_more (route_reports (Some (map report_of routes)) (Some requested))
    newcomers closed
    → requested' ≡ requested ++ closed
requested_more routes routes' requested requested' newcomers closed h = some_same (ap (λ (n : RouteReports). n.requested) h)

-- nothing was reported
reported_none : (routes routes' : List CellIdentity) (requested requested' : List ℕ)
    → route_reports (Some (map report_of routes')) (Some requested') ≡ route_reports (Some (map report_of routes)) (Some requested)
    → map report_of routes' ≡ map report_of routes ++ map reported_route []
reported_none routes routes' requested requested' h =
    some_same (ap (λ (n : RouteReports). n.added) h) ∙ sym (append-nil (map report_of routes))

-- none was added after the first ones
none_behind : (routes routes' later : List CellIdentity) → routes' ≡ routes ++ later → map report_of routes' ≡ map report_of routes → routes' ≡ routes
none_behind routes routes' [] grew same = grew ∙ append-nil routes
none_behind routes routes' (n ∷ later) grew same =
    absurd (omega (
      arith,
      length-map routes report_of,
      length-map routes' report_of,
      ap length same,
      ap length grew,
      length-append routes (n ∷ later),
    ))

first_of : (places places' requested requested' : List ℕ) → length places' ∷ (places' ++ requested') ≡ length places ∷ (places ++ requested) → places' ≡ places
first_of places places' requested requested' h =
    let many : length places' ≡ length places = cc in
    let all : places' ++ requested' ≡ places ++ requested = cc in
    sym (take-append_seam places' requested')
    ∙ ap (λ (n : ℕ). take n (places' ++ requested')) many
    ∙ ap (take (length places)) all
    ∙ take-append_seam places requested

-- the routes that were requested to close, after the names of the places
behind_places : (places places' asked asked' closed : List ℕ) → marked places' asked' ≡ marked places asked ++ closed → asked' ≡ asked ++ closed
behind_places places places' asked asked' closed h =
    let listed : marked places' asked' ≡ marked places (asked ++ closed) =
    h ∙ ap (λ (xs : List ℕ). length places ∷ xs) (append_assoc places asked closed) in
    let same : places' ≡ places = first_of places places' (asked ++ closed) asked' listed in
    let all : places' ++ asked' ≡ places ++ (asked ++ closed) = cc in
    append_cancel_left places asked' (asked ++ closed) (ap (λ (ps : List ℕ). ps ++ asked') (sym same) ∙ all)

-- each request is of a route of which the watcher answered so
module _ {A : Type 0} {g : Ghosts A} where
  pub all_answered : (requests : List (CloseRequest A g)) → WereAnswered g.answered (routes_of requests)
  all_answered [] = tt
  all_answered (q ∷ requests) = (q.known, all_answered requests)

-- what is known of routes is known of the last of them
closed_last : (answered : Answer → Type 0) (asked closed : List ℕ) → WereAnswered answered (asked ++ closed) → WereAnswered answered closed
closed_last answered [] closed h = h
closed_last answered (r ∷ asked) closed h = closed_last answered asked closed h.1

module _ (watched closes stops : Type 0) (class : Sorting) (schedules : List Schedule) (rounds made : ℕ) (names names' : List RouteName) (gave gave' : Heard)
    (to to' : Carried) (ends ends' : List Ends) (report : Report) where
  -- what the poller did while these routes were reported to it, and of those that were requested to close
  abbrev pub PolledWith : (routes routes' : List CellIdentity) → (requested requested' : List ℕ) → Type 0
  PolledWith routes routes' requested requested' =
      PolledLate watched closes stops class schedules rounds made (route_reports (Some (map report_of routes)) (Some requested))
      (route_reports (Some (map report_of routes')) (Some requested'))
      (before names gave to ends) (after names' gave' to' ends' report)

  -- the poller leaves the names of the locks of the places, which stand with their number before those that were requested to close
  pub same_places : (routes routes' : List CellIdentity) (places places' requested requested' : List ℕ)
      → PolledWith routes routes' (length places ∷ (places ++ requested)) (length places' ∷ (places' ++ requested'))
      → places' ≡ places
  unfolding PolledLate
  same_places routes routes' places places' requested requested' polled = elim polled.0 [
    | inl none ↦ first_of places places' requested requested' (some_same (ap (λ (n : RouteReports). n.requested) none.1))
    | inr some ↦
        first_of places places' (requested ++ some.1.1) requested'
        (requested_more routes routes' (length places ∷ (places ++ requested)) (length places' ∷ (places' ++ requested')) some.1.0 some.1.1 some.1.3.reports
        ∙ ap (λ (xs : List ℕ). length places ∷ xs) (append_assoc places requested some.1.1))
  ]

  -- the ends of each route that the poller has are of its queues
  pub changed_joined : (routes routes' more routes'' : List CellIdentity) (requested requested' : List ℕ) (clocks : List Producer) (moments : List ℕ)
      → AreOpened routes ends → AreIndexed routes' → PolledWith routes routes' requested requested'
      → HaveTicks moments (new_clocks routes'') clocks → routes'' ≡ routes' ++ more
      → AreJoined routes' ends' clocks
  unfolding PolledLate
  changed_joined routes routes' more routes'' requested requested' clocks moments opened indexed polled ticked all =
      let clocked : HaveTicks moments (new_clocks (routes' ++ more)) clocks =
      subst (λ (ns : List CellIdentity). HaveTicks moments (new_clocks ns) clocks) all ticked in
      elim polled.0 [
        | inl none ↦
            let still : AreOpened routes' ends =
            subst (λ (es : List Ends). AreOpened routes' es) (append-nil ends)
            (arrived_opened routes routes' ends [] opened indexed (reported_none routes routes' requested requested' none.1)) in
            all_joined routes' more ends ends' clocks none.2.0 moments still none.2.1.ends clocked
        | inr some ↦
            let new = some.1.0 in
            let pumped = some.1.3.pumped in
            all_joined routes' more (ends ++ ends_in new) ends' clocks pumped.0 moments
            (arrived_opened routes routes' ends new opened indexed (reported_more routes routes' requested requested' new some.1.1 some.1.3.reports))
            pumped.1.ends clocked
      ]

  -- What the run did if no route may be added. `later` are the added routes, after the first ones
  pub ran_fixed : (entries : List Terms) (reported reported' : Option (List ℕ)) (accounts : List Account)
      (routes routes' later more routes'' : List CellIdentity)
      (requested requested' : List ℕ) (clocks : List Producer) (moments : List ℕ)
      →
      (watched → ⊥) → length entries ≤ 511 → names ≡ first_names schedules entries → terms_in routes ≡ entries → AreOpened routes ends → AreIndexed routes'
      → routes' ≡ routes ++ later → PolledWith routes routes' requested requested'
      → reported' ≡ joined reported moments → HaveTicks moments (new_clocks routes'') clocks → routes'' ≡ routes' ++ more
      → AreSettled accounts routes' ends' clocks
      →
      RanUnder closes class schedules entries made (recorded_by gave to reported) (recorded_by gave' to' reported') report accounts
  unfolding PolledLate
  ran_fixed entries reported reported' accounts routes routes' later more routes'' requested requested' clocks moments unknown few named whose
      opened indexed grew polled given ticked all settled = elim polled.0 [
        | inl none ↦
            let same : map report_of routes' ≡ map report_of routes ++ map reported_route [] = reported_none routes routes' requested requested' none.1 in
            let still : AreOpened routes' ends =
            subst (λ (es : List Ends). AreOpened routes' es) (append-nil ends) (arrived_opened routes routes' ends [] opened indexed same) in
            let alone : routes' ≡ routes = none_behind routes routes' later grew (same ∙ append-nil (map report_of routes)) in
            let first = first_names schedules entries in
            let pumped : PumpedUnder (Unit {0}) closes class schedules made (before first gave to ends) (after names' gave' to' ends' report) =
            subst (λ (ns : List RouteName). PumpedUnder (Unit {0}) closes class schedules made (before ns gave to ends) (after names' gave' to' ends' report))
            named none.2 in
            all_ran (Unit {0}) closes class schedules entries made first names' gave gave' to to' reported reported' routes' more ends ends' clocks moments
            report accounts (texts_at_start schedules entries) (ap terms_in alone ∙ whose) few still pumped given
            (subst (λ (ns : List CellIdentity). HaveTicks moments (new_clocks ns) clocks) all ticked) settled
        | inr some ↦ absurd (unknown some.0)
      ]

  -- What the run did if routes may come
  pub ran_changing : (entries : List Terms) (reported reported' : Option (List ℕ)) (accounts : List Account)
      (routes routes' later more routes'' : List CellIdentity)
      (places places' asked asked' : List ℕ) (clocks : List Producer) (moments : List ℕ)
      →
      watched → length routes' ≤ 511 → names ≡ first_names schedules entries → terms_in routes ≡ entries → AreOpened routes ends → AreIndexed routes'
      → routes' ≡ routes ++ later → PolledWith routes routes' (marked places asked) (marked places' asked')
      → reported' ≡ joined reported moments → HaveTicks moments (new_clocks routes'') clocks → routes'' ≡ routes' ++ more
      → AreSettled accounts routes' ends' clocks
      → (answered : Answer → Type 0) → WereAdded answered (terms_in later) → WereAnswered answered asked' → (closes → answered AllClose)
      →
      RanChanging answered class schedules entries made (recorded_by gave to reported) (recorded_by gave' to' reported') report accounts
  unfolding PolledLate
  ran_changing entries reported reported' accounts routes routes' later more routes'' places places' asked asked' clocks moments known few named whose
      opened indexed grew polled given ticked all settled answered openings answers all_close = elim polled.0 [
        | inl none ↦ absurd (none.0 known)
        | inr some ↦
            let new = some.1.0 in
            let closed = some.1.1 in
            let plans = some.1.2 in
            let by = some.1.3 in
            let added = terms_in later in
            let first = names_before schedules entries added in
            let same : map report_of routes' ≡ map report_of routes ++ map reported_route new =
            reported_more routes routes' (marked places asked) (marked places' asked') new closed by.reports in
            let with_them : names ++ names_in new ≡ first =
            names_with schedules entries names routes later new named (ap (map report_of) (sym grew) ∙ same) in
            let both : (pumped : PumpedUnder (Unit {0}) closes class plans made (before first gave to (ends ++ ends_in new))
            (after names' gave' to' ends' report))
            × ArePlans made (λ r. Unit {0}) (starts_in plans (at_first first) pumped.0) schedules (texts_of first) closed plans =
            subst
            (λ (ns : List RouteName).
            (pumped : PumpedUnder (Unit {0}) closes class plans made (before ns gave to (ends ++ ends_in new)) (after names' gave' to' ends' report))
            × ArePlans made (λ r. Unit {0}) (starts_in plans (at_first ns) pumped.0) schedules (texts_of ns) closed plans)
            with_them (by.pumped, by.planned) in
            let pumped = both.0 in
            let terms : terms_in routes' ≡ entries ++ added =
            ap terms_in grew ∙ map-append (λ n. n.terms) routes later ∙ ap (λ (ts : List Terms). ts ++ added) whose in
            let small : length (entries ++ added) ≤ 511 =
            omega (arith, few, ap length terms, length-map routes' (λ n. n.terms)) in
            let ran_so = all_ran_so (Unit {0}) closes class plans (entries ++ added) made first names' gave gave' to to' reported reported' routes' more
            (ends ++ ends_in new) ends'
            clocks moments report accounts (texts_before schedules entries added) terms small
            (arrived_opened routes routes' ends new opened indexed same) pumped given
            (subst (λ (ns : List CellIdentity). HaveTicks moments (new_clocks ns) clocks) all ticked) settled in
            let ran = ran_so.0 in
            let planned : ArePlans made (λ r. Unit {0}) (starts_in plans (at_first first) ran.0) schedules (texts_of first) closed plans =
            subst (λ (es : List Event). ArePlans made (λ r. Unit {0}) (starts_in plans (at_first first) es) schedules (texts_of first) closed plans)
            (sym ran_so.1) both.1 in
            let listed : marked places' asked' ≡ marked places asked ++ closed =
            requested_more routes routes' (marked places asked) (marked places' asked') new closed by.reports in
            let requests : WereAnswered answered closed =
            closed_last answered asked closed
            (subst (λ (rs : List ℕ). WereAnswered answered rs) (behind_places places places' asked asked' closed listed) answers) in
            let orders : (closes_all_in ran.0 ≡ 0) ⊎ answered AllClose = elim ran.3 [
              | inl none ↦ inl none
              | inr ordered ↦ inr (all_close ordered)
            ] in
            (added, closed, plans, ran.0, ran.1, planned, ran.2, openings, requests, orders)
      ]
