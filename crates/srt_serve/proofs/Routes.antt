-- What was opened, polled, ticked and settled, of one route and of all.
use Rattle.std.proofs.Common.{◌≡◌, ℕ, zero, suc, ◌<◌, ◌≤◌, ◌*◌, ◌+◌, Bool, true, false, cond, Option, None, Some, List, [], ◌∷◌, ◌++◌}
use Rattle.std.proofs.Common.{length, map, slice_index_or, refl, sym, ap, subst, ◌∙◌, append_assoc, arith}
use Rattle.std.proofs.lemmas.List.{map-append, length-map, length-append}
use Rattle.std.proofs.lemmas.Bool.{and_parts}
use Rattle.std.specs.List.{list_all}
use Rattle.srt_types.specs.declared.shared.Schedule.{Schedule}
use Rattle.srt_types.specs.Entries.{is_between, in_limits}
use Rattle.srt_types.specs.Items.{input_of}
use Rattle.srt_types.specs.Terms.{Terms}
use Rattle.srt_types.proofs.Limited.{few_routes}
use Rattle.srt_types.specs.declared.shared.OpenFault.TheVariants.{Names, Limits}
use Rattle.srt_lobby.specs.Names.{RouteName, name_of}
use Rattle.srt_lobby.specs.Opening.{fault_of, are_names, are_in_limits}
use Rattle.srt_route.specs.Route.{solo}
use Rattle.srt_route.specs.Written.{written}
use Rattle.srt_mailbox.specs.declared.accounts.Account.{Account}
use Rattle.srt_mailbox.specs.Cells.{CellIdentity, AreEndsOf}
use Rattle.srt_mailbox.specs.Counts.{counted}
use Rattle.srt_mailbox.specs.Ends.{Producer}
use Rattle.srt_mailbox.specs.Inbox.{applied}
use Rattle.srt_mailbox.specs.Settled.{Settles}
use Rattle.srt_poller.specs.declared.ends.Ends.{Ends}
use Rattle.srt_supervision.specs.declared.report.Report.{Report}
use Rattle.srt_poller.specs.Beginnings.{all_shown}
use Rattle.srt_poller.specs.Devices.{Heard, Carried, joined}
use Rattle.srt_poller.specs.History.{Sorting, Event, handed, of_route, kept_of, kept_after, accepted, drained}
use Rattle.srt_poller.specs.Pumped.{HaveOrigins, PumpedUnder, before, after}
use Rattle.srt_poller.specs.Rounds.{IsLater, AreLater}
use Rattle.srt_serve.specs.Opened.{IsOpened, AreOpened, terms_in, new_clock, new_clocks}
use Rattle.srt_serve.specs.Ran.{RouteRan, RanUnderFrom, recorded_by}
use Rattle.srt_serve.specs.Settled.{AreJoined, AreSettled}
use Rattle.srt_serve.proofs.Callers.{callers_may_call}
use Rattle.srt_serve.proofs.Moments.{HasTicks, HaveTicks}

-- one route

pub route_joined : (r : ℕ) (events : List Event) (moments : List ℕ) (n : CellIdentity) (e e' : Ends) (c : Producer)
    → IsOpened r n e → IsLater (accepted r events) (drained r events) e e' → HasTicks moments (new_clock n) c
    → AreEndsOf n e'.ingress c e'.drain
route_joined r events moments n e e' c opened later ticked = (
  later.inbox ∙ ap (λ p. p.queue) opened.ingress,
  ap (λ p. p.queue) ticked.2,
  later.outbox ∙ ap (λ p. p.queue) opened.drain,
)

pub route_ran : (r : ℕ) (events : List Event) (moments : List ℕ) (a : Account) (n : CellIdentity) (e e' : Ends) (c : Producer)
    → IsOpened r n e → IsLater (accepted r events) (drained r events) e e' → HasTicks moments (new_clock n) c → HaveOrigins events
    → Settles a n e'.ingress c e'.drain
    → RouteRan n.terms r events moments a
route_ran r events moments a n e e' c opened later ticked origins s =
    let through : map written e'.drain.through ≡ drained r events = later.through ∙ ap (λ p. map written p.through ++ drained r events) opened.drain in
    record {
      taken = s.route.inbox.taken;
      left = s.account.left;
      ticks = ticked.0;
      queued = s.account.queued;
      waiting = s.route.waiting;
      polled = ap (map input_of) (sym s.account.polled) ∙ later.offered ∙ ap (λ p. map input_of p.offered ++ accepted r events) opened.ingress;
      ticked = sym s.account.ticked ∙ ap (λ p. p.offered) ticked.2;
      within = ticked.1;
      replied =
          sym (append_assoc (of_route r (handed events)) (kept_of r (kept_after None events)) (map written s.account.queued ++ s.route.waiting))
          ∙ ap (λ ds. ds ++ (map written s.account.queued ++ s.route.waiting)) (origins.route r ∙ sym through)
          ∙ sym (append_assoc (map written e'.drain.through) (map written s.account.queued) s.route.waiting)
          ∙ ap (λ ds. ds ++ s.route.waiting) (sym (map-append written e'.drain.through s.account.queued) ∙ ap (map written) (sym s.account.put))
          ∙ s.replays
          ∙ ap (λ t. solo t s.route.index (applied s.route.inbox.taken)) s.bears.0
          ∙ ap (λ (j : ℕ). solo n.terms j (applied s.route.inbox.taken)) (s.bears.1 ∙ opened.index_is);
      taken_is = s.account.taken_is;
      left_is = s.account.left_is;
      waiting_is = s.account.waiting_is;
      queued_is = s.account.queued_is;
      drained_is = s.account.drained_is ∙ ap counted (sym (length-map e'.drain.through written) ∙ ap length through);
    }

-- all routes

-- an element of a list that has one
some_of : {X : Type 0} (xs : List X) (r : ℕ) → r < length xs → X
some_of [] r h = absurd (omega arith)
some_of (x ∷ xs) r h = x

-- the clock's end of a route among the added ones, which may be more
ticked_at : (ms : List ℕ) (routes more : List CellIdentity) (clocks : List Producer) → HaveTicks ms (new_clocks (routes ++ more)) clocks
    → (r : ℕ) (n : CellIdentity) (c : Producer) → r < length routes
    → HasTicks ms (new_clock (slice_index_or routes r n)) (slice_index_or clocks r c)
ticked_at ms [] more clocks h r n c below = absurd (omega arith)
ticked_at ms (n' ∷ routes) more [] h r n c below = absurd h
ticked_at ms (n' ∷ routes) more (c' ∷ clocks) h zero n c below = h.0
ticked_at ms (n' ∷ routes) more (c' ∷ clocks) h (suc r) n c below = ticked_at ms routes more clocks h.1 r n c (omega arith)

ticked_length : (ms : List ℕ) (was bs : List Producer) → HaveTicks ms was bs → length bs ≡ length was
ticked_length ms [] [] h = refl
ticked_length ms [] (b ∷ bs) h = absurd h
ticked_length ms (a ∷ was) [] h = absurd h
ticked_length ms (a ∷ was) (b ∷ bs) h = omega (arith, ticked_length ms was bs h.1)

-- there are clock's ends for all routes
enough_clocks : (ms : List ℕ) (routes more : List CellIdentity) (clocks : List Producer) → HaveTicks ms (new_clocks (routes ++ more)) clocks
    → length routes ≤ length clocks
enough_clocks ms routes more clocks h =
    omega (
      arith,
      ticked_length ms (new_clocks (routes ++ more)) clocks h,
      length-map (routes ++ more) new_clock,
      length-append routes more,
    )

settled_at : (accounts : List Account) (routes : List CellIdentity) (ends : List Ends) (clocks : List Producer)
    → AreSettled accounts routes ends clocks → (r : ℕ) (a : Account) (n : CellIdentity) (e : Ends) (c : Producer) → r < length routes
    → Settles (slice_index_or accounts r a) (slice_index_or routes r n) (slice_index_or ends r e).ingress
    (slice_index_or clocks r c) (slice_index_or ends r e).drain
settled_at accounts [] ends clocks h r a n e c below = absurd (omega arith)
settled_at [] (n' ∷ routes) ends clocks h r a n e c below = absurd h
settled_at (a' ∷ accounts) (n' ∷ routes) [] clocks h r a n e c below = absurd h
settled_at (a' ∷ accounts) (n' ∷ routes) (e' ∷ ends) [] h r a n e c below = absurd h
settled_at (a' ∷ accounts) (n' ∷ routes) (e' ∷ ends) (c' ∷ clocks) h zero a n e c below = h.0
settled_at (a' ∷ accounts) (n' ∷ routes) (e' ∷ ends) (c' ∷ clocks) h (suc r) a n e c below =
    settled_at accounts routes ends clocks h.1 r a n e c (omega arith)

settled_length : (accounts : List Account) (routes : List CellIdentity) (ends : List Ends) (clocks : List Producer)
    → AreSettled accounts routes ends clocks → length accounts ≡ length routes
settled_length [] [] [] clocks h = refl
settled_length [] [] (e ∷ ends) clocks h = absurd h
settled_length [] (n ∷ routes) ends clocks h = absurd h
settled_length (a ∷ accounts) [] ends clocks h = absurd h
settled_length (a ∷ accounts) (n ∷ routes) [] clocks h = absurd h
settled_length (a ∷ accounts) (n ∷ routes) (e ∷ ends) [] h = absurd h
settled_length (a ∷ accounts) (n ∷ routes) (e ∷ ends) (c ∷ clocks) h = omega (arith, settled_length accounts routes ends clocks h.1)

joined_at : (routes : List CellIdentity) (ends : List Ends) (clocks : List Producer) → length ends ≡ length routes → length routes ≤ length clocks
    → ((r : ℕ) (n : CellIdentity) (e : Ends) (c : Producer) → r < length routes
    → AreEndsOf (slice_index_or routes r n) (slice_index_or ends r e).ingress (slice_index_or clocks r c) (slice_index_or ends r e).drain)
    → AreJoined routes ends clocks
joined_at [] [] clocks m few h = tt
joined_at [] (e ∷ ends) clocks m few h = absurd (omega (arith, m))
joined_at (n ∷ routes) [] clocks m few h = absurd (omega (arith, m))
joined_at (n ∷ routes) (e ∷ ends) [] m few h = absurd (omega (arith, few))
joined_at (n ∷ routes) (e ∷ ends) (c ∷ clocks) m few h = (
  h zero n e c (omega arith),
  joined_at routes ends clocks (omega (arith, m)) (omega (arith, few)) (λ r n' e' c' below. h (suc r) n' e' c' (omega (arith, below))),
)

pub all_joined : (routes more : List CellIdentity) (ends ends' : List Ends) (clocks : List Producer) (events : List Event) (moments : List ℕ)
    → AreOpened routes ends → AreLater events ends ends' → HaveTicks moments (new_clocks (routes ++ more)) clocks
    → AreJoined routes ends' clocks
all_joined routes more ends ends' clocks events moments opened later ticked =
    joined_at routes ends' clocks (later.as_many ∙ opened.as_many) (enough_clocks moments routes more clocks ticked)
    (λ r n e c below.
    route_joined r events moments (slice_index_or routes r n) (slice_index_or ends r e) (slice_index_or ends' r e) (slice_index_or clocks r c)
    (opened.each r n e below) (later.each r e (omega (arith, below, opened.as_many))) (ticked_at moments routes more clocks ticked r n c below))

-- the terms of a route are those of its entry
terms_at : (routes : List CellIdentity) (r : ℕ) (n : CellIdentity) (terms : Terms) → r < length routes
    → (slice_index_or routes r n).terms ≡ slice_index_or (terms_in routes) r terms
terms_at [] r n terms below = absurd (omega arith)
terms_at (n' ∷ routes) zero n terms below = refl
terms_at (n' ∷ routes) (suc r) n terms below = terms_at routes r n terms (omega arith)

limited : (named right : Bool) → cond named (cond right None (Some Limits)) (Some Names) ≡ None → right ≡ true
limited true true h = refl
limited true false h = absurd (let bad : Some Limits ≡ None = h in cc)
limited false right h = absurd (let bad : Some Names ≡ None = h in cc)

-- entries without a fault are few
pub few_entries : (entries : List Terms) → fault_of entries ≡ None → length entries ≤ 511
few_entries entries sound =
    few_routes (length entries)
    (and_parts (is_between 1 511 (length entries)) (list_all in_limits entries) (limited (are_names entries) (are_in_limits entries) sound)).0

-- What a run did, from what its poller and its clock did and from its accounts. `names` are those that it began with
pub all_ran : (goes closes : Type 0) (class : Sorting) (schedules : List Schedule) (entries : List Terms) (rounds : ℕ)
    (names names' : List RouteName) (gave gave' : Heard) (to to' : Carried) (reported_before reported_after : Option (List ℕ))
    (routes more : List CellIdentity) (ends ends' : List Ends) (clocks : List Producer) (moments : List ℕ) (report : Report) (accounts : List Account)
    →
    all_shown names ≡ map name_of entries → terms_in routes ≡ entries → length entries ≤ 511 → AreOpened routes ends
    → PumpedUnder goes closes class schedules rounds (before names gave to ends) (after names' gave' to' ends' report)
    → reported_after ≡ joined reported_before moments → HaveTicks moments (new_clocks (routes ++ more)) clocks → AreSettled accounts routes ends' clocks
    →
    RanUnderFrom names closes class schedules entries rounds (recorded_by gave to reported_before) (recorded_by gave' to' reported_after) report accounts
all_ran goes closes class schedules entries rounds names names' gave gave' to to' reported_before reported_after routes more ends ends' clocks moments
    report accounts named whose small opened pumped input_of ticked settled =
    let p = pumped.1 in
    let places : length routes ≡ length entries = sym (length-map routes (λ n. n.terms)) ∙ ap length whose in
    let many : length ends ≡ length entries = opened.as_many ∙ places in (
      pumped.0,
      moments,
      record {
        follow = p.follow;
        over = p.over;
        gave = p.gave;
        called = p.called;
        handed_are = p.handed;
        attempted = p.attempted;
        moments_are = input_of;
        lobby = p.origins.lobby;
        report_is = p.sums (omega (arith, small, many));
        tallies = p.tallies (omega (arith, small, many));
        waits = p.waits;
        reads = p.reads;
        few = subst (λ (n : ℕ). length pumped.0 ≤ rounds * (259 + 64 * n)) many p.few;
        callers = callers_may_call class schedules entries names pumped.0 named p.follow;
        as_many = settled_length accounts routes ends' clocks settled ∙ places;
        each = λ r terms a below.
            let there : r < length routes = omega (arith, below, places) in
            let n = some_of routes r there in
            let e = some_of ends r (omega (arith, below, many)) in
            let c = some_of clocks r (omega (arith, there, enough_clocks moments routes more clocks ticked)) in
            subst (λ (t : Terms). RouteRan t r pumped.0 moments (slice_index_or accounts r a))
            (terms_at routes r n terms there ∙ ap (λ (ts : List Terms). slice_index_or ts r terms) whose)
            (route_ran r pumped.0 moments (slice_index_or accounts r a) (slice_index_or routes r n) (slice_index_or ends r e)
            (slice_index_or ends' r e) (slice_index_or clocks r c)
            (opened.each r n e there)
            (p.ends.each r e (omega (arith, below, many)))
            (ticked_at moments routes more clocks ticked r n c there)
            p.origins
            (settled_at accounts routes ends' clocks settled r a n e c there));
      },
      p.some_close,
    )

-- the same, of the poller's events
pub all_ran_so : (goes closes : Type 0) (class : Sorting) (schedules : List Schedule) (entries : List Terms) (rounds : ℕ)
    (names names' : List RouteName) (gave gave' : Heard) (to to' : Carried) (reported_before reported_after : Option (List ℕ))
    (routes more : List CellIdentity) (ends ends' : List Ends) (clocks : List Producer) (moments : List ℕ) (report : Report) (accounts : List Account)
    →
    all_shown names ≡ map name_of entries → terms_in routes ≡ entries → length entries ≤ 511 → AreOpened routes ends
    → (pumped : PumpedUnder goes closes class schedules rounds (before names gave to ends) (after names' gave' to' ends' report))
    → reported_after ≡ joined reported_before moments → HaveTicks moments (new_clocks (routes ++ more)) clocks → AreSettled accounts routes ends' clocks
    →
    (ran : RanUnderFrom names closes class schedules entries rounds (recorded_by gave to reported_before) (recorded_by gave' to' reported_after) report
    accounts)
    × (ran.0 ≡ pumped.0)
unfolding all_ran
all_ran_so goes closes class schedules entries rounds names names' gave gave' to to' reported_before reported_after routes more ends ends' clocks moments
    report accounts named whose small opened pumped input_of ticked settled = (
      all_ran goes closes class schedules entries rounds names names' gave gave' to to' reported_before reported_after routes more ends ends' clocks moments
          report accounts named whose small opened pumped input_of ticked settled,
      refl,
    )
