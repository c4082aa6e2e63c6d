-- After some rounds.
use Rattle.std.proofs.Common.{◌≡◌, ◌⊎◌, ◌∙◌, inl, inr, refl, sym, ap, subst, ℕ, ◌+◌, ◌*◌, ◌^◌, ◌≤◌, Bool, true, false, Option, None}
use Rattle.std.proofs.Common.{List, [], ◌∷◌, ◌++◌, length, arith}
use Rattle.std.specs.Prelude.{if◌then◌else◌}
use Rattle.srt_types.specs.declared.shared.Schedule.{Schedule}
use Rattle.srt_lobby.specs.Names.{RouteName}
use Rattle.srt_poller.specs.declared.ends.Ends.{Ends}
use Rattle.srt_poller.specs.declared.poller.Poller.{Poller}
use Rattle.srt_supervision.specs.declared.report.Report.{Report}
use Rattle.srt_poller.specs.Devices.{Heard, Carried}
use Rattle.srt_poller.specs.History.{Sorting, State, Phase, Kept, IsOver, kept_after, at_first}
use Rattle.srt_poller.specs.Reports.{nothing, counted, with_kept, total}
use Rattle.srt_poller.specs.Rounds.{World, WentClosing, Went, world}
use Rattle.srt_poller.specs.Pollers.{kept_in, round_state, world_of, Rounds}
use Rattle.srt_poller.specs.Starts.{RoundStart, starts_in}
use Rattle.srt_poller.specs.Openings.{NewRoute, names_in, RouteReports, route_reports_more}
use Rattle.srt_poller.specs.Plans.{texts_of, ArePlans}
use Rattle.srt_poller.specs.Changes.{with_routes, ToldChanging}
use Rattle.srt_poller.specs.Pumped.{Before, After, PumpedUnder, before, after}
use Rattle.srt_poller.specs.Told.{Observer, Setting, AreTold}
use Rattle.srt_poller.proofs.Steps.{went_then, went_more, went_as, rounds_more}
use Rattle.srt_poller.proofs.Sums.{all_summed}
use Rattle.srt_poller.proofs.Tallies.{tallied}
use Rattle.srt_poller.proofs.Origins.{have_origins, kept_is}

pub ended : {goes closes : Type 0} (setting : Setting) (schedules : List Schedule) (names names' : List RouteName) (source source' : Heard)
    (wire wire' : Carried) (ends ends' : List Ends) (latest : ℕ) (phase : Phase) (p : Poller) (made closing : ℕ) (starts : List RoundStart) (report : Report)
    →
    made ≤ 2 ^ 48 → IsOver phase → (closing ≡ made) ⊎ goes → (closing ≡ 0) ⊎ closes →
    WentClosing setting schedules closing starts (made * (259 + 64 * length ends)) made made (world source wire ends (at_first names) nothing)
    (world_of source' wire' ends' (round_state names' made latest) phase p)
    →
    report ≡ with_kept p.report (kept_in p)
    → PumpedUnder goes closes setting.class schedules made (before names source wire ends) (after names' source' wire' ends' report)
ended {goes} {closes} setting schedules names names' source source' wire wire' ends ends' latest phase p made closing starts report small over go close
    went is =
    let events = went.0 in
    let h = went.1 in
    let first : State = at_first names in
    let kept : kept_in p ≡ kept_after None events = ap (λ (s : State). s.kept) h.state ∙ kept_is schedules first events in
    let report_is : report ≡ with_kept (counted nothing events) (kept_after None events) =
    is ∙ ap (λ (n : Report). with_kept n (kept_in p)) h.report ∙ ap (λ (k : Option Kept). with_kept (counted nothing events) k) kept in
    let sums : length ends ≤ 511 → report ≡ total events (kept_after None events) =
    λ routes. report_is ∙ all_summed events (kept_after None events) made (length ends) small h.few routes in (
      events,
      record {
        follow = h.follow;
        names = ap (λ (s : State). s.names) h.state;
        over = subst IsOver (ap (λ (s : State). s.phase) h.state) over;
        gave = h.gave;
        called = h.called;
        handed = h.handed;
        attempted = h.attempted;
        ends = h.ends;
        origins = have_origins setting.class schedules names events h.follow;
        report = report_is;
        sums = sums;
        tallies = λ routes. tallied events report (sums routes);
        some_go = subst (λ (n : ℕ). (n ≡ made) ⊎ goes) (sym h.closed) go;
        some_close = subst (λ (n : ℕ). (n ≡ 0) ⊎ closes) (sym h.closed) close;
        waits = h.waited;
        reads = let a = h.was_read in omega arith;
        few = h.few;
      },
    )

-- the same, its rounds started so, and its observer was told of each event
pub ended_so : {goes closes : Type 0} (setting : Setting) (schedules : List Schedule) (names names' : List RouteName) (source source' : Heard)
    (wire wire' : Carried) (ends ends' : List Ends) (latest : ℕ) (phase : Phase) (p : Poller) (made closing : ℕ) (starts : List RoundStart) (report : Report)
    →
    made ≤ 2 ^ 48 → IsOver phase → (closing ≡ made) ⊎ goes → (closing ≡ 0) ⊎ closes →
    WentClosing setting schedules closing starts (made * (259 + 64 * length ends)) made made (world source wire ends (at_first names) nothing)
    (world_of source' wire' ends' (round_state names' made latest) phase p)
    →
    report ≡ with_kept p.report (kept_in p)
    → (pumped : PumpedUnder goes closes setting.class schedules made (before names source wire ends) (after names' source' wire' ends' report))
    × (starts_in schedules (at_first names) pumped.0 ≡ starts) × AreTold setting.class setting.observer nothing pumped.0
unfolding ended
ended_so setting schedules names names' source source' wire wire' ends ends' latest phase p made closing starts report small over go close went is = (
  ended setting schedules names names' source source' wire wire' ends ends' latest phase p made closing starts report small over go close went is,
  went.1.started,
  went.1.told,
)

-- what it did while routes were added and removed, and what its observer was told
pub told_so : {goes closes : Type 0} {class : Sorting} {schedules : List Schedule} {rounds : ℕ} {reported reported' : RouteReports}
    {old : Before} {new : After} (observer : Observer) (added : List NewRoute) (requested : List ℕ) (later : List Schedule) (starts : List RoundStart)
    → reported' ≡ route_reports_more reported added requested
    → ArePlans rounds (λ r. ⊥) starts schedules (texts_of (old.names ++ names_in added)) requested later
    → ((pumped : PumpedUnder goes closes class later rounds (with_routes added old) new)
    × (starts_in later (at_first (old.names ++ names_in added)) pumped.0 ≡ starts) × AreTold class observer nothing pumped.0)
    → ToldChanging goes closes class observer schedules rounds reported reported' old new
told_so {schedules = schedules} {rounds = rounds} {old = old} observer added requested later starts reports planned pumped = (
  (
    added,
    requested,
    later,
    record {
      reports = reports;
      pumped = pumped.0;
      planned =
          subst (λ (l : List RoundStart). ArePlans rounds (λ r. ⊥) l schedules (texts_of (old.names ++ names_in added)) requested later) (sym pumped.1) planned;
    },
  ),
  pumped.2,
)

-- the number of rounds under another name
pub as_reported : {goes closes : Type 0} {class : Sorting} {schedules : List Schedule} {made reported : ℕ} {x : Before} {y : After}
    → made ≡ reported → PumpedUnder goes closes class schedules made x y → PumpedUnder goes closes class schedules reported x y
as_reported {goes} {closes} {class} {schedules} {made} {reported} {x} {y} same h = subst (λ (n : ℕ). PumpedUnder goes closes class schedules n x y) same h

-- one round more, which closes all or doesn't
pub go_more : {goes : Type 0} (closing made : ℕ) (closes_all : Bool)
    → (closing ≡ made) ⊎ goes → (closes_all ≡ false → goes) → (closing + (if closes_all then 1 else 0) ≡ made + 1) ⊎ goes
go_more closing made true (inl e) g = inl (ap (λ n. n + 1) e)
go_more closing made true (inr x) g = inr x
go_more closing made false h g = inr (g refl)

pub close_more : {closes : Type 0} (closing : ℕ) (closes_all : Bool)
    → (closing ≡ 0) ⊎ closes → (closes_all ≡ true → closes) → (closing + (if closes_all then 1 else 0) ≡ 0) ⊎ closes
close_more closing true h g = inr (g refl)
close_more closing false (inl e) g = inl (omega (arith, e))
close_more closing false (inr x) g = inr x

-- one round more, which began and was made to its end
pub rounds_next : {goes closes : Type 0} (setting : Setting) (schedules : List Schedule) (starts : List RoundStart) (start : RoundStart) (made routes many : ℕ)
    (closes_all : Bool) (old now new : Phase → World) (begun : World)
    → Rounds goes closes setting schedules starts made routes old now
    → ((phase : Phase) → IsOver phase → WentClosing setting schedules (if closes_all then 1 else 0) (start ∷ []) 1 0 0 (now phase) begun)
    → (next : Phase) × IsOver next × Went setting schedules (258 + 64 * many) 1 1 begun (new next)
    → many ≡ routes → (closes_all ≡ false → goes) → (closes_all ≡ true → closes)
    → Rounds goes closes setting schedules (starts ++ start ∷ []) (made + 1) routes old new
rounds_next setting schedules starts start made routes many closes_all old now new begun sofar began rest same go close phase over =
    let b = sofar phase over in (
      rest.0,
      rest.1,
      b.2 + (if closes_all then 1 else 0),
      go_more b.2 made closes_all b.3 go,
      close_more b.2 closes_all b.4 close,
      went_more (let fits = rounds_more made routes many same in omega (arith, fits)) (omega arith)
          (went_as (omega arith) (went_then b.5 (went_then (began b.0 b.1) rest.2))),
    )
