-- Rounds while routes are added and removed.
use Rattle.std.proofs.Common.{◌≡◌, ◌∙◌, inl, refl, sym, ap, subst, ℕ, suc, ◌+◌, ◌*◌, Bool, true, false, List, [], ◌∷◌, ◌++◌, length, map}
use Rattle.std.proofs.Common.{append_assoc, append-nil, arith}
use Rattle.std.proofs.lemmas.List.{map-append, length-append, length-map}
use Rattle.srt_types.specs.declared.shared.Schedule.{Schedule}
use Rattle.srt_cookie.specs.declared.secret.Secret.{Secret}
use Rattle.srt_lobby.specs.Names.{RouteName, as_shown}
use Rattle.srt_poller.specs.declared.ends.Ends.{Ends}
use Rattle.srt_poller.specs.declared.poller.Poller.{Poller}
use Rattle.srt_poller.specs.Devices.{Heard, Carried, joined}
use Rattle.srt_poller.specs.Schedules.{opened_if}
use Rattle.srt_poller.specs.History.{Phase, IsOver}
use Rattle.srt_poller.specs.Rounds.{World, Went}
use Rattle.srt_poller.specs.Pollers.{sorting, lobby_setting, world_of, round_state, begun_phase, Rounds}
use Rattle.srt_poller.specs.Beginnings.{all_shown, RestBetween}
use Rattle.srt_poller.specs.Openings.{NewRoute, ReportedRoute, reported_route, names_in, ends_in, RouteReports, route_reports_more}
use Rattle.srt_poller.specs.Plans.{texts_of, AreTimely, ArePlans}
use Rattle.srt_poller.specs.Changes.{TookChanges, BeganAfter, RoundWent, RoundsChanging}
use Rattle.srt_poller.proofs.Beforehand.{lobby_ignores_later}
use Rattle.srt_poller.proofs.Joined.{joined_none, joined_twice}
use Rattle.srt_poller.proofs.Additions.{began_after, started_texts}
use Rattle.srt_poller.proofs.ShownInRound.{as_many}
use Rattle.srt_poller.proofs.Extending.{rounds_extended}
use Rattle.srt_poller.proofs.Endings.{rounds_next}
use Rattle.srt_poller.specs.Starts.{RoundStart, round_start}
use Rattle.srt_poller.specs.Told.{Observer}
use Rattle.srt_poller.proofs.Starting.{texts_as, starts_more, grow_more}
use Rattle.srt_poller.proofs.Replanning.{plans_as, plans_at_first}
use Rattle.srt_poller.proofs.Steps.{went_none}

-- This many rounds were made, which started so, after these routes were added and these were requested to close, as if that had been known in advance
pub record Made (goes closes : Type 0) (secret : Secret) (observer : Observer) (first made : ℕ) (plans plans' : List Schedule)
    (reported reported' : RouteReports) (names names' : List RouteName) (ends : List Ends) (old : List RouteName → List Ends → Phase → World)
    (new : Phase → World) (added : List NewRoute) (requested : List ℕ) (starts : List RoundStart) : Type 0 where
  pub reports : reported' ≡ route_reports_more reported added requested
  pub planned : ArePlans (first + made) (λ r. ⊥) starts plans (texts_of (names ++ names_in added)) requested plans'
  pub went : Rounds goes closes (lobby_setting secret observer) plans' starts made (length ends + length added)
      (old (names ++ names_in added) (ends ++ ends_in added)) new
  pub texts : all_shown names' ≡ all_shown (names ++ names_in added)

abbrev pub AreMade : (goes closes : Type 0) (secret : Secret) (observer : Observer) (first made : ℕ) (plans plans' : List Schedule) →
    (reported reported' : RouteReports) → (names names' : List RouteName) (ends : List Ends) →
    (old : List RouteName → List Ends → Phase → World) → (new : Phase → World) → Type 0
AreMade goes closes secret observer first made plans plans' reported reported' names names' ends old new =
    (added : List NewRoute) × (requested : List ℕ) × (starts : List RoundStart)
    × Made goes closes secret observer first made plans plans' reported reported' names names' ends old new added requested starts

pub all_names : (names : List RouteName) (added more : List NewRoute) → (names ++ names_in added) ++ names_in more ≡ names ++ names_in (added ++ more)
all_names names added more =
    append_assoc names (names_in added) (names_in more)
    ∙ ap (λ (l : List RouteName). names ++ l) (sym (map-append (λ (n : NewRoute). n.name) added more))

pub all_ends : (ends : List Ends) (added more : List NewRoute) → (ends ++ ends_in added) ++ ends_in more ≡ ends ++ ends_in (added ++ more)
all_ends ends added more =
    append_assoc ends (ends_in added) (ends_in more) ∙ ap (λ (l : List Ends). ends ++ l) (sym (map-append (λ (n : NewRoute). n.ends) added more))

pub reports_twice : (reported : RouteReports) (added more : List NewRoute) (requested others : List ℕ) →
    route_reports_more (route_reports_more reported added requested) more others ≡ route_reports_more reported (added ++ more) (requested ++ others)
reports_twice reported added more requested others =
    λ i. record {
      added = (joined_twice reported.added (map reported_route added) (map reported_route more)
          ∙ ap (λ (l : List ReportedRoute). joined reported.added l) (sym (map-append reported_route added more))) i;
      requested = joined_twice reported.requested requested others i;
    }

-- no round yet
pub made_none : {goes closes : Type 0} (secret : Secret) (observer : Observer) (first : ℕ) (plans : List Schedule) (reported : RouteReports)
    (names : List RouteName) (ends : List Ends)
    (old : List RouteName → List Ends → Phase → World) → length plans ≡ length names → AreTimely plans →
    AreMade goes closes secret observer first 0 plans plans reported reported names names ends old (old names ends)
made_none secret observer first plans reported names ends old known timely = (
  [],
  [],
  [],
  record {
    reports = λ i. record { added = sym (joined_none reported.added) i; requested = sym (joined_none reported.requested) i };
    planned = subst (λ (l : List RouteName). ArePlans (first + 0) (λ r. ⊥) [] plans (texts_of l) [] plans) (sym (append-nil names))
        (plans_at_first (first + 0) plans (texts_of names) (known ∙ sym (length-map names (λ (n : RouteName). n.text))) timely);
    went = rw (append-nil names, append-nil ends) (λ phase over. (phase, over, 0, inl refl, inl refl, went_none _ _ _ _));
    texts = ap all_shown (sym (append-nil names));
  },
)

module _ {goes closes : Type 0} (secret : Secret) (observer : Observer) (first made latest latest' : ℕ) (plans plans' plans'' : List Schedule)
    (reported reported' reported'' : RouteReports)
    (names names' names'' : List RouteName) (ends ends' ends'' : List Ends) (source source' : Heard) (wire wire' : Carried) (p p' : Poller)
    (new : Phase → World) (closes_all : Bool) where
  -- one round more
  pub made_next :
      AreMade goes closes secret observer first made plans plans' reported reported' names names' ends
      (λ ns es phase. world_of source wire es (round_state ns first latest) phase p)
      (λ phase. world_of source' wire' ends' (round_state names' (first + made) latest') phase p') →
      BeganAfter observer closes_all (first + made) latest' reported' reported'' plans' plans'' names' names'' ends' ends'' →
      ((next : Phase) × IsOver next × Went (lobby_setting secret observer) plans'' (258 + 64 * length ends'') 1 1
      (world_of source' wire' ends'' (round_state names'' (first + made) latest') (begun_phase p') p') (new next)) →
      AreTimely plans → length plans' ≡ length names' → length ends ≡ length names →
      (closes_all ≡ false → goes) → (closes_all ≡ true → closes) → observer.counts p'.report →
      AreMade goes closes secret observer first (made + 1) plans plans'' reported reported'' names names'' ends
      (λ ns es phase. world_of source wire es (round_state ns first latest) phase p) new
  made_next sofar begins rest timely known many go close told =
      let setting = lobby_setting secret observer in
      let added = sofar.0 in
      let requested = sofar.1 in
      let starts = sofar.2 in
      let h = sofar.3 in
      let more = begins.0 in
      let others = begins.1 in
      let b = begins.3 in
      let k = first + made in
      let next : suc k ≡ first + (made + 1) = omega arith in
      let was = names ++ names_in added in
      let all = added ++ more in
      let shown : all_shown (names' ++ names_in more) ≡ all_shown (names ++ names_in all) =
      map-append as_shown names' (names_in more) ∙ ap (λ (l : List RouteName). l ++ all_shown (names_in more)) h.texts
      ∙ sym (map-append as_shown was (names_in more)) ∙ ap all_shown (all_names names added more) in
      let counts : length (names ++ names_in all) ≡ length names + length all =
      length-append names (names_in all) ∙ ap (λ n. length names + n) (length-map all (λ (n : NewRoute). n.name)) in
      let routes : length ends'' ≡ length ends + length all =
      b.all_ends ∙ as_many names'' (names ++ names_in all) (b.texts ∙ shown) ∙ counts ∙ ap (λ n. n + length all) (sym many) in
      let longer = starts_more (names_in more) starts in
      let start = round_start k closes_all (opened_if closes_all k plans'' (names' ++ names_in more)) in
      let grown : ArePlans k (λ r. ⊥) longer plans (texts_of was) requested plans' =
      plans_as k (λ r. ⊥) (λ r. ⊥) starts longer plans (texts_of was) requested plans' (λ r within w. w) (grow_more (names_in more) starts) h.planned in
      let replanned : ArePlans (suc k) (λ r. ⊥) (longer ++ start ∷ []) plans (texts_of (names ++ names_in all)) (requested ++ others) plans'' =
      subst (λ (l : List (List ℕ)). ArePlans (suc k) (λ r. ⊥) (longer ++ start ∷ []) plans l (requested ++ others) plans'')
      (texts_as (names' ++ names_in more) (names ++ names_in all) shown)
      (b.planned longer plans requested timely
      (subst (λ (l : List (List ℕ)). ArePlans k (λ r. ⊥) longer plans l requested plans') (sym (texts_as names' was h.texts)) grown)) in
      let extends : Rounds goes closes setting plans'' longer made (length ends + length all)
      (λ phase. world_of source wire (ends ++ ends_in all) (round_state (names ++ names_in all) first latest) phase p)
      (λ phase. world_of source' wire' (ends' ++ ends_in more) (round_state (names' ++ names_in more) k latest') phase p') =
      rw (sym (all_names names added more), sym (all_ends ends added more))
      (rounds_extended setting k plans' plans'' (names_in more) (ends_in more) b.agree
      (lobby_ignores_later secret k plans' plans'' (names_in more) b.agree) starts made (length ends + length added) (length ends + length all)
      (λ phase. world_of source wire (ends ++ ends_in added) (round_state was first latest) phase p)
      (λ phase. world_of source' wire' ends' (round_state names' k latest') phase p')
      (λ phase. known ∙ as_many names' was h.texts) (λ phase. refl) (λ phase. omega arith) (omega (arith, length-append added more)) h.went) in (
        all,
        requested ++ others,
        longer ++ start ∷ [],
        record {
          reports = begins.2 ∙ ap (λ (n : RouteReports). route_reports_more n more others) h.reports ∙ reports_twice reported added more requested others;
          planned = subst (λ (n : ℕ). ArePlans n (λ r. ⊥) (longer ++ start ∷ []) plans (texts_of (names ++ names_in all)) (requested ++ others) plans'')
              next replanned;
          went = rounds_next setting plans'' longer start made (length ends + length all) (length ends'') closes_all
              (λ phase. world_of source wire (ends ++ ends_in all) (round_state (names ++ names_in all) first latest) phase p)
              (λ phase. world_of source' wire' (ends' ++ ends_in more) (round_state (names' ++ names_in more) k latest') phase p') new
              (world_of source' wire' ends'' (round_state names'' k latest') (begun_phase p') p') extends
              (λ phase over. b.began (sorting secret) source' wire' p' phase over told) rest routes go close;
          texts = b.texts ∙ shown;
        },
      )

module _ {goes closes : Type 0} (secret : Secret) (observer : Observer) (first made due latest latest' latest'' : ℕ)
    (plans plans' between plans'' : List Schedule) (reported reported' reported'' : RouteReports)
    (names names' these names'' : List RouteName) (ends ends' those ends'' : List Ends) (source source' source'' : Heard) (wire wire' wire'' : Carried)
    (p p' p'' : Poller) (closes_all : Bool) where
  -- one round more, after its changes
  pub made_round :
      AreMade goes closes secret observer first made plans plans' reported reported' names names' ends
      (λ ns es phase. world_of source wire es (round_state ns first latest) phase p)
      (λ phase. world_of source' wire' ends' (round_state names' (first + made) latest') phase p') →
      TookChanges (first + made) reported' reported'' plans' between names' these ends' those →
      RestBetween (first + made) due between these →
      RoundWent (lobby_setting secret observer) closes_all (first + made) due between plans'' these names'' those (begun_phase p')
      (λ es t phase. world_of source' wire' es t phase p') (λ t phase. world_of source'' wire'' ends'' t phase p'') latest' latest'' →
      AreTimely plans → length plans' ≡ length names' → length ends ≡ length names →
      (closes_all ≡ false → goes) → (closes_all ≡ true → closes) → observer.counts p'.report →
      AreMade goes closes secret observer first (made + 1) plans plans'' reported reported'' names names'' ends
      (λ ns es phase. world_of source wire es (round_state ns first latest) phase p)
      (λ phase. world_of source'' wire'' ends'' (round_state names'' (first + (made + 1)) latest'') phase p'')
      × (length plans'' ≡ length names'') × (length those ≡ length names'')
  made_round sofar took rests went timely known many go close told =
      let k = first + made in
      let next : suc k ≡ first + (made + 1) = omega arith in
      let begins = began_after observer closes_all k due latest' reported' reported'' plans' between plans'' names' these names'' ends' those went.0 took
      (λ early. rests k (omega arith) early) went.1 in
      let rest : (last : Phase) × IsOver last × Went (lobby_setting secret observer) plans'' (258 + 64 * length went.0) 1 1
      (world_of source' wire' went.0 (round_state names'' k latest') (begun_phase p') p')
      (world_of source'' wire'' ends'' (round_state names'' (first + (made + 1)) latest'') last p'') =
      subst (λ (n : ℕ). (last : Phase) × IsOver last × Went (lobby_setting secret observer) plans'' (258 + 64 * length went.0) 1 1
      (world_of source' wire' went.0 (round_state names'' k latest') (begun_phase p') p')
      (world_of source'' wire'' ends'' (round_state names'' n latest'') last p'')) next (went.2 plans'' k) in (
        made_next secret observer first made latest latest' plans plans' plans'' reported reported' reported'' names names' names'' ends ends' went.0 source
            source' wire wire' p p' (λ phase. world_of source'' wire'' ends'' (round_state names'' (first + (made + 1)) latest'') phase p'') closes_all
            sofar begins rest timely known many go close told,
        begins.3.known,
        took.3.all_ends ∙ sym (as_many names'' these (started_texts closes_all k due latest' between plans'' these names'' those went.0 went.1)),
      )

-- what is reported of them
pub made_rounds : {goes closes : Type 0} {secret : Secret} {observer : Observer} {first made : ℕ} {plans plans' : List Schedule}
    {reported reported' : RouteReports} {names names' : List RouteName} {ends : List Ends}
    {old : List RouteName → List Ends → Phase → World} {new : Phase → World} →
    AreMade goes closes secret observer first made plans plans' reported reported' names names' ends old new →
    RoundsChanging goes closes (lobby_setting secret observer) first made plans reported reported' names ends old new
made_rounds {goes} {closes} {secret} {observer} {first} {made} {plans} {plans'} {reported} {reported'} {names} {names'} {ends} {old} {new} m =
    let h = m.3 in (
      m.0,
      m.1,
      plans',
      m.2,
      record { reports = h.reports; planned = h.planned; went = h.went },
    )
