-- What openings have recorded, taking by taking.
use Rattle.std.proofs.Common.{◌≡◌, ◌∙◌, ◌⊎◌, inl, inr, refl, sym, ap, subst, true≢false, ℕ, ◌+◌, ◌≤◌, Bool, true, false, Option, List, [], ◌∷◌, length, map}
use Rattle.std.proofs.Common.{arith}
use Rattle.std.proofs.lemmas.List.{length-append}
use Rattle.srt_poller.specs.Devices.{joined}
use Rattle.srt_poller.specs.Openings.{NewRoute, ReportedRoute, reported_route, route_reports}
use Rattle.srt_poller.specs.Takings.{Taking, Recorded, recorded, OpeningsFacts, KnownOf, facts_of, added_in, requested_in, answers_in}
use Rattle.srt_poller.specs.Takings.{recorded_after, IsAllTaken, TookAll, TookAllIn}
use Rattle.srt_poller.proofs.Joined.{joined_none, joined_twice}
use Rattle.srt_poller.proofs.Additions.{nothing_more}
use Rattle.srt_poller.proofs.Remaking.{reports_twice}

abbrev pub taking : (has_changes : Bool) → List NewRoute → List ℕ → Taking
taking has_changes added requested = record { has_changes = has_changes; added = added; requested = requested }

-- nothing has changed
pub took_all_quietly : (facts : OpeningsFacts) (routes : ℕ) (old new : Recorded) → new ≡ recorded_after old (taking false [] [] ∷ []) →
    facts.unchanged new → TookAll facts routes routes old new
took_all_quietly facts routes old new records known = (
  taking false [] [],
  record {
    records = records;
    routes = omega arith;
    whole = record { unchanged = λ is. (known, refl, refl); added = λ is. absurd (true≢false (sym is)); requested = λ is. absurd (true≢false (sym is)) };
  },
)

-- there were changes
pub took_all_changes : (facts : OpeningsFacts) (first last : ℕ) (old new : Recorded) (added : List NewRoute) (requested : List ℕ) →
    new ≡ recorded_after old (taking true added requested ∷ []) → last ≡ first + length added →
    facts.no_more new ⊎ (511 ≤ last) → facts.none_to_close new last ⊎ (511 ≤ length requested) → TookAll facts first last old new
took_all_changes facts first last old new added requested records many no_more none_to_close = (
  taking true added requested,
  record {
    records = records;
    routes = many;
    whole = record { unchanged = λ is. absurd (true≢false is); added = λ is. no_more; requested = λ is. none_to_close };
  },
)

-- all changes were taken, after which openings are these
pub took_all_of : {A : Type 0} (last : A) (unchanged no_more : A → Type 0) (none_to_close : A → (routes : ℕ) → Type 0) (records : A → Recorded)
    (before after : ℕ) (old : Recorded) (added : List NewRoute) → after ≡ before + length added → no_more last ⊎ (511 ≤ after) →
    (none_to_close last after × (requested : List ℕ) × (records last ≡ recorded_after old (taking true added requested ∷ [])))
    ⊎ ((requested : List ℕ) × (records last ≡ recorded_after old (taking true added requested ∷ [])) × (511 ≤ length requested)) →
    TookAll (facts_of records unchanged no_more none_to_close) before after old (records last)
took_all_of {A} last unchanged no_more none_to_close records before after old added many none closings = by closings
  where
    no_more_known : no_more last ⊎ (511 ≤ after) → KnownOf records no_more (records last) ⊎ (511 ≤ after)
    no_more_known (inl h) = inl (last, refl, h)
    no_more_known (inr full) = inr full

    by : (none_to_close last after × (requested : List ℕ) × (records last ≡ recorded_after old (taking true added requested ∷ [])))
        ⊎ ((requested : List ℕ) × (records last ≡ recorded_after old (taking true added requested ∷ [])) × (511 ≤ length requested)) →
        TookAll (facts_of records unchanged no_more none_to_close) before after old (records last)
    by (inl h) =
        took_all_changes (facts_of records unchanged no_more none_to_close) before after old (records last) added h.1 h.2 many (no_more_known none)
        (inl (last, refl, h.0))
    by (inr h) =
        took_all_changes (facts_of records unchanged no_more none_to_close) before after old (records last) added h.0 h.1 many (no_more_known none)
        (inr h.2)

-- after one taking
pub recorded_quietly : (answers answers' : Option (List Bool)) (added added' : Option (List ReportedRoute)) (requested requested' : Option (List ℕ)) →
    answers' ≡ joined answers (false ∷ []) → added' ≡ added → requested' ≡ requested →
    recorded answers' (route_reports added' requested')
    ≡ recorded_after (recorded answers (route_reports added requested)) (taking false [] [] ∷ [])
recorded_quietly answers answers' added added' requested requested' answered added_same requested_same =
    λ i. record {
      answers = answered i;
      reports = record { added = (added_same ∙ sym (joined_none added)) i; requested = (requested_same ∙ sym (joined_none requested)) i };
    }

pub recorded_changes : (answers answers' : Option (List Bool)) (added added' : Option (List ReportedRoute)) (requested requested' : Option (List ℕ))
    (more : List NewRoute) (others : List ℕ) →
    answers' ≡ joined answers (true ∷ []) → added' ≡ joined added (map reported_route more) → requested' ≡ joined requested others →
    recorded answers' (route_reports added' requested')
    ≡ recorded_after (recorded answers (route_reports added requested)) (taking true more others ∷ [])
recorded_changes answers answers' added added' requested requested' more others answered added_more requested_more =
    λ i. record { answers = answered i; reports = record { added = added_more i; requested = requested_more i } }

recorded_none : (r : Recorded) → r ≡ recorded_after r []
recorded_none r = λ i. record { answers = sym (joined_none r.answers) i; reports = nothing_more r.reports i }

recorded_twice : (r : Recorded) (takings : List Taking) (t : Taking) → recorded_after (recorded_after r takings) (t ∷ []) ≡ recorded_after r (t ∷ takings)
recorded_twice r takings t =
    λ i. record {
      answers = joined_twice r.answers (answers_in takings) (t.has_changes ∷ []) i;
      reports = reports_twice r.reports (added_in takings) t.added (requested_in takings) t.requested i;
    }

-- no round yet
pub all_taken_none : (facts : OpeningsFacts) (routes : ℕ) (r : Recorded) → TookAllIn facts 0 routes routes r r
all_taken_none facts routes r = ([], record { as_many = refl; records = recorded_none r; routes = omega arith; each = tt })

-- a round more
pub all_taken_next : (facts : OpeningsFacts) (rounds first routes last : ℕ) (old now new : Recorded) →
    TookAllIn facts rounds first routes old now → TookAll facts routes last now new → TookAllIn facts (rounds + 1) first last old new
all_taken_next facts rounds first routes last old now new sofar more =
    let takings = sofar.0 in
    let h = sofar.1 in
    let t = more.0 in
    let m = more.1 in
    let many : last ≡ first + length (added_in (t ∷ takings)) = omega (arith, h.routes, m.routes, length-append (added_in takings) t.added) in
    let records : new ≡ recorded_after old (t ∷ takings) =
    m.records ∙ ap (λ (r : Recorded). recorded_after r (t ∷ [])) h.records ∙ recorded_twice old takings t in (
      t ∷ takings,
      record {
        as_many = omega (arith, h.as_many);
        records = records;
        routes = many;
        each = (
          subst (λ (n : ℕ). IsAllTaken facts n (recorded_after old (t ∷ takings)) t) many
              (subst (λ (r : Recorded). IsAllTaken facts last r t) records m.whole),
          h.each,
        );
      },
    )
