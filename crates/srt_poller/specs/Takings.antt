-- What a poller takes before each of its rounds: all that openings have, unless they answered that nothing has changed.
use Rattle.std.specs.Prelude.{◌≡◌, ◌⊎◌, ℕ, ◌+◌, ◌≤◌, Bool, true, false, Option, List, [], ◌∷◌, ◌++◌, length}
use Rattle.srt_poller.specs.Devices.{joined}
use Rattle.srt_poller.specs.Openings.{NewRoute, RouteReports, route_reports_more}

-- before one round: whether openings answered that there are changes, the routes that were added then, and those that were requested to close
pub record Taking : Type 0 where
  pub has_changes : Bool
  pub added : List NewRoute
  pub requested : List ℕ

-- what openings have recorded: their answers whether there are changes, and their reports
pub record Recorded : Type 0 where
  pub answers : Option (List Bool)
  pub reports : RouteReports

abbrev pub recorded : Option (List Bool) → RouteReports → Recorded
recorded answers reports = record { answers = answers; reports = reports }

-- what is known of openings that have recorded this: that nothing has changed; that they have no more added route; that none of this many routes is to close
-- any more
pub record OpeningsFacts : Type 1 where
  pub unchanged : Recorded → Type 0
  pub no_more : Recorded → Type 0
  pub none_to_close : Recorded → (routes : ℕ) → Type 0

-- of openings that have recorded this, one of which it is known
abbrev pub KnownOf : {A : Type 0} → (records : A → Recorded) → (known : A → Type 0) → Recorded → Type 0
KnownOf {A} records known r = (openings : A) × (records openings ≡ r) × known openings

abbrev pub facts_of : {A : Type 0} → (records : A → Recorded) → (unchanged no_more : A → Type 0) → (none_to_close : A → (routes : ℕ) → Type 0) → OpeningsFacts
facts_of records unchanged no_more none_to_close =
    record {
      unchanged = KnownOf records unchanged;
      no_more = KnownOf records no_more;
      none_to_close = λ r routes. KnownOf records (λ o. none_to_close o routes) r;
    }

-- of routes that never change
abbrev pub no_facts : OpeningsFacts
no_facts = record { unchanged = λ r. Unit {0}; no_more = λ r. Unit {0}; none_to_close = λ r routes. Unit {0} }

-- all answers, all added routes and all requests of some takings, the newest of which is first
abbrev pub answers_in : List Taking → List Bool
answers_in [] = []
answers_in (t ∷ takings) = answers_in takings ++ t.has_changes ∷ []

abbrev pub added_in : List Taking → List NewRoute
added_in [] = []
added_in (t ∷ takings) = added_in takings ++ t.added

abbrev pub requested_in : List Taking → List ℕ
requested_in [] = []
requested_in (t ∷ takings) = requested_in takings ++ t.requested

-- what openings have recorded after these
abbrev pub recorded_after : Recorded → List Taking → Recorded
recorded_after r takings =
    recorded (joined r.answers (answers_in takings)) (route_reports_more r.reports (added_in takings) (requested_in takings))

-- All that openings had was taken, after which they have recorded this and there are so many routes: nothing, if they answered that nothing has changed.
-- Otherwise all added routes, unless there are 511 routes, and all requests to close, unless these were 511
pub record IsAllTaken (facts : OpeningsFacts) (routes : ℕ) (r : Recorded) (t : Taking) : Type 0 where
  pub unchanged : t.has_changes ≡ false → facts.unchanged r × (t.added ≡ []) × (t.requested ≡ [])
  pub added : t.has_changes ≡ true → facts.no_more r ⊎ (511 ≤ routes)
  pub requested : t.has_changes ≡ true → facts.none_to_close r routes ⊎ (511 ≤ length t.requested)

-- the same of each taking, the newest of which is first; before them openings had recorded this, and there were so many routes
abbrev pub AreAllTaken : OpeningsFacts → (routes : ℕ) → Recorded → List Taking → Type 0
AreAllTaken facts routes r [] = Unit {0}
AreAllTaken facts routes r (t ∷ takings) =
    IsAllTaken facts (routes + length (added_in (t ∷ takings))) (recorded_after r (t ∷ takings)) t × AreAllTaken facts routes r takings

-- openings were asked once, and all that they had was taken; there were `first` routes before, and there are `last` afterwards
pub record TookBy (facts : OpeningsFacts) (first last : ℕ) (old new : Recorded) (t : Taking) : Type 0 where
  pub records : new ≡ recorded_after old (t ∷ [])
  pub routes : last ≡ first + length t.added
  pub whole : IsAllTaken facts last new t

abbrev pub TookAll : OpeningsFacts → (first last : ℕ) → (old new : Recorded) → Type 0
TookAll facts first last old new = (t : Taking) × TookBy facts first last old new t

-- the same once before each of so many rounds, by these takings, the newest of which is first
pub record TookEachBy (facts : OpeningsFacts) (rounds first last : ℕ) (old new : Recorded) (takings : List Taking) : Type 0 where
  pub as_many : length takings ≡ rounds
  pub records : new ≡ recorded_after old takings
  pub routes : last ≡ first + length (added_in takings)
  pub each : AreAllTaken facts first old takings

abbrev pub TookAllIn : OpeningsFacts → (rounds first last : ℕ) → (old new : Recorded) → Type 0
TookAllIn facts rounds first last old new = (takings : List Taking) × TookEachBy facts rounds first last old new takings
