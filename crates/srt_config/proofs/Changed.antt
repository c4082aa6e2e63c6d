-- What the change of a route means, and that the routes that run after all changes are those of the file.
use Rattle.std.proofs.Common.{◌≡◌, ℕ, zero, suc, ◌+◌, ◌&&◌, Bool, true, false, cond, Option, None, Some, List, [], ◌∷◌, map, length}
use Rattle.std.proofs.Common.{slice_get, refl, sym, ap, ◌∙◌, arith}
use Rattle.std.specs.Str.{bytes_eq}
use Rattle.std.proofs.lemmas.Bool.{and_parts, false≢true}
use Rattle.std.proofs.lemmas.Slice.Eq.{bytes_eq-Decides}
use Rattle.srt_types.specs.declared.shared.Schedule.{Schedule}
use Rattle.srt_types.specs.Terms.{Terms}
use Rattle.srt_config.specs.declared.changes.RouteChange.{RouteChange}
use Rattle.srt_config.specs.declared.changes.RouteChange.TheVariants.{Stays, Reopens, Opens}
use Rattle.srt_config.specs.Config.{Settings}
use Rattle.srt_config.specs.Changes.{place_from, place_of, has_terms, has_schedule, has_keys_at, change_at, change_of, changes_of}
use Rattle.srt_config.specs.ChangeLaws.{IsChange, ChangesAreMeant, running_after, all_running, RunsTheFile}
use Rattle.srt_config.proofs.Sameness.{terms_decide, schedules_decide}

-- a route of this name, at this distance from the first place
record IsFound (first : ℕ) (name : List ℕ) (routes : List Terms) (place : ℕ) : Type 0 where
  at : ℕ
  old : Terms
  there : slice_get routes at ≡ Some old
  placed : at + first ≡ place
  named : bytes_eq name old.name ≡ true

first_found : (first : ℕ) (name : List ℕ) (e : Terms) (routes : List Terms) (place : ℕ) (b : Bool) → bytes_eq name e.name ≡ b →
    (place_from (suc first) name routes ≡ Some place → IsFound (suc first) name routes place) →
    cond b (Some first) (place_from (suc first) name routes) ≡ Some place → IsFound first name (e ∷ routes) place
first_found first name e routes place true named later h =
    let same : first ≡ place = cc in
    let sums : 0 + first ≡ place = omega (arith, same) in
    record { at = 0; old = e; there = refl; placed = sums; named = named }
first_found first name e routes place false named later h =
    let found = later h in
    record {
      at = suc found.at;
      old = found.old;
      there = found.there;
      placed = (let sums : suc found.at + first ≡ place = omega (arith, found.placed) in sums);
      named = found.named;
    }

found_in : (first : ℕ) (name : List ℕ) (routes : List Terms) (place : ℕ) → place_from first name routes ≡ Some place → IsFound first name routes place
found_in first name [] place h = absurd cc
found_in first name (e ∷ routes) place h =
    first_found first name e routes place (bytes_eq name e.name) refl (λ g. found_in (suc first) name routes place g) h

-- no route has this name
first_differs : (name : List ℕ) (e : Terms) (b : Bool) (first : ℕ) (later : Option ℕ) → bytes_eq name e.name ≡ b → cond b (Some first) later ≡ None →
    (bytes_eq name e.name ≡ false) × (later ≡ None)
first_differs name e true first later named h = absurd cc
first_differs name e false first later named h = (named, h)

none_found : (first : ℕ) (name : List ℕ) (routes : List Terms) → place_from first name routes ≡ None → (at : ℕ) (old : Terms) →
    slice_get routes at ≡ Some old → bytes_eq name old.name ≡ false
none_found first name [] h at old there = absurd cc
none_found first name (e ∷ routes) h zero old there =
    let same : e ≡ old = cc in
    ap (λ (t : Terms). bytes_eq name t.name) (sym same)
    ∙ (first_differs name e (bytes_eq name e.name) first (place_from (suc first) name routes) refl h).0
none_found first name (e ∷ routes) h (suc at) old there =
    none_found (suc first) name routes (first_differs name e (bytes_eq name e.name) first (place_from (suc first) name routes) refl h).1 at old there

pub same_route : (terms : Terms) (old : Option Terms) → has_terms terms old ≡ true → old ≡ Some terms
same_route terms None h = absurd (false≢true h)
same_route terms (Some old) h = ap Some ((terms_decide old terms).0 h)

pub same_rounds : (schedule : Schedule) (old : Option Schedule) → has_schedule schedule old ≡ true → old ≡ Some schedule
same_rounds schedule None h = absurd (false≢true h)
same_rounds schedule (Some old) h = ap Some ((schedules_decide old schedule).0 h)

pub both : (a b : Bool) → a ≡ true → b ≡ true → (a && b) ≡ true
both a b p q = ap (λ (t : Bool). t && b) p ∙ q

module _ (before : Settings) (terms : Terms) (schedule : Schedule) where
  -- the route at this place has the name
  compared : (place : ℕ) (old : Terms) → slice_get before.routes place ≡ Some old → old.name ≡ terms.name → (b : Bool) →
      has_keys_at before place terms schedule ≡ b → IsChange before terms schedule (cond b (Stays place) (Reopens place))
  compared place old there named true h =
      let parts = and_parts (has_terms terms (slice_get before.routes place)) (has_schedule schedule (slice_get before.schedules place)) h in
      (same_route terms (slice_get before.routes place) parts.0, same_rounds schedule (slice_get before.schedules place) parts.1)
  compared place old there named false h = (
    old,
    there,
    named,
    λ same then. false≢true (sym h
        ∙ both (has_terms terms (slice_get before.routes place)) (has_schedule schedule (slice_get before.schedules place))
        (ap (has_terms terms) there ∙ (terms_decide old terms).1 same)
        (ap (has_schedule schedule) then ∙ (schedules_decide schedule schedule).1 refl)),
  )

  at_place : (place : Option ℕ) → place_of terms.name before.routes ≡ place → IsChange before terms schedule (change_at before terms schedule place)
  at_place None h =
      λ place old there named. false≢true (sym (none_found 0 terms.name before.routes h place old there)
      ∙ (bytes_eq-Decides terms.name old.name).1 (sym named))
  at_place (Some place) h =
      let found = found_in 0 terms.name before.routes place h in
      let place_is : found.at ≡ place = omega (arith, found.placed) in
      compared place found.old (ap (slice_get before.routes) (sym place_is) ∙ found.there)
      (sym ((bytes_eq-Decides terms.name found.old.name).0 found.named))
      (has_keys_at before place terms schedule) refl

  is_meant : IsChange before terms schedule (change_of before terms schedule)
  unfolding change_of
  is_meant = at_place (place_of terms.name before.routes) refl

pub are_meant : ChangesAreMeant
are_meant before terms schedule = is_meant before terms schedule

runs_entry : (before : Settings) (terms : Terms) (schedule : Schedule) (change : RouteChange) → IsChange before terms schedule change →
    running_after before terms change ≡ Some terms
runs_entry before terms schedule (Stays place) h = h.0
runs_entry before terms schedule (Reopens place) h = refl
runs_entry before terms schedule Opens h = refl

each_runs : (before : Settings) (routes : List Terms) (schedules : List Schedule) → length schedules ≡ length routes →
    all_running before routes (changes_of before routes schedules) ≡ map Some routes
each_runs before [] schedules many = refl
each_runs before (e ∷ routes) [] many = cc
each_runs before (e ∷ routes) (c ∷ schedules) many =
    let fewer : length schedules ≡ length routes = omega (arith, many) in
    λ i. runs_entry before e c (change_of before e c) (is_meant before e c) i ∷ each_runs before routes schedules fewer i

pub runs_the_file : RunsTheFile
runs_the_file before after many = each_runs before after.routes after.schedules many
