-- The route that is found has the fault.
use Rattle.std.proofs.Common.{◌≡◌, ℕ, suc, ◌⊎◌, inl, inr, Bool, true, false, not, cond, is_some, [], ◌∷◌, ◌++◌, Option, None, Some}
use Rattle.std.proofs.Common.{Result, Ok, Err, refl, ap, subst, ◌∙◌}
use Rattle.std.proofs.lemmas.Bool.{and_parts, false≢true}
use Rattle.toml.specs.Data.{Data, Members, Items, no_items, item, get_member, as_array, as_table}
use Rattle.srt_types.specs.Entries.{is_between}
use Rattle.srt_config.specs.declared.config.keys.Key.{Key}
use Rattle.srt_config.specs.declared.config.placed.Place.{Place}
use Rattle.srt_config.specs.declared.config.placed.Place.TheVariants as place
use Rattle.srt_config.specs.declared.config.keys.Key.TheVariants.{Bind, Workers, Status, Defaults, Route}
use Rattle.srt_config.specs.KeyTable.{key_name}
use Rattle.srt_config.specs.FirstFault.{Fault, WrongKind, OutOfRange, ◌>>=◌}
use Rattle.srt_config.specs.Keys.{known, present, of_kind, value_at, number_at, optional}
use Rattle.srt_config.specs.Routes.{Planned, route_at, Routes, no_routes, with_route, are_tables, count, routes_from, routes_in, routes_at}
use Rattle.srt_config.specs.Config.{top_keys, secret_at, address_at, optional_address_at, settings_at}
use Rattle.srt_config.specs.Defaults.{defaults_at, right_if_given}
use Rattle.srt_config.specs.KeyFaults.{InRoute, InDefaults}
use Rattle.srt_config.specs.FaultPlace.{or_later, faulty_from, place_in, place_at, ◌>>?◌, routes_place, fault_place}
use Rattle.srt_config.specs.PlaceLaws.{HasFaultyTable, PlacesTheFault, PlacesTheDefaults}
use Rattle.srt_config.proofs.KeyFaults.{failed, the_fault, route_tells, defaults_tell}

module _ (first : ℕ) (before : Routes) (value : Data) (rest : Items) (fault : Fault)
    (later : (route : Planned) → routes_from (with_route before route) rest ≡ Err fault →
    HasFaultyTable (suc first) (before.terms ++ route.terms ∷ []) rest (faulty_from (suc first) (with_route before route) rest) fault) where
  of_route : (table : Members) (r : Result Planned Fault) → route_at before.terms table ≡ r →
      (r >>= λ route. routes_from (with_route before route) rest) ≡ Err fault →
      (((or_later first (r >>= λ route. Ok (with_route before route)) (λ routes. faulty_from (suc first) routes rest)) ≡ first) ×
      InRoute before.terms table fault) ⊎
      ((route : Planned) × (route_at before.terms table ≡ Ok route) ×
      HasFaultyTable (suc first) (before.terms ++ route.terms ∷ []) rest
      (or_later first (r >>= λ route. Ok (with_route before route)) (λ routes. faulty_from (suc first) routes rest)) fault)
  of_route table (Ok route) e h = inr (route, e, later route h)
  of_route table (Err f) e h =
      inl (refl, (route_tells before.terms table fault).0 (e ∙ ap (λ (x : Fault). failed {A = Planned} x) (the_fault {A = Routes} f fault h)))

  of_table : (o : Option Members) → as_table value ≡ o → is_some o ≡ true →
      (of_kind Route o >>= λ table. route_at before.terms table >>= λ route. routes_from (with_route before route) rest) ≡ Err fault →
      HasFaultyTable first before.terms (item value rest)
      (or_later first (of_kind Route o >>= λ table. route_at before.terms table >>= λ route. Ok (with_route before route))
      (λ routes. faulty_from (suc first) routes rest)) fault
  of_table (Some table) e some h = (table, e, of_route table (route_at before.terms table) refl h)
  of_table None e some h = absurd (false≢true some)

faulty_is : (items : Items) (first : ℕ) (before : Routes) (fault : Fault) → are_tables items ≡ true → routes_from before items ≡ Err fault →
    HasFaultyTable first before.terms items (faulty_from first before items) fault
faulty_is no_items first before fault are h = absurd cc
faulty_is (item value rest) first before fault are h =
    let parts = and_parts (is_some (as_table value)) (are_tables rest) are in
    of_table first before value rest fault (λ route g. faulty_is rest (suc first) (with_route before route) fault parts.1 g)
    (as_table value) refl parts.0 h

above_route : (number : ℕ) → place.Above ≡ place.Route number → ⊥
above_route number e = cc

above_defaults : place.Above ≡ place.Defaults → ⊥
above_defaults e = cc

-- a step of reading and of the place, which isn't above the routes
step : {A B : Type 0} (r : Result A Fault) (next : A → Result B Fault) (later : A → Place) (fault : Fault) (at : Place) → (place.Above ≡ at → ⊥) →
    r >>= next ≡ Err fault → r >>? later ≡ at → (x : A) × (r ≡ Ok x) × (next x ≡ Err fault) × (later x ≡ at)
step (Ok x) next later fault at other h p = (x, refl, h, p)
step (Err f) next later fault at other h p = absurd (other p)

-- the step of the defaults, whose fault is at them
checked : {A B : Type 0} (r : Result A Fault) (next : A → Result B Fault) (later : A → Place) (fault : Fault) (number : ℕ) →
    r >>= next ≡ Err fault → place_at place.Defaults r later ≡ place.Route number → (x : A) × (next x ≡ Err fault) × (later x ≡ place.Route number)
checked (Ok x) next later fault number h p = (x, h, p)
checked (Err f) next later fault number h p = absurd cc

unchecked : {A B : Type 0} (r : Result A Fault) (next : A → Result B Fault) (later : A → Place) (fault : Fault) → ((x : A) → later x ≡ place.Defaults → ⊥) →
    r >>= next ≡ Err fault → place_at place.Defaults r later ≡ place.Defaults → r ≡ Err fault
unchecked (Ok x) next later fault never h p = absurd (never x p)
unchecked {A} {B} (Err f) next later fault never h p = ap (λ (x : Fault). failed {A = A} x) (the_fault {A = B} f fault h)

last_step : {A B : Type 0} (r : Result A Fault) (put : A → B) (fault : Fault) → (r >>= λ x. Ok (put x)) ≡ Err fault → r ≡ Err fault
last_step (Ok x) put fault h = absurd cc
last_step {A} {B} (Err f) put fault h = ap (λ (x : Fault). failed {A = A} x) (the_fault {A = B} f fault h)

ranged : (tables counts : Bool) (f g fault : Fault) (read : Result Routes Fault) (found number : ℕ) →
    cond (not tables) (Err f) (cond (not counts) (Err g) read) ≡ Err fault →
    cond (not tables) place.Above (cond (not counts) place.Above (place.Route found)) ≡ place.Route number →
    (tables ≡ true) × (read ≡ Err fault) × (found ≡ number)
ranged true true f g fault read found number h p = (refl, h, (let same : found ≡ number = cc in same))
ranged true false f g fault read found number h p = absurd cc
ranged false counts f g fault read found number h p = absurd cc

present_is : {A : Type 0} (key : Key) (o : Option A) (x : A) → present key o ≡ Ok x → o ≡ Some x
present_is key (Some y) x h = (let same : y ≡ x = cc in ap Some same)
present_is key None x h = absurd cc

kind_is : {A : Type 0} (key : Key) (o : Option A) (x : A) → of_kind key o ≡ Ok x → o ≡ Some x
kind_is key (Some y) x h = (let same : y ≡ x = cc in ap Some same)
kind_is key None x h = absurd cc

value_is : (table : Members) (value : Data) → value_at Route table ≡ Ok value → get_member (key_name Route) table ≡ Some value
unfolding value_at
value_is table value h = present_is Route (get_member (key_name Route) table) value h

pub places_the_fault : PlacesTheFault
unfolding settings_at fault_place routes_place routes_at routes_in
places_the_fault table fault number h p =
    let at = place.Route number in
    let other = above_route number in
    let a = step (known top_keys table) _ _ fault at other h p in
    let b = step (secret_at table) _ _ fault at other a.2 a.3 in
    let c = step (address_at Bind table) _ _ fault at other b.2 b.3 in
    let d = step (number_at Workers 1 16 table) _ _ fault at other c.2 c.3 in
    let e = step (optional_address_at Status table) _ _ fault at other d.2 d.3 in
    let f = step (defaults_at table) _ _ fault at other e.2 e.3 in
    let g = checked (right_if_given f.0) _ _ fault number f.2 f.3 in
    let r = last_step (routes_at table) _ fault g.1 in
    let v = step (value_at Route table) _ _ fault at other r g.2 in
    let i = step (of_kind Route (as_array v.0)) _ _ fault at other v.2 v.3 in
    let q = ranged (are_tables i.0) (is_between 1 511 (count i.0)) (WrongKind Route) (OutOfRange Route) fault (routes_from no_routes i.0)
    (faulty_from 1 no_routes i.0) number i.2 i.3 in (
      v.0,
      i.0,
      value_is table v.0 v.1,
      kind_is Route (as_array v.0) i.0 i.1,
      subst (λ (n : ℕ). HasFaultyTable 1 [] i.0 n fault) q.2 (faulty_is i.0 1 no_routes fault q.0 q.1),
    )

-- the routes have no fault of the defaults
routes_elsewhere : (table : Members) → routes_place table ≡ place.Defaults → ⊥
unfolding routes_place
routes_elsewhere table = of_value (value_at Route table)
  where
    chosen : (tables counts : Bool) (number : ℕ) →
        cond (not tables) place.Above (cond (not counts) place.Above (place.Route number)) ≡ place.Defaults → ⊥
    chosen true true number e = cc
    chosen true false number e = cc
    chosen false counts number e = cc

    of_items : (r : Result Items Fault) → (r >>? λ items. place_in items) ≡ place.Defaults → ⊥
    of_items (Ok items) e = chosen (are_tables items) (is_between 1 511 (count items)) (faulty_from 1 no_routes items) e
    of_items (Err f) e = cc

    of_value : (r : Result Data Fault) → (r >>? λ value. of_kind Route (as_array value) >>? λ items. place_in items) ≡ place.Defaults → ⊥
    of_value (Ok value) e = of_items (of_kind Route (as_array value)) e
    of_value (Err f) e = cc

-- the table of defaults is the one that was read
table_is : (table : Members) (found : Option Members) (fault : Fault) → defaults_at table ≡ Ok found → right_if_given found ≡ Err fault →
    (value : Data) × (defaults : Members) × (get_member (key_name Defaults) table ≡ Some value) × (as_table value ≡ Some defaults) ×
    InDefaults defaults fault
unfolding defaults_at
table_is table None fault h e = absurd cc
table_is table (Some defaults) fault h e = of (get_member (key_name Defaults) table) refl h
  where
    kind : (value : Data) (k : Option Members) → as_table value ≡ k → (of_kind Defaults k >>= λ t. Ok (Some t)) ≡ Ok (Some defaults) →
        as_table value ≡ Some defaults
    kind value (Some other) is g = (let same : other ≡ defaults = cc in is ∙ ap Some same)
    kind value None is g = absurd cc

    of : (o : Option Data) → get_member (key_name Defaults) table ≡ o → optional (λ value. of_kind Defaults (as_table value)) o ≡ Ok (Some defaults) →
        (value : Data) × (defaults : Members) × (get_member (key_name Defaults) table ≡ Some value) × (as_table value ≡ Some defaults) ×
        InDefaults defaults fault
    of (Some value) is g = (value, defaults, is, kind value (as_table value) refl g, (defaults_tell defaults fault).0 e)
    of None is g = absurd cc

pub places_the_defaults : PlacesTheDefaults
unfolding settings_at fault_place
places_the_defaults table fault h p =
    let at = place.Defaults in
    let a = step (known top_keys table) _ _ fault at above_defaults h p in
    let b = step (secret_at table) _ _ fault at above_defaults a.2 a.3 in
    let c = step (address_at Bind table) _ _ fault at above_defaults b.2 b.3 in
    let d = step (number_at Workers 1 16 table) _ _ fault at above_defaults c.2 c.3 in
    let e = step (optional_address_at Status table) _ _ fault at above_defaults d.2 d.3 in
    let f = step (defaults_at table) _ _ fault at above_defaults e.2 e.3 in
    table_is table f.0 fault f.1 (unchecked (right_if_given f.0) _ _ fault (λ u q. routes_elsewhere table q) f.2 f.3)
