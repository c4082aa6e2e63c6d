-- Entries one after the other.
use Rattle.std.proofs.Common.{◌≡◌, ℕ, suc, ◌<◌, length, List, [], ◌∷◌, get_or, drop, Result, Ok, Err, refl, ap, arith}
use Rattle.toml.specs.Data.{item, as_table}
use Rattle.toml.specs.View.{view, items_view}
use Rattle.toml.specs.declared.value.Value.{Value}
use Rattle.srt_config.specs.Access.{member_count}
use Rattle.srt_config.specs.declared.config.keys.Key.TheVariants.{Route}
use Rattle.srt_config.specs.FirstFault.{Fault, ◌>>=◌}
use Rattle.srt_config.specs.Keys.{of_kind}
use Rattle.srt_config.specs.Routes.{count, route_at, Routes, with_route, routes_and, routes_from}
use Rattle.srt_config.specs.FaultPlace.{or_later, faulty_from}

-- the first item and the others
pub items_step : (vs : List Value) (d : Value) → 0 < length vs → items_view vs ≡ item (view (get_or vs 0 d)) (items_view (drop 1 vs))
items_step [] d h = absurd (omega arith)
items_step (v ∷ vs) d h = refl

pub counted : (vs : List Value) → length vs ≡ count (items_view vs)
counted [] = refl
counted (v ∷ vs) = ap suc (counted vs)

pub members_counted : (vs : List Value) → length vs ≡ member_count (items_view vs)
members_counted [] = refl
members_counted (v ∷ vs) = ap suc (members_counted vs)

-- a step and then two others are two steps
in_two : {A B C D : Type 0} (first : Result A Fault) (second : A → Result B Fault) (put : B → C) (last : C → Result D Fault) →
    (first >>= λ x. second x >>= λ y. last (put y)) ≡ ((first >>= λ x. second x >>= λ y. Ok (put y)) >>= last)
in_two {A} {B} {C} {D} (Ok x) second put last = by (second x)
  where
    by : (r : Result B Fault) → (r >>= λ y. last (put y)) ≡ ((r >>= λ y. Ok (put y)) >>= last)
    by (Ok y) = refl
    by (Err fault) = refl
in_two (Err fault) second put last = refl

-- the first route and the others
pub routes_step : (before : Routes) (vs : List Value) (d : Value) → 0 < length vs →
    routes_from before (items_view vs) ≡ (routes_and before (view (get_or vs 0 d)) >>= λ after. routes_from after (items_view (drop 1 vs)))
routes_step before [] d some = absurd (omega arith)
routes_step before (v ∷ vs) d some =
    in_two (of_kind Route (as_table (view v))) (λ table. route_at before.terms table) (with_route before) (λ after. routes_from after (items_view vs))

-- the first table with a fault, or a later one
pub faulty_step : (number : ℕ) (before : Routes) (vs : List Value) (d : Value) → 0 < length vs →
    faulty_from number before (items_view vs)
    ≡ or_later number (routes_and before (view (get_or vs 0 d))) (λ after. faulty_from (suc number) after (items_view (drop 1 vs)))
faulty_step number before [] d some = absurd (omega arith)
faulty_step number before (v ∷ vs) d some = refl
