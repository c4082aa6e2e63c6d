-- Two configurations are compared route by route.
use Rattle.std.proofs.Common.{◌≡◌, ℕ, zero, suc, ◌+◌, ◌<◌, cond, Some, List, [], ◌∷◌, ◌++◌, length, map, get_or, drop}
use Rattle.std.proofs.Common.{refl, ap, arith}
use Rattle.std.specs.Str.{bytes_eq}
use Rattle.srt_types.specs.declared.shared.Entry.{Entry}
use Rattle.srt_types.specs.declared.shared.Schedule.{Schedule}
use Rattle.srt_types.specs.Terms.{Terms, terms_of}
use Rattle.srt_config.specs.Config.{Settings}
use Rattle.srt_config.specs.Changes.{place_from, place_of, change_of, changes_of, gone_at, gone_from}

-- the first route and the others
pub changes_step : (s : Settings) (routes : List Entry) (schedules : List Schedule) (e : Entry) (c : Schedule) →
    0 < length routes → 0 < length schedules →
    changes_of s (map terms_of routes) schedules
    ≡ change_of s (terms_of (get_or routes 0 e)) (get_or schedules 0 c) ∷ changes_of s (map terms_of (drop 1 routes)) (drop 1 schedules)
changes_step s [] schedules e c some more = absurd (omega arith)
changes_step s (x ∷ routes) [] e c some more = absurd (omega arith)
changes_step s (x ∷ routes) (y ∷ schedules) e c some more = refl

pub changes_end : (s : Settings) (routes : List Entry) (schedules : List Schedule) → length routes ≡ 0 → changes_of s (map terms_of routes) schedules ≡ []
changes_end s [] schedules none = refl
changes_end s (x ∷ routes) schedules none = cc

pub gone_step : (first : ℕ) (after : List Terms) (routes : List Entry) (e : Entry) → 0 < length routes →
    gone_from first after (map terms_of routes)
    ≡ gone_at first (place_of (terms_of (get_or routes 0 e)).name after) ++ gone_from (first + 1) after (map terms_of (drop 1 routes))
gone_step first after [] e some = absurd (omega arith)
gone_step first after (x ∷ routes) e some =
    ap (λ (n : ℕ). gone_at first (place_of (terms_of x).name after) ++ gone_from n after (map terms_of routes))
    (let sums : suc first ≡ first + 1 = omega arith in sums)

-- the route at a place, before those after it
pub place_step : (routes : List Entry) (at : ℕ) (name : List ℕ) (e : Entry) → at < length routes →
    place_from at name (map terms_of (drop at routes))
    ≡ cond (bytes_eq name (terms_of (get_or routes at e)).name) (Some at) (place_from (suc at) name (map terms_of (drop (suc at) routes)))
place_step routes at name e there = by at routes at there
  where
    by : (first : ℕ) (routes : List Entry) (at : ℕ) → at < length routes →
        place_from first name (map terms_of (drop at routes))
        ≡ cond (bytes_eq name (terms_of (get_or routes at e)).name) (Some first) (place_from (suc first) name (map terms_of (drop (suc at) routes)))
    by first [] at there = absurd (omega (arith, there))
    by first (x ∷ routes) zero there = refl
    by first (x ∷ routes) (suc at) there = by first routes at (let below : at < length routes = omega (arith, there) in below)
