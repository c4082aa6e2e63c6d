-- The rate limit on key derivations of a route (our choice): the generic cell rate algorithm, for the route and for each of 64
-- groups of addresses. Times are in microseconds. Lists have the newest request first.
use Rattle.std.specs.Prelude.{◌≡◌, ℕ, ◌+◌, ◌-◌, ◌/◌, ◌%◌, ◌<◌, ◌≤◌, ◌==◌, max, nat_lt, Bool, true, false, ◌&&◌, if◌then◌else◌, ⊤}
use Rattle.std.specs.Prelude.{List, [], ◌∷◌, ◌++◌, map, replicate, slice_index, slice_set}
use Rattle.srt_session_keys.specs.declared.limiter.DerivationLimiter.{DerivationLimiter}

-- a request for a derivation: when it arrives, and the last byte of the caller's address
pub record Request : Type 0 where
  pub now : ℕ
  pub last_byte : ℕ

-- the group of addresses that a request belongs to
abbrev pub group_of : Request → ℕ
group_of request = request.last_byte % 64

-- the moments at which the limits would have no debt left: of the route, and of each group
pub record Moments : Type 0 where
  pub route : ℕ
  pub groups : List ℕ

-- the moments of a route that opens
abbrev pub no_moments : Moments
no_moments = record { route = 0; groups = replicate 64 0 }

-- each group may have 20 requests at once and then one each 500 ms, the route 20 and then one each 50 ms
abbrev pub is_admitted : Moments → Request → Bool
is_admitted moments request =
    if nat_lt (request.now + 9_500_000) (slice_index moments.groups (group_of request)) then false
    else if nat_lt (request.now + 950_000) moments.route then false else true

-- a moment after an admitted request, where one each interval may come
abbrev pub moved : (moment now interval : ℕ) → ℕ
moved moment now interval = max moment now + interval

-- the moments after a request: a refused one changes none
abbrev pub moments_with : Request → Moments → Moments
moments_with request moments =
    if is_admitted moments request then
    record {
      route = moved moments.route request.now 50_000;
      groups = slice_set moments.groups (group_of request) (moved (slice_index moments.groups (group_of request)) request.now 500_000);
    }
    else moments

-- the moments after requests
unfoldable pub moments_after : List Request → Moments
moments_after [] = no_moments
moments_after (request ∷ requests) = moments_with request (moments_after requests)

-- the moments of a limiter
abbrev pub moments_of : DerivationLimiter → Moments
moments_of limiter = record { route = limiter.route; groups = limiter.groups }

-- how many of the recent requests were admitted among those that are counted, after the earlier ones
unfoldable pub admissions : (is_counted : Request → Bool) → (recent earlier : List Request) → ℕ
admissions is_counted [] earlier = 0
admissions is_counted (request ∷ recent) earlier =
    if is_admitted (moments_after (recent ++ earlier)) request && is_counted request then
    admissions is_counted recent earlier + 1
    else admissions is_counted recent earlier

-- each of these requests came between two times
abbrev pub AreBetween : (from until : ℕ) → List Request → Type 0
AreBetween from until [] = ⊤
AreBetween from until (request ∷ requests) = (from ≤ request.now) × (request.now ≤ until) × AreBetween from until requests

-- of requests between two times, whatever came before, so many are admitted at most
abbrev pub RouteIsLimited : Type 0
RouteIsLimited =
    (from until : ℕ) (recent earlier : List Request) → from ≤ until → AreBetween from until recent →
    admissions (λ request. true) recent earlier ≤ 20 + (until - from) / 50_000

-- the same of the requests of one group of addresses
abbrev pub GroupIsLimited : Type 0
GroupIsLimited =
    (group from until : ℕ) (recent earlier : List Request) → group < 64 → from ≤ until → AreBetween from until recent →
    admissions (λ request. group_of request == group) recent earlier ≤ 20 + (until - from) / 500_000

-- a request that comes later by a delay
abbrev pub delayed : (delay : ℕ) → Request → Request
delayed delay request = record { now = request.now + delay; last_byte = request.last_byte }

-- if all requests come later by the same delay, the same ones are admitted
abbrev pub DelaysChangeNothing : Type 0
DelaysChangeNothing =
    (delay : ℕ) (requests : List Request) (request : Request) →
    is_admitted (moments_after (map (delayed delay) requests)) (delayed delay request) ≡
    is_admitted (moments_after requests) request
