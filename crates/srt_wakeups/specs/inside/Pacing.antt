-- How long the workers of a run sleep, and which reads of the poller wake one (our choice). Durations are in microseconds.
use Rattle.std.specs.Prelude.{ℕ, ◌+◌, ◌*◌, max, nat_lt, nat_le, Bool, ◌&&◌, ◌||◌, if◌then◌else◌}

-- the sleep after a round that found a little to do at each of this many routes
abbrev pub doze_us : (routes : ℕ) → ℕ
doze_us routes = max (10 * routes) 500

-- the sleep after one more round that found nothing; a short one while an inbox is ready
abbrev pub rest_us : (is_ready : Bool) → ℕ
rest_us is_ready = if is_ready then 500 else 100_000

-- no worker is awake or dozes: all rest, or are in reserve
abbrev pub all_rest : (resting reserve workers : ℕ) → Bool
all_rest resting reserve workers = nat_le workers (resting + reserve)

-- a round of the poller wakes a worker: it read 64 datagrams at least, and 8 at least for each inbox that it made ready, or it read any while
-- no worker was awake
abbrev pub wakes_worker : (datagrams begun : ℕ) → (all_rest : Bool) → Bool
wakes_worker datagrams begun all_rest =
    (nat_le 64 datagrams && nat_le (begun * 8) datagrams) || (nat_lt 0 datagrams && all_rest)
