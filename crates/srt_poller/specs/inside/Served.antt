-- The number of datagrams that a round read, as the poller's report counts them and as the inline service gets it.
use Rattle.std.specs.Prelude.{◌≡◌, ◌⊎◌, ℕ, zero, suc, ◌≤◌}
use Rattle.srt_poller.specs.Reports.{one_more}

-- a count after this many more
abbrev pub more_by : (n : ℕ) → (count : ℕ) → ℕ
more_by zero count = count
more_by (suc n) count = one_more (more_by n count)

-- A round read this many datagrams, 256 at most, and the service was told that number; or its wait failed, which was reported, and it read none. `old` and
-- `new` are the report's counts of datagrams
abbrev pub IsServed : (served : ℕ → Type 0) → (fault : Type 0) → (old new : ℕ) → Type 0
IsServed served fault old new = ((n : ℕ) × (n ≤ 256) × (new ≡ more_by n old) × served n) ⊎ ((new ≡ old) × fault)

-- the service was told of some round's datagrams, or a fault was reported
abbrev pub IsAttended : (served : ℕ → Type 0) → (fault : Type 0) → Type 0
IsAttended served fault = ((n : ℕ) × served n) ⊎ fault
