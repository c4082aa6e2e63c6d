-- What became of a change of the routes, and why one is rejected.
use Rattle.std.specs.Prelude.{◌≡◌, ◌⊎◌, ℕ, ◌+◌, ◌<◌, ◌≤◌, List, Some, slice_get, slice_index}
use Rattle.srt_types.specs.Terms.{Terms}
use Rattle.srt_supervision.specs.declared.changes.ChangeFault.{ChangeFault}
use Rattle.srt_supervision.specs.declared.changes.ChangeFault.TheVariants.{OutOfMemory, NoIndexLeft}
use Rattle.srt_serve.specs.declared.watching.NotOpened.{NotOpened}
use Rattle.srt_serve.specs.declared.watching.NotOpened.TheVariants as unopened

-- why a change that opens this many routes was rejected while this many indexes were left
abbrev pub IsChangeFault : (left opens : ℕ) → ChangeFault → Type 0
IsChangeFault left opens (OutOfMemory at) = (opens ≤ left) × (at < opens)
IsChangeFault left opens (NoIndexLeft n) = (left < opens) × (n ≡ left)

-- as the watcher gets it
abbrev pub fault_of : NotOpened → ChangeFault
fault_of (unopened.OutOfMemory at none) = OutOfMemory at
fault_of (unopened.NoIndexLeft left) = NoIndexLeft left

-- why routes weren't opened, in the same case: it was the route whose index is the first one and as many more as its entry's
abbrev pub IsNotOpened : (first left opens : ℕ) → NotOpened → Type 0
IsNotOpened first left opens (unopened.OutOfMemory at none) = (opens ≤ left) × (at < opens) × (none.index ≡ first + at)
IsNotOpened first left opens (unopened.NoIndexLeft n) = (left < opens) × (n ≡ left)

-- the route at `i` of these was requested to close, or there was no such route before the change
abbrev pub IsClosedAt : (requested : ℕ → Type 0) → (first : ℕ) → (closes : List ℕ) → (i : ℕ) → Type 0
IsClosedAt requested first closes i = (first ≤ slice_index closes i) ⊎ requested (slice_index closes i)

-- the seat at `i` of these has a route of this index, counted from the first one
abbrev pub HasIndexAt : {Seat : Type 0} (index : Seat → ℕ) (first : ℕ) (seats : List Seat) (i : ℕ) → Type 0
HasIndexAt {Seat} index first seats i = (seat : Seat) → slice_get seats i ≡ Some seat → index seat ≡ first + i

-- the seat at `i` of these was put into its place, counted from the first one, or that place had a route
abbrev pub IsHostedAt : {Host Seat : Type 0} (hosts : Host → Seat → Type 0) (has_route : Host → Type 0) (places : List Host) (first : ℕ)
    (seats : List Seat) (i : ℕ) → Type 0
IsHostedAt {Host} {Seat} hosts has_route places first seats i =
    (place : Host) (seat : Seat) → slice_get places (first + i) ≡ Some place → slice_get seats i ≡ Some seat → has_route place ⊎ hosts place seat

-- a route of the terms at `i` of these, and of its place's index, was put into its place, or that place had a route
abbrev pub IsOpenedAt : {Host Seat : Type 0} (hosts : Host → Seat → Type 0) (has_route : Host → Type 0) (index : Seat → ℕ) (terms : Seat → Terms)
    (places : List Host) (first : ℕ) (opens : List Terms) (i : ℕ) → Type 0
IsOpenedAt {Host} {Seat} hosts has_route index terms places first opens i =
    (place : Host) → slice_get places (first + i) ≡ Some place
    → has_route place ⊎ ((seat : Seat) × hosts place seat × (index seat ≡ first + i) × (slice_get opens i ≡ Some (terms seat)))
