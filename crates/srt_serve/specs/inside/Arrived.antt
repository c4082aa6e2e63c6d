-- The routes that are added to a poller.
use Rattle.std.specs.Prelude.{◌≡◌, ℕ, ◌<◌, ◌≤◌, List, [], ◌∷◌, ◌++◌, length, slice_index_or}
use Rattle.srt_types.specs.Terms.{Terms}
use Rattle.srt_lobby.specs.Names.{as_hidden, name_of}
use Rattle.srt_mailbox.specs.Cells.{CellIdentity}
use Rattle.srt_mailbox.specs.Ends.{pipe}
use Rattle.srt_poller.specs.Openings.{ReportedRoute}
use Rattle.srt_serve.specs.Opened.{new_clock}
use Rattle.srt_supervision.specs.Answers.{Answer, Opens}

-- what openings report of this route when it is added
abbrev pub report_of : CellIdentity → ReportedRoute
report_of n = record { name = as_hidden (name_of n.terms); ingress = new_clock n; outbox = pipe n.outbox n.terms.outbox [] }

-- each of these routes has the index of its place in the list
abbrev pub AreIndexed : List CellIdentity → Type 0
AreIndexed routes = (r : ℕ) (n : CellIdentity) → r < length routes → (slice_index_or routes r n).index ≡ r

-- a route with this index is one of the first ones, or the watcher answered that a route of these terms opens
abbrev pub IsAnswered : (answered : Answer → Type 0) → (first index : ℕ) → Terms → Type 0
IsAnswered answered first index terms = first ≤ index → ∥ answered (Opens terms) ∥₁

-- so it is of each of these routes, in the order of their indexes
abbrev pub AreAnswered : (answered : Answer → Type 0) → (first : ℕ) → List CellIdentity → Type 0
AreAnswered answered first routes =
    (r : ℕ) (n : CellIdentity) → r < length routes → IsAnswered answered first r (slice_index_or routes r n).terms

-- numbers that begin with those of another list, and how many these are
abbrev pub marked : (locks requested : List ℕ) → List ℕ
marked locks requested = length locks ∷ (locks ++ requested)
