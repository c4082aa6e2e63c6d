-- Workers that have ended.
use Rattle.std.specs.Prelude.{◌≡◌, ℕ, List, Some, length, slice_get}
use Rattle.srt_serve.specs.declared.working.WorkerEnded.{WorkerEnded}

-- each of these has the number of its place
abbrev pub AreNumbered : {X : Type 0} → (number : X → ℕ) → List X → Type 0
AreNumbered {X} number xs = (k : ℕ) (x : X) → slice_get xs k ≡ Some x → number x ≡ k

-- this many workers have ended, whose numbers are those of their places
abbrev pub HaveEnded : (workers : ℕ) → List WorkerEnded → Type 0
HaveEnded workers ended = (length ended ≡ workers) × AreNumbered (λ w. w.number) ended
