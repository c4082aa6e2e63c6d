-- Sending packets one by one, and the conditions on times.
use Rattle.std.specs.Prelude.{◌≡◌, ℕ, ◌+◌, ◌≤◌, ℤ, ◌≤ℤ◌, List, [], ◌∷◌}
use Rattle.srt_sendbuf.specs.Sending.{Sending, nothing_yet, next, lost, queued, expired_before, sent, IsTimely, IsLater}

-- the condition on the time of `queue`: no payload was queued later. It holds for an empty queue, remains true for a
-- later time, and remains true after a payload is queued at that time
pub record TimesGoOn : Type 0 where
  pub none : (now : ℕ) → IsTimely now nothing_yet
  pub later : (now later : ℕ) (s : Sending) → now ≤ later → IsTimely now s → IsTimely later s
  pub queue : (now : ℕ) (payload : List ℕ) (s : Sending) → IsTimely now s → IsTimely now (queued now payload s)

-- the condition on the time of `expire`: no earlier expiry was for a later time. It holds for an empty queue, remains
-- true for a later time and after a payload is queued, and holds after an expiry for that time
pub record ExpiryGoesOn : Type 0 where
  pub none : (before : ℤ) → IsLater before nothing_yet
  pub later : (before after : ℤ) (s : Sending) → before ≤ℤ after → IsLater before s → IsLater after s
  pub queue : (before : ℤ) (origin : ℕ) (payload : List ℕ) (s : Sending) → IsLater before s → IsLater before (queued origin payload s)
  pub expire : (before : ℤ) (s : Sending) → IsLater before (expired_before before s)

-- after the lowest lost number is sent, the other lost numbers remain, and the next new number is the same
pub record LostOneByOne : Type 0 where
  pub others : (s : Sending) (n : ℕ) (more : List ℕ) → lost s ≡ n ∷ more → lost (sent n s) ≡ more
  pub next_stays : (s : Sending) (n : ℕ) (more : List ℕ) → lost s ≡ n ∷ more → next (sent n s) ≡ next s

-- after the next new number is sent, the number after it is the next one, and no number becomes lost
pub record NewOneByOne : Type 0 where
  pub still_none : (s : Sending) → lost s ≡ [] → lost (sent (next s) s) ≡ []
  pub goes_on : (s : Sending) → next (sent (next s) s) ≡ next s + 1
