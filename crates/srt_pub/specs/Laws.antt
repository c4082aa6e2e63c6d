-- Delivering payloads one by one has the same result as delivering them together; how far a sender's clock can change due
-- times.
use Rattle.std.specs.Prelude.{◌≡◌, ℕ, false, Some, List, pos}
use Rattle.srt_types.specs.declared.shared.Mode.TheVariants.{Live, Buffer}
use Rattle.srt_types.specs.declared.shared.Callers.TheVariants.{Draft}
use Rattle.srt_timing.specs.Deadline.{IsDueNear}
use Rattle.srt_timing.specs.Clock.{AreInOrder, IsSlow, last_time}
use Rattle.srt_recvbuf.specs.Receiving.{is_dropped}
use Rattle.srt_recvbuf.specs.OneByOne.{NothingBeyond, NothingDroppedBeyond}
use Rattle.srt_pub.specs.Publishing.{Terms, Publishing, Note, deliveries, delivered, clock_samples, correction_of, due_in}
use Rattle.srt_pub.specs.Calls.{gives, leaves}

-- 64 calls, up to the first that returns none, return what an event delivers, and leave the session as the event does
abbrev pub DeliversOneByOne : Terms → Publishing → Type 0
DeliversOneByOne terms p = (time room : ℕ) →
    (gives terms time room 64 p ≡ deliveries terms.mode terms time (Some room) p) ×
    (leaves terms time room 64 p ≡ delivered terms time (Some room) p)

-- the front isn't a dropped number, and no number past the window is received or dropped
pub record IsSettled (terms : Terms) (p : Publishing) : Type 0 where
  pub front : is_dropped terms.width p.receiving p.receiving.front ≡ false
  pub received : NothingBeyond terms.width p.receiving
  pub dropped : NothingDroppedBeyond terms.width p.receiving

-- the clock of a caller that follows the draft isn't corrected, and none is in buffer mode
abbrev pub OthersAreUncorrected : Type 0
OthersAreUncorrected = (terms : Terms) (notes : List Note) →
    (terms.callers ≡ Draft → correction_of terms notes ≡ pos 0) × (terms.mode ≡ Buffer → correction_of terms notes ≡ pos 0)

-- the correction is at most a thousandth of the time from the opening to the last sample
abbrev pub SessionsAreSlow : Type 0
SessionsAreSlow = (terms : Terms) (notes : List Note) → AreInOrder (clock_samples notes) → IsSlow (correction_of terms notes) (last_time (clock_samples notes))

-- whatever a caller's ACKACKs report, each packet is due within 2^31 microseconds of one delay after its arrival
abbrev pub PacketsAreDueNear : Type 0
PacketsAreDueNear = (terms : Terms) (notes : List Note) (time stamp : ℕ) → IsDueNear terms.delay time (due_in Live terms (correction_of terms notes) time stamp)
