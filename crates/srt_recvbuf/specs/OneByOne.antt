-- Delivering payloads one by one has the same result as delivering them together. Windows bound what is received and
-- dropped.
use Rattle.std.specs.Prelude.{◌≡◌, ℕ, ◌+◌, ◌<◌, ◌≤◌, false, List, [], ◌∷◌}
use Rattle.srt_recvbuf.specs.Receiving.{Arrival, Receiving, is_received, is_dropped, ack_point, waiting, unbroken, passed}

-- after the first waiting packet is delivered, the others still wait
abbrev pub OthersWait : Type 0
OthersWait = (width : ℕ) (r : Receiving) (a : Arrival) (more : List Arrival) → waiting r ≡ a ∷ more → waiting (passed width (a ∷ []) r) ≡ more

-- delivering one and then the others has the same result as delivering all at once
abbrev pub PassesOneByOne : Type 0
PassesOneByOne =
    (width : ℕ) (r : Receiving) (a b : Arrival) (more : List Arrival)
    → passed width (b ∷ more) (passed width (a ∷ []) r) ≡ passed width (a ∷ b ∷ more) r

-- no number past the window is received
abbrev pub NothingBeyond : (width : ℕ) → Receiving → Type 0
NothingBeyond width r = (n : ℕ) → r.front + width ≤ n → is_received r n ≡ false

-- no number past the window is dropped
abbrev pub NothingDroppedBeyond : (width : ℕ) → Receiving → Type 0
NothingDroppedBeyond width r = (n : ℕ) → r.front + width ≤ n → is_dropped width r n ≡ false

-- if nothing was dropped and the acknowledgement point is above the front, the first waiting packet is the first of
-- those without a gap. After its delivery the others without a gap remain
abbrev pub UnbrokenOneByOne : Type 0
UnbrokenOneByOne =
    (width : ℕ) (r : Receiving) → r.requests ≡ [] → NothingBeyond width r → r.front < ack_point width r
    → (a : Arrival) × (more : List Arrival) × (waiting r ≡ a ∷ more) × (unbroken width r ≡ a ∷ unbroken width (passed width (a ∷ []) r))
