-- Bytes of a duration read one after the other.
use Rattle.std.proofs.Common.{◌≡◌, ℕ, zero, suc, ◌+◌, ◌<◌, List, [], ◌∷◌, length, drop, slice_index, Option, None, Some, ap, arith, add-one}
use Rattle.srt_command_line.specs.declared.durations.DurationReading.{DurationReading}
use Rattle.srt_command_line.specs.Durations.{with_byte, read_from}

-- a byte with which no duration goes on ends the reading
pub ends : (r : DurationReading) (bs : List ℕ) (i : ℕ) → i < length bs → with_byte r (slice_index bs i) ≡ None → read_from (Some r) (drop i bs) ≡ None
ends r [] i within h = absurd (omega arith)
ends r (b ∷ bs) zero within h = ap (λ (o : Option DurationReading). read_from o bs) h
ends r (b ∷ bs) (suc i) within h = ends r bs i (omega arith) h

after : (r s : DurationReading) (bs : List ℕ) (i : ℕ) → i < length bs → with_byte r (slice_index bs i) ≡ Some s
    → read_from (Some r) (drop i bs) ≡ read_from (Some s) (drop (suc i) bs)
after r s [] i within h = absurd (omega arith)
after r s (b ∷ bs) zero within h = ap (λ (o : Option DurationReading). read_from o bs) h
after r s (b ∷ bs) (suc i) within h = after r s bs i (omega arith) h

-- another one goes into what was read
pub goes_on : (r s : DurationReading) (bs : List ℕ) (i : ℕ) → i < length bs → with_byte r (slice_index bs i) ≡ Some s
    → read_from (Some r) (drop i bs) ≡ read_from (Some s) (drop (i + 1) bs)
goes_on r s bs i within h = rw add-one (after r s bs i within h)
