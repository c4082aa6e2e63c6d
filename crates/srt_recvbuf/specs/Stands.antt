-- Which record a buffer's fields represent. The buffer has 31-bit sequence numbers; the record's numbers count from
-- the initial one. The buffer has times of a clock; the record has times since an origin, which is any time of that
-- clock. A packet's due time on the clock is the origin plus its due time in the record.
use Rattle.std.specs.Prelude.{◌≡◌, ℕ, ◌+◌, ◌-◌, ◌%◌, ◌^◌, ◌<◌, pos, ◌+ℤ◌, Bool, true, false, Option, None, Some, List, map, if◌then◌else◌}
use Rattle.srt_types.specs.Window.{word_of, counted_from, in_window, number_word}
use Rattle.srt_types.specs.Runs.{Range, Run, range_from}
use Rattle.srt_types.specs.declared.numbers.Seq31.{Seq31}
use Rattle.srt_recvbuf.specs.Receiving.{Arrival, Receiving, arrival_of, is_requested, end_of, next_due, runs_from}
use Rattle.srt_recvbuf.specs.Cells.{Cell, Missing, Dropped, Received, cell_is_missing, cell_at, width_of}
use Rattle.srt_recvbuf.specs.declared.buffer.RecvBuf.{RecvBuf}

-- the state of a place, from the arrival with its number and whether a drop request covers it
abbrev pub cell_for : (origin : ℕ) → Option Arrival → (requested : Bool) → Cell
cell_for origin None requested = if requested then Dropped else Missing
cell_for origin (Some a) requested = Received (pos origin +ℤ a.due) a.payload

-- the fields have the values that the record defines: the sequence number of the front, the state of the place at each
-- distance from it, the distance of the end of the received numbers, and the distance of the acknowledgement point
pub record IsWindowOf (width initial origin front : ℕ) (cells : ℕ → Cell) (end point : ℕ) (r : Receiving) : Type 0 where
  pub front_is : front ≡ (initial + r.front) % 2 ^ 31
  pub cells_are : (d : ℕ) → cells d ≡ cell_for origin (arrival_of r.arrivals (r.front + d)) (is_requested width r.requests (r.front + d))
  pub end_is : end ≡ end_of r.arrivals - r.front
  pub not_missing : (d : ℕ) → d < point → cell_is_missing (cells d) ≡ false
  pub missing : point < width → cell_is_missing (cells point) ≡ true

-- the number of places of a buffer
abbrev pub places_of : RecvBuf → ℕ
places_of b = width_of b.window

-- a buffer of this width represents `r`, with this initial number and this origin
abbrev pub StandsFor : (width initial origin : ℕ) → RecvBuf → Receiving → Type 0
StandsFor width initial origin b r = (places_of b ≡ width) × IsWindowOf width initial origin (word_of b.front) (cell_at b.window) b.end b.point r

-- the range between two sequence numbers, counted from the initial number
abbrev pub own_range : (initial : ℕ) → (first last : Seq31) → Range
own_range initial first last = range_from initial (record { first = word_of first; last = word_of last })

-- the place of the next packet to deliver; None if there is none
abbrev pub IsNextDue : (origin time room : ℕ) → (cells : ℕ → Cell) → Receiving → Option ℕ → Type 0
IsNextDue origin time room cells r None = next_due time room r ≡ None
IsNextDue origin time room cells r (Some d) =
    (a : Arrival) × (next_due time room r ≡ Some a) × (a.number ≡ r.front + d) × (cells d ≡ Received (pos origin +ℤ a.due) a.payload)

-- the sequence numbers of runs, as pairs of a first and a last
abbrev pub words_of : List (Seq31 × Seq31) → List (ℕ × ℕ)
words_of pairs = map (λ p. (word_of p.0, word_of p.1)) pairs

-- the pair of sequence numbers of a run, whose numbers count from the initial one
abbrev pub run_words : (initial : ℕ) → Run → ℕ × ℕ
run_words initial run = (number_word initial run.low, number_word initial run.high)

-- the runs that a NAK reports from a sequence number on, as pairs of sequence numbers
abbrev pub said_runs : (width initial word : ℕ) → Receiving → List (ℕ × ℕ)
said_runs width initial word r = map (run_words initial) (runs_from width (in_window (counted_from initial word) r.front (width + 1)) r)
