-- The forms of the buffer's clauses: how a call changes the record that a buffer represents, and which facts hold of
-- the record.
use Rattle.std.specs.Prelude.{◌≡◌, ℕ, ◌+◌, ◌-◌, ℤ, pos, ◌+ℤ◌, Bool, Option, List, option_map, map, filter, take}
use Rattle.srt_types.specs.Window.{word_of, counted_from, number_word}
use Rattle.srt_types.specs.Runs.{runs, numbers_from}
use Rattle.srt_types.specs.declared.numbers.Seq31.{Seq31}
use Rattle.srt_recvbuf.specs.Cells.{cell_at, cell_is_missing}
use Rattle.srt_recvbuf.specs.Receiving.{Arrival, Receiving, received}
use Rattle.srt_recvbuf.specs.Stands.{StandsFor, run_words, words_of}
use Rattle.srt_recvbuf.specs.declared.buffer.RecvBuf.{RecvBuf}

-- if the old buffer represents a record, the new one represents the record after the change, with the same width,
-- initial number and origin
abbrev pub Becomes : (old new : RecvBuf) → (change : (width initial : ℕ) → Receiving → Receiving) → Type 0
Becomes old new change =
    (width initial origin : ℕ) (r : Receiving)
    → StandsFor width initial origin old r → StandsFor width initial origin new (change width initial r)

-- the same at the clock's time `now`, which is the origin plus `time`
abbrev pub BecomesAt : (now : ℕ) → (old new : RecvBuf) → (change : (width time : ℕ) → Receiving → Receiving) → Type 0
BecomesAt now old new change =
    (width initial origin time : ℕ) (r : Receiving)
    → now ≡ origin + time → StandsFor width initial origin old r → StandsFor width initial origin new (change width time r)

-- if the buffer represents a record, this holds of the record
abbrev pub HoldsOf : RecvBuf → (fact : (width initial : ℕ) → Receiving → Type 0) → Type 0
HoldsOf b fact = (width initial origin : ℕ) (r : Receiving) → StandsFor width initial origin b r → fact width initial r

-- the same at the clock's time `now`, which is the origin plus `time`
abbrev pub HoldsOfAt : (now : ℕ) → RecvBuf → (fact : (origin time : ℕ) → Receiving → Type 0) → Type 0
HoldsOfAt now b fact = (width initial origin time : ℕ) (r : Receiving) → now ≡ origin + time → StandsFor width initial origin b r → fact origin time r

-- a packet with this sequence number and payload, due at the clock's time `due`, is put into the buffer
abbrev pub Stores : (word : ℕ) → (due : ℤ) → (payload : List ℕ) → (old new : RecvBuf) → Type 0
Stores word due payload old new =
    (width initial origin : ℕ) (r : Receiving) (time : ℤ) → due ≡ pos origin +ℤ time → StandsFor width initial origin old r
    → StandsFor width initial origin new (received width (counted_from initial word) payload time r)

-- `found` are the first 32 runs of missing places from the place `from` on, as pairs of sequence numbers. `test` is
-- any test of numbers that is true exactly at the numbers of missing places, and `front` is the front's number
abbrev pub AreRunsFrom : (from : ℕ) → RecvBuf → List (Seq31 × Seq31) → Type 0
AreRunsFrom from b found =
    (initial front : ℕ) (test : ℕ → Bool) → word_of b.front ≡ number_word initial front → ((d : ℕ) → test (front + d) ≡ cell_is_missing (cell_at b.window d))
    → words_of found ≡ map (run_words initial) (take 32 (runs (filter test (numbers_from (front + from) (b.end - from)))))

-- the payload of a packet, if there is one
abbrev pub payload_in : Option Arrival → Option (List ℕ)
payload_in packet = option_map (λ (a : Arrival). a.payload) packet
