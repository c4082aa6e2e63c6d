-- The Full ACKs that were sent, and which of them an ACKACK confirms (sections 3.2.4 and 3.2.8). Times and samples are
-- microseconds.
use Rattle.std.specs.Prelude.{◌≡◌, ℕ, zero, suc, ◌+◌, ◌-◌, ◌%◌, ◌<◌, min, Bool, true, false, not, ◌&&◌, ◌==◌, if◌then◌else◌, Option, None}
use Rattle.std.specs.Prelude.{Some, option_map, List, [], ◌∷◌, length, map, take, find, position, slice_get, slice_index_or}
use Rattle.std.specs.Prelude.{option_and_then}
use Rattle.srt_types.specs.Counts.{ack_number}
use Rattle.srt_timing.specs.declared.book.AckBook.{AckBook}

-- a Full ACK: the number of Full ACKs sent before it, the time at which it was sent, and whether an ACKACK confirmed it
pub record Noted : Type 0 where
  pub index : ℕ
  pub moment : ℕ
  pub is_confirmed : Bool

-- the history after a Full ACK is sent at this time; a history has the newest first
abbrev pub noted : (moment : ℕ) → List Noted → List Noted
noted moment history = record { index = length history; moment = moment; is_confirmed = false } ∷ history

-- whether an ACKACK with this number can confirm this Full ACK
abbrev pub is_waiting : (number : ℕ) → Noted → Bool
is_waiting number n = (ack_number n.index == number) && not n.is_confirmed

-- the Full ACK, among the last 64, that an ACKACK with this number confirms (our choice)
abbrev pub waiting : (number : ℕ) → List Noted → Option Noted
waiting number history = find (is_waiting number) (take 64 history)

-- the number of Full ACKs sent after that one
abbrev pub waiting_place : (number : ℕ) → List Noted → Option ℕ
waiting_place number history = position (is_waiting number) (take 64 history)

-- the time since a Full ACK was sent, at most 10 s (our choice)
abbrev pub sample_at : (now : ℕ) → Noted → ℕ
sample_at now n = min (now - n.moment) 10_000_000

-- the sample of the round-trip time from an ACKACK with this number, if it confirms a Full ACK
abbrev pub sample : (number now : ℕ) → List Noted → Option ℕ
sample number now history = option_map (sample_at now) (waiting number history)

-- a Full ACK, marked as confirmed if it has this index
abbrev pub marked : (index : ℕ) → Noted → Noted
marked index n = record n { is_confirmed = if n.index == index then true else n.is_confirmed }

-- the history after this Full ACK was confirmed; unchanged if there is none
abbrev pub with_marked : Option Noted → List Noted → List Noted
with_marked None history = history
with_marked (Some n) history = map (marked n.index) history

-- the history after an ACKACK with this number arrives
abbrev pub confirmed : (number : ℕ) → List Noted → List Noted
confirmed number history = with_marked (waiting number history) history

-- the indexes count up from 0, the index of the oldest
abbrev pub IsNumbered : List Noted → Type 0
IsNumbered [] = Unit
IsNumbered (n ∷ history) = (n.index ≡ length history) × IsNumbered history

-- the sending time of the Full ACK after which place others were sent; none if it is confirmed or doesn't exist
abbrev pub moment_at : List Noted → (place : ℕ) → Option ℕ
moment_at [] place = None
moment_at (n ∷ history) zero = if n.is_confirmed then None else Some n.moment
moment_at (n ∷ history) (suc place) = moment_at history place

-- the representation of a history: next is the number of the next Full ACK, moments is the ring of sending times, and
-- at is the index of the next one in it
pub record IsBookOf (next at : ℕ) (moments : List (Option ℕ)) (history : List Noted) : Type 0 where
  pub numbered : IsNumbered history
  pub next_is : next ≡ ack_number (length history)
  pub moments_are : (place : ℕ) → place < 64 → slice_index_or moments ((at + (63 - place)) % 64) None ≡ moment_at history place

-- the value of the code represents this history
abbrev pub StandsFor : AckBook → List Noted → Type 0
StandsFor b history = IsBookOf b.next b.at b.moments.items history

-- the Full ACK that an ACKACK confirms is the one at its waiting_place
abbrev pub WaitsAtPlace : Type 0
WaitsAtPlace = (number : ℕ) (history : List Noted) → waiting number history ≡ option_and_then (slice_get history) (waiting_place number history)

-- after an ACKACK, another one with the same number confirms none of the last 64 Full ACKs
abbrev pub ConfirmsOnce : Type 0
ConfirmsOnce = (number : ℕ) (history : List Noted) → IsNumbered history → waiting number (confirmed number history) ≡ None

-- the place of a Full ACK is the number of Full ACKs sent after it
abbrev pub PlacesCountBack : Type 0
PlacesCountBack =
    (history : List Noted) (place : ℕ) (n : Noted)
    → IsNumbered history → slice_get history place ≡ Some n → n.index + (place + 1) ≡ length history
