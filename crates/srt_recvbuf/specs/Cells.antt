-- The places of a window and their states.
use Rattle.std.specs.Prelude.{ℕ, ℤ, Bool, true, false, Option, None, Some, List, [], length, slice_index_or, not}
use Rattle.srt_recvbuf.specs.declared.window.NumberState.{NumberState}
use Rattle.srt_recvbuf.specs.declared.window.NumberState.TheVariants.{Missing as MissingState, Dropped as DroppedState, Received as ReceivedState}
use Rattle.srt_ring.specs.declared.ring.PayloadRing.{PayloadRing}
use Rattle.srt_ring.specs.Ring.{payload_at}
use Rattle.srt_recvbuf.specs.declared.window.Seek.{Seek}
use Rattle.srt_recvbuf.specs.declared.window.Seek.TheVariants.{NothingThere, SomethingThere, APacket, NotDropped}
use Rattle.srt_recvbuf.specs.declared.window.Window.{Window}

-- the state of a number: missing, dropped by the sender, or received with its due time and payload
pub data Cell : Type 0 where
  Missing : Cell
  Dropped : Cell
  Received : (due : ℤ) (payload : List ℕ) → Cell

-- the state of a place, from its stored state and its payload
abbrev pub cell_of : NumberState → List ℕ → Cell
cell_of MissingState payload = Missing
cell_of DroppedState payload = Dropped
cell_of (ReceivedState due) payload = Received due payload

-- the state of the place `at`, from all stored states and payloads
abbrev pub cell_in : (places : List NumberState) (payloads : PayloadRing) (at : ℕ) → Cell
cell_in places payloads at = cell_of (slice_index_or places at MissingState) (payload_at payloads at)

-- the stored state of the place `at`; Missing past the last place
abbrev pub place_at : Window → ℕ → NumberState
place_at w at = slice_index_or w.places.items at MissingState

-- the state of the place `at`; Missing past the last place
abbrev pub cell_at : Window → ℕ → Cell
cell_at w at = cell_in w.places.items w.payloads at

-- the number of places of a window
abbrev pub width_of : Window → ℕ
width_of w = length w.places.items

-- missing: neither received nor dropped
abbrev pub cell_is_missing : Cell → Bool
cell_is_missing Missing = true
cell_is_missing Dropped = false
cell_is_missing (Received due payload) = false

-- a packet was received
abbrev pub cell_is_received : Cell → Bool
cell_is_received Missing = false
cell_is_received Dropped = false
cell_is_received (Received due payload) = true

-- dropped and not received
abbrev pub cell_is_dropped : Cell → Bool
cell_is_dropped Missing = false
cell_is_dropped Dropped = true
cell_is_dropped (Received due payload) = false

-- whether a search for these states accepts this cell
abbrev pub is_sought : Seek → Cell → Bool
is_sought NothingThere cell = cell_is_missing cell
is_sought SomethingThere cell = not (cell_is_missing cell)
is_sought APacket cell = cell_is_received cell
is_sought NotDropped cell = not (cell_is_dropped cell)

-- the state after a drop request for the number: a received packet stays (section 3.2.9)
abbrev pub after_drop : Cell → Cell
after_drop Missing = Dropped
after_drop Dropped = Dropped
after_drop (Received due payload) = Received due payload

-- the due time of a received packet; None without one
abbrev pub due_of : Cell → Option ℤ
due_of Missing = None
due_of Dropped = None
due_of (Received due payload) = Some due

-- the payload of a received packet; empty without one
abbrev pub payload_of : Cell → List ℕ
payload_of Missing = []
payload_of Dropped = []
payload_of (Received due payload) = payload
