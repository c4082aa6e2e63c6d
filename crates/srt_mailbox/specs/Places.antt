-- Places, and the routes that a reader of places has reached.
use Rattle.std.specs.Prelude.{◌≡◌, ℕ, List, map, length, Some, slice_get}
use Rattle.srt_mailbox.specs.Cells.{CellIdentity}
use Rattle.srt_mailbox.specs.Identities.{identity_in}
use Rattle.srt_mailbox.specs.declared.seats.Attachment.{Ghosts}
use Rattle.srt_mailbox.specs.declared.added_seats.Place.{Place}
use Rattle.srt_mailbox.specs.declared.readers.SeatReader.{SeatReader}

module _ {X : Type 0} {g : Ghosts X} where
  -- the name of the lock of a place
  abbrev pub lock_in : Place X g → ℕ
  lock_in place = place.seat.id

  -- the places that the reader reads
  abbrev pub places_of : SeatReader X g → List (Place X g)
  places_of reader = reader.places.now

  -- the routes that the reader has reached, in the order of their places
  abbrev pub arrived : SeatReader X g → List CellIdentity
  arrived reader = map (λ t. identity_in t.value.cell) reader.tokens.items

  -- the names of the locks of its places, in their order
  abbrev pub locks_of : SeatReader X g → List ℕ
  locks_of reader = map lock_in reader.places.now

  -- the lock of this name is that of the place after those that the reader has reached
  abbrev pub is_next : SeatReader X g → (lock : ℕ) → Type 0
  is_next reader lock = slice_get (locks_of reader) (length reader.tokens.items) ≡ Some lock
