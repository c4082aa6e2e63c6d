-- That a reader of places found no further route.
use Rattle.std.specs.Prelude.{◌≡◌, ℕ, ◌≤◌, List, length}
use Rattle.srt_mailbox.specs.declared.seats.Attachment.{Ghosts}
use Rattle.srt_mailbox.specs.declared.added_seats.Place.{Place}
use Rattle.srt_mailbox.specs.declared.readers.NoneSeated.{NoneSeated}
use Rattle.srt_mailbox.specs.declared.readers.NoneSeated.TheVariants.{Past, Empty, Misplaced, Taken}

module _ {X : Type 0} {g : Ghosts X} where
  -- A reader that says that it has passed all its places has reached as many routes. If it says that a route has another index than its place, that is
  -- the next place
  abbrev pub IsPast : (places : List (Place X g)) → (reached : ℕ) → NoneSeated → Type 0
  IsPast places reached Past = length places ≤ reached
  IsPast places reached (Empty place) = Unit {0}
  IsPast places reached (Misplaced found) = found.index ≡ reached
  IsPast places reached (Taken ends) = Unit {0}
