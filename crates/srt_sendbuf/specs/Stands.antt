-- Which record a buffer's fields represent.
use Rattle.std.specs.Prelude.{◌≡◌, ℕ, ◌+◌, ◌-◌, ◌%◌, ◌^◌, ◌<◌, ◌≤◌, ⊤, Bool, true, ◌||◌, Option, None, Some, List, [], ◌∷◌, All, length, slice_get, min}
use Rattle.srt_types.specs.Window.{word_of}
use Rattle.srt_types.specs.Counts.{message_number, message_of}
use Rattle.srt_types.specs.Runs.{Range}
use Rattle.srt_sendbuf.specs.Sending.{Queued, Sending, front, base, next, is_marked}
use Rattle.srt_sendbuf.specs.Places.{Kept, kept_at, lost_at, length_of, width_of, marks_of, HasSame}
use Rattle.srt_sendbuf.specs.Parts.{IsTaken}
use Rattle.srt_sendbuf.specs.declared.buffer.SendBuf.{SendBuf}

-- the payloads are in the order of their queueing times
abbrev pub IsInOrder : List Queued → Type 0
IsInOrder [] = ⊤
IsInOrder (q ∷ qs) = All (λ p. q.origin ≤ p.origin) qs × IsInOrder qs

-- the stored packet of a number of the queue
abbrev pub kept_as : (number : ℕ) → Option Queued → Option Kept
kept_as number None = None
kept_as number (Some q) = Some (record { origin = q.origin; message = message_number number; payload = q.payload })

-- the fields represent the record: the numbers from the front to the queue's end have the places from 0 on, in order,
-- and the lost ones have places from `low` on and before `high`
pub record IsKept (initial word behind queued flying low high base_message end_message : ℕ) (kept : ℕ → Option Kept) (lost : ℕ → Bool)
    (r : Sending) : Type 0 where
  pub word_is : word ≡ (initial + front r) % 2 ^ 31
  pub behind_is : behind ≡ min (front r - r.acked) 16384
  pub queued_is : front r + queued ≡ length r.queue
  pub flying_is : front r + flying ≡ next r
  pub base_message_is : base_message ≡ message_number (base r)
  pub end_message_is : end_message ≡ message_number (length r.queue)
  pub kept_is : (d : ℕ) → d < queued → kept d ≡ kept_as (front r + d) (slice_get r.queue (front r + d))
  pub lost_is : (d : ℕ) → d < flying → lost d ≡ is_marked r.marks (front r + d)
  pub within : (d : ℕ) → d < flying → lost d ≡ true → (low ≤ d) × (d < high)
  pub lowest : low < high → lost low ≡ true
  pub in_order : IsInOrder r.queue

-- a buffer of this width represents `r`, the record of a stream with this initial number
pub record StandsFor (width initial : ℕ) (b : SendBuf) (r : Sending) : Type 0 where
  pub width_is : width_of b.ring ≡ width
  pub fields : IsKept initial (word_of b.front) b.behind (length_of b.ring) b.sent b.low b.high (message_of b.message)
      (message_of b.next_message) (kept_at b.ring) (lost_at b.ring) r

-- `moved` is `r` with its front moved on by `count`, and with the same queue and marks. `behind` and `message` are the
-- buffer's fields for it
pub record IsMoved (count behind message : ℕ) (r moved : Sending) : Type 0 where
  pub queue_is : moved.queue ≡ r.queue
  pub marks_are : moved.marks ≡ r.marks
  pub front_is : front moved ≡ front r + count
  pub behind_is : behind ≡ min (front moved - moved.acked) 16384
  pub message_is : message ≡ message_number (base moved)

-- for every record that a buffer represents, with its width and the stream's initial number, `P` holds
abbrev pub ForWhatever : SendBuf → (P : (width initial : ℕ) → Sending → Type 0) → Type 0
ForWhatever b P = (width initial : ℕ) (r : Sending) → StandsFor width initial b r → P width initial r

-- if the buffer represents a record before a call, it represents `f` of it after the call
abbrev pub Becomes : (before after : SendBuf) → (f : (initial : ℕ) → Sending → Sending) → Type 0
Becomes before after f = (width initial : ℕ) (r : Sending) → StandsFor width initial before r → StandsFor width initial after (f initial r)

-- the same for the records for which `P` holds
abbrev pub BecomesIf : (P : Sending → Type 0) → (before after : SendBuf) → (f : Sending → Sending) → Type 0
BecomesIf P before after f =
    (width initial : ℕ) (r : Sending) → StandsFor width initial before r → P r → StandsFor width initial after (f r)

-- a call moved the front on by `count`
abbrev pub MovesFront : (count behind message : ℕ) → (before after : SendBuf) → Type 0
MovesFront count behind message before after =
    (width initial : ℕ) (r moved : Sending) → StandsFor width initial before r → IsMoved count behind message r moved → StandsFor width initial after moved

-- the number of times that a place was marked as lost or as not lost: the work for loss lists
abbrev pub marks : SendBuf → ℕ
marks b = marks_of b.ring

-- a call marked the packets of the places in `named` as lost, and changed nothing else
pub record HasMarked (named : ℕ → Bool) (before after : SendBuf) : Type 0 where
  pub same : HasSame before.ring after.ring
  pub front_is : after.front ≡ before.front
  pub behind_is : after.behind ≡ before.behind
  pub sent_is : after.sent ≡ before.sent
  pub message_is : after.message ≡ before.message
  pub next_message_is : after.next_message ≡ before.next_message
  pub lost_is : (d : ℕ) → d < before.sent → lost_at after.ring d ≡ (named d || lost_at before.ring d)
  pub within : ((d : ℕ) → d < before.sent → lost_at before.ring d ≡ true → (before.low ≤ d) × (d < before.high))
      → (d : ℕ) → d < before.sent → lost_at after.ring d ≡ true → (after.low ≤ d) × (d < after.high)
  pub lowest : (before.low < before.high → lost_at before.ring before.low ≡ true) → after.low < after.high → lost_at after.ring after.low ≡ true

-- a call read ranges from a loss list, and marked the packets in flight in them as lost
abbrev pub TakesParts : (before after : SendBuf) → (list left : List Range) → Type 0
TakesParts before after list left =
    (named : ℕ → Bool) × HasMarked named before after × IsTaken (word_of before.front) before.sent list left named
