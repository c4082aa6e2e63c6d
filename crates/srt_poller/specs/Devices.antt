-- What a source and a wire record.
use Rattle.std.specs.Prelude.{ℕ, ◌<◌, ◌≤◌, ◌^◌, Option, List, [], ◌∷◌, ◌++◌, take, option_map}
use Rattle.srt_types.specs.declared.shared.Peer.{Peer}
use Rattle.srt_types.specs.Items.{Datagram as TheDatagram}
use Rattle.srt_mailbox.specs.Counts.{Grew}
use Rattle.srt_poller.specs.declared.devices.Polled.{Polled}
use Rattle.srt_poller.specs.declared.devices.Polled.TheVariants as polled
use Rattle.srt_poller.specs.declared.devices.Read.{Read}
use Rattle.srt_poller.specs.declared.devices.Read.TheVariants.{Datagram, Empty, Failed}
use Rattle.srt_poller.specs.declared.devices.Sent.{Sent}
use Rattle.srt_poller.specs.declared.devices.Sent.TheVariants as sent

abbrev pub datagram : Peer → (bytes : List ℕ) → TheDatagram
datagram peer bytes = record { peer = peer; bytes = bytes }

-- a datagram and the time of its arrival, in microseconds
pub record Arrival : Type 0 where
  pub datagram : TheDatagram
  pub moment : ℕ

abbrev pub arrival : Peer → (bytes : List ℕ) → (moment : ℕ) → Arrival
arrival peer bytes moment = record { datagram = datagram peer bytes; moment = moment }

-- a length within the buffer and a time within the limit; a failure only if the count of failures grew
abbrev pub ReadsWell : Read → ℕ → ℕ → Type 0
ReadsWell (Datagram peer len moment) a b = (len ≤ 2048) × (moment < 2 ^ 62)
ReadsWell Empty a b = Unit {0}
ReadsWell Failed a b = Grew a b

-- this is known of the time of the datagram that a read returned, if any
abbrev pub IsTimed : (known : ℕ → Type 0) → Read → Type 0
IsTimed known (Datagram peer len moment) = known moment
IsTimed known Empty = Unit {0}
IsTimed known Failed = Unit {0}

-- the datagram that a read returned, if any: it is at the front of the buffer
abbrev pub given_by_read : Read → (buffer : List ℕ) → List Arrival
given_by_read (Datagram peer len moment) buffer = arrival peer (take len buffer) moment ∷ []
given_by_read Empty buffer = []
given_by_read Failed buffer = []

-- what a send handed to the wire: nothing if it returned Later
abbrev pub handed_by_send : {A : Type 0} → Sent → A → List A
handed_by_send sent.Taken x = x ∷ []
handed_by_send sent.Later x = []
handed_by_send sent.Failed x = x ∷ []

-- a send, and its outcome
pub record Attempt : Type 0 where
  pub datagram : TheDatagram
  pub sent : Sent

abbrev pub attempt : TheDatagram → Sent → Attempt
attempt d sent = record { datagram = d; sent = sent }

-- a call of a source, with its result
pub data Call : Type 0 where
  -- a wait ended, and one failed
  WaitEnded : Call
  WaitFailed : Call
  -- a read returned this datagram, one found none, and one failed
  ReadGave : (arrival : Arrival) → Call
  ReadEmpty : Call
  ReadFailed : Call

abbrev pub call_of_wait : Polled → Call
call_of_wait polled.Ready = WaitEnded
call_of_wait polled.Failed = WaitFailed

abbrev pub call_of_read : Read → (buffer : List ℕ) → Call
call_of_read (Datagram peer len moment) buffer = ReadGave (arrival peer (take len buffer) moment)
call_of_read Empty buffer = ReadEmpty
call_of_read Failed buffer = ReadFailed

-- the record of a device, the oldest first, with these added; None stays None
abbrev pub joined : {A : Type 0} → (recorded : Option (List A)) → (more : List A) → Option (List A)
joined recorded more = option_map (λ xs. xs ++ more) recorded

-- what a source has recorded: the datagrams that it returned, and all calls
pub record Heard : Type 0 where
  pub gave : Option (List Arrival)
  pub calls : Option (List Call)

abbrev pub heard : Option (List Arrival) → Option (List Call) → Heard
heard gave calls = record { gave = gave; calls = calls }

-- the same after one call more, which returned these datagrams
abbrev pub heard_more : Heard → List Arrival → Call → Heard
heard_more h arrivals call = heard (joined h.gave arrivals) (joined h.calls (call ∷ []))

-- what a wire has recorded: the datagrams that were handed to it, and all sends
pub record Carried : Type 0 where
  pub handed : Option (List TheDatagram)
  pub attempts : Option (List Attempt)

abbrev pub carried : Option (List TheDatagram) → Option (List Attempt) → Carried
carried handed attempts = record { handed = handed; attempts = attempts }
