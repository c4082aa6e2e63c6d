-- What a source and a wire over a socket are once they are opened, and why they weren't.
use Rattle.std.specs.Prelude.{◌≡◌, ℕ, Option, List, [], ◌∷◌}
use Rattle.std.specs.Arc.{arc_value}
use Rattle.std.specs.declared.net.socket_addr.SocketAddr.{SocketAddr}
use Rattle.mio.specs.Events.{capacity}
use Rattle.srt_journal.specs.Notes.{Note}
use Rattle.srt_poller.specs.Pauses.{at_first}
use Rattle.srt_poller.specs.SystemCalls.{notes_of, opening_notes, read_room_note, read_address_note, IsRefusedOpening}
use Rattle.srt_poller.specs.declared.sockets.BindFault.{BindFault}
use Rattle.srt_poller.specs.declared.sockets.BindFault.TheVariants as bind
use Rattle.srt_poller.specs.declared.sockets.OpeningRefusal.{OpeningRefusal}
use Rattle.srt_poller.specs.declared.sockets.OpeningRefusal.TheVariants.{Socket, Memory}
use Rattle.srt_poller.specs.declared.sockets.Unopened.{Unopened}
use Rattle.srt_poller.specs.declared.sockets.SocketFacts.{SocketFacts}
use Rattle.srt_poller.specs.declared.sockets.MioSource.{MioSource}
use Rattle.srt_poller.specs.declared.sockets.MioWire.{MioWire}

-- at which a wire's socket was to be bound
abbrev pub bound_at : MioWire → SocketAddr
bound_at w = w.bound

-- what the system said of a socket is what was noted as it was asked: the size of its receive buffer, then its own address
abbrev pub AreNoted : SocketFacts → Type 0
AreNoted facts = notes_of facts.calls ≡ read_room_note facts.room ∷ read_address_note facts.address ∷ []

module _ {C : Type 0} where
  -- what the system said of a source's socket
  abbrev pub receive_buffer_of : MioSource C → Option ℕ
  receive_buffer_of source = source.facts.room

  abbrev pub address_of : MioSource C → Option SocketAddr
  address_of source = source.facts.address

  -- A source, over this clock, and a wire that were opened over one socket, and have done nothing yet
  pub record AreOpened (clock : C) (source : MioSource C) (wire : MioWire) : Type 0 where
    pub socket_is : (arc_value source.shared).socket ≡ (arc_value wire.shared).socket
    pub clock_is : source.clock ≡ clock
    pub pace_is : source.pace ≡ at_first
    pub room_is : capacity source.events ≡ 4
    pub facts_are : AreNoted source.facts
    pub no_failed_read : source.failures ≡ 0
    pub no_failed_send : wire.failures ≡ 0

-- a fault without its evidence: the number of the system's error, if it gave one, or memory
abbrev pub fault_in : OpeningRefusal → BindFault
fault_in (Socket refusal) = bind.Socket refusal.number
fault_in (Memory refused) = bind.OutOfMemory

abbrev pub fault_of : Unopened → BindFault
fault_of unopened = fault_in unopened.refusal

-- the calls of an opening at this address that ended so: the system refused the last one, or all were made and memory was refused
abbrev pub IsRefusedBy : SocketAddr → OpeningRefusal → List Note → Type 0
IsRefusedBy address (Socket refusal) calls = IsRefusedOpening address [] calls
IsRefusedBy address (Memory refused) calls = calls ≡ opening_notes address

abbrev pub IsUnopened : SocketAddr → Unopened → Type 0
IsUnopened address unopened = IsRefusedBy address unopened.refusal (notes_of unopened.calls)
