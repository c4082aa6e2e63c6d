-- What a socket's source and wire note of the calls of the system, for contracts alone.
use Rattle.std.specs.Prelude.{◌≡◌, ◌⊎◌, ℕ, ◌*◌, ◌/◌, ◌%◌, length, Bool, if◌then◌else◌, Result, Ok, Err, Option, Some, None, List, [], ◌∷◌, ◌++◌}
use Rattle.std.specs.Prelude.{slice_index, replicate}
use Rattle.std.specs.Int.{w32, from_le_bytes}
use Rattle.std.specs.Net.Addr.{ipv4_octets, ipv6_octets}
use Rattle.std.specs.Net.Socket.{socket_ip, socket_port, socket_flowinfo, socket_scope_id, v6_ip, v6_port}
use Rattle.std.specs.declared.net.ip_addr.IpAddr.{IpAddr}
use Rattle.std.specs.declared.net.ip_addr.IpAddr.TheVariants as ip
use Rattle.std.specs.declared.net.socket_addr.SocketAddr.{SocketAddr}
use Rattle.std.specs.declared.net.socket_addr.SocketAddr.TheVariants as socket
use Rattle.srt_types.specs.declared.shared.Peer.{Peer}
use Rattle.srt_journal.specs.Notes.{Note, oldest_first}
use Rattle.srt_poller.specs.Addresses.{HasAddress, IsTarget, mapped, ipv6_name}
use Rattle.srt_poller.specs.Pauses.{pause, after_wait, after_put_off, after_datagram, after_end}
use Rattle.srt_poller.specs.declared.devices.Polled.{Polled}
use Rattle.srt_poller.specs.declared.devices.Polled.TheVariants as polled
use Rattle.srt_poller.specs.declared.devices.Read.{Read}
use Rattle.srt_poller.specs.declared.devices.Read.TheVariants as read
use Rattle.srt_poller.specs.declared.devices.Sent.{Sent}
use Rattle.srt_poller.specs.declared.devices.Sent.TheVariants as sent
use Rattle.srt_poller.specs.declared.pace.Pace.{Pace}
use Rattle.srt_poller.specs.declared.pace.Pause.{Pause}
use Rattle.srt_poller.specs.declared.pace.Pause.TheVariants.{Poll, Nap}
use Rattle.srt_poller.specs.declared.sockets.Family.{Family}
use Rattle.srt_poller.specs.declared.sockets.Family.TheVariants as families
use Rattle.srt_poller.specs.declared.sockets.called.Called.{Called}
use Rattle.srt_poller.specs.declared.sockets.system.SystemCalls.{SystemCalls}
use Rattle.srt_poller.specs.declared.sockets.system.Handed.{Handed}
use Rattle.srt_poller.specs.declared.sockets.system.Handed.TheVariants as handed
use Rattle.srt_poller.specs.declared.sockets.system.Received.{Received}
use Rattle.srt_poller.specs.declared.sockets.system.Received.TheVariants as received

-- all calls, the oldest first
abbrev pub notes_of : SystemCalls → List Note
notes_of calls = oldest_first calls.notes.journal.notes

-- the bytes of an IP address, four or sixteen
abbrev pub octets_of : IpAddr → List ℕ
octets_of (ip.V4 a) = ipv4_octets a
octets_of (ip.V6 a) = ipv6_octets a

-- the evidence is of the call with this note: what it did, with which values, and how it ended
abbrev pub IsEvidence : Note → Called → Type 0
IsEvidence note called = called.journal.notes ≡ note ∷ []

-- a call that ended so and returned this number, with an address and bytes
abbrev pub note_at : (call end number : ℕ) → SocketAddr → (bytes : List ℕ) → Note
note_at call end number a bytes = (
  call ∷ end ∷ number ∷ socket_port a ∷ socket_flowinfo a ∷ socket_scope_id a ∷ [],
  octets_of (socket_ip a),
  bytes,
)

-- how a send ended, and the number of bytes that it took
abbrev pub end_of_send : Handed → ℕ
end_of_send (handed.Took n) = 0
end_of_send handed.NoRoom = 1
end_of_send handed.Failed = 2

abbrev pub count_of_send : Handed → ℕ
count_of_send (handed.Took n) = n
count_of_send handed.NoRoom = 0
count_of_send handed.Failed = 0

-- the same of a read, and how a wait ended
abbrev pub end_of_read : Received → ℕ
end_of_read (received.Datagram n from) = 0
end_of_read received.Nothing = 1
end_of_read received.Failed = 2

abbrev pub count_of_read : Received → ℕ
count_of_read (received.Datagram n from) = n
count_of_read received.Nothing = 0
count_of_read received.Failed = 0

abbrev pub end_of_poll : Polled → ℕ
end_of_poll polled.Ready = 0
end_of_poll polled.Failed = 2

-- a send of these bytes to this address
abbrev pub send_note : SocketAddr → (bytes : List ℕ) → Handed → Note
send_note a bytes answer = note_at 0 (end_of_send answer) (count_of_send answer) a bytes

-- a read, which left these bytes in the buffer
abbrev pub receive_note : (buffer : List ℕ) → Received → Note
receive_note buffer (received.Datagram n from) = note_at 1 0 n from buffer
receive_note buffer received.Nothing = (1 ∷ 1 ∷ [], [], buffer)
receive_note buffer received.Failed = (1 ∷ 2 ∷ [], [], buffer)

-- a wait for at most this many nanoseconds, and a nap of as many
abbrev pub poll_note : (nanos : ℕ) → Polled → Note
poll_note nanos answer = (2 ∷ end_of_poll answer ∷ nanos / 1_000_000_000 ∷ nanos % 1_000_000_000 ∷ [], [], [])

abbrev pub nap_note : (nanos : ℕ) → Note
nap_note nanos = (3 ∷ nanos ∷ [], [], [])

-- what no call notes
abbrev pub no_note : Note
no_note = ([], [], [])

-- the marks that a wire leaves for its source were taken: whether a send was put off, and how many were made
abbrev pub put_off_note : Bool → Note
put_off_note put_off = (4 ∷ (if put_off then 1 else 0) ∷ [], [], [])

abbrev pub sent_note : (sent : ℕ) → Note
sent_note sent = (5 ∷ sent ∷ [], [], [])

-- a wire left its mark that a send was put off, and that one more was made
abbrev pub mark_note : Note
mark_note = (6 ∷ [], [], [])

abbrev pub count_note : Note
count_note = (7 ∷ [], [], [])

-- how a call that opens a socket ended: with what it does, or with an error
abbrev pub end_of_opening : {A B : Type 0} → Result A B → ℕ
end_of_opening (Ok value) = 0
end_of_opening (Err error) = 2

-- the calls that open a socket at an address of IPv4: one
abbrev pub bind_note : (end : ℕ) → SocketAddr → Note
bind_note end a = note_at 8 end 0 a []

-- those of IPv6: a socket of datagrams that doesn't block and isn't inherited (2 + 2048 + 524_288), which also has callers over IPv4, since its option
-- IPV6_V6ONLY is 0, and which is bound at C's name of the address
abbrev pub open_note : (end : ℕ) → Note
open_note end = (9 ∷ end ∷ 526_338 ∷ [], [], [])

abbrev pub callers_note : (end : ℕ) → Note
callers_note end = (10 ∷ end ∷ [], [], replicate 16 0)

abbrev pub name_note : (end : ℕ) → (name : List ℕ) → Note
name_note end name = (11 ∷ end ∷ [], name, [])

-- the number of C's type int at the front of these bytes, in the order of the processor
abbrev pub word_in : (bytes : List ℕ) → ℕ
word_in bytes = from_le_bytes w32 (slice_index bytes 0 ∷ slice_index bytes 1 ∷ slice_index bytes 2 ∷ slice_index bytes 3 ∷ [])

-- a larger receive buffer was requested
abbrev pub room_note : (size : ℕ) → Note
room_note size = (12 ∷ size ∷ [], [], [])

-- the socket is polled for datagrams that may be read
abbrev pub register_note : (end : ℕ) → Note
register_note end = (13 ∷ end ∷ [], [], [])

-- a poll was opened, which has no socket yet
abbrev pub open_poll_note : (end : ℕ) → Note
open_poll_note end = (14 ∷ end ∷ [], [], [])

-- how a call that reads something of a socket ended, and the number that it read
abbrev pub end_of_reading : {A : Type 0} → Option A → ℕ
end_of_reading (Some value) = 0
end_of_reading None = 2

abbrev pub count_of_reading : Option ℕ → ℕ
count_of_reading (Some value) = value
count_of_reading None = 0

-- the size of the receive buffer was read, and the socket's own address
abbrev pub read_room_note : Option ℕ → Note
read_room_note room = (15 ∷ end_of_reading room ∷ count_of_reading room ∷ [], [], [])

abbrev pub read_address_note : Option SocketAddr → Note
read_address_note (Some a) = note_at 16 0 0 a []
read_address_note None = (16 ∷ 2 ∷ [], [], [])

-- the calls that bind a socket at this address, each with success
abbrev pub binding_notes : SocketAddr → List Note
binding_notes (socket.V4 a) = bind_note 0 (socket.V4 a) ∷ []
binding_notes (socket.V6 a) = open_note 0 ∷ callers_note 0 ∷ name_note 0 (ipv6_name (v6_port a) (ipv6_octets (v6_ip a))) ∷ []

-- the calls that open a source at this address; whether the receive buffer was had isn't noted
abbrev pub opening_notes : SocketAddr → List Note
opening_notes a = binding_notes a ++ room_note 4_194_304 ∷ open_poll_note 0 ∷ register_note 0 ∷ []

-- the calls that bind a socket of IPv6 at this C name, of which the system refused the last
abbrev pub IsRefusedName : (name : List ℕ) → (before after : List Note) → Type 0
IsRefusedName name before after =
    (after ≡ before ++ open_note 2 ∷ [])
    ⊎ ((after ≡ before ++ open_note 0 ∷ callers_note 2 ∷ [])
    ⊎ (after ≡ before ++ open_note 0 ∷ callers_note 0 ∷ name_note 2 name ∷ []))

-- the calls that bind a socket at this address, of which the system refused the last
abbrev pub IsRefusedBinding : SocketAddr → (before after : List Note) → Type 0
IsRefusedBinding (socket.V4 a) before after = after ≡ before ++ bind_note 2 (socket.V4 a) ∷ []
IsRefusedBinding (socket.V6 a) before after = IsRefusedName (ipv6_name (v6_port a) (ipv6_octets (v6_ip a))) before after

-- the calls that open a source at this address, of which the system refused the last
abbrev pub IsRefusedOpening : SocketAddr → (before after : List Note) → Type 0
IsRefusedOpening a before after =
    IsRefusedBinding a before after
    ⊎ ((after ≡ before ++ (binding_notes a ++ room_note 4_194_304 ∷ open_poll_note 2 ∷ []))
    ⊎ (after ≡ before ++ (binding_notes a ++ room_note 4_194_304 ∷ open_poll_note 0 ∷ register_note 2 ∷ [])))

-- the one call of a pause
abbrev pub pause_note : Pause → Polled → Note
pause_note (Poll millis) result = poll_note (millis * 1_000_000) result
pause_note Nap polled.Ready = nap_note 100_000
pause_note Nap polled.Failed = no_note

-- the pace once the mark of a put off send was taken
abbrev pub with_mark : (put_off : Bool) → Pace → Pace
with_mark put_off p = if put_off then after_put_off p else p

-- A wait: the wire's marks were taken, and the pause that the pace then has was made, once
pub record IsWait (old new : Pace) (before after : List Note) (result : Polled) : Type 0 where
  pub put_off : Bool
  pub sent : ℕ
  pub paced : new ≡ after_wait (with_mark put_off old)
  pub calls : after ≡ before ++ put_off_note put_off ∷ sent_note sent ∷ pause_note (pause sent (with_mark put_off old)) result ∷ []

-- A read: one call, whose answer it is
abbrev pub IsRead : (before after : List Note) → (buffer : List ℕ) → Read → Type 0
IsRead before after buffer (read.Datagram peer len moment) =
    (from : SocketAddr) × HasAddress peer from × (after ≡ before ++ receive_note buffer (received.Datagram len from) ∷ [])
IsRead before after buffer read.Empty = after ≡ before ++ receive_note buffer received.Nothing ∷ []
IsRead before after buffer read.Failed = after ≡ before ++ receive_note buffer received.Failed ∷ []

-- the pace after a read
abbrev pub after_read : Read → Pace → Pace
after_read (read.Datagram peer len moment) p = after_datagram moment p
after_read read.Empty p = after_end p
after_read read.Failed p = after_end p

-- an answer to a send of this many bytes that makes it a failed one
abbrev pub IsFailure : (len : ℕ) → Handed → Type 0
IsFailure len (handed.Took n) = n ≡ len → ⊥
IsFailure len handed.NoRoom = ⊥
IsFailure len handed.Failed = Unit {0}

-- the peer has no address of the family
abbrev pub HasNone : Family → Peer → Type 0
HasNone family peer = (family ≡ families.V4) × ((a b c d : ℕ) → peer.ip ≡ mapped (a ∷ b ∷ c ∷ d ∷ []) → ⊥)

-- A send: one call with the peer's address and these bytes, whose answer it is, and the mark for the source; it fails without
-- a call if the peer has no address of the family
abbrev pub IsSend : Family → Peer → (bytes : List ℕ) → (before after : List Note) → Sent → Type 0
IsSend family to bytes before after sent.Taken =
    (a : SocketAddr) × IsTarget family to a × (after ≡ before ++ send_note a bytes (handed.Took (length bytes)) ∷ count_note ∷ [])
IsSend family to bytes before after sent.Later =
    (a : SocketAddr) × IsTarget family to a × (after ≡ before ++ send_note a bytes handed.NoRoom ∷ mark_note ∷ [])
IsSend family to bytes before after sent.Failed =
    (HasNone family to × (after ≡ before))
    ⊎ ((a : SocketAddr) × (answer : Handed) × IsTarget family to a × IsFailure (length bytes) answer
    × (after ≡ before ++ send_note a bytes answer ∷ []))
