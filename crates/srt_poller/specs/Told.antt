-- What a poller's observer was told of its events.
use Rattle.std.specs.Prelude.{◌≡◌, ℕ, List, [], ◌∷◌, take}
use Rattle.srt_types.specs.Items.{Datagram}
use Rattle.srt_lobby.specs.Names.{RouteName}
use Rattle.srt_lobby.specs.declared.classes.Class.TheVariants.{Answer}
use Rattle.srt_poller.specs.declared.devices.Sent.{Sent}
use Rattle.srt_poller.specs.declared.devices.Sent.TheVariants.{Taken, Later, Failed}
use Rattle.srt_supervision.specs.declared.report.Report.{Report}
use Rattle.srt_poller.specs.Devices.{Arrival}
use Rattle.srt_poller.specs.History.{Sorting, Event, Begins, Waits, WaitFails, ReadsNothing, ReadFails, Answers, Accepts, Overflows, Refuses, Drops}
use Rattle.srt_poller.specs.History.{Sends, Resends}
use Rattle.srt_poller.specs.Reports.{counted_by}

-- What is known once an observer was told: these counters; that the lobby with these names answered a datagram so; that a route replied with this handshake;
-- a fault. Each is the observer's to choose
pub record Observer : Type 1 where
  pub counts : Report → Type 0
  pub answer : (names : List RouteName) → Datagram → (answer : List ℕ) → Type 0
  pub handshake : (route : ℕ) → Datagram → Type 0
  pub fault : Type 0

-- nothing is known, whatever was told
abbrev pub knows_nothing : Observer
knows_nothing =
    record { counts = λ n. Unit {0}; answer = λ names d bytes. Unit {0}; handshake = λ route reply. Unit {0}; fault = Unit {0} }

-- a handshake: the first word is 0x80000000
abbrev pub IsHandshake : (bytes : List ℕ) → Type 0
IsHandshake bytes = take 4 bytes ≡ 128 ∷ 0 ∷ 0 ∷ 0 ∷ []

-- a send that failed was told as a fault
abbrev pub IsToldSend : Observer → Sent → Type 0
IsToldSend o Taken = Unit {0}
IsToldSend o Later = Unit {0}
IsToldSend o Failed = o.fault

-- an answer was told with names by which it is the lobby's
abbrev pub IsToldAnswer : Sorting → Observer → Arrival → (bytes : List ℕ) → Type 0
IsToldAnswer class o a bytes = (names : List RouteName) × (class names a.datagram a.moment ≡ Answer bytes) × o.answer names a.datagram bytes

-- What was told of an event, before which the counters were these: the counters at the beginning of each round, each answer of the lobby, each handshake that
-- was taken from an outbox, and each failure
abbrev pub IsTold : Sorting → Observer → Report → Event → Type 0
IsTold class o n (Begins closes_all moment offers) = o.counts n
IsTold class o n Waits = Unit {0}
IsTold class o n WaitFails = o.fault
IsTold class o n ReadsNothing = Unit {0}
IsTold class o n ReadFails = o.fault
IsTold class o n (Answers arrival bytes sent) = IsToldAnswer class o arrival bytes × IsToldSend o sent
IsTold class o n (Accepts arrival route) = Unit {0}
IsTold class o n (Overflows arrival route) = Unit {0}
IsTold class o n (Refuses arrival route) = Unit {0}
IsTold class o n (Drops arrival cause) = Unit {0}
IsTold class o n (Sends route reply sent) = (IsHandshake reply.bytes → o.handshake route reply) × IsToldSend o sent
IsTold class o n (Resends route reply sent) = IsToldSend o sent

-- the same of each event, before the first of which the counters were these
abbrev pub AreTold : Sorting → Observer → Report → List Event → Type 0
AreTold class o n [] = Unit {0}
AreTold class o n (event ∷ events) = IsTold class o n event × AreTold class o (counted_by n event) events

-- by what events are judged: the classes of datagrams, and what the observer was told
pub record Setting : Type 1 where
  pub class : Sorting
  pub observer : Observer

abbrev pub setting_of : Sorting → Observer → Setting
setting_of class observer = record { class = class; observer = observer }
