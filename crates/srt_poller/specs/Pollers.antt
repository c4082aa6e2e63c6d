-- A poller between the calls of its devices.
use Rattle.std.specs.Prelude.{◌≡◌, ◌⊎◌, ℕ, suc, ◌+◌, ◌*◌, ◌<◌, ◌≤◌, Bool, true, false, Option, List, ◌++◌, [], ◌∷◌, map, take, max, option_map}
use Rattle.std.specs.Option.{is_some}
use Rattle.crossbeam_queue.specs.Fifo.{Held}
use Rattle.srt_types.specs.declared.shared.Schedule.{Schedule}
use Rattle.srt_types.specs.Items.{Received, Close, input_of}
use Rattle.srt_cookie.specs.declared.secret.Secret.{Secret}
use Rattle.srt_cookie.specs.Cookie.{secret_bytes}
use Rattle.srt_lobby.specs.Names.{RouteName, names_of}
use Rattle.srt_lobby.specs.Lobby.{class_of}
use Rattle.srt_mailbox.specs.Ends.{Producer}
use Rattle.srt_mailbox.specs.Evidence.{FoundFull}
use Rattle.srt_mailbox.specs.Inbox.{StoodAsPolled}
use Rattle.srt_poller.specs.declared.buffers.Buffers.{Buffers}
use Rattle.srt_poller.specs.declared.ends.Ends.{Ends}
use Rattle.srt_poller.specs.declared.ends.Offered.{Offered}
use Rattle.srt_poller.specs.declared.ends.Offered.TheVariants.{Accepted, Full, Refused}
use Rattle.srt_poller.specs.declared.context.Classifier.{Classifier}
use Rattle.srt_poller.specs.declared.poller.Incoming.{Incoming}
use Rattle.srt_poller.specs.declared.poller.Poller.{Poller}
use Rattle.srt_poller.specs.Buffers.{Allocates}
use Rattle.srt_poller.specs.Devices.{Arrival, arrival, Heard, heard_more, Carried, ReadGave}
use Rattle.srt_poller.specs.History.{Sorting, Kept, kept, Phase, Begun, Reading, Sending, IsOver, reading, state}
use Rattle.srt_poller.specs.Rounds.{World, world, WentClosing, Went}
use Rattle.srt_poller.specs.Starts.{RoundStart}
use Rattle.srt_poller.specs.Told.{Observer, Setting, setting_of}

-- the classes that the lobby of this secret assigns to datagrams
abbrev pub sorting : Secret → Sorting
sorting secret = class_of (secret_bytes secret)

-- events are judged by these classes, and by what is known of this observer
abbrev pub lobby_setting : Secret → Observer → Setting
lobby_setting secret observer = setting_of (sorting secret) observer

abbrev pub setting_in : Classifier → Observer → Setting
setting_in lobby observer = lobby_setting lobby.secret.now observer

-- the names of the routes, in the order of their indexes
abbrev pub named_in : Classifier → List RouteName
named_in lobby = names_of lobby.names.now

-- a datagram whose bytes are at the front of the buffer
abbrev pub arrival_in : Incoming → Poller → Arrival
arrival_in incoming p = arrival incoming.peer (take incoming.len p.datagram) incoming.moment

-- the kept reply: its bytes are still in the buffer
abbrev pub kept_in : Poller → Option Kept
kept_in p = option_map (λ k. kept k.route (record { peer = k.peer; bytes = take k.len p.reply_bytes })) p.kept

-- what the next event depends on besides the kept reply and the phase: the names in force, the number of the round, and the greatest timestamp
-- that the source has given
pub record RoundState : Type 0 where
  pub names : List RouteName
  pub round : ℕ
  pub latest : ℕ

abbrev pub round_state : List RouteName → (round latest : ℕ) → RoundState
round_state names round latest = record { names = names; round = round; latest = latest }

abbrev pub world_of : Heard → Carried → List Ends → RoundState → Phase → Poller → World
world_of source wire ends t phase p = world source wire ends (state t.names (kept_in p) t.round phase t.latest) p.report

-- the phase of a round that has just begun, and whose wait is next unless a reply is kept
abbrev pub begun_phase : Poller → Phase
begun_phase p = Begun (is_some (kept_in p))

-- the same, with what a wait leaves open: what the wire recorded, and the ends
abbrev pub waiting : Heard → Poller → RoundState → Phase → Carried → List Ends → World
waiting source p t phase wire ends = world_of source wire ends t phase p

-- the same, with what a send leaves open: what the source recorded
abbrev pub sending : Carried → List Ends → Poller → RoundState → Phase → Heard → World
sending wire ends p t phase source = world_of source wire ends t phase p

-- the same, with what the reads of a round change
abbrev pub listening : Heard → Carried → List Ends → Poller → RoundState → Phase → World
listening source wire ends p t phase = world_of source wire ends t phase p

-- the source waited once, a read is owed, and it is read next
abbrev pub Waited : Observer → (old new : RoundState → Phase → Carried → List Ends → World) → Type 0
Waited observer old new =
    (class : Sorting) (schedules : List Schedule) (names : List RouteName) (round latest : ℕ) (wire : Carried) (ends : List Ends) →
    Went (setting_of class observer) schedules 1 1 0 (old (round_state names round latest) (Begun false) wire ends)
    (new (round_state names (suc round) latest) (Reading 0) wire ends)

-- the source waited once, and the wait failed: nothing is read in this round
abbrev pub WaitFailed : Observer → (old new : RoundState → Phase → Carried → List Ends → World) → Type 0
WaitFailed observer old new =
    (class : Sorting) (schedules : List Schedule) (names : List RouteName) (round latest : ℕ) (wire : Carried) (ends : List Ends) →
    Went (setting_of class observer) schedules 1 1 1 (old (round_state names round latest) (Begun false) wire ends)
    (new (round_state names (suc round) latest) (Sending 0 0) wire ends)

-- this datagram was read with these names in force, as the first of a round or a later one, and what happened to it is what its class defines
abbrev pub Arrived : Setting → List RouteName → Arrival → (old new : RoundState → Phase → Heard → World) → Type 0
Arrived setting names a old new =
    (schedules : List Schedule) (round latest reads : ℕ) (source : Heard) →
    Went setting schedules 1 0 1 (old (round_state names round latest) (Reading reads) source)
    (new (round_state names round (max latest a.moment)) (reading (reads + 1)) (heard_more source (a ∷ []) (ReadGave a)))

-- a round waited and read with these names in force, with at most this many events
abbrev pub Listened : Setting → List RouteName → (most : ℕ) → (old new : RoundState → Phase → World) → (before after : ℕ) → Type 0
Listened setting names most old new before after =
    (schedules : List Schedule) (round : ℕ)
    → Went setting schedules most 1 1 (old (round_state names round before) (Begun false)) (new (round_state names (suc round) after) (Sending 0 0))

-- the kept reply, if there was one, was sent again
abbrev pub Resent : Observer → (owes : Phase) → (old new : RoundState → Phase → Heard → World) → Type 0
Resent observer owes old new =
    (class : Sorting) (schedules : List Schedule) (t : RoundState) (source : Heard) →
    Went (setting_of class observer) schedules 1 0 0 (old t owes source) (new t (Begun false) source)

-- nothing is read any more in this round, at most this many replies of this route were sent in it, and none of later routes
abbrev pub IsUpTo : (route sends : ℕ) → Phase → Type 0
IsUpTo r n phase = (route : ℕ) × (sends : ℕ) × (phase ≡ Sending route sends) × ((route < r) ⊎ ((route ≡ r) × (sends ≤ n)))

-- Replies were sent, with at most this many events, none of them a wait or a datagram that arrived. Before, at most `few` of route `first` and none of
-- later routes had been sent in this round; afterwards at most `many` of route `last` and none of later ones
abbrev pub Replies : Observer → (first few last many most : ℕ) → (old new : RoundState → Phase → Heard → World) → Type 0
Replies observer first few last many most old new =
    (class : Sorting) (schedules : List Schedule) (t : RoundState) (phase : Phase) (source : Heard) → IsUpTo first few phase →
    (next : Phase) × IsUpTo last many next × Went (setting_of class observer) schedules most 0 0 (old t phase source) (new t next source)

-- A round that had begun with these names in force, of a poller with this many routes, was made to its end
abbrev pub RoundMade : Setting → List RouteName → (routes : ℕ) → (begun : Phase) → (old new : RoundState → Phase → World) → (before after : ℕ) → Type 0
RoundMade setting names routes begun old new before after =
    (schedules : List Schedule) (round : ℕ) →
    (next : Phase) × IsOver next
    × Went setting schedules (258 + 64 * routes) 1 1 (old (round_state names round before) begun) (new (round_state names (suc round) after) next)

-- This many rounds were made of a poller with this many routes, the last of which may end here. They started so. Rounds that close all began only if `closes`
-- is known, and others only if `goes` is
abbrev pub Rounds : (goes closes : Type 0) → Setting → List Schedule → (starts : List RoundStart) → (rounds routes : ℕ) → (old new : Phase → World) → Type 0
Rounds goes closes setting schedules starts rounds routes old new =
    (phase : Phase) → IsOver phase → (next : Phase) × IsOver next × (closing : ℕ) × ((closing ≡ rounds) ⊎ goes) × ((closing ≡ 0) ⊎ closes) ×
    WentClosing setting schedules closing starts (rounds * (259 + 64 * routes)) rounds rounds (old phase) (new next)

-- the inbox was full at some time, with these items of the poller's accepted
abbrev pub WasFull : Producer → Type 0
WasFull p = Held p.capacity (StoodAsPolled p.offered)

-- this evidence is of that inbox, found full after just these items of the poller's
abbrev pub IsOf : Producer → FoundFull → Type 0
IsOf p full = (full.queue ≡ p.queue) × (full.polled ≡ p.offered)

-- the poller's end before and after an offer of an arrival: the item is in the inbox; or nothing changed, and the inbox was full, or a copy of the
-- bytes after the first 16 allocates. That it was refused, the type of the evidence says
abbrev pub OfferedAs : Offered → Arrival → Buffers → (body : List ℕ) → Producer → Producer → Type 0
OfferedAs Accepted a buffers body old new =
    (new.queue ≡ old.queue) × (new.capacity ≡ old.capacity) ×
    (map input_of new.offered ≡ map input_of old.offered ++ Received a.datagram a.moment ∷ [])
OfferedAs (Full full) a buffers body old new = (new ≡ old) × WasFull old × IsOf old full
OfferedAs (Refused refused) a buffers body old new = (new ≡ old) × Allocates buffers body

-- the same of an offer of Close: it is in the inbox; or nothing changed, and the inbox was full
abbrev pub ClosedAs : (is_accepted : Bool) → (moment : ℕ) → Producer → Producer → Type 0
ClosedAs true moment old new =
    (new.queue ≡ old.queue) × (new.capacity ≡ old.capacity) × (map input_of new.offered ≡ map input_of old.offered ++ Close moment ∷ [])
ClosedAs false moment old new = (new ≡ old) × WasFull old
