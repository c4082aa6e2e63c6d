-- The text of the answer to each event (our choice).
use Rattle.std.specs.Prelude.{ℕ, ◌+◌, List, [], ◌∷◌, ◌++◌, Option, None, Some, Result, Ok, Err, codes, decimal}
use Rattle.hex.specs.Hex.{encode_lower}
use Rattle.srt_types.specs.declared.shared.OpenFault.{OpenFault}
use Rattle.srt_types.specs.declared.shared.OpenFault.TheVariants as faults
use Rattle.srt_types.specs.declared.shared.Turned.{Turned}
use Rattle.srt_types.specs.declared.shared.Turned.TheVariants.{Moved, Applied, Blocked, Idle}
use Rattle.srt_lobby.specs.declared.classes.Cause.{Cause}
use Rattle.srt_lobby.specs.Numbers.{number_of}
use Rattle.srt_hub.specs.declared.answers.Arrived.{Arrived}
use Rattle.srt_hub.specs.declared.answers.Arrived.TheVariants as arrived
use Rattle.srt_hub.specs.declared.answers.Closing.{Closing}
use Rattle.srt_hub.specs.declared.answers.Closing.TheVariants as closings
use Rattle.srt_hub.specs.declared.answers.Ticked.{Ticked}
use Rattle.srt_hub.specs.declared.answers.Ticked.TheVariants as ticked
use Rattle.srt_types.specs.Items.{Datagram}
use Rattle.srt_types.specs.Terms.{Terms}
use Rattle.srt_hub.specs.World.{Event, Arrives, Ticks, Turns, Sends, Opens, Closes, Sorting, Meaning, arrival_of, tick, turn, first}
use Rattle.srt_hub.specs.World.{opening, closing, world_after}
use Rattle.srt_hub.specs.Hubs.{names_at, entry_at, lane_at, room_at}

-- the digit of a cause's number
abbrev pub digit_of : Cause → ℕ
digit_of cause = 48 + number_of cause

-- a word and a route's number as a line, with its LF
abbrev pub route_text : (words : List ℕ) (route : ℕ) → List ℕ
route_text words route = words ++ decimal route ++ 10 ∷ []

-- the line of an arrival's answer
abbrev pub arrived_text : Arrived → List ℕ
arrived_text (arrived.Answer bytes) = codes "answer " ++ encode_lower bytes ++ 10 ∷ []
arrived_text (arrived.Accepted route) = route_text (codes "accepted ") route
arrived_text (arrived.Full route) = route_text (codes "full ") route
arrived_text (arrived.Dropped cause) = codes "dropped " ++ digit_of cause ∷ 10 ∷ []

abbrev pub ticked_text : (route : ℕ) → Ticked → List ℕ
ticked_text route ticked.Accepted = route_text (codes "accepted ") route
ticked_text route ticked.Full = route_text (codes "full ") route

abbrev pub turned_text : Turned → List ℕ
turned_text Moved = codes "moved" ++ 10 ∷ []
turned_text Applied = codes "applied" ++ 10 ∷ []
turned_text Blocked = codes "blocked" ++ 10 ∷ []
turned_text Idle = codes "idle" ++ 10 ∷ []

abbrev pub sent_text : Option Datagram → List ℕ
sent_text None = codes "none" ++ 10 ∷ []
sent_text (Some d) = codes "sent " ++ encode_lower d.peer.ip ++ 32 ∷ decimal d.peer.port ++ 32 ∷ encode_lower d.bytes ++ 10 ∷ []

-- the line of an opening's result; none if it ran out of memory
abbrev pub opened_text : Result ℕ OpenFault → List ℕ
opened_text (Ok route) = route_text (codes "opened ") route
opened_text (Err faults.Names) = codes "open fault 1" ++ 10 ∷ []
opened_text (Err faults.Limits) = codes "open fault 2" ++ 10 ∷ []
opened_text (Err faults.OutOfMemory) = []

abbrev pub closed_text : (route : ℕ) → Closing → List ℕ
closed_text route closings.Accepted = route_text (codes "closing ") route
closed_text route closings.Full = route_text (codes "full ") route
closed_text route closings.Closed = route_text (codes "closed ") route

-- the line of an arrival's result; none if it ran out of memory
abbrev pub arrival_text : Option Arrived → List ℕ
arrival_text None = []
arrival_text (Some answer) = arrived_text answer

-- the line of an event's answer, after these events, the newest first
unfoldable pub event_text : Sorting → Meaning → List Terms → List Event → Event → List ℕ
event_text class reply entries events (Arrives d moment refused) =
    arrival_text (arrival_of refused (room_at class reply entries events) (class (names_at class reply entries events) d moment))
event_text class reply entries events (Ticks r moment) = ticked_text r (tick (entry_at class reply entries r events) (lane_at class reply entries r events))
event_text class reply entries events (Turns r) = turned_text (turn (entry_at class reply entries r events) (lane_at class reply entries r events))
event_text class reply entries events (Sends r) = sent_text (first (lane_at class reply entries r events).outbox)
event_text class reply entries events (Opens e refused) = opened_text (opening (world_after class reply entries events) e refused)
event_text class reply entries events (Closes r moment) = closed_text r (closing (world_after class reply entries events) r)
