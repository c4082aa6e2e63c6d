-- The event of a line that was read, as the model has it.
use Rattle.std.specs.Prelude.{ℕ, ◌^◌, ◌<◌, ◌≤◌, List, take, false}
use Rattle.srt_replay.specs.declared.events.TapeEvent.{TapeEvent}
use Rattle.srt_replay.specs.declared.events.TapeEvent.TheVariants as event
use Rattle.srt_types.specs.declared.shared.Peer.{Peer}
use Rattle.srt_hub.specs.World.{Event, Arrives, Ticks, Turns, Sends, Opens, Closes}
use Rattle.srt_hub.specs.Calls.{datagram}
use Rattle.srt_types.specs.Terms.{Terms}
use Rattle.srt_replay.specs.declared.events.NewRoute.{NewRoute}
use Rattle.srt_config.specs.Routes.{terms_with}
use Rattle.srt_config.specs.RouteNumbers.{numbers_of}

-- the arrival of these bytes, with memory for their copy
abbrev pub arrival : Peer → (bytes : List ℕ) → (moment : ℕ) → Event
arrival peer bytes moment = Arrives (datagram peer bytes) moment false

-- the terms of the route that is to be opened
abbrev pub terms_read : NewRoute → Terms
terms_read opening = terms_with opening.name.now opening.mode (numbers_of opening.numbers)

-- the event, with its datagram at the front of the buffer
abbrev pub event_read : (buffer : List ℕ) → TapeEvent → Event
event_read buffer (event.Arrival peer moment len) = arrival peer (take len buffer) moment
event_read buffer (event.Tick route moment) = Ticks route moment
event_read buffer (event.Turn route) = Turns route
event_read buffer (event.Send route) = Sends route
event_read buffer (event.Opens opening) = Opens (terms_read opening) false
event_read buffer (event.Closes route moment) = Closes route moment

-- the datagram is within the buffer, the route exists, and the moment is below its limit
abbrev pub IsSound : (routes : ℕ) → TapeEvent → Type 0
IsSound routes (event.Arrival peer moment len) = (len ≤ 2048) × (moment < 2 ^ 62)
IsSound routes (event.Tick route moment) = (route < routes) × (moment < 2 ^ 62)
IsSound routes (event.Turn route) = route < routes
IsSound routes (event.Send route) = route < routes
IsSound routes (event.Opens opening) = Unit {0}
IsSound routes (event.Closes route moment) = (route < routes) × (moment < 2 ^ 62)
