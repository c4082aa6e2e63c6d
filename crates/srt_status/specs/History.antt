-- The last hour of a route, minute by minute (our choice), and its JSON text.
use Rattle.std.specs.Prelude.{ℕ, ◌-◌, ◌/◌, nat_le, Bool, List, [], ◌∷◌, ◌++◌, drop, replicate, codes, decimal, Option, None, Some, string_bytes}
use Rattle.std.specs.Prelude.{if◌then◌else◌}
use Rattle.std.specs.List.{flat_map}
use Rattle.srt_route.specs.declared.view.SessionView.{SessionView}
use Rattle.srt_route.specs.declared.view.Traffic.{Traffic}
use Rattle.srt_status.specs.declared.figures.Amount.{Amount}
use Rattle.srt_status.specs.declared.history.Minute.{Minute}
use Rattle.srt_status.specs.declared.history.MinuteStart.{MinuteStart}
use Rattle.srt_status.specs.declared.history.RouteHistory.{RouteHistory}
use Rattle.srt_status.specs.declared.route_status.RouteStatus.{RouteStatus}
use Rattle.srt_status.specs.Figures.{round_trip_of, variance_of, trip_amount}
use Rattle.srt_status.specs.Json.{route_name_start}
use Rattle.srt_status.specs.Texts.{name_text}

-- before the first snapshot
abbrev pub no_history : RouteHistory
no_history = record { minutes = replicate 60 None; start = None }

-- a minute behind the others; the oldest one goes
abbrev pub with_minute : List (Option Minute) → Minute → List (Option Minute)
with_minute minutes minute = drop 1 minutes ++ Some minute ∷ []

-- the minute that began so, when the counters are these
abbrev pub minute_after : MinuteStart → (bytes lost : ℕ) → (round_trip : Option ℕ) → Minute
minute_after start bytes lost round_trip = record {
  number = start.number;
  bytes = bytes - start.bytes;
  lost = lost - start.lost;
  round_trip = round_trip;
}

-- the first minute begins with the route, whose counters begin at 0
abbrev pub begun_at : RouteHistory → (number bytes lost : ℕ) → RouteHistory
begun_at history number bytes lost = record history { start = Some (record { number = number; bytes = bytes; lost = lost }) }

-- a snapshot in another minute than the one that began so ends that
abbrev pub ended_at : RouteHistory → MinuteStart → (number bytes lost : ℕ) → (round_trip : Option ℕ) → RouteHistory
ended_at history start number bytes lost round_trip =
    if nat_le number start.number then history else record {
      minutes = with_minute history.minutes (minute_after start bytes lost round_trip);
      start = Some (record { number = number; bytes = bytes; lost = lost });
    }

abbrev pub noted_at : RouteHistory → Option MinuteStart → (number bytes lost : ℕ) → (round_trip : Option ℕ) → RouteHistory
noted_at history None number bytes lost round_trip = begun_at history number 0 0
noted_at history (Some start) number bytes lost round_trip = ended_at history start number bytes lost round_trip

-- after a snapshot at this time, with these counters
abbrev pub noted : RouteHistory → (moment bytes lost : ℕ) → (round_trip : Option ℕ) → RouteHistory
noted history moment bytes lost round_trip = noted_at history history.start (moment / 60_000_000) bytes lost round_trip

-- the round trip of a session; none as long as nothing is measured
abbrev pub measured : Option Amount → (micros : ℕ) → Option ℕ
measured None micros = None
measured (Some amount) micros = Some micros

abbrev pub measured_trip : Traffic → Option ℕ
measured_trip traffic = measured (trip_amount (round_trip_of traffic) (variance_of traffic) (round_trip_of traffic)) (round_trip_of traffic)

abbrev pub trip_if : (is_active : Bool) → Traffic → Option ℕ
trip_if is_active traffic = if is_active then measured_trip traffic else None

-- that of a slot's session, if it is the active publisher's
abbrev pub trip_in : Option SessionView → Option ℕ
trip_in None = None
trip_in (Some session) = trip_if session.is_active session.traffic

abbrev pub trip_or : Option ℕ → Option ℕ → Option ℕ
trip_or None rest = rest
trip_or (Some micros) rest = Some micros

-- that of a route's active publisher
abbrev pub round_trip_in : List (Option SessionView) → Option ℕ
round_trip_in [] = None
round_trip_in (slot ∷ slots) = trip_or (trip_in slot) (round_trip_in slots)

-- a minute as an array: its number, bytes, lost packets, and the round trip in microseconds or null
abbrev pub trip_json : (round_trip : Option ℕ) → List ℕ
trip_json None = codes "null"
trip_json (Some micros) = decimal micros

unfoldable pub minute_start : Minute → List ℕ
minute_start minute = codes "[" ++ decimal minute.number ++ codes "," ++ decimal minute.bytes ++ codes ","

unfoldable pub minute_json : Minute → List ℕ
minute_json minute = minute_start minute ++ decimal minute.lost ++ codes "," ++ trip_json minute.round_trip ++ codes "]"

abbrev pub place_json : Option Minute → List ℕ
place_json None = codes "null"
place_json (Some minute) = minute_json minute

unfoldable pub next_place_json : Option Minute → List ℕ
next_place_json place = codes "," ++ place_json place

abbrev pub places_json : List (Option Minute) → List ℕ
places_json [] = []
places_json (place ∷ places) = place_json place ++ flat_map next_place_json places

-- the history of a route
unfoldable pub history_start : RouteStatus → List ℕ
history_start route = route_name_start ++ name_text (string_bytes route.name) ++ codes "\",\"minutes\":["

unfoldable pub route_history_json : RouteStatus → List ℕ
route_history_json route = history_start route ++ places_json route.history.minutes ++ codes "]}"

unfoldable pub next_route_history_json : RouteStatus → List ℕ
next_route_history_json route = codes "," ++ route_history_json route

abbrev pub all_histories_json : List RouteStatus → List ℕ
all_histories_json [] = []
all_histories_json (route ∷ routes) = route_history_json route ++ flat_map next_route_history_json routes

-- those of all routes, with the number of the present minute
unfoldable pub present_start : List ℕ
present_start = codes "{\"minute\":"

unfoldable pub histories_start : (number : ℕ) → List ℕ
histories_start number = present_start ++ decimal number ++ codes ",\"routes\":["

unfoldable pub histories_json : (moment : ℕ) → List RouteStatus → List ℕ
histories_json moment routes = histories_start (moment / 60_000_000) ++ all_histories_json routes ++ codes "]}\n"
