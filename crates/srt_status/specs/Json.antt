-- The status for programs: one JSON text. A figure has the name that it has among the figures, without its prefix; one
-- that isn't known is left out.
use Rattle.std.specs.Prelude.{ℕ, Bool, true, false, ◌&&◌, List, [], ◌∷◌, ◌++◌, codes, decimal, Option, None, Some, is_none, string_bytes}
use Rattle.std.specs.List.{flat_map}
use Rattle.srt_types.specs.declared.shared.Role.{Role}
use Rattle.srt_types.specs.declared.shared.Role.TheVariants.{Publish, Request}
use Rattle.srt_types.specs.declared.shared.Mode.{Mode}
use Rattle.srt_types.specs.declared.shared.Mode.TheVariants.{Live, Buffer}
use Rattle.srt_status.specs.declared.gateway.GatewayStatus.{GatewayStatus}
use Rattle.srt_status.specs.declared.gateway.RefusalCounts.{RefusalCounts}
use Rattle.srt_status.specs.declared.route_status.RouteStatus.{RouteStatus}
use Rattle.srt_status.specs.declared.route_status.EndCounts.{EndCounts}
use Rattle.srt_route.specs.declared.view.SessionView.{SessionView}
use Rattle.srt_route.specs.declared.totals.Totals.{Totals}
use Rattle.srt_status.specs.declared.figures.Amount.{Amount}
use Rattle.srt_status.specs.declared.figures.Count.{Count}
use Rattle.srt_status.specs.declared.figures.Gauge.{Gauge}
use Rattle.srt_status.specs.declared.figures.Total.{Total}
use Rattle.srt_hs.specs.declared.refusal_codes.RefusalCode.{RefusalCode}
use Rattle.srt_hs.specs.Refusals.{name_of}
use Rattle.srt_status.specs.declared.figures.RouteFigure.{RouteFigure}
use Rattle.srt_status.specs.declared.process.ProcessFigure.{ProcessFigure}
use Rattle.srt_status.specs.declared.labels.Ending.{Ending}
use Rattle.srt_status.specs.Texts.{name_text, id_text, amount_text}
use Rattle.srt_status.specs.Peers.{peer_text}
use Rattle.srt_status.specs.Figures.{count_name, publisher_count, subscriber_count, session_count, gauge_name, gauge_amount}
use Rattle.srt_status.specs.Figures.{total_name, total_value, refusal_count, figure_name, route_figure, all_counts, all_gauges}
use Rattle.srt_status.specs.Figures.{all_totals, all_reasons, all_figures}
use Rattle.srt_status.specs.Process.{process_name, process_amount, all_process}
use Rattle.srt_status.specs.Labels.{end_label, end_count, all_endings}
use Rattle.srt_status.specs.Metrics.{if_some}

-- a member that isn't the first one of its object
unfoldable pub number_json : (name : List ℕ) → (value : ℕ) → List ℕ
number_json name value = codes ",\"" ++ name ++ codes "\":" ++ decimal value

unfoldable pub amount_json : (name : List ℕ) → Amount → List ℕ
amount_json name amount = codes ",\"" ++ name ++ codes "\":" ++ amount_text amount

-- the gateway as a whole
unfoldable pub total_json : GatewayStatus → Total → List ℕ
total_json gateway total = if_some (number_json (total_name total)) (total_value total gateway)

unfoldable pub refusal_json : RefusalCounts → RefusalCode → List ℕ
refusal_json counts reason = codes ",\"refusals_" ++ name_of reason ++ codes "\":" ++ decimal (refusal_count reason counts)

unfoldable pub totals_json : GatewayStatus → List ℕ
totals_json gateway = flat_map (total_json gateway) all_totals

unfoldable pub refusals_json : RefusalCounts → List ℕ
refusals_json counts = flat_map (refusal_json counts) all_reasons

-- the process
unfoldable pub process_figure_json : GatewayStatus → ProcessFigure → List ℕ
process_figure_json gateway figure = if_some (amount_json (process_name figure)) (process_amount figure gateway)

unfoldable pub process_json : GatewayStatus → List ℕ
process_json gateway = flat_map (process_figure_json gateway) all_process

-- how sessions ended, where that is known
unfoldable pub end_json : EndCounts → Ending → List ℕ
end_json counts ending = codes ",\"ends_" ++ end_label ending ++ codes "\":" ++ decimal (end_count ending counts)

unfoldable pub all_ends_json : EndCounts → List ℕ
all_ends_json counts = flat_map (end_json counts) all_endings

abbrev pub ends_json : Option EndCounts → List ℕ
ends_json ends = if_some all_ends_json ends

-- what sessions counted
unfoldable pub publishers_json : Totals → Count → List ℕ
publishers_json totals count = if_some (number_json (count_name count)) (publisher_count count totals.received)

unfoldable pub subscribers_json : Totals → Count → List ℕ
subscribers_json totals count = if_some (number_json (count_name count)) (subscriber_count count totals.queued totals.sent)

unfoldable pub all_publishers_json : Totals → List ℕ
all_publishers_json totals = flat_map (publishers_json totals) all_counts

unfoldable pub all_subscribers_json : Totals → List ℕ
all_subscribers_json totals = flat_map (subscribers_json totals) all_counts

-- an open session
unfoldable pub session_count_json : SessionView → Count → List ℕ
session_count_json session count = if_some (number_json (count_name count)) (session_count count session)

unfoldable pub gauge_json : (moment : ℕ) → SessionView → Gauge → List ℕ
gauge_json moment session gauge = if_some (amount_json (gauge_name gauge)) (gauge_amount gauge moment session)

unfoldable pub session_counts_json : SessionView → List ℕ
session_counts_json session = flat_map (session_count_json session) all_counts

unfoldable pub gauges_json : (moment : ℕ) → SessionView → List ℕ
gauges_json moment session = flat_map (gauge_json moment session) all_gauges

abbrev pub role_json : Role → List ℕ
role_json Publish = codes "{\"role\":\"publisher\",\"session\":\""
role_json Request = codes "{\"role\":\"subscriber\",\"session\":\""

unfoldable pub session_start : SessionView → List ℕ
session_start session =
    role_json session.role ++ id_text session.id ++ codes "\",\"peer\":\"" ++ peer_text session.peer ++ codes "\""

unfoldable pub session_json : (moment : ℕ) → SessionView → List ℕ
session_json moment session = session_start session ++ gauges_json moment session ++ session_counts_json session ++ codes "}"

-- open sessions with commas between them
abbrev pub comma : (first : Bool) → List ℕ
comma true = []
comma false = codes ","

unfoldable pub slot_json : (moment : ℕ) → (first : Bool) → Option SessionView → List ℕ
slot_json moment first None = []
slot_json moment first (Some session) = comma first ++ session_json moment session

unfoldable pub slots_json : (moment : ℕ) → (first : Bool) → List (Option SessionView) → List ℕ
slots_json moment first [] = []
slots_json moment first (slot ∷ slots) = slot_json moment first slot ++ slots_json moment (first && is_none slot) slots

-- a route
abbrev pub mode_json : Mode → List ℕ
mode_json Live = codes "\",\"mode\":\"live\""
mode_json Buffer = codes "\",\"mode\":\"buffer\""

unfoldable pub figure_json : RouteStatus → RouteFigure → List ℕ
figure_json route figure = if_some (number_json (figure_name figure)) (route_figure figure route)

unfoldable pub figures_json : RouteStatus → List ℕ
figures_json route = flat_map (figure_json route) all_figures

unfoldable pub route_name_start : List ℕ
route_name_start = codes "{\"name\":\""

unfoldable pub route_start : RouteStatus → List ℕ
route_start route =
    route_name_start ++ name_text (string_bytes route.name) ++ mode_json route.mode ++ figures_json route ++ refusals_json route.refused
    ++ ends_json route.ends

unfoldable pub publishers_start : List ℕ
publishers_start = codes ",\"publishers\":{\"role\":\"publisher\""

unfoldable pub subscribers_start : List ℕ
subscribers_start = codes "},\"subscribers\":{\"role\":\"subscriber\""

unfoldable pub route_counts : RouteStatus → List ℕ
route_counts route =
    publishers_start ++ all_publishers_json route.totals
    ++ subscribers_start ++ all_subscribers_json route.totals ++ codes "}"

unfoldable pub route_json : (moment : ℕ) → RouteStatus → List ℕ
route_json moment route =
    route_start route ++ route_counts route ++ codes ",\"sessions\":[" ++ slots_json moment true route.sessions ++ codes "]}"

-- routes with commas between them
unfoldable pub next_route_json : (moment : ℕ) → RouteStatus → List ℕ
next_route_json moment route = codes "," ++ route_json moment route

abbrev pub routes_json : (moment : ℕ) → List RouteStatus → List ℕ
routes_json moment [] = []
routes_json moment (route ∷ routes) = route_json moment route ++ flat_map (next_route_json moment) routes

-- the status
unfoldable pub version_start : List ℕ
version_start = codes "{\"version\":\""

unfoldable pub version_json : (version : List ℕ) → List ℕ
version_json version = version_start ++ name_text version ++ codes "\""

unfoldable pub gateway_json : GatewayStatus → List ℕ
gateway_json gateway = version_json gateway.version.now ++ totals_json gateway ++ refusals_json gateway.refused ++ process_json gateway

abbrev pub json_of : GatewayStatus → List RouteStatus → List ℕ
json_of gateway routes = gateway_json gateway ++ codes ",\"routes\":[" ++ routes_json gateway.moment routes ++ codes "]}\n"
