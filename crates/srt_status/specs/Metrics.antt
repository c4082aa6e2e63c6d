-- The page of figures: the text format of Prometheus, version 0.0.4.
use Rattle.std.specs.Prelude.{ℕ, Bool, true, false, List, [], ◌++◌, codes, decimal, Option, None, Some, string_bytes}
use Rattle.std.specs.List.{flat_map, count_by}
use Rattle.srt_types.specs.declared.shared.Role.{Role}
use Rattle.srt_types.specs.declared.shared.Role.TheVariants.{Publish, Request}
use Rattle.srt_hs.specs.declared.refusal_codes.RefusalCode.{RefusalCode}
use Rattle.srt_hs.specs.Refusals.{number_of, name_of}
use Rattle.srt_status.specs.declared.gateway.GatewayStatus.{GatewayStatus}
use Rattle.srt_status.specs.declared.gateway.RefusalCounts.{RefusalCounts}
use Rattle.srt_status.specs.declared.gateway.CauseCounts.{CauseCounts}
use Rattle.srt_status.specs.declared.route_status.RouteStatus.{RouteStatus}
use Rattle.srt_status.specs.declared.route_status.EndCounts.{EndCounts}
use Rattle.srt_route.specs.declared.view.SessionView.{SessionView}
use Rattle.srt_status.specs.declared.figures.Amount.{Amount}
use Rattle.srt_status.specs.declared.figures.Count.{Count}
use Rattle.srt_status.specs.declared.figures.Gauge.{Gauge}
use Rattle.srt_status.specs.declared.figures.Total.{Total}
use Rattle.srt_status.specs.declared.figures.RouteFigure.{RouteFigure}
use Rattle.srt_status.specs.declared.process.ProcessFigure.{ProcessFigure}
use Rattle.srt_status.specs.declared.labels.Cause.{Cause}
use Rattle.srt_status.specs.declared.labels.Ending.{Ending}
use Rattle.srt_status.specs.Texts.{name_text, id_text, amount_text}
use Rattle.srt_status.specs.Peers.{peer_text}
use Rattle.srt_status.specs.Figures.{count_name, count_help, publisher_count, subscriber_count, session_count, gauge_name}
use Rattle.srt_status.specs.Figures.{gauge_help, gauge_amount, total_name, total_help, total_kind, total_value}
use Rattle.srt_status.specs.Figures.{refusal_count, figure_name, figure_help, figure_kind, route_figure, all_counts, all_gauges, all_totals}
use Rattle.srt_status.specs.Figures.{all_reasons, all_figures}
use Rattle.srt_status.specs.Process.{process_name, process_help, process_kind, process_amount, all_process}
use Rattle.srt_status.specs.Labels.{cause_label, cause_count, all_causes, end_label, end_count, all_endings}

-- the help and the type of a family
unfoldable pub head_line : (start prefix name rest : List ℕ) → List ℕ
head_line start prefix name rest = start ++ prefix ++ name ++ codes " " ++ rest ++ codes "\n"

unfoldable pub head_text : (prefix name help kind : List ℕ) → List ℕ
head_text prefix name help kind = head_line (codes "# HELP srtgw_") prefix name help ++ head_line (codes "# TYPE srtgw_") prefix name kind

-- a text of a value, if there is one
abbrev pub if_some : {A : Type 0} → (A → List ℕ) → Option A → List ℕ
if_some f None = []
if_some f (Some x) = f x

-- the gateway as a whole
unfoldable pub total_text : Total → (value : ℕ) → List ℕ
total_text total value =
    head_text [] (total_name total) (total_help total) (total_kind total) ++ codes "srtgw_" ++ total_name total ++ codes " " ++ decimal value ++ codes "\n"

unfoldable pub total_family : GatewayStatus → Total → List ℕ
total_family gateway total = if_some (total_text total) (total_value total gateway)

unfoldable pub totals_text : GatewayStatus → List ℕ
totals_text gateway = flat_map (total_family gateway) all_totals

unfoldable pub build_text : (version : List ℕ) → List ℕ
build_text version =
    head_text [] (codes "build_info") (codes "The version of the program.") (codes "gauge") ++ codes "srtgw_build_info{version=\"" ++ name_text version
    ++ codes "\"} 1\n"

-- the number and the name of a reason for a refusal, as labels
unfoldable pub reason_labels : RefusalCode → List ℕ
reason_labels reason = codes "code=\"" ++ decimal (number_of reason) ++ codes "\",reason=\"" ++ name_of reason ++ codes "\"} "

-- refusals before a route was known
unfoldable pub lobby_start : List ℕ
lobby_start = codes "srtgw_lobby_refusals_total{"

unfoldable pub lobby_refusal : RefusalCounts → RefusalCode → List ℕ
lobby_refusal counts reason = lobby_start ++ reason_labels reason ++ decimal (refusal_count reason counts) ++ codes "\n"

unfoldable pub lobby_refusals : RefusalCounts → List ℕ
lobby_refusals counts = flat_map (lobby_refusal counts) all_reasons

unfoldable pub lobby_text : RefusalCounts → List ℕ
lobby_text counts =
    head_text [] (codes "lobby_refusals_total") (codes "Conclusions refused before they belonged to a route.") (codes "counter")
    ++ lobby_refusals counts

-- the same that were refused with 1002, by their cause
unfoldable pub cause_start : List ℕ
cause_start = codes "srtgw_lobby_refusal_causes_total{cause=\""

unfoldable pub lobby_cause : CauseCounts → Cause → List ℕ
lobby_cause counts cause = cause_start ++ cause_label cause ++ codes "\"} " ++ decimal (cause_count cause counts) ++ codes "\n"

unfoldable pub lobby_causes : CauseCounts → List ℕ
lobby_causes counts = flat_map (lobby_cause counts) all_causes

unfoldable pub causes_text : CauseCounts → List ℕ
causes_text counts =
    head_text [] (codes "lobby_refusal_causes_total") (codes "Conclusions refused with 1002 before they belonged to a route.") (codes "counter")
    ++ lobby_causes counts

-- the process
unfoldable pub process_head : ProcessFigure → List ℕ
process_head figure =
    head_line (codes "# HELP ") [] (process_name figure) (process_help figure)
    ++ head_line (codes "# TYPE ") [] (process_name figure) (process_kind figure)

unfoldable pub process_text : ProcessFigure → Amount → List ℕ
process_text figure amount = process_head figure ++ process_name figure ++ codes " " ++ amount_text amount ++ codes "\n"

unfoldable pub process_family : GatewayStatus → ProcessFigure → List ℕ
process_family gateway figure = if_some (process_text figure) (process_amount figure gateway)

unfoldable pub process_metrics : GatewayStatus → List ℕ
process_metrics gateway = flat_map (process_family gateway) all_process

-- a route as a label
unfoldable pub route_label : (name : List ℕ) → List ℕ
route_label name = codes "{route=\"" ++ name_text name ++ codes "\""

-- a route beside what its sessions count
unfoldable pub route_prefix : List ℕ
route_prefix = codes "srtgw_route_"

unfoldable pub figure_sample : (name : List ℕ) → RouteFigure → (value : ℕ) → List ℕ
figure_sample name figure value = route_prefix ++ figure_name figure ++ route_label name ++ codes "} " ++ decimal value ++ codes "\n"

unfoldable pub figure_text : RouteFigure → RouteStatus → List ℕ
figure_text figure route = if_some (figure_sample (string_bytes route.name) figure) (route_figure figure route)

unfoldable pub figure_family : List RouteStatus → RouteFigure → List ℕ
figure_family routes figure =
    head_text (codes "route_") (figure_name figure) (figure_help figure) (figure_kind figure) ++ flat_map (figure_text figure) routes

unfoldable pub figures_text : List RouteStatus → List ℕ
figures_text routes = flat_map (figure_family routes) all_figures

-- its refusals
unfoldable pub refusals_name : List ℕ
refusals_name = codes "srtgw_route_refusals_total"

unfoldable pub route_refusal : RouteStatus → RefusalCode → List ℕ
route_refusal route reason =
    refusals_name ++ route_label (string_bytes route.name) ++ codes "," ++ reason_labels reason
    ++ decimal (refusal_count reason route.refused) ++ codes "\n"

unfoldable pub route_refusals : RouteStatus → List ℕ
route_refusals route = flat_map (route_refusal route) all_reasons

unfoldable pub refusals_text : List RouteStatus → List ℕ
refusals_text routes =
    head_text (codes "route_") (codes "refusals_total") (codes "Conclusions refused by a route.") (codes "counter") ++ flat_map route_refusals routes

-- its sessions' ends, where they are known
unfoldable pub ends_name : List ℕ
ends_name = codes "srtgw_route_ends_total"

unfoldable pub end_sample : (name : List ℕ) → EndCounts → Ending → List ℕ
end_sample name counts ending =
    ends_name ++ route_label name ++ codes ",reason=\"" ++ end_label ending ++ codes "\"} " ++ decimal (end_count ending counts) ++ codes "\n"

unfoldable pub end_samples : (name : List ℕ) → EndCounts → List ℕ
end_samples name counts = flat_map (end_sample name counts) all_endings

unfoldable pub route_ends : RouteStatus → List ℕ
route_ends route = if_some (end_samples (string_bytes route.name)) route.ends

unfoldable pub ends_text : List RouteStatus → List ℕ
ends_text routes =
    head_text (codes "route_") (codes "ends_total") (codes "Ended sessions.") (codes "counter") ++ flat_map route_ends routes

-- a role as a label
abbrev pub role_label : Role → List ℕ
role_label Publish = codes ",role=\"publisher\""
role_label Request = codes ",role=\"subscriber\""

-- a slot has an open session of this role
abbrev pub plays : (wanted actual : Role) → Bool
plays Publish Publish = true
plays Publish Request = false
plays Request Publish = false
plays Request Request = true

abbrev pub has_role : Role → Option SessionView → Bool
has_role role None = false
has_role role (Some session) = plays role session.role

-- how many open sessions of a route have it
abbrev pub open_sessions : Role → RouteStatus → ℕ
open_sessions role route = count_by (has_role role) route.sessions

unfoldable pub sessions_name : List ℕ
sessions_name = codes "srtgw_route_sessions"

unfoldable pub sessions_sample : RouteStatus → Role → List ℕ
sessions_sample route role =
    sessions_name ++ route_label (string_bytes route.name) ++ role_label role ++ codes "} " ++ decimal (open_sessions role route) ++ codes "\n"

unfoldable pub route_sessions : RouteStatus → List ℕ
route_sessions route = sessions_sample route Publish ++ sessions_sample route Request

unfoldable pub sessions_text : List RouteStatus → List ℕ
sessions_text routes =
    head_text (codes "route_") (codes "sessions") (codes "Open sessions.") (codes "gauge") ++ flat_map route_sessions routes

-- what all sessions of a route counted, by role
unfoldable pub count_sample : (name : List ℕ) → Role → Count → (value : ℕ) → List ℕ
count_sample name role count value =
    route_prefix ++ count_name count ++ route_label name ++ role_label role ++ codes "} " ++ decimal value ++ codes "\n"

unfoldable pub route_count : Count → RouteStatus → List ℕ
route_count count route =
    if_some (count_sample (string_bytes route.name) Publish count) (publisher_count count route.totals.received)
    ++ if_some (count_sample (string_bytes route.name) Request count) (subscriber_count count route.totals.queued route.totals.sent)

unfoldable pub count_family : List RouteStatus → Count → List ℕ
count_family routes count =
    head_text (codes "route_") (count_name count) (count_help count) (codes "counter") ++ flat_map (route_count count) routes

unfoldable pub counts_text : List RouteStatus → List ℕ
counts_text routes = flat_map (count_family routes) all_counts

-- an open session as labels
unfoldable pub session_labels : (name : List ℕ) → SessionView → List ℕ
session_labels name session =
    route_label name ++ role_label session.role ++ codes ",session=\"" ++ id_text session.id ++ codes "\",peer=\"" ++ peer_text session.peer
    ++ codes "\"} "

-- what an open session counts
unfoldable pub session_prefix : List ℕ
session_prefix = codes "srtgw_session_"

unfoldable pub session_count_sample : (name : List ℕ) → SessionView → Count → (value : ℕ) → List ℕ
session_count_sample name session count value =
    session_prefix ++ count_name count ++ session_labels name session ++ decimal value ++ codes "\n"

abbrev pub session_count_text : (name : List ℕ) → Count → SessionView → List ℕ
session_count_text name count session = if_some (session_count_sample name session count) (session_count count session)

unfoldable pub slot_count : (name : List ℕ) → Count → Option SessionView → List ℕ
slot_count name count slot = if_some (session_count_text name count) slot

unfoldable pub route_session_counts : Count → RouteStatus → List ℕ
route_session_counts count route = flat_map (slot_count (string_bytes route.name) count) route.sessions

unfoldable pub session_count_family : List RouteStatus → Count → List ℕ
session_count_family routes count =
    head_text (codes "session_") (count_name count) (count_help count) (codes "counter") ++ flat_map (route_session_counts count) routes

unfoldable pub session_counts_text : List RouteStatus → List ℕ
session_counts_text routes = flat_map (session_count_family routes) all_counts

-- the state of an open session at a moment
unfoldable pub gauge_sample : (name : List ℕ) → SessionView → Gauge → Amount → List ℕ
gauge_sample name session gauge amount =
    session_prefix ++ gauge_name gauge ++ session_labels name session ++ amount_text amount ++ codes "\n"

abbrev pub session_gauge_text : (name : List ℕ) → (moment : ℕ) → Gauge → SessionView → List ℕ
session_gauge_text name moment gauge session = if_some (gauge_sample name session gauge) (gauge_amount gauge moment session)

unfoldable pub slot_gauge : (name : List ℕ) → (moment : ℕ) → Gauge → Option SessionView → List ℕ
slot_gauge name moment gauge slot = if_some (session_gauge_text name moment gauge) slot

unfoldable pub route_gauges : (moment : ℕ) → Gauge → RouteStatus → List ℕ
route_gauges moment gauge route = flat_map (slot_gauge (string_bytes route.name) moment gauge) route.sessions

unfoldable pub gauge_family : (moment : ℕ) → List RouteStatus → Gauge → List ℕ
gauge_family moment routes gauge =
    head_text (codes "session_") (gauge_name gauge) (gauge_help gauge) (codes "gauge") ++ flat_map (route_gauges moment gauge) routes

unfoldable pub gauges_text : (moment : ℕ) → List RouteStatus → List ℕ
gauges_text moment routes = flat_map (gauge_family moment routes) all_gauges

-- the page
unfoldable pub gateway_metrics : GatewayStatus → List ℕ
gateway_metrics gateway =
    build_text gateway.version.now ++ totals_text gateway ++ lobby_text gateway.refused ++ causes_text gateway.causes ++ process_metrics gateway

unfoldable pub route_metrics : List RouteStatus → List ℕ
route_metrics routes =
    sessions_text routes ++ figures_text routes ++ refusals_text routes ++ ends_text routes ++ counts_text routes

unfoldable pub session_metrics : (moment : ℕ) → List RouteStatus → List ℕ
session_metrics moment routes = gauges_text moment routes ++ session_counts_text routes

abbrev pub metrics_of : GatewayStatus → List RouteStatus → List ℕ
metrics_of gateway routes = gateway_metrics gateway ++ route_metrics routes ++ session_metrics gateway.moment routes
