-- What is answered to a caller of the status page.
use Rattle.std.specs.Prelude.{ℕ, Bool, List, [], ◌++◌, length, codes, decimal, if◌then◌else◌}
use Rattle.srt_status.specs.declared.gateway.GatewayStatus.{GatewayStatus}
use Rattle.srt_status.specs.declared.route_status.RouteStatus.{RouteStatus}
use Rattle.srt_status.specs.declared.paths.Page.{Page}
use Rattle.srt_status.specs.declared.paths.Page.TheVariants as pages
use Rattle.srt_status.specs.declared.request.Method.{Method}
use Rattle.srt_status.specs.declared.request.Method.TheVariants.{Get, Head}
use Rattle.srt_status.specs.declared.request.Request.{Request}
use Rattle.srt_status.specs.declared.request.Request.TheVariants as requests
use Rattle.srt_status.specs.declared.events.Event.{Event}
use Rattle.srt_status.specs.Metrics.{metrics_of}
use Rattle.srt_status.specs.Json.{json_of}
use Rattle.srt_status.specs.Events.{events_json}
use Rattle.srt_status.specs.History.{histories_json}

-- the fields that all responses have
unfoldable pub common_fields : List ℕ
common_fields = codes "Cache-Control: no-store\r\nConnection: close\r\nX-Content-Type-Options: nosniff\r\n"

unfoldable pub protocol_text : List ℕ
protocol_text = codes "HTTP/1.1 "

unfoldable pub status_line : (status : List ℕ) → List ℕ
status_line status = protocol_text ++ status ++ codes "\r\n"

-- the head of a response whose body has this length
unfoldable pub head_text : (status fields : List ℕ) → (size : ℕ) → List ℕ
head_text status fields size =
    status_line status ++ common_fields ++ fields
    ++ codes "Content-Length: " ++ decimal size ++ codes "\r\n\r\n"

-- a body, unless the head alone is wanted
abbrev pub body_text : Method → (body : List ℕ) → List ℕ
body_text Get body = body
body_text Head body = []

-- a whole response
unfoldable pub response_text : (status fields : List ℕ) → Method → (body : List ℕ) → List ℕ
response_text status fields method body = head_text status fields (length body) ++ body_text method body

-- a line of text
unfoldable pub plain_text : (status : List ℕ) → Method → (line : List ℕ) → List ℕ
plain_text status method line = response_text status (codes "Content-Type: text/plain; charset=utf-8\r\n") method line

-- whether the gateway works
unfoldable pub health_text : Method → (polling : Bool) → List ℕ
health_text method polling =
    if polling then plain_text (codes "200 OK") method (codes "ok\n")
    else plain_text (codes "503 Service Unavailable") method (codes "no round within two seconds\n")

-- the page for people
unfoldable pub overview_text : Method → (page : List ℕ) → List ℕ
overview_text method page =
    response_text (codes "200 OK")
    (codes "Content-Type: text/html; charset=utf-8\r\nContent-Security-Policy: default-src 'none'; connect-src 'self'; script-src 'sha256-NhgY58z/y+XBDCBsHus6N9UhmwCg75jN1ZmxTQleeeE='; style-src 'sha256-nK2dqi/2RtZmX3ANv3feDJ4pZkEfAQjQhT7KhQfr5NM='; base-uri 'none'; form-action 'none'; frame-ancestors 'none'\r\n")
    method page

-- the figures
unfoldable pub metrics_text : Method → GatewayStatus → List RouteStatus → List ℕ
metrics_text method gateway routes =
    response_text (codes "200 OK") (codes "Content-Type: text/plain; version=0.0.4; charset=utf-8\r\n") method (metrics_of gateway routes)

-- the status for programs
unfoldable pub json_text : Method → GatewayStatus → List RouteStatus → List ℕ
json_text method gateway routes = response_text (codes "200 OK") (codes "Content-Type: application/json\r\n") method (json_of gateway routes)

-- the last lines of the log
unfoldable pub events_text : Method → List Event → List ℕ
events_text method events = response_text (codes "200 OK") (codes "Content-Type: application/json\r\n") method (events_json events)

-- the last hour of each route
unfoldable pub history_text : Method → (moment : ℕ) → List RouteStatus → List ℕ
history_text method moment routes =
    response_text (codes "200 OK") (codes "Content-Type: application/json\r\n") method (histories_json moment routes)

abbrev pub page_text : (overview : List ℕ) → GatewayStatus → List RouteStatus → List Event → Method → Page → List ℕ
page_text overview gateway routes events method pages.Overview = overview_text method overview
page_text overview gateway routes events method pages.Json = json_text method gateway routes
page_text overview gateway routes events method pages.Metrics = metrics_text method gateway routes
page_text overview gateway routes events method pages.Events = events_text method events
page_text overview gateway routes events method pages.History = history_text method gateway.moment routes
page_text overview gateway routes events method pages.Health = health_text method gateway.polling

-- the response to a request
abbrev pub response_of : (overview : List ℕ) → GatewayStatus → List RouteStatus → List Event → Request → List ℕ
response_of overview gateway routes events (requests.Page method page) = page_text overview gateway routes events method page
response_of overview gateway routes events (requests.Unknown method) = plain_text (codes "404 Not Found") method (codes "not found\n")
response_of overview gateway routes events requests.NotAllowed =
    response_text (codes "405 Method Not Allowed") (codes "Allow: GET, HEAD\r\n") Get []
response_of overview gateway routes events requests.Bad = plain_text (codes "400 Bad Request") Get (codes "bad request\n")
response_of overview gateway routes events requests.TooLong = plain_text (codes "431 Request Header Fields Too Large") Get (codes "too long\n")
