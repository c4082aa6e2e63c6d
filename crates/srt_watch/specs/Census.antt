-- The status of a route, and the refusals of the lobby, as the status page shows them.
use Rattle.std.specs.Prelude.{ℕ, ◌+◌, ◌-◌, ◌^◌, ◌==◌, ◌&&◌, min, Bool, List, Option, None, Some, option_map, if◌then◌else◌}
use Rattle.srt_types.specs.declared.shared.Role.TheVariants.{Publish, Request}
use Rattle.srt_types.specs.declared.shared.NotAdmitted.{NotAdmitted}
use Rattle.srt_types.specs.declared.shared.NotAdmitted.TheVariants.{NoName, UnknownName, Address, Key}
use Rattle.srt_hs.specs.declared.refusal_codes.RefusalCode.TheVariants as reasons
use Rattle.srt_route.specs.declared.route.Route.{Route}
use Rattle.srt_route.specs.declared.refusals.RefusalCause.TheVariants as causes
use Rattle.srt_route.specs.declared.totals.Totals.{Totals}
use Rattle.srt_route.specs.declared.view.SessionView.{SessionView}
use Rattle.srt_route.specs.Ledgers.{opened_in, refused_in, refused_of}
use Rattle.srt_status.specs.declared.gateway.RefusalCounts.{RefusalCounts}
use Rattle.srt_status.specs.declared.gateway.CauseCounts.{CauseCounts}
use Rattle.srt_status.specs.declared.route_status.LimitCounts.{LimitCounts}
use Rattle.srt_status.specs.declared.route_status.RouteStatus.{RouteStatus}
use Rattle.srt_status.specs.declared.expectation.Expectation.{Expectation}
use Rattle.srt_status.specs.Expectations.{is_on_air, looked, line_at}
use Rattle.srt_status.specs.History.{noted, round_trip_in}

-- the conclusions that a route refused, by their codes, and by the limits of the route
abbrev pub refusals_of : Route → RefusalCounts
refusals_of route = record {
  peer = refused_in reasons.Peer route;
  resource = refused_in reasons.Resource route;
  rogue = refused_in reasons.Rogue route;
  version = refused_in reasons.Version route;
  bad_secret = refused_in reasons.BadSecret route;
  unsecure = refused_in reasons.Unsecure route;
  message_api = refused_in reasons.MessageApi route;
  filter = refused_in reasons.Filter route;
  group = refused_in reasons.Group route;
}

abbrev pub limits_of : Route → LimitCounts
limits_of route = record {
  sessions = refused_of causes.Resource route;
  reserved = refused_of causes.Reserved route;
  sessions_per_address = refused_of causes.Address route;
}

-- the status of a route at this time, with these open sessions and these counts; its name, its mode, the number of sessions allowed and the
-- take-overs are the old ones
abbrev pub status_with : (moment : ℕ) → Route → List (Option SessionView) → Totals → RouteStatus → RouteStatus
status_with moment route sessions totals status = record status {
  sessions = sessions;
  totals = totals;
  opened = opened_in route;
  refused = refusals_of route;
  limits = Some (limits_of route);
  history = noted status.history moment totals.received.bytes totals.received.reported_lost (round_trip_in sessions);
}

-- an expectation after a look at its route at this time, when it has these open sessions; while the gateway stops, none is looked at
abbrev pub looked_if : (stops : Bool) → List (Option SessionView) → (moment : ℕ) → Option Expectation → Option Expectation
looked_if stops sessions moment before = if stops then before else option_map (λ e. looked e (is_on_air sessions) moment) before

abbrev pub with_look : (stops : Bool) → List (Option SessionView) → (moment : ℕ) → RouteStatus → RouteStatus
with_look stops sessions moment status = record status { expectation = looked_if stops sessions moment status.expectation }

-- the minutes that a line at this look tells of, if there is to be one
abbrev pub line_in : List (Option SessionView) → (moment : ℕ) → Option Expectation → Option ℕ
line_in sessions moment None = None
line_in sessions moment (Some e) = line_at e (is_on_air sessions) moment

abbrev pub absence_at : (stops : Bool) → List (Option SessionView) → (moment : ℕ) → Option Expectation → Option ℕ
absence_at stops sessions moment before = if stops then None else line_in sessions moment before

-- of the status of a route, if it is there
abbrev pub absence_of : (stops : Bool) → List (Option SessionView) → (moment : ℕ) → Option RouteStatus → Option ℕ
absence_of stops sessions moment None = None
absence_of stops sessions moment (Some status) = absence_at stops sessions moment status.expectation

-- one more, or 2^64 - 1 if that is the count already
abbrev pub one_more : ℕ → ℕ
one_more n = min (n + 1) (2 ^ 64 - 1)

-- the counts after a refusal with this code
abbrev pub with_refusal : RefusalCounts → (code : ℕ) → RefusalCounts
with_refusal n code =
    if code == 1002 then record n { peer = one_more n.peer }
    else (if code == 1003 then record n { resource = one_more n.resource }
    else (if code == 1004 then record n { rogue = one_more n.rogue }
    else (if code == 1008 then record n { version = one_more n.version }
    else (if code == 1010 then record n { bad_secret = one_more n.bad_secret }
    else (if code == 1011 then record n { unsecure = one_more n.unsecure }
    else (if code == 1012 then record n { message_api = one_more n.message_api }
    else (if code == 1014 then record n { filter = one_more n.filter }
    else (if code == 1015 then record n { group = one_more n.group } else n))))))))

-- the counts after a refusal with 1002, by its reason
abbrev pub with_cause : CauseCounts → Option NotAdmitted → CauseCounts
with_cause n None = n
with_cause n (Some NoName) = record n { no_name = one_more n.no_name }
with_cause n (Some UnknownName) = record n { unknown_name = one_more n.unknown_name }
with_cause n (Some (Address Publish)) = record n { publish_from = one_more n.publish_from }
with_cause n (Some (Address Request)) = record n { request_from = one_more n.request_from }
with_cause n (Some (Key Publish)) = record n { publish_key = one_more n.publish_key }
with_cause n (Some (Key Request)) = record n { request_key = one_more n.request_key }

-- what the limits of a route refused between two snapshots, if `reserved` or `sessions_per_address` refused any
abbrev pub growth : (before now : LimitCounts) → LimitCounts
growth before now = record {
  sessions = now.sessions - before.sessions;
  reserved = now.reserved - before.reserved;
  sessions_per_address = now.sessions_per_address - before.sessions_per_address;
}

abbrev pub if_any : LimitCounts → Option LimitCounts
if_any grown = if (grown.reserved == 0) && (grown.sessions_per_address == 0) then None else Some grown

abbrev pub grown_limits : (before : LimitCounts) → Option LimitCounts → Option LimitCounts
grown_limits before None = None
grown_limits before (Some now) = if_any (growth before now)
