-- The gateway as a whole, as the status page shows it: the poller's last report, and the counts of refusals and of changes.
use Rattle.std.specs.Prelude.{ℕ, ◌-◌, ◌/◌, ◌^◌, ◌==◌, min, nat_lt, List, Option, None, is_some, if◌then◌else◌}
use denote.Ref.{Bor}
use Rattle.srt_types.specs.declared.shared.NotAdmitted.{NotAdmitted}
use Rattle.srt_supervision.specs.declared.refusal.Refusal.{Refusal}
use Rattle.srt_supervision.specs.declared.report.Report.{Report}
use Rattle.srt_supervision.specs.declared.watch.RunStatus.{RunStatus}
use Rattle.srt_status.specs.declared.gateway.CauseCounts.{CauseCounts}
use Rattle.srt_status.specs.declared.gateway.ChangeCounts.{ChangeCounts}
use Rattle.srt_status.specs.declared.gateway.GatewayStatus.{GatewayStatus}
use Rattle.srt_status.specs.declared.gateway.ProcessUse.{ProcessUse}
use Rattle.srt_status.specs.declared.gateway.RefusalCounts.{RefusalCounts}
use Rattle.srt_watch.specs.Census.{with_refusal, with_cause}
use Rattle.srt_watch.specs.declared.overview.Overview.{Overview}
use Rattle.srt_watch.specs.declared.overview.PollerReport.{PollerReport}

-- before the first report
abbrev pub no_report : Report
no_report = record {
  read = 0;
  answered = 0;
  accepted = 0;
  full = 0;
  dropped = 0;
  not_allowed = 0;
  memory = 0;
  sent = 0;
  lost = 0;
  faults = 0;
}

abbrev pub no_refusals : RefusalCounts
no_refusals = record { peer = 0; resource = 0; rogue = 0; version = 0; bad_secret = 0; unsecure = 0; message_api = 0; filter = 0; group = 0 }

abbrev pub no_causes : CauseCounts
no_causes = record { no_name = 0; unknown_name = 0; publish_from = 0; request_from = 0; publish_key = 0; request_key = 0 }

abbrev pub no_changes : ChangeCounts
no_changes = record { taken = 0; refused = 0; indexes = 0 }

abbrev pub no_use : ProcessUse
no_use = record { cpu_micros = None; open_descriptors = None; most_descriptors = None; started_micros = None }

-- of a gateway that begins
abbrev pub no_overview : Overview
no_overview = record {
  drops = None;
  memory = None;
  process = no_use;
  receive_buffer = None;
  refused = no_refusals;
  causes = no_causes;
  poller = record { counts = no_report; reports = 0; reported_at = 0 };
}

-- a report is new if the number of reports differs; the counters are the last ones
abbrev pub after_report : PollerReport → (moment : ℕ) → RunStatus → PollerReport
after_report last moment status =
    if status.reports == last.reports then record last { counts = status.counts }
    else record { counts = status.counts; reports = status.reports; reported_at = moment }

abbrev pub with_report : Overview → (moment : ℕ) → RunStatus → Overview
with_report overview moment status = record overview { poller = after_report overview.poller moment status }

-- one refusal of the lobby more
abbrev pub with_refused : Overview → (code : ℕ) → Option NotAdmitted → Overview
with_refused overview code cause =
    record overview { refused = with_refusal overview.refused code; causes = with_cause overview.causes cause }

-- a refusal is counted here if it is one of the lobby; a route counts its own
abbrev pub after_refusal : Overview → Refusal → Overview
after_refusal overview refusal = if is_some refusal.route then overview else with_refused overview refusal.code refusal.cause

abbrev pub changes_with : (indexes : ℕ) → ChangeCounts → ChangeCounts
changes_with indexes changes = record changes { indexes = indexes }

-- The status of a gateway with this many routes, whose configuration was changed so often.
-- It is well as long as the poller's last report is less than two seconds old.
abbrev pub gateway_of : Overview → (version : Bor (List ℕ)) → (moment routes : ℕ) → ChangeCounts → GatewayStatus
gateway_of overview version moment routes changes = record {
  version = version;
  uptime_seconds = moment / 1_000_000;
  moment = moment;
  routes = min routes (2 ^ 32 - 1);
  polling = nat_lt (moment - overview.poller.reported_at) 2_000_000;
  poller = overview.poller.counts;
  refused = overview.refused;
  causes = overview.causes;
  changes = changes;
  kernel_drops = overview.drops;
  resident_bytes = overview.memory;
  process = overview.process;
  receive_buffer_bytes = overview.receive_buffer;
}
