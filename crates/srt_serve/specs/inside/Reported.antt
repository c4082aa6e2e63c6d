-- A report as the counts that were written or read of it.
use Rattle.srt_supervision.specs.declared.report.Report.{Report}
use Rattle.srt_serve.specs.declared.shared_report.ReportWritten.{ReportWritten}
use Rattle.srt_serve.specs.declared.shared_report.ReportCounts.{ReportCounts}

-- the report of which these counts were written
abbrev pub written_report : ReportWritten → Report
written_report counts =
    record {
      read = counts.read.number;
      answered = counts.answered.number;
      accepted = counts.accepted.number;
      full = counts.full.number;
      dropped = counts.dropped.number;
      not_allowed = counts.not_allowed.number;
      memory = counts.memory.number;
      sent = counts.sent.number;
      lost = counts.lost.number;
      faults = counts.faults.number;
    }

-- the report of which these counts were read
abbrev pub read_report : ReportCounts → Report
read_report counts =
    record {
      read = counts.read.number;
      answered = counts.answered.number;
      accepted = counts.accepted.number;
      full = counts.full.number;
      dropped = counts.dropped.number;
      not_allowed = counts.not_allowed.number;
      memory = counts.memory.number;
      sent = counts.sent.number;
      lost = counts.lost.number;
      faults = counts.faults.number;
    }
