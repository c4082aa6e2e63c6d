-- What became of a report that was to be left.
use Rattle.std.specs.Prelude.{◌≡◌}
use Rattle.srt_supervision.specs.declared.report.Report.{Report}
use Rattle.srt_serve.specs.declared.shared_report.ReportLeft.{ReportLeft}
use Rattle.srt_serve.specs.declared.shared_report.ReportLeft.TheVariants.{Written, Unwanted}
use Rattle.srt_serve.specs.inside.Reported.{written_report}

-- its counts were written, or none was wanted
abbrev pub IsLeft : Report → ReportLeft → Type 0
IsLeft report (Written counts) = written_report counts.written ≡ report
IsLeft report (Unwanted clear) = Unit {0}
