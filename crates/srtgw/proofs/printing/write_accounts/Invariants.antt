use Rattle.std.proofs.Common.{take}
use Rattle.std.specs.Io.KnownBytes.{Appends}
use Rattle.srt_watch.specs.Routes.{name_of}
use Rattle.srtgw.specs.Reports.{account_lines}
use Rattle.srtgw.proofs.printing.write_accounts.Given as goal

abbrev pub invariant-loop-index : goal.invariant-loop-index
invariant-loop-index g l =
    Appends (g.W.Write.contents l.fn.out) (g.W.Write.contents l.out) (account_lines (name_of l.watcher.routes) 0 (take l.index l.accounts))
