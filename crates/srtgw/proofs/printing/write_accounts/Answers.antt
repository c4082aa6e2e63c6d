use Rattle.srt_watch.specs.Routes.{name_of}
use Rattle.srtgw.proofs.Lines.{one_more_line}
use Rattle.srtgw.proofs.printing.write_accounts.Goals as goal

pub loop-index-preserved : goal.loop-index-preserved
loop-index-preserved g c =
    let written = rw c.name_of.ensures at c.in_ok-write_account.ensures in
    one_more_line (name_of c.args.watcher.now.routes) c.args.accounts.now c.loop-index.index _ (g.W.Write.contents c.args.out.now)
    (g.W.Write.contents c.loop-index.out) (g.W.Write.contents c.write_account.new.out) c.loop-index-test.true c.loop-index.invariant written
