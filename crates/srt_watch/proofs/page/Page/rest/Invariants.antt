use Rattle.std.proofs.Common.{◌≡◌, ◌≤◌, ◌-◌}
use Rattle.srt_watch.specs.Pages.{ShowedPages}
use Rattle.srt_watch.specs.Routes.{used_of}
use Rattle.srt_watch.proofs.page.Page.rest.Given as goal

abbrev pub invariant-loop-counts : goal.invariant-loop-counts
invariant-loop-counts g l = record {
  few : l.self.rested.pauses ≤ 20;
  none : l.self.rested.rests ≡ 0;
  version : l.self.version ≡ l.fn.self.version;
  machine : g.M.Machine.says l.machine ≡ g.M.Machine.says l.fn.machine;
  shown :
      ShowedPages g.M.Machine.facts l.self.rested.pauses (g.P.StatusServer.shown l.fn.self.server) (g.P.StatusServer.shown l.self.server) l.overview l.counts
      l.fn.self.version l.routes.shown.items (used_of l.routes.routes.items) l.events.events.items;
}

abbrev pub decreases-loop-counts : goal.decreases-loop-counts
decreases-loop-counts g l = 20 - l.self.rested.pauses
