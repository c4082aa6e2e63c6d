use Rattle.std.proofs.Common.{◌≡◌, map, take}
use Rattle.srt_types.specs.Terms.{terms_of}
use Rattle.srt_host.specs.Watching.{AreWarnings}
use Rattle.srt_host.proofs.watching.warn_all.Given as goal

abbrev pub invariant-loop-at : goal.invariant-loop-at
invariant-loop-at l = record {
  told : AreWarnings (map terms_of l.explained.config.entries.items) (take l.at l.explained.warnings.items) l.watcher.first_lines.warnings.items;
  start : l.watcher.first_lines.start ≡ l.fn.watcher.first_lines.start;
  machine : l.watcher.machine ≡ l.fn.watcher.machine;
  others : (l.watcher.routes ≡ l.fn.watcher.routes) × (l.watcher.following ≡ l.fn.watcher.following) × (l.watcher.form ≡ l.fn.watcher.form)
      × (l.watcher.page ≡ l.fn.watcher.page);
}
