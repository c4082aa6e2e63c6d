use Rattle.std.proofs.Common.{◌≡◌, sym, subst, ◌∙◌}
use Rattle.srt_watch.specs.Expecting.{AreExpecting}
use Rattle.srt_host.proofs.watching.open_watcher.Goals as goal

pub returns-clause-routes : goal.returns-clause-routes
returns-clause-routes c =
    let same : c.warn_all.new.watcher.routes ≡ c.expect.new.self.routes = c.warn_all.ensures.others.0 ∙ c.follow_file.ensures.others.0 in
    let first : AreExpecting c.in_ok-watcher.watcher.routes c.expect.new.self.routes c.args.explained.now.config.expected.items =
    subst (λ e. AreExpecting c.in_ok-watcher.watcher.routes c.expect.new.self.routes e) c.as_slice.ensures.value c.expect.ensures.expected in (
      c.in_ok-watcher.watcher.routes,
      c.in_ok-watcher.ensures.routes,
      subst (λ w. AreExpecting c.in_ok-watcher.watcher.routes w c.args.explained.now.config.expected.items) (sym same) first,
    )
