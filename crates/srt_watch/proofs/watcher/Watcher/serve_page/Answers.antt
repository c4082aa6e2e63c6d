use Rattle.std.proofs.Common.{◌∷◌, [], ap, ◌∙◌}
use Rattle.srt_watch.specs.Pages.{page_at, with_pages}
use Rattle.srt_watch.specs.Routes.{used_of}
use Rattle.srt_watch.proofs.watcher.Watcher.serve_page.Goals as goal

pub returns-clause-shown : goal.returns-clause-shown
returns-clause-shown g c =
    let w = c.args.self.now in
    record {
      moment = c.moment-moment.result;
      was_moment = c.moment-moment.ensures.known;
      shown_is = c.show.ensures.shown
          ∙ ap (λ e. with_pages (g.P.StatusServer.shown w.page.server)
          (page_at w.overview w.changes.counts w.page.version w.routes.shown.items (used_of w.routes.routes.items) e.events.items c.moment-moment.result ∷ []))
          c.events.ensures;
    }
