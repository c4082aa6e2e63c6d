use Rattle.std.proofs.Common.{[], ◌∷◌}
use Rattle.srt_serve.proofs.Moments.{were_again}
use Rattle.srt_serve.proofs.ticking.tick_all.Goals as goal

pub returns : goal.returns
returns g c = were_again g.E.TickEnd.inbox g.E.TickEnd.tried [] (c.args.moment ∷ []) _ _ _ c.prefetch.ensures c.tick_each.ensures
