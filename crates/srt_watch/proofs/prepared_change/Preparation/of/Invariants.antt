use Rattle.std.proofs.Common.{◌≡◌, length, map}
use Rattle.srt_types.specs.Terms.{terms_of}
use Rattle.srt_watch.proofs.PreparedRoutes.{IsPartly}
use Rattle.srt_watch.proofs.prepared_change.Preparation.of.Given as goal

abbrev pub invariant-loop-rest : goal.invariant-loop-rest
invariant-loop-rest l = record {
  partly : IsPartly l.indexes l.wanted.changes.gone.items l.wanted.changes.routes.items (map terms_of l.wanted.config.entries.items)
      l.rest l.entries l.prepared;
  many : length l.rest ≡ length l.entries;
}

abbrev pub decreases-loop-rest : goal.decreases-loop-rest
decreases-loop-rest l = length l.rest
