use Rattle.std.proofs.Common.{◌∙◌, sym, ap}
use Rattle.srt_types.specs.declared.shared.Role.{Role}
use Rattle.srt_session_keys.specs.Source.{pool_of}
use Rattle.srt_session_keys.specs.Wrapping.{kek_of}
use Rattle.srt_route.specs.RouteKeys.{keys_opened}
use Rattle.srt_route.specs.SlotKeys.{brought_of}
use Rattle.srt_route.proofs.slot_keys.session_keys.Goals as goal

pub returns-in-Publish-clause-keys : goal.returns-in-Publish-clause-keys
returns-in-Publish-clause-keys c =
    c.publisher_keys.ensures c.args.opening (pool_of c.args.pool.now)
    ∙ ap (λ (r : Role). keys_opened r (kek_of c.args.kek) (brought_of c.args.brought.now) c.args.opening (pool_of c.args.pool.now)) (sym c.in-Publish.is)
