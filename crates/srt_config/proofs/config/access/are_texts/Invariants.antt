use Rattle.std.proofs.Common.{◌≡◌, length}
use Rattle.toml.specs.View.{items_view}
use Rattle.srt_config.specs.Access.{are_texts}
use Rattle.srt_config.proofs.config.access.are_texts.Given as goal

abbrev pub invariant-loop-rest : goal.invariant-loop-rest
invariant-loop-rest l = are_texts (items_view l.values) ≡ are_texts (items_view l.rest)

abbrev pub decreases-loop-rest : goal.decreases-loop-rest
decreases-loop-rest l = length l.rest
