use Rattle.std.proofs.Common.{map}
use Rattle.srt_route.specs.Sessions.{aged}
use Rattle.srt_route.proofs.silence.age.Goals as goal

pub returns-clause-table : goal.returns-clause-table
returns-clause-table c e index before ss h later early =
    c.take_over.ensures e index (map (aged e c.args.clock) ss) (c.end_idle.ensures.table e index before ss h later early)
