use Rattle.std.proofs.Common.{length, sym}
use Rattle.srt_types.specs.Terms.{terms_of}
use Rattle.srt_route.proofs.steps.Resting.{rest_holds}
use Rattle.srt_route.proofs.route.Route.open_resting.Goals as goal

pub open_checked-requires-clause-sound : goal.open_checked-requires-clause-sound
open_checked-requires-clause-sound c =
    (rest_holds (terms_of c.args.entry.now) c.args.index c.args.clock (length c.args.generations.now) (sym c.in_ok-check_rest.ensures)).0

pub open_checked-requires-clause-early : goal.open_checked-requires-clause-early
open_checked-requires-clause-early c =
    (rest_holds (terms_of c.args.entry.now) c.args.index c.args.clock (length c.args.generations.now) (sym c.in_ok-check_rest.ensures)).1
