use Rattle.std.proofs.Common.{ap, ◌∙◌, length, take, arith}
use Rattle.srt_lobby.specs.Names.{names_of}
use Rattle.srt_serve.proofs.NamesAtStart.{turn_hides, turn_keeps, as_many_later}
use Rattle.srt_serve.proofs.running.hide_later.Goals as goal
use Rattle.srt_serve.proofs.running.hide_later.Goals.{then-schedules-r-ne0, else-schedules-r-ne0}

pub hide-requires : goal.hide-requires
hide-requires c =
    omega (
      arith,
      c.requires,
      c.loop-r-test.true,
      ap length c.loop-r.invariant,
      as_many_later (take c.loop-r.r c.args.schedules.now) (names_of c.args.names.now),
    )

pub loop-r-preserved : goal.loop-r-preserved
loop-r-preserved c = elim c.if-schedules-r-ne0.branch [
  | then-schedules-r-ne0 w ↦
      ap names_of w.names-is ∙ turn_hides c.args.schedules.now _ _ _ c.loop-r.r _ c.loop-r-test.true w.if-schedules-r-ne0.true c.loop-r.invariant w.hide.ensures
  | else-schedules-r-ne0 w ↦
      ap names_of w.names-is ∙ turn_keeps c.args.schedules.now _ _ c.loop-r.r _ c.loop-r-test.true w.if-schedules-r-ne0.false c.loop-r.invariant
]
