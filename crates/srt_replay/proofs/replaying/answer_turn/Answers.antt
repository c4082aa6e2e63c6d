use Rattle.srt_replay.proofs.EventTexts.{turn_line}
use Rattle.srt_replay.proofs.replaying.answer_turn.Goals as goal

pub returns-clause-answered : goal.returns-clause-answered
returns-clause-answered g c secret entries past h = (
  turn_line (g.L.Lobby.class secret) g.R.RouteStep.reply entries past c.args.route _ _ c.write_turned.ensures.text
      (c.turn-answer.ensures.answer secret entries past h),
  c.turn-answer.ensures.stands secret entries past h,
)
