use Rattle.srt_replay.proofs.EventTexts.{tick_line}
use Rattle.srt_replay.proofs.replaying.answer_tick.Goals as goal

pub returns-clause-answered : goal.returns-clause-answered
returns-clause-answered g c secret entries past h = (
  tick_line (g.L.Lobby.class secret) g.R.RouteStep.reply entries past c.args.route c.args.moment _ _ c.write_ticked.ensures.text
      (c.tick-answer.ensures.answer secret entries past h),
  c.tick-answer.ensures.stands secret entries past h,
)
