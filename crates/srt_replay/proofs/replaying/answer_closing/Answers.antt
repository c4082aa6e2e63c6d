use Rattle.srt_replay.proofs.EventTexts.{closing_line}
use Rattle.srt_replay.proofs.replaying.answer_closing.Goals as goal

pub returns-clause-answered : goal.returns-clause-answered
returns-clause-answered g c secret entries past h = (
  closing_line (g.L.Lobby.class secret) g.R.RouteStep.reply entries past c.args.route c.args.moment _ _ c.write_closed.ensures.text
      (c.close_route-answer.ensures.answer secret entries past h),
  c.close_route-answer.ensures.stands secret entries past h,
)
