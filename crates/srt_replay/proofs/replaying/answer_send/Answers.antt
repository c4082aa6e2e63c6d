use Rattle.srt_replay.proofs.EventTexts.{send_line}
use Rattle.srt_replay.proofs.replaying.answer_send.Goals as goal

pub returns-in-Some-clause-answered : goal.returns-in-Some-clause-answered
returns-in-Some-clause-answered g c secret entries past h = (
  send_line (g.L.Lobby.class secret) g.R.RouteStep.reply entries past c.args.route _ _ c.write_sent.ensures.text
      (c.in-Some.ensures.answer secret entries past h),
  c.in-Some.ensures.stands secret entries past h,
)

pub returns-in-None-clause-answered : goal.returns-in-None-clause-answered
returns-in-None-clause-answered g c secret entries past h = (
  send_line (g.L.Lobby.class secret) g.R.RouteStep.reply entries past c.args.route _ _ c.write_none.ensures.text
      (c.in-None.ensures.answer secret entries past h),
  c.in-None.ensures.stands secret entries past h,
)
