use Rattle.std.proofs.Common.{true}
use Rattle.srt_types.specs.Items.{Datagram}
use Rattle.srt_hub.specs.Hubs.{names_at, room_at}
use Rattle.srt_replay.proofs.EventTexts.{arrival_line, routed}
use Rattle.srt_replay.proofs.replaying.answer_arrival.Goals as goal

pub returns-in-Ok-clause-answered : goal.returns-in-Ok-clause-answered
returns-in-Ok-clause-answered g c secret entries past h =
    let d : Datagram = record { peer = c.args.peer; bytes = c.args.bytes.now } in (
      arrival_line (g.L.Lobby.class secret) g.R.RouteStep.reply entries past d c.args.moment _ _ c.write_arrived.ensures.text
          (c.in-Ok.ensures.answer secret entries past h),
      c.in-Ok.ensures.stands secret entries past h,
    )

pub returns-in-Err-clause-answered : goal.returns-in-Err-clause-answered
returns-in-Err-clause-answered g c secret entries past h =
    let d : Datagram = record { peer = c.args.peer; bytes = c.args.bytes.now } in (
      routed (g.L.Lobby.class secret (names_at (g.L.Lobby.class secret) g.R.RouteStep.reply entries past) d c.args.moment) true
          (room_at (g.L.Lobby.class secret) g.R.RouteStep.reply entries past) (c.in-Err.ensures.answer secret entries past h),
      rw c.in-Err.ensures.err h,
    )
