use Rattle.std.proofs.Common.{rules}
use Rattle.srt_session_keys.specs.Subscriber.{subscriber_of}
use Rattle.srt_route.proofs.steps.Encrypting.{announcement_said}
use Rattle.srt_route.proofs.encrypted_transmit.put_announcement.Goals as goal

pub returns : goal.returns
returns c made =
    announcement_said (subscriber_of c.args.keys.now) c.args.pending c.args.to _ _ _ _ _ c.message.result.now c.put_to.ensures c.if-not-pending.false made
    c.message.ensures.value (search rules)
