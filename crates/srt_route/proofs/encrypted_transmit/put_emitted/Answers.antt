use Rattle.srt_session_keys.specs.Subscriber.{subscriber_of}
use Rattle.srt_route.proofs.steps.Encrypting.{data_said}
use Rattle.srt_route.proofs.encrypted_transmit.put_emitted.Goals as goal

pub returns-in-Data-clause-said : goal.returns-in-Data-clause-said
returns-in-Data-clause-said c made =
    data_said (subscriber_of c.args.keys.now) c.args.pending c.args.to c.args.kind c.in-Data.payload _ _ _ _ _ _ _ c.in-Data.is
    (c.put_announcement.ensures made) c.put_encrypted.ensures
