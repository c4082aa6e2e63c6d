use Rattle.srt_status.proofs.Puts.{joined, joined_last}
use Rattle.srt_status.proofs.json.put_json.Goals as goal

pub returns : goal.returns
returns c =
    let whole = joined_last _ _ _ _ _ _
    (joined _ _ _ _ _ (joined _ _ _ _ _ c.in_ok-put_gateway.ensures c.in_ok-put.ensures) c.in_ok-put_routes.ensures) c.put-2.ensures in
    whole
