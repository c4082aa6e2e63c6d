use Rattle.std.proofs.Common.{◌++◌}
use Rattle.srt_packet.proofs.KeyPackets.{found_by, only_by}
use Rattle.srt_packet.proofs.key_codec.decode_key_parts.Goals as goal

pub returns-clause-found : goal.returns-clause-found
returns-clause-found c = found_by (c.args.head.now ++ c.args.body.now) c.parse_parts.result c.parse_parts.ensures

pub returns-clause-only : goal.returns-clause-only
returns-clause-only c = only_by (c.args.head.now ++ c.args.body.now) c.parse_parts.result c.parse_parts.ensures
