use Rattle.std.proofs.Common.{sym, subst, take, length-take, arith}
use Rattle.srt_aes.specs.Keys.{key_of}
use Rattle.srt_packet.specs.Held.{IsPacketOrNothing}
use Rattle.srt_packet.proofs.Encrypted.{kept}
use Rattle.srt_packet.proofs.encoded.EncodedPacket.encrypt.Goals as goal

pub invariant_of-self-clause-holds : goal.invariant_of-self-clause-holds
invariant_of-self-clause-holds c =
    let before = take c.args.self.now.len c.args.self.now.array.bytes in
    subst IsPacketOrNothing (sym c.encrypt_front.ensures)
    (kept c.args.encryption (key_of c.args.keys.now) c.args.salt.now before
    (omega (arith, length-take c.args.self.now.len c.args.self.now.array.bytes, c.args.self.now.fits)) c.args.self.now.holds)
