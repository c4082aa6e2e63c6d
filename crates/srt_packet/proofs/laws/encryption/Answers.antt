use Rattle.srt_packet.proofs.Encrypted.{lengths, read, written}
use Rattle.srt_packet.proofs.laws.encryption.Goals as goal

pub returns : goal.returns
returns c = record { lengths = lengths; read = read; written = written }
