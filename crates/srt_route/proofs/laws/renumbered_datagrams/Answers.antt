use Rattle.srt_route.proofs.renumbering.PlacedWords.{four_bytes_are}
use Rattle.srt_route.proofs.renumbering.ShiftedWords.{shift_goes_round, losses_shift}
use Rattle.srt_route.proofs.renumbering.ShiftedHandshakes.{handshakes_shift, conclusions_shift}
use Rattle.srt_route.proofs.renumbering.ShiftedPackets.{packets_shift}
use Rattle.srt_route.proofs.renumbering.Restamped.{packets_restamp, lengths_stay}
use Rattle.srt_route.proofs.laws.renumbered_datagrams.Goals as goal

pub returns : goal.returns
returns c =
    record {
      numbers = shift_goes_round;
      words = four_bytes_are;
      packets = packets_shift;
      losses = losses_shift;
      handshakes = handshakes_shift;
      conclusions = conclusions_shift;
      stamps = packets_restamp;
      lengths = lengths_stay;
    }
