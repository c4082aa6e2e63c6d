use Rattle.std.proofs.Common.{arith, length-drop}
use Rattle.srt_streamid.specs.Reading.{list_in}
use Rattle.std.proofs.lemmas.List.{take_rest}
use Rattle.srt_streamid.proofs.keys.read_list.Goals as goal

pub loop-found-init : goal.loop-found-init
unfolding list_in
loop-found-init c =
    let bytes = c.args.bytes.now in
    record {
      inside = rw (take_rest bytes 4) (omega (arith, length-drop 4 bytes));
      left = rw (c.nothing-found.ensures, take_rest bytes 4);
    }
