use Rattle.std.proofs.Common.{ap, sym, ◌∙◌, Some}
use Rattle.std.specs.Prelude.{option_map}
use Rattle.srt_recvbuf.specs.Receiving.{Arrival}
use Rattle.srt_recvbuf.specs.Cells.{cell_is_received, payload_of}
use Rattle.srt_recvbuf.proofs.buffer.RecvBuf.next_due.Goals as goal

pub returns-in_default-clause-answer : goal.returns-in_default-clause-answer
returns-in_default-clause-answer c width initial origin time r t h =
    sym (ap (option_map (λ (a : Arrival). a.payload)) (c.in_default.ensures.first width initial origin time r t h))

pub returns-clause-answer : goal.returns-clause-answer
returns-clause-answer c width initial origin time r t h =
    let k = c.in-Some.ensures.first width initial origin time r t h in
    ap Some (c.payload.ensures.packet (ap cell_is_received k.3) ∙ ap payload_of k.3) ∙ sym (ap (option_map (λ (a : Arrival). a.payload)) k.1)
