use Rattle.std.proofs.Common.{subst}
use Rattle.srt_sendbuf.specs.Parts.{is_in_parts}
use Rattle.srt_sendbuf.specs.Stands.{HasMarked}
use Rattle.srt_sendbuf.proofs.buffer.SendBuf.lose_next.Goals as goal

pub returns-clause-lost : goal.returns-clause-lost
returns-clause-lost c =
    let parts = c.next_parts-parts.result.items in (
      is_in_parts parts,
      subst (λ xs. HasMarked (is_in_parts xs) c.args.self.now c.lose_parts.new.self) c.as_slice.ensures.value c.lose_parts.ensures.lost,
      c.next_parts-parts.ensures.named,
    )
