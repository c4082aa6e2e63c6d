use Rattle.std.proofs.Common.{length, sym, ap, subst, arith}
use Rattle.srt_types.specs.Window.{word_of}
use Rattle.srt_loss.specs.Text.{range_of}
use Rattle.srt_sendbuf.specs.Parts.{is_in_parts, AreWithin, IsTaken}
use Rattle.srt_sendbuf.proofs.Named.{taken_more, within_more, length_more}
use Rattle.srt_sendbuf.proofs.parts.first_parts.Goals as goal

pub loop-front-preserved : goal.loop-front-preserved
loop-front-preserved c =
    let i = c.loop-front.invariant in
    let word = word_of c.args.front in
    let width = c.args.width in
    let list = c.args.ranges.now in
    let left = c.next_range.new.self in
    let parts = c.loop-front.parts.items in
    let range = c.in-Some.range in
    let before = subst (λ xs. IsTaken word width list xs (is_in_parts parts)) c.in-Some.ensures.some i.named in
    record {
      named = subst (λ xs. IsTaken word width list left (is_in_parts xs)) (sym c.put.ensures)
          (taken_more word width list left (range_of range) parts c.part_in.result range.0.small range.1.small c.part_in.ensures.value
          before);
      within = subst (λ xs. AreWithin width xs) (sym c.put.ensures) (within_more width parts c.part_in.result i.within c.part_in.ensures.within);
      shorter =
          let old = i.shorter in
          let taken = ap length c.in-Some.ensures.some in
          let put = ap length c.put.ensures in
          let more = length_more parts c.part_in.result in
          omega (arith, old, taken, put, more);
    }
