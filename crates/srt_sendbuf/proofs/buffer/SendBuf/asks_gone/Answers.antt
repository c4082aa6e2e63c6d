use Rattle.std.proofs.Common.{◌+◌, sym, ap, ◌∙◌}
use Rattle.std.specs.List.{list_any}
use Rattle.srt_types.specs.Runs.{is_in, numbers_from, range_from}
use Rattle.srt_loss.specs.Text.{range_of}
use Rattle.srt_sendbuf.specs.Sending.{base}
use Rattle.srt_sendbuf.proofs.Ranges.{asks_part, asks_none, base_is}
use Rattle.srt_sendbuf.proofs.buffer.SendBuf.asks_gone.Goals as goal

pub returns-in-Some : goal.returns-in-Some
returns-in-Some c width initial r h =
    let b = base_is width initial c.back-back.result c.args.self.now r h c.back-back.ensures.value in
    let part = c.in-Some.ensures.value (initial + base r) (sym (c.number_back.ensures (initial + base r) b.near)) in
    sym (ap (λ n. list_any (is_in (range_from initial (range_of c.args.range))) (numbers_from (base r) n)) (sym b.behind)
    ∙ asks_part initial (base r) c.back-back.result c.in-Some.field-0.0 c.in-Some.field-0.1 (range_of c.args.range) c.args.range.0.small
    c.args.range.1.small part c.in-Some.ensures.within.0 c.in-Some.ensures.within.1)

pub returns-in-None : goal.returns-in-None
returns-in-None c width initial r h =
    let b = base_is width initial c.back-back.result c.args.self.now r h c.back-back.ensures.value in
    let part = c.in-None.ensures.value (initial + base r) (sym (c.number_back.ensures (initial + base r) b.near)) in
    sym (ap (λ n. list_any (is_in (range_from initial (range_of c.args.range))) (numbers_from (base r) n)) (sym b.behind)
    ∙ asks_none initial (base r) c.back-back.result (range_of c.args.range) c.args.range.0.small c.args.range.1.small part)
