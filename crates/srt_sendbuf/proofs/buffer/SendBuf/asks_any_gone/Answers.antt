use Rattle.std.proofs.Common.{◌-◌, ◌||◌, sym, ap, ◌∙◌}
use Rattle.srt_types.specs.Runs.{numbers_from, range_from, ranges_from}
use Rattle.srt_loss.specs.Text.{range_of}
use Rattle.srt_sendbuf.specs.Sending.{base, front, asks_for_gone}
use Rattle.srt_sendbuf.proofs.Asks.{asks_more}
use Rattle.srt_sendbuf.proofs.Ranges.{none_requested}
use Rattle.srt_sendbuf.proofs.buffer.SendBuf.asks_any_gone.Goals as goal

pub loop-range-init : goal.loop-range-init
loop-range-init c width initial r h = ap (λ rs. asks_for_gone (ranges_from initial rs) r) (sym c.ranges-ranges.ensures)

pub loop-range-preserved : goal.loop-range-preserved
loop-range-preserved c width initial r h =
    let x = range_from initial (range_of c.in-Some.range) in
    let rest = ranges_from initial c.next_range.new.self in
    c.loop-range.invariant width initial r h ∙ ap (λ rs. asks_for_gone (ranges_from initial rs) r) c.in-Some.ensures.some
    ∙ asks_more x rest r ∙ ap (λ b. b || asks_for_gone rest r) (sym (c.asks_gone.ensures width initial r h) ∙ c.if-asks_gone.false)

pub returns-then-asks_gone : goal.returns-then-asks_gone
returns-then-asks_gone c width initial r h =
    let x = range_from initial (range_of c.in-Some.range) in
    let rest = ranges_from initial c.next_range.new.self in
    sym (c.loop-range.invariant width initial r h ∙ ap (λ rs. asks_for_gone (ranges_from initial rs) r) c.in-Some.ensures.some
    ∙ asks_more x rest r ∙ ap (λ b. b || asks_for_gone rest r) (sym (c.asks_gone.ensures width initial r h) ∙ c.if-asks_gone.true))

pub returns : goal.returns
returns c width initial r h =
    sym (c.loop-range.invariant width initial r h ∙ ap (λ rs. asks_for_gone (ranges_from initial rs) r) c.in_default.ensures.none.0
    ∙ none_requested (numbers_from (base r) (front r - base r)))
