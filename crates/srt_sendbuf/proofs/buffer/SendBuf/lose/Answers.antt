use Rattle.std.proofs.Common.{◌≡◌, ◌+◌, ◌-◌, ◌<◌, true, Some, sym, ap, ◌∙◌, length, arith}
use Rattle.srt_types.specs.Runs.{is_requested, ranges_from}
use Rattle.srt_sendbuf.specs.Sending.{front, base, next, requested, asks_for_gone}
use Rattle.srt_sendbuf.proofs.Ranges.{some_requested}
use Rattle.srt_sendbuf.proofs.Marking.{taken_nothing, taken_both, taken_all, one_turn_more, turns_in_all}
use Rattle.srt_sendbuf.proofs.buffer.SendBuf.lose.Goals as goal

pub loop-ranges-init : goal.loop-ranges-init
loop-ranges-init c =
    record {
      lost = taken_nothing c.args.self.now c.args.losses.now c.ranges-ranges.result c.ranges-ranges.ensures;
      marks = (0, let e = ap length c.ranges-ranges.ensures in omega (arith, e), omega arith);
    }

pub loop-ranges-preserved : goal.loop-ranges-preserved
loop-ranges-preserved c =
    let i = c.loop-ranges.invariant in
    let n = c.lose_next.ensures in
    record {
      lost = taken_both c.args.self.now c.loop-ranges.self c.lose_next.new.self c.args.losses.now c.loop-ranges.ranges c.lose_next.new.ranges i.lost n.lost;
      marks = (
        i.marks.0 + 1,
        let l = n.shorter c.loop-ranges-test.true in let m = i.marks.1 in omega (arith, l, m),
        one_turn_more i.marks.0 _ _ _ _ _ i.marks.2 n.marks i.lost.1.sent_is,
      );
    }

pub returns-then-gone-clause-stands : goal.returns-then-gone-clause-stands
returns-then-gone-clause-stands c width initial r h =
    taken_all width initial c.args.self.now c.lose_next.new.self c.args.losses.now c.lose_next.new.ranges r h
    (taken_both c.args.self.now c.loop-ranges.self c.lose_next.new.self c.args.losses.now c.loop-ranges.ranges c.lose_next.new.ranges
    c.loop-ranges.invariant.lost c.lose_next.ensures.lost)
    (c.lose_next.ensures.none c.loop-ranges-test.false)

pub returns-else-gone-clause-stands : goal.returns-else-gone-clause-stands
returns-else-gone-clause-stands c width initial r h =
    taken_all width initial c.args.self.now c.lose_next.new.self c.args.losses.now c.lose_next.new.ranges r h
    (taken_both c.args.self.now c.loop-ranges.self c.lose_next.new.self c.args.losses.now c.loop-ranges.ranges c.lose_next.new.ranges
    c.loop-ranges.invariant.lost c.lose_next.ensures.lost)
    (c.lose_next.ensures.none c.loop-ranges-test.false)

pub returns-then-gone-clause-answer : goal.returns-then-gone-clause-answer
returns-then-gone-clause-answer c width initial r h =
    let after = taken_all width initial c.args.self.now c.lose_next.new.self c.args.losses.now c.lose_next.new.ranges r h
    (taken_both c.args.self.now c.loop-ranges.self c.lose_next.new.self c.args.losses.now c.loop-ranges.ranges c.lose_next.new.ranges
    c.loop-ranges.invariant.lost c.lose_next.ensures.lost)
    (c.lose_next.ensures.none c.loop-ranges-test.false) in
    let asks : asks_for_gone (ranges_from initial c.args.losses.now) r ≡ true = sym (c.asks_any_gone-gone.ensures width initial r h) ∙ c.if-gone.true in
    let some = some_requested (is_requested (ranges_from initial c.args.losses.now)) (base r) (front r - base r) asks in
    let below : base r < front r = omega (arith, some) in
    rw asks (ap Some (c.gone.ensures width initial (requested (ranges_from initial c.args.losses.now) r) after below))

pub returns-then-gone-clause-marks : goal.returns-then-gone-clause-marks
returns-then-gone-clause-marks c width initial r h =
    let i = c.loop-ranges.invariant in
    turns_in_all i.marks.0 (length c.args.losses.now) (length c.loop-ranges.ranges) _ _ _ (front r) (next r) i.marks.1
    (one_turn_more i.marks.0 _ _ _ _ _ i.marks.2 c.lose_next.ensures.marks i.lost.1.sent_is) h.fields.flying_is

pub returns-else-gone-clause-marks : goal.returns-else-gone-clause-marks
returns-else-gone-clause-marks c width initial r h =
    let i = c.loop-ranges.invariant in
    turns_in_all i.marks.0 (length c.args.losses.now) (length c.loop-ranges.ranges) _ _ _ (front r) (next r) i.marks.1
    (one_turn_more i.marks.0 _ _ _ _ _ i.marks.2 c.lose_next.ensures.marks i.lost.1.sent_is) h.fields.flying_is
