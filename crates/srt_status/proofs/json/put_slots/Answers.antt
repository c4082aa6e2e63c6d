use Rattle.std.proofs.Common.{◌≤◌, length, arith}
use Rattle.srt_status.proofs.Slots.{moved, ended}
use Rattle.srt_status.proofs.json.put_slots.Goals as goal

pub loop-slot-preserved : goal.loop-slot-preserved
loop-slot-preserved c =
    moved _ _ _ _ _ _ _ _ _ c.loop-slot-test.true c.loop-slot.invariant c.in_ok-put_slot.ensures c.stays_first-first.ensures

pub returns : goal.returns
returns c =
    let passed : length c.args.slots.now ≤ c.loop-slot.slot-index = omega arith in
    ended _ _ _ _ _ _ passed c.loop-slot.invariant
