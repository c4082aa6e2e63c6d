use Rattle.std.proofs.Common.{sym, arith, length-take-le}
use Rattle.srt_serve.proofs.refusal_reports.cut.Goals as goal

pub slice_bounds-copy_of-end : goal.slice_bounds-copy_of-end
slice_bounds-copy_of-end c = sym (length-take-le 64 c.args.text.now (omega (arith, c.if-text-le-MAX_NAME.false)))

pub copy_of-requires-else-text-le-MAX_NAME : goal.copy_of-requires-else-text-le-MAX_NAME
copy_of-requires-else-text-le-MAX_NAME c = omega (arith, length-take-le 64 c.args.text.now (omega (arith, c.if-text-le-MAX_NAME.false)))
