use Rattle.std.proofs.Common.{refl, sym, arith}
use Rattle.std.proofs.lemmas.Int.{to_z-of_z}
use Rattle.srt_sendbuf.specs.Sending.{base, expired_before}
use Rattle.srt_sendbuf.proofs.Fronts.{expired_front, expired_moved, expired_none}
use Rattle.srt_sendbuf.proofs.buffer.SendBuf.expire.Goals as goal

pub returns-clause-stands : goal.returns-clause-stands
returns-clause-stands c width initial r h later =
    let fits = c.ranges.before in
    let f = h.fields in
    let old = rw to_z-of_z at c.count_before-count.ensures.before in
    let young = rw to_z-of_z at c.count_before-count.ensures.here in
    let e = expired_front c.args.before c.count_before-count.result _ _ r f.in_order f.queued_is f.kept_is later c.count_before-count.ensures.fits old young in
    let m = c.message_after-message.ensures (base r) f.base_message_is in
    c.move_front.ensures width initial r (expired_before c.args.before r) h
    (expired_moved c.args.before c.args.self.now.behind c.min-behind.result c.back.result c.min.result c.count_before-count.result _ _ r
    f.behind_is c.back.ensures.value c.min-behind.ensures c.min.ensures refl m e)

pub returns-clause-count : goal.returns-clause-count
returns-clause-count c width initial r h later =
    let fits = c.ranges.before in
    let f = h.fields in
    let old = rw to_z-of_z at c.count_before-count.ensures.before in
    let young = rw to_z-of_z at c.count_before-count.ensures.here in
    sym (expired_front c.args.before c.count_before-count.result _ _ r f.in_order f.queued_is f.kept_is later c.count_before-count.ensures.fits old young)

pub returns-then-count-eq0-clause-stands : goal.returns-then-count-eq0-clause-stands
returns-then-count-eq0-clause-stands c width initial r h later =
    let fits = c.ranges.before in
    let f = h.fields in
    let old = rw to_z-of_z at c.count_before-count.ensures.before in
    let young = rw to_z-of_z at c.count_before-count.ensures.here in
    let e = expired_front c.args.before c.count_before-count.result _ _ r f.in_order f.queued_is f.kept_is later c.count_before-count.ensures.fits old young in
    record {
      width_is = h.width_is;
      fields = expired_none c.args.before initial _ _ _ _ _ _ _ _ _ _ r f (omega (arith, e, c.if-count-eq0.true));
    }

pub returns-then-count-eq0-clause-count : goal.returns-then-count-eq0-clause-count
returns-then-count-eq0-clause-count c width initial r h later =
    let fits = c.ranges.before in
    let f = h.fields in
    let old = rw to_z-of_z at c.count_before-count.ensures.before in
    let young = rw to_z-of_z at c.count_before-count.ensures.here in
    let e = expired_front c.args.before c.count_before-count.result _ _ r f.in_order f.queued_is f.kept_is later c.count_before-count.ensures.fits old young in
    omega (arith, e, c.if-count-eq0.true)
