use Rattle.srt_pub.proofs.session.Publisher.follow.Goals as goal
use Rattle.std.proofs.Common.{◌≡◌, ℕ, ◌+◌, ◌≤◌, sym, subst, arith}
use Rattle.srt_recvbuf.specs.Receiving.{ack_point}
use Rattle.srt_recvbuf.proofs.Points.{ack_points}
use Rattle.srt_pub.specs.Kept.{LogStandsFor}
use Rattle.srt_pub.specs.Counting.{Counted, delivered_in, one_if, with_steps}
use Rattle.srt_pub.specs.declared.counts.Counts.{Counts}
use Rattle.srt_pub.proofs.Counting.{counts_steps, no_more}

pub returns-clause-stands : goal.returns-clause-stands
returns-clause-stands c terms initial opening first caller m r fw pw passes h =
    let g = h.goes_on in
    let width = terms.width in
    let p = m.receiving.front in
    let a = ack_point width m.receiving in
    let b = ack_point width r in
    let old = ack_points width m.receiving in
    let k = ack_points width r in
    let f = c.steps-front_steps.ensures (initial + p) (initial + r.front) (omega (arith, g.front)) (omega (arith, g.near)) fw
    (c.front.ensures width initial opening r h.buffer) in
    let s = c.steps-point_steps.ensures (initial + a) (initial + b) (omega (arith, g.point))
    (omega (arith, g.near, k.high, old.low, h.narrow)) pw (c.ack_point.ensures width initial opening r h.buffer) in
    let front : p + c.steps-front_steps.result ≡ r.front = omega (arith, f, g.front) in
    let point : a + c.steps-point_steps.result ≡ b = omega (arith, s, g.point) in
    let far : one_if c.args.is_due ≤ c.steps-front_steps.result = omega (arith, f, passes.far) in
    let stepped = counts_steps c.steps-front_steps.result c.args.is_due c.args.self.now.counts r.arrivals (delivered_in m.receiving) p m.notes
    (no_more m.receiving.arrivals p) far h.counts in
    let counts = subst (λ (n : ℕ). Counted (with_steps c.steps-front_steps.result c.args.is_due c.args.self.now.counts) r.arrivals n r.front m.notes)
    (sym passes.delivered)
    (subst
    (λ (n : ℕ). Counted (with_steps c.steps-front_steps.result c.args.is_due c.args.self.now.counts) r.arrivals
    (delivered_in m.receiving + one_if c.args.is_due) n m.notes)
    front stepped) in
    let moved = c.moves.ensures terms p a m.seen m.notes (omega (arith, front, point, k.high)) h.log in
    record {
      agreed = h.agreed;
      buffer = h.buffer;
      log = subst (λ (x : ℕ). LogStandsFor terms r.front x c.moves.new.self m.notes m.seen) point
          (subst (λ (x : ℕ). LogStandsFor terms x (a + c.steps-point_steps.result) c.moves.new.self m.notes m.seen) front moved);
      orderly = h.orderly;
      seen = omega (arith, h.seen, g.end);
      narrow = h.narrow;
      counts = subst (λ (k : Counts). Counted k r.arrivals (delivered_in r) r.front m.notes) (sym c.count_passed.ensures) counts;
    }
