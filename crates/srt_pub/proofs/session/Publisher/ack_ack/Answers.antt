use Rattle.srt_pub.proofs.session.Publisher.ack_ack.Goals as goal
use Rattle.std.proofs.Common.{◌≡◌, ℕ, ap, subst, ◌∙◌, arith}
use Rattle.srt_types.specs.Lift.{stamped_from}
use Rattle.srt_pub.specs.Publishing.{Publishing, confirmed_at, confirmed_by}
use Rattle.srt_pub.specs.Stands.{StandsFor}
use Rattle.srt_pub.proofs.Counting.{same_confirmed}

pub returns-clause-stands : goal.returns-clause-stands
returns-clause-stands c terms initial opening first caller time m n h =
    let t : c.saturating_sub-time.result ≡ time = omega (arith, n, h.agreed.opening_is, c.saturating_sub-time.ensures) in
    let stamp = c.since_conclusion-since_conclusion.result.word in
    let s : stamp ≡ stamped_from first c.args.stamp = c.since_conclusion-since_conclusion.ensures
    ∙ ap (λ (x : ℕ). stamped_from x c.args.stamp) h.agreed.stamp_is in
    let full = confirmed_by c.args.number m.notes in
    let S : Publishing → Type 0 = λ x. StandsFor terms initial opening first caller (record c.args.self.now { log = c.confirm.new.self }) x in
    let stands : S (confirmed_at c.saturating_sub-time.result stamp full m) = record {
      agreed = h.agreed;
      buffer = h.buffer;
      log = c.confirm.ensures _ _ _ _ _ h.log;
      orderly = h.orderly;
      seen = h.seen;
      narrow = h.narrow;
      counts = same_confirmed c.args.self.now.counts m.receiving.arrivals _ m.receiving.front c.saturating_sub-time.result stamp full m.notes h.counts;
    } in
    subst (λ (x : ℕ). S (confirmed_at x (stamped_from first c.args.stamp) full m)) t
    (subst (λ (x : ℕ). S (confirmed_at c.saturating_sub-time.result x full m)) s stands)
