use Rattle.srt_pub.proofs.session.Publisher.start.Goals as goal
use Rattle.std.proofs.Common.{ℕ, [], refl, sym, subst, arith}
use Rattle.srt_pub.specs.Kept.{LogStandsFor}
use Rattle.srt_pub.specs.Publishing.{Terms}
use Rattle.srt_pub.specs.Stands.{width_of}
use Rattle.srt_pub.proofs.Goings.{first_point, orderly_first}

pub returns-clause-stands : goal.returns-clause-stands
returns-clause-stands c =
    let width = width_of c.args.self.now in
    let o = c.args.opening in
    let terms : Terms = record { mode = o.mode; width = width; delay = o.delay; callers = o.callers } in
    record {
      agreed = record { mode_is = refl; delay_is = refl; opening_is = refl; stamp_is = refl; caller_is = refl };
      buffer = c.start.ensures.stands c.args.opening.now;
      log = subst (λ (x : ℕ). LogStandsFor terms 0 x c.reset.new.self [] 0) (sym (first_point width)) (c.reset.ensures terms refl refl);
      orderly = orderly_first c.args.opening.mode width;
      seen = omega arith;
      narrow = c.start.ensures.narrow;
      counts = c.none-self.ensures;
    }
