use Rattle.srt_pub.proofs.session.Publisher.open.Goals as goal
use Rattle.std.proofs.Common.{ℕ, [], refl, sym, subst, arith}
use Rattle.srt_types.specs.declared.shared.Mode.TheVariants.{Live}
use Rattle.srt_types.specs.declared.shared.Callers.TheVariants.{Draft}
use Rattle.srt_pub.specs.Kept.{LogStandsFor}
use Rattle.srt_pub.specs.Publishing.{Terms}
use Rattle.srt_pub.proofs.Goings.{first_point, orderly_first}

pub returns : goal.returns
returns c =
    let width = c.args.width in
    let terms : Terms = record { mode = Live; width = width; delay = 0; callers = Draft } in
    record {
      agreed = record { mode_is = refl; delay_is = refl; opening_is = refl; stamp_is = c.new.ensures; caller_is = refl };
      buffer = c.in_ok-open.ensures 0;
      log = subst (λ (x : ℕ). LogStandsFor terms 0 x c.in_ok-open-2.field-0 [] 0) (sym (first_point width)) (c.in_ok-open-2.ensures terms refl refl);
      orderly = orderly_first Live width;
      seen = omega arith;
      narrow = c.requires.most;
      counts = c.none.ensures;
    }
