use Rattle.std.proofs.Common.{rules, ◌≡◌, ◌++◌, codes}
use Rattle.srt_log.specs.Members.{signed_member}
use Rattle.srt_log.specs.Objects.{drift_members}
use Rattle.srt_log.proofs.Growing.{joined}
use Rattle.srt_log.proofs.objects.put_drift.Goals as goal

pub returns : goal.returns
unfolding drift_members
returns c =
    let ppm : c.put_signed.new.out.items ≡ c.args.out.now.items ++ signed_member (codes "clock_drift_ppm") c.args.clock.ppm =
    search (rules, c.in_ok-put_signed.ensures) in
    let micros : c.put_micros.new.out.items ≡ c.put_signed.new.out.items ++ signed_member (codes "clock_correction_us") c.args.clock.correction =
    search (rules, c.in_ok-put_micros.ensures) in
    let whole = joined _ _ _ _ _ ppm micros in
    whole
