use Rattle.std.proofs.Common.{◌≡◌, rules}
use Rattle.std.specs.Fmt.{signed_decimal}
use Rattle.srt_log.specs.Texts.{put}
use Rattle.srt_log.proofs.Puts.{followed}
use Rattle.srt_log.proofs.writing.put_clock.Goals as goal

pub returns-in-Some : goal.returns-in-Some
returns-in-Some c =
    let ppm : c.put_signed.new.self.text.items ≡ put c.put.new.self.text.items (signed_decimal c.in-Some.drift.ppm) =
    search (rules, c.put_signed.ensures) in
    let micros : c.put_signed-in-Some.new.self.text.items ≡ put c.put-in-Some.new.self.text.items (signed_decimal c.in-Some.drift.correction) =
    search (rules, c.put_signed-in-Some.ensures) in
    let whole =
    followed _ _ _ _ _
    (followed _ _ _ _ _
    (followed _ _ _ _ _ (followed _ _ _ _ _ c.put.ensures ppm) c.put-in-Some.ensures) micros)
    c.put-in-Some-2.ensures in
    rw c.in-Some.is whole
