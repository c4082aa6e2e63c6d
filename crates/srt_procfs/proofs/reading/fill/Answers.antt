use Rattle.std.proofs.Common.{length, ◌-◌, ap, ◌∙◌}
use Rattle.srt_procfs.specs.Readings.{FileReading}
use Rattle.srt_procfs.proofs.Fronts.{fills, within_place}
use borrow.Rule.Slice.PartMut.{same_len_mid}
use Rattle.srt_procfs.proofs.reading.fill.Goals as goal

pub loop-len-preserved : goal.loop-len-preserved
loop-len-preserved g c =
    let same = same_len_mid c.loop-len.len (length c.loop-len.place - c.loop-len.len) c.loop-len.place c.read.new.place c.read.auto.place in (
      within_place c.loop-len.len (length c.loop-len.place - c.loop-len.len) c.in-Some.n c.loop-len.place c.read.new.place
          c.loop-len.invariant.0 c.in-Some.ensures.within,
      same ∙ c.loop-len.invariant.1,
      ap (λ (r : FileReading). r.path) c.in-Some.ensures.noted ∙ c.loop-len.invariant.2,
      fills _ _ _ c.loop-len.len (length c.loop-len.place - c.loop-len.len) c.in-Some.n c.loop-len.place c.read.new.place
          c.loop-len.invariant.0 c.in-Some.ensures.within c.loop-len.invariant.3
          (ap (λ (r : FileReading). r.text) c.in-Some.ensures.noted),
    )
