use Rattle.std.proofs.Common.{◌≤◌, length, refl, arith}
use Rattle.srt_config.specs.AllFaults.{place_of, part_fault}
use Rattle.srt_config.specs.inside.Sections.{section_seen}
use Rattle.srt_config.proofs.Listed.{next_key, no_key_left, told_as}
use Rattle.srt_config.proofs.config.listing.push_keys.Goals as goal

pub loop-at-preserved : goal.loop-at-preserved
loop-at-preserved c =
    next_key (place_of (section_seen c.args.section)) (part_fault (section_seen c.args.section)) _ _ _ _ _ _ _ c.loop-at-test.true refl
    c.loop-at.invariant (told_as _ _ _ _ _ _ c.in_ok-push.ensures c.place_of.ensures c.in_ok-found.ensures)

pub returns : goal.returns
returns c =
    let passed : length c.args.keys.now ≤ c.loop-at.at = omega arith in
    no_key_left (place_of (section_seen c.args.section)) (part_fault (section_seen c.args.section)) _ _ _ _ passed c.loop-at.invariant
