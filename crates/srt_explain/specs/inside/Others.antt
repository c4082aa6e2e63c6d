-- The faults of a configuration after its first.
use Rattle.std.specs.Prelude.{◌≡◌, ◌-◌, List, length, map, drop, take}
use Rattle.srt_config.specs.AllFaults.{Placed}
use Rattle.srt_explain.specs.declared.others.Others.{Others}
use Rattle.srt_explain.specs.declared.explanation.Faults.{Faults}
use Rattle.srt_explain.specs.Listing.{told_of, ArePrivate}

-- the next 19 of these after the first, and the number of those beyond them
abbrev pub AreOthers : List Placed → Others → Type 0
AreOthers all others =
    (map told_of others.explained.items ≡ take 19 (drop 1 all)) × (others.more ≡ length all - 20) × ArePrivate others.explained.items

-- the same of a configuration's faults, whatever the first is
abbrev pub HasOthers : List Placed → Faults → Type 0
HasOthers all faults = (map told_of faults.others.items ≡ take 19 (drop 1 all)) × (faults.more ≡ length all - 20)
