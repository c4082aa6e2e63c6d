-- The places of a run's routes that are taken.
use Rattle.std.specs.Prelude.{List, length, min, take}
use Rattle.srt_serve.specs.declared.watching.Changer.{Changer}

module _ {C N A : Type 0} where
  -- the places of the routes that there are
  abbrev pub taken_in : Changer C N A → List C
  taken_in changer = take (min changer.routes (length changer.places.now)) changer.places.now
