-- The numbers in lists of ranges.
use Rattle.std.proofs.Common.{◌≡◌, ◌-◌, Bool, true, false, ◌||◌, List, ◌∷◌, refl}
use Rattle.std.specs.List.{list_any}
use Rattle.srt_types.specs.Runs.{Range, is_in, is_requested, numbers_from}
use Rattle.srt_sendbuf.specs.Sending.{Sending, base, front, asks_for_gone}
use Rattle.srt_sendbuf.proofs.Ranges.{any_of_both}

pub alone : (a : Bool) → (a || false) ≡ a
alone true = refl
alone false = refl

pub swap : (a b c : Bool) → (a || (b || c)) ≡ ((b || a) || c)
swap true true c = refl
swap true false c = refl
swap false true c = refl
swap false false c = refl

-- a list contains an expired number if its first range or the others do
pub asks_more : (x : Range) (xs : List Range) (r : Sending)
    → asks_for_gone (x ∷ xs) r ≡ (list_any (is_in x) (numbers_from (base r) (front r - base r)) || asks_for_gone xs r)
asks_more x xs r = any_of_both (is_in x) (is_requested xs) (numbers_from (base r) (front r - base r))
