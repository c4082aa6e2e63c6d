-- Which key a text resembles (our choice).
use Rattle.std.specs.Prelude.{ℕ, zero, suc, ◌+◌, ◌-◌, ◌/◌, ◌^◌, ◌==◌, ◌&&◌, nat_le, nat_lt, min, max, Bool, true, false, List, [], ◌∷◌, length, take, drop}
use Rattle.std.specs.Prelude.{slice_index, Option, None, Some, if◌then◌else◌}
use Rattle.std.specs.Char.{eq_ignore_ascii_case}
use Rattle.srt_config.specs.declared.config.keys.Key.{Key}
use Rattle.srt_config.specs.KeyTable.{key_name}
use Rattle.srt_explain.specs.declared.resemblance.Nearest.{Nearest}

-- of so many numbers from this one on, how many pass the test before the first that doesn't
abbrev pub counted : Bool → ℕ → ℕ
counted true count = suc count
counted false count = 0

abbrev pub passing : (test : ℕ → Bool) → (from count : ℕ) → ℕ
passing test from zero = 0
passing test from (suc count) = counted (test from) (passing test (from + 1) count)

-- two texts have the same byte at this place, whatever the case of letters; the same counted from their ends
abbrev pub same_at : (one other : List ℕ) → (at : ℕ) → Bool
same_at one other at = eq_ignore_ascii_case (slice_index one at) (slice_index other at)

abbrev pub same_before : (one other : List ℕ) → (at : ℕ) → Bool
same_before one other at = eq_ignore_ascii_case (slice_index one (length one - 1 - at)) (slice_index other (length other - 1 - at))

-- the number of first bytes, and of last ones, in which two texts agree
unfoldable pub agreeing_front : (one other : List ℕ) → ℕ
agreeing_front one other = passing (same_at one other) 0 (min (length one) (length other))

unfoldable pub agreeing_end : (one other : List ℕ) → ℕ
agreeing_end one other = passing (same_before one other) 0 (min (length one) (length other))

-- two texts of two bytes, the one the other's in reverse
abbrev pub are_exchanged : (one other : List ℕ) → Bool
are_exchanged one other =
    (length one == 2) && (length other == 2) && (slice_index one 0 == slice_index other 1) && (slice_index one 1 == slice_index other 0)

-- how many bytes two texts differ in between their common front and their common end; 1 if these are two that are exchanged
abbrev pub whole_difference : (one other : List ℕ) → ℕ
whole_difference one other = if are_exchanged one other then 1 else max (length one) (length other)

abbrev pub front_difference : (one other : List ℕ) → ℕ
front_difference one other =
    whole_difference (take (length one - agreeing_end one other) one) (take (length other - agreeing_end one other) other)

abbrev pub difference : (one other : List ℕ) → ℕ
difference one other = front_difference (drop (agreeing_front one other) one) (drop (agreeing_front one other) other)

-- how unlike a name of this length a text is that differs from it in so many bytes, agrees with it in so many first ones, and has this length
abbrev pub unlikeness_by : (name differs front len : ℕ) → Option ℕ
unlikeness_by name differs front len =
    if nat_le differs 2 && nat_le differs (name / 3) then Some differs
    else if nat_le 3 front && (front == len) then Some 3
    else if nat_le 4 front then Some (min (name + differs) (2 ^ 64 - 1))
    else None

-- how unlike a key a text is, unless it doesn't resemble it at all
unfoldable pub unlikeness : Key → (text : List ℕ) → Option ℕ
unlikeness key text =
    unlikeness_by (length (key_name key)) (difference (key_name key) text) (agreeing_front (key_name key) text) (length text)

-- the nearer one of the key that was found and another of this unlikeness: the first one of two that are as near
abbrev pub nearest : Option Key → (unlike : ℕ) → Nearest
nearest key unlike = record { key = key; unlike = unlike }

abbrev pub nearer_by : Nearest → Key → Option ℕ → Nearest
nearer_by found key None = found
nearer_by found key (Some unlike) = if nat_lt unlike found.unlike then nearest (Some key) unlike else found

abbrev pub nearer : (text : List ℕ) → Nearest → Key → Nearest
nearer text found key = nearer_by found key (unlikeness key text)

abbrev pub nearest_of : (text : List ℕ) → Nearest → List Key → Nearest
nearest_of text found [] = found
nearest_of text found (key ∷ keys) = nearest_of text (nearer text found key) keys

-- the one of these keys that a text resembles most, the first one of several
unfoldable pub resembled : List Key → (text : List ℕ) → Option Key
resembled keys text = (nearest_of text (nearest None (2 ^ 64 - 1)) keys).key
