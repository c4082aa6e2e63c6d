-- The AES key wrap of RFC 3394, sections 2.2.1 and 2.2.2, over AES of FIPS 197.
use Rattle.std.specs.Prelude.{ℕ, zero, suc, ◌+◌, ◌-◌, ◌*◌, ◌/◌, ◌%◌, ◌==◌, Bool, List, [], ◌∷◌, ◌++◌, length, map, take, drop, bit_xor, replicate}
use Rattle.std.specs.Prelude.{Option, Some, None, if◌then◌else◌}
use Rattle.std.specs.Int.{w64, to_be_bytes}
use Rattle.std.specs.Str.{bytes_eq}
use lib.Lanes.{zip2}
use Rattle.srt_aes.specs.Aes.{aes, inv_aes}

-- the initial value (section 2.2.3.1)
abbrev pub initial_value : List ℕ
initial_value = replicate 8 0xa6

-- A and R[1] to R[n] as one list: 8 bytes of A, and then 8 of each R
-- a step of wrapping: t = n * j + i, and R[i] stands from byte 8 * i on
abbrev pub wrap_step : (key state : List ℕ) → (i t : ℕ) → List ℕ
wrap_step key state i t =
    let b = aes key (take 8 state ++ take 8 (drop (8 * i) state)) in
    zip2 bit_xor (take 8 b) (to_be_bytes w64 t) ++ take (8 * i - 8) (drop 8 state) ++ drop 8 b ++ drop (8 * i + 8) state

-- the state after the first steps, of n for each j
unfoldable pub wrap_after : (key state : List ℕ) → (n : ℕ) → (steps : ℕ) → List ℕ
wrap_after key state n zero = state
wrap_after key state n (suc steps) = wrap_step key (wrap_after key state n steps) (steps % n + 1) (steps + 1)

-- the wrap of a text of whole 64-bit blocks (section 2.2.1)
abbrev pub wrap : (key text : List ℕ) → List ℕ
wrap key text = wrap_after key (initial_value ++ text) (length text / 8) (6 * (length text / 8))

-- a step of unwrapping
abbrev pub unwrap_step : (key state : List ℕ) → (i t : ℕ) → List ℕ
unwrap_step key state i t =
    let b = inv_aes key (zip2 bit_xor (take 8 state) (to_be_bytes w64 t) ++ take 8 (drop (8 * i) state)) in
    take 8 b ++ take (8 * i - 8) (drop 8 state) ++ drop 8 b ++ drop (8 * i + 8) state

-- the state after steps backwards from the last of all
unfoldable pub unwrap_after : (key state : List ℕ) → (n all : ℕ) → (steps : ℕ) → List ℕ
unwrap_after key state n all zero = state
unwrap_after key state n all (suc steps) =
    unwrap_step key (unwrap_after key state n all steps) ((all - steps - 1) % n + 1) (all - steps)

-- what unwrapping makes of a wrapped text: A, and the text behind it
abbrev pub unwrapped : (key wrapped : List ℕ) → List ℕ
unwrapped key wrapped =
    let n = length wrapped / 8 - 1 in unwrap_after key wrapped n (6 * n) (6 * n)

-- the text that was wrapped, or nothing if the initial value that comes out is another (section 2.2.2)
abbrev pub unwrap : (key wrapped : List ℕ) → Option (List ℕ)
unwrap key wrapped =
    let state = unwrapped key wrapped in
    if bytes_eq (take 8 state) initial_value then Some (drop 8 state) else None
