-- Bytes with another word at one offset.
use Rattle.std.proofs.Common.{◌≡◌, ℕ, ◌+◌, ◌-◌, ◌/◌, ◌%◌, ◌^◌, ◌<◌, ◌≤◌, List, [], ◌∷◌, ◌++◌, length, take, drop, get_or, refl, sym, ap, ◌∙◌, arith}
use Rattle.std.proofs.lemmas.List.{length-append, length-take, length-drop, length-take-le, get_or_append_left, get_or-append_right}
use Rattle.std.proofs.lemmas.List.{get_or-take, get_or-drop, ext_get_or, drop_at}
use Rattle.srt_types.specs.Words.{word_at}
use Rattle.srt_hs.specs.Grammar.{half_at}
use Rattle.srt_route.specs.Shifted.{four_bytes, with_word, with_rest}
use Rattle.srt_route.specs.ShiftLaws.{FourBytesAreTheWord}

pub length_with : (at n : ℕ) (bytes : List ℕ) → at + 4 ≤ length bytes → length (with_word at n bytes) ≡ length bytes
length_with at n bytes h =
    omega (arith, length-append (take at bytes) (four_bytes n ++ drop (at + 4) bytes), length-take at bytes, length-drop (at + 4) bytes)

byte_before : (at n i : ℕ) (bytes : List ℕ) → at ≤ length bytes → i < at → get_or (with_word at n bytes) i 0 ≡ get_or bytes i 0
byte_before at n i bytes h l =
    get_or_append_left (take at bytes) (four_bytes n ++ drop (at + 4) bytes) 0 i (omega (arith, length-take-le at bytes h)) ∙ get_or-take at bytes i 0 l

-- the bytes from the offset on
byte_from : (at n i k : ℕ) (bytes : List ℕ)
    → at ≤ length bytes → i ≡ at + k → get_or (with_word at n bytes) i 0 ≡ get_or (four_bytes n ++ drop (at + 4) bytes) k 0
byte_from at n i k bytes h e =
    get_or-append_right (take at bytes) (four_bytes n ++ drop (at + 4) bytes) at i 0 (length-take-le at bytes h) (omega (arith, e))
    ∙ ap (λ j. get_or (four_bytes n ++ drop (at + 4) bytes) j 0) (omega (arith, e))

byte_after : (at n i : ℕ) (bytes : List ℕ) → at ≤ length bytes → at + 4 ≤ i → get_or (with_word at n bytes) i 0 ≡ get_or bytes i 0
byte_after at n i bytes h l =
    byte_from at n i (i - at) bytes h (omega (arith, l))
    ∙ get_or-append_right (four_bytes n) (drop (at + 4) bytes) 4 (i - at) 0 refl (omega (arith, l))
    ∙ get_or-drop (at + 4) bytes (i - at - 4) 0
    ∙ ap (λ j. get_or bytes j 0) (omega (arith, l))

pub word_before : (at n i : ℕ) (bytes : List ℕ) → at ≤ length bytes → i + 4 ≤ at → word_at (with_word at n bytes) i ≡ word_at bytes i
word_before at n i bytes h l =
    rw (
      byte_before at n i bytes h (omega (arith, l)),
      byte_before at n (i + 1) bytes h (omega (arith, l)),
      byte_before at n (i + 2) bytes h (omega (arith, l)),
      byte_before at n (i + 3) bytes h (omega (arith, l)),
    )
    refl

pub word_of_four : (n : ℕ) (rest : List ℕ) → word_at (four_bytes n ++ rest) 0 ≡ n
word_of_four n rest = omega arith

pub word_there : (at n : ℕ) (bytes : List ℕ) → at ≤ length bytes → word_at (with_word at n bytes) at ≡ n
word_there at n bytes h =
    rw (
      byte_from at n at 0 bytes h (omega arith),
      byte_from at n (at + 1) 1 bytes h refl,
      byte_from at n (at + 2) 2 bytes h refl,
      byte_from at n (at + 3) 3 bytes h refl,
    )
    (word_of_four n [])

pub word_after : (at n i : ℕ) (bytes : List ℕ) → at ≤ length bytes → at + 4 ≤ i → word_at (with_word at n bytes) i ≡ word_at bytes i
word_after at n i bytes h l =
    rw (
      byte_after at n i bytes h l,
      byte_after at n (i + 1) bytes h (omega (arith, l)),
      byte_after at n (i + 2) bytes h (omega (arith, l)),
      byte_after at n (i + 3) bytes h (omega (arith, l)),
    )
    refl

pub half_before : (at n i : ℕ) (bytes : List ℕ) → at ≤ length bytes → i + 2 ≤ at → half_at (with_word at n bytes) i ≡ half_at bytes i
half_before at n i bytes h l =
    rw (byte_before at n i bytes h (omega (arith, l)), byte_before at n (i + 1) bytes h (omega (arith, l))) refl

pub rest_after : (at n m : ℕ) (bytes : List ℕ) → at + 4 ≤ length bytes → at + 4 ≤ m → drop m (with_word at n bytes) ≡ drop m bytes
rest_after at n m bytes h l =
    let same = length_with at n bytes h in
    ext_get_or 0 (drop m (with_word at n bytes)) (drop m bytes) (omega (arith, same, length-drop m (with_word at n bytes), length-drop m bytes)) (λ i below.
    get_or-drop m (with_word at n bytes) i 0 ∙ byte_after at n (m + i) bytes (omega (arith, h)) (omega (arith, l)) ∙ sym (get_or-drop m bytes i 0))

-- a word of the bytes after an offset
byte_behind : (m i j : ℕ) (bytes : List ℕ) → j ≡ m + i → get_or (drop m bytes) i 0 ≡ get_or bytes j 0
byte_behind m i j bytes e = get_or-drop m bytes i 0 ∙ ap (λ k. get_or bytes k 0) (sym e)

pub word_behind : (m i : ℕ) (bytes : List ℕ) → word_at (drop m bytes) i ≡ word_at bytes (m + i)
word_behind m i bytes =
    rw (
      byte_behind m i (m + i) bytes refl,
      byte_behind m (i + 1) (m + i + 1) bytes (omega arith),
      byte_behind m (i + 2) (m + i + 2) bytes (omega arith),
      byte_behind m (i + 3) (m + i + 3) bytes (omega arith),
    )
    refl

-- a header followed by other bytes
pub length_rest : (bytes rest : List ℕ) → 16 ≤ length bytes → length (with_rest bytes rest) ≡ 16 + length rest
length_rest bytes rest h = omega (arith, length-append (take 16 bytes) rest, length-take-le 16 bytes h)

byte_of_header : (bytes rest : List ℕ) (i : ℕ) → 16 ≤ length bytes → i < 16 → get_or (with_rest bytes rest) i 0 ≡ get_or bytes i 0
byte_of_header bytes rest i h l =
    get_or_append_left (take 16 bytes) rest 0 i (omega (arith, length-take-le 16 bytes h)) ∙ get_or-take 16 bytes i 0 l

pub word_of_header : (bytes rest : List ℕ) (i : ℕ) → 16 ≤ length bytes → i + 4 ≤ 16 → word_at (with_rest bytes rest) i ≡ word_at bytes i
word_of_header bytes rest i h l =
    rw (
      byte_of_header bytes rest i h (omega (arith, l)),
      byte_of_header bytes rest (i + 1) h (omega (arith, l)),
      byte_of_header bytes rest (i + 2) h (omega (arith, l)),
      byte_of_header bytes rest (i + 3) h (omega (arith, l)),
    )
    refl

pub behind_header : (bytes rest : List ℕ) → 16 ≤ length bytes → drop 16 (with_rest bytes rest) ≡ rest
behind_header bytes rest h = drop_at (take 16 bytes) rest 16 (length-take-le 16 bytes h)

pub four_bytes_are : FourBytesAreTheWord
four_bytes_are n h = ap (λ a. a ∷ n / 2 ^ 16 % 2 ^ 8 ∷ n / 2 ^ 8 % 2 ^ 8 ∷ n % 2 ^ 8 ∷ []) (omega (arith, h))
