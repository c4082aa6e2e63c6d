-- The words of bytes, and the ranges at their front.
use Rattle.std.proofs.Common.{◌≡◌, ℕ, ◌+◌, ◌-◌, ◌%◌, ◌^◌, ◌<◌, ◌≤◌, ◌≢◌, None, Err, List, [], ◌∷◌, length, drop, refl, sym, ap, subst, ◌∙◌, arith}
use Rattle.std.proofs.lemmas.Bool.Decides.{nat_tests}
use Rattle.std.proofs.lemmas.List.{length-drop}
use Rattle.std.specs.Int.{w32, from_be_bytes}
use Rattle.srt_types.specs.Words.{word_at, words_in}
use Rattle.srt_types.specs.Runs.{Range, span}
use Rattle.srt_loss.specs.declared.reading.LossFault.TheVariants.{Ragged, Dangling, Backward}
use Rattle.srt_loss.specs.Reading.{then_those, alone, ranges_in, losses_in}

-- a first word, and the bytes after it
pub words_front : (text : List ℕ) → 4 ≤ length text → words_in text ≡ word_at text 0 ∷ words_in (drop 4 text)
words_front [] h = absurd (omega arith)
words_front (a ∷ []) h = absurd (omega arith)
words_front (a ∷ b ∷ []) h = absurd (omega arith)
words_front (a ∷ b ∷ c ∷ []) h = absurd (omega arith)
words_front (a ∷ b ∷ c ∷ d ∷ bytes) h = refl

-- a whole number of words
pub whole_read : (bytes : List ℕ) → length bytes % 4 ≡ 0 → losses_in bytes ≡ ranges_in None (words_in bytes)
whole_read bytes h = grind (arith, nat_tests)

pub ragged_read : (bytes : List ℕ) → length bytes % 4 ≢ 0 → losses_in bytes ≡ Err Ragged
ragged_read bytes h = grind (arith, nat_tests)

-- a single number
pub alone_read : (w : ℕ) (ws : List ℕ) → w < 2 ^ 31 → ranges_in None (w ∷ ws) ≡ then_those (alone w) (ranges_in None ws)
alone_read w ws h = grind (arith, nat_tests)

-- a first and a last word
pub both_read : (first last : ℕ) (ws : List ℕ) → 2 ^ 31 ≤ first → last < 2 ^ 31
    → span (record { first = first - 2 ^ 31; last = last }) < 2 ^ 30
    → ranges_in None (first ∷ last ∷ ws) ≡ then_those (record { first = first - 2 ^ 31; last = last }) (ranges_in None ws)
both_read first last ws h l n = grind (arith, nat_tests)

-- the same, if they are too far apart
pub backward_read : (first last : ℕ) (ws : List ℕ) → 2 ^ 31 ≤ first → last < 2 ^ 31
    → 2 ^ 30 ≤ span (record { first = first - 2 ^ 31; last = last })
    → ranges_in None (first ∷ last ∷ ws) ≡ Err Backward
backward_read first last ws h l n = grind (arith, nat_tests)

-- a first word without a last word
pub dangling_read : (first last : ℕ) (ws : List ℕ) → 2 ^ 31 ≤ first → 2 ^ 31 ≤ last → ranges_in None (first ∷ last ∷ ws) ≡ Err Dangling
dangling_read first last ws h l = grind (arith, nat_tests)

pub last_read : (first : ℕ) → 2 ^ 31 ≤ first → ranges_in None (first ∷ []) ≡ Err Dangling
last_read first h = grind (arith, nat_tests)

-- the range that two words encode
pub range_read : (r : Range) (ws : List ℕ)
    → r.last < 2 ^ 31 → span r < 2 ^ 30 → ranges_in None ((r.first + 2 ^ 31) ∷ r.last ∷ ws) ≡ then_those r (ranges_in None ws)
range_read r ws h n =
    let e : (r.first + 2 ^ 31) - 2 ^ 31 ≡ r.first = omega arith in
    let P : ℕ → Type 0 = λ f. span (record { first = f; last = r.last }) < 2 ^ 30
    → ranges_in None ((r.first + 2 ^ 31) ∷ r.last ∷ ws) ≡ then_those (record { first = f; last = r.last }) (ranges_in None ws) in
    subst P e (λ m. both_read (r.first + 2 ^ 31) r.last ws (omega arith) h m) n

-- two words, and the bytes after them
words_two : (text : List ℕ) → 8 ≤ length text → words_in text ≡ word_at text 0 ∷ word_at text 4 ∷ words_in (drop 8 text)
words_two [] h = absurd (omega arith)
words_two (a ∷ []) h = absurd (omega arith)
words_two (a ∷ b ∷ []) h = absurd (omega arith)
words_two (a ∷ b ∷ c ∷ []) h = absurd (omega arith)
words_two (a ∷ b ∷ c ∷ d ∷ bytes) h = ap (λ x. from_be_bytes w32 (a ∷ b ∷ c ∷ d ∷ []) ∷ x) (words_front bytes (omega arith))

-- a text that begins with a first and a last word
pub both_front : (text : List ℕ) (first last : ℕ) → 8 ≤ length text → length text % 4 ≡ 0 → first + 2 ^ 31 ≡ word_at text 0
    → last ≡ word_at text 4 → last < 2 ^ 31 → span (record { first = first; last = last }) < 2 ^ 30
    → losses_in text ≡ then_those (record { first = first; last = last }) (losses_in (drop 8 text))
both_front text first last long whole f l small near =
    let r : Range = record { first = first; last = last } in
    let rest : length (drop 8 text) % 4 ≡ 0 = simp length-drop (omega arith) in
    let front : words_in text ≡ (first + 2 ^ 31) ∷ last ∷ words_in (drop 8 text) = words_two text long ∙ cc in
    whole_read text whole ∙ ap (λ x. ranges_in None x) front ∙ range_read r (words_in (drop 8 text)) small near
    ∙ ap (λ x. then_those r x) (sym (whole_read (drop 8 text) rest))
