-- Bytes in groups of four, zeros at the end, and sequences of words.
use Rattle.std.proofs.Common.{◌≡◌, ◌≢◌, ℕ, suc, ◌-◌, ◌<◌, ◌≤◌, List, [], ◌∷◌, ◌++◌, length, get_or, take, drop, refl, sym, ap, ◌∙◌, append_assoc, arith}
use Rattle.std.proofs.lemmas.Bool.Decides.{nat_tests}
use Rattle.std.proofs.Math.Seq.{take-suc}
use Rattle.srt_types.specs.Words.{word_at, words_in}
use Rattle.srt_hs.specs.Grammar.{turned_words, before_zeros, without_zeros}

pub turned_step : (front rest : List ℕ) → 4 ≤ length rest
    → (front ++ get_or rest 3 0 ∷ get_or rest 2 0 ∷ get_or rest 1 0 ∷ get_or rest 0 0 ∷ []) ++ turned_words (drop 4 rest)
    ≡ front ++ turned_words rest
turned_step front [] h = absurd (omega arith)
turned_step front (a ∷ []) h = absurd (omega arith)
turned_step front (a ∷ b ∷ []) h = absurd (omega arith)
turned_step front (a ∷ b ∷ c ∷ []) h = absurd (omega arith)
turned_step front (a ∷ b ∷ c ∷ d ∷ rest) h = append_assoc front (d ∷ c ∷ b ∷ a ∷ []) (turned_words rest)

pub words_step : (front rest : List ℕ) → 4 ≤ length rest → (front ++ word_at rest 0 ∷ []) ++ words_in (drop 4 rest) ≡ front ++ words_in rest
words_step front [] h = absurd (omega arith)
words_step front (a ∷ []) h = absurd (omega arith)
words_step front (a ∷ b ∷ []) h = absurd (omega arith)
words_step front (a ∷ b ∷ c ∷ []) h = absurd (omega arith)
words_step front (a ∷ b ∷ c ∷ d ∷ rest) h = append_assoc front (word_at (a ∷ b ∷ c ∷ d ∷ []) 0 ∷ []) (words_in rest)

pub first_word : (bytes : List ℕ) → 4 ≤ length bytes → word_at bytes 0 ∷ words_in (drop 4 bytes) ≡ words_in bytes
first_word bytes h = words_step [] bytes h

zero_at_end : (xs : List ℕ) → without_zeros (xs ++ 0 ∷ []) ≡ without_zeros xs
zero_at_end [] = refl
zero_at_end (x ∷ xs) = ap (before_zeros x) (zero_at_end xs)

before_some : (x : ℕ) (xs : List ℕ) (b : ℕ) → before_zeros x (xs ++ b ∷ []) ≡ x ∷ (xs ++ b ∷ [])
before_some x [] b = refl
before_some x (y ∷ ys) b = refl

other_alone : (b : ℕ) → b ≢ 0 → before_zeros b [] ≡ b ∷ []
other_alone b h = grind (arith, nat_tests)

other_at_end : (xs : List ℕ) (b : ℕ) → b ≢ 0 → without_zeros (xs ++ b ∷ []) ≡ xs ++ b ∷ []
other_at_end [] b h = other_alone b h
other_at_end (x ∷ xs) b h = ap (before_zeros x) (other_at_end xs b h) ∙ before_some x xs b

pub last_taken : (xs : List ℕ) (n : ℕ) → 0 < n → n ≤ length xs → take n xs ≡ take (n - 1) xs ++ get_or xs (n - 1) 0 ∷ []
last_taken xs n h k =
    let e : n ≡ suc (n - 1) = omega arith in
    ap (λ m. take m xs) e ∙ take-suc xs (n - 1) 0 (omega arith)

pub without_last_zero : (xs : List ℕ) (n : ℕ) → 0 < n → n ≤ length xs → get_or xs (n - 1) 0 ≡ 0 → without_zeros (take (n - 1) xs) ≡ without_zeros (take n xs)
without_last_zero xs n h k e = sym (ap without_zeros (last_taken xs n h k ∙ ap (λ b. take (n - 1) xs ++ b ∷ []) e) ∙ zero_at_end (take (n - 1) xs))

pub last_is_other : (xs : List ℕ) (n : ℕ) → 0 < n → n ≤ length xs → get_or xs (n - 1) 0 ≢ 0 → take n xs ≡ without_zeros (take n xs)
last_is_other xs n h k e = last_taken xs n h k ∙ sym (other_at_end (take (n - 1) xs) (get_or xs (n - 1) 0) e) ∙ ap without_zeros (sym (last_taken xs n h k))
