-- Shifted words, and what a shift keeps.
use Rattle.std.proofs.Common.{◌≡◌, ℕ, ◌-◌, ◌%◌, ◌^◌, ◌<◌, ◌≤◌, Bool, true, false, cond, Option, None, Some, List, [], ◌∷◌, length, map}
use Rattle.std.proofs.Common.{Result, Ok, Err, nat_lt, ◌==◌, refl, sym, ap, inl, inr, ◌∙◌, arith}
use Rattle.std.proofs.lemmas.Bool.{cases_lt}
use Rattle.std.proofs.lemmas.Bool.Decides.{nat_tests}
use Rattle.srt_types.specs.Words.{word, word_at, words_in}
use Rattle.srt_types.specs.Runs.{Range, span}
use Rattle.srt_loss.specs.declared.reading.LossFault.{LossFault}
use Rattle.srt_loss.specs.declared.reading.LossFault.TheVariants.{Ragged, Dangling, Backward}
use Rattle.srt_loss.specs.Reading.{then_those, alone, ended, ranges_in}
use Rattle.srt_loss.proofs.Words.{alone_read}
use Rattle.srt_route.specs.Shifted.{shifted, shifted_first, shifted_words}
use Rattle.srt_route.specs.ShiftLaws.{shifted_range, shifted_losses, ShiftGoesRound, LossesShift, CountsStay, StampsStay}
use Rattle.srt_route.proofs.renumbering.PlacedWords.{word_of_four}

pub shift_goes_round : ShiftGoesRound
shift_goes_round by n h = (omega (arith, h), omega (arith, h))

pub top_stays : (by n : ℕ) → nat_lt (shifted by n) (2 ^ 31) ≡ nat_lt n (2 ^ 31)
top_stays by n = grind (arith, nat_tests)

pub counts_stay : CountsStay
counts_stay by initial word = grind (arith, nat_tests)

pub stamps_stay : StampsStay
stamps_stay by first word = omega arith

-- the words of bytes whose words are shifted
pub length_shifted : (by : ℕ) (bytes : List ℕ) → length (shifted_words by bytes) ≡ length bytes
length_shifted by [] = refl
length_shifted by (a ∷ []) = refl
length_shifted by (a ∷ b ∷ []) = refl
length_shifted by (a ∷ b ∷ c ∷ []) = refl
length_shifted by (a ∷ b ∷ c ∷ d ∷ bytes) = omega (arith, length_shifted by bytes)

pub length_first : (by : ℕ) (bytes : List ℕ) → length (shifted_first by bytes) ≡ length bytes
length_first by [] = refl
length_first by (a ∷ []) = refl
length_first by (a ∷ b ∷ []) = refl
length_first by (a ∷ b ∷ c ∷ []) = refl
length_first by (a ∷ b ∷ c ∷ d ∷ bytes) = refl

words_shifted : (by : ℕ) (bytes : List ℕ) → words_in (shifted_words by bytes) ≡ map (shifted by) (words_in bytes)
words_shifted by [] = refl
words_shifted by (a ∷ []) = refl
words_shifted by (a ∷ b ∷ []) = refl
words_shifted by (a ∷ b ∷ c ∷ []) = refl
words_shifted by (a ∷ b ∷ c ∷ d ∷ bytes) =
    let n = shifted by (word_at (a ∷ b ∷ c ∷ d ∷ []) 0) in
    ap (λ m. m ∷ words_in (shifted_words by bytes)) (word_of_four n [])
    ∙ ap (λ ms. n ∷ ms) (words_shifted by bytes)

span_stays : (by : ℕ) (r : Range) → span (shifted_range by r) ≡ span r
span_stays by r = omega arith

then_shifted : (by : ℕ) (r : Range) (those : Result (List Range) LossFault)
    → then_those (shifted_range by r) (shifted_losses by those) ≡ shifted_losses by (then_those r those)
then_shifted by r (Ok rs) = refl
then_shifted by r (Err fault) = refl

ended_shifted : (by : ℕ) (r : Range) (those : Result (List Range) LossFault)
    → ended (shifted_range by r) (shifted_losses by those) ≡ shifted_losses by (ended r those)
ended_shifted by r those =
    ap (λ s. cond (nat_lt s (2 ^ 30)) (then_those (shifted_range by r) (shifted_losses by those)) (Err Backward)) (span_stays by r)
    ∙ of_test (nat_lt (span r) (2 ^ 30))
  where
    of_test : (b : Bool)
        → cond b (then_those (shifted_range by r) (shifted_losses by those)) (Err Backward)
        ≡ shifted_losses by (cond b (then_those r those) (Err Backward))
    of_test true = then_shifted by r those
    of_test false = refl

-- a first word that was read, shifted
shifted_begun : (by : ℕ) → Option ℕ → Option ℕ
shifted_begun by None = None
shifted_begun by (Some first) = Some (shifted by first)

first_read : (w : ℕ) (ws : List ℕ) → 2 ^ 31 ≤ w → ranges_in None (w ∷ ws) ≡ ranges_in (Some (w - 2 ^ 31)) ws
first_read w ws h = grind (arith, nat_tests)

last_read : (first w : ℕ) (ws : List ℕ) → w < 2 ^ 31 → ranges_in (Some first) (w ∷ ws) ≡ ended (record { first = first; last = w }) (ranges_in None ws)
last_read first w ws h = grind (arith, nat_tests)

dangling_read : (first w : ℕ) (ws : List ℕ) → 2 ^ 31 ≤ w → ranges_in (Some first) (w ∷ ws) ≡ Err Dangling
dangling_read first w ws h = grind (arith, nat_tests)

single_shifts : (by w : ℕ) (ws : List ℕ) → w < 2 ^ 31 → ranges_in None (map (shifted by) ws) ≡ shifted_losses by (ranges_in None ws)
    → ranges_in None (shifted by w ∷ map (shifted by) ws) ≡ shifted_losses by (ranges_in None (w ∷ ws))
single_shifts by w ws low h =
    alone_read (shifted by w) (map (shifted by) ws) (omega (arith, low))
    ∙ ap (λ those. then_those (alone (shifted by w)) those) h
    ∙ then_shifted by (alone w) (ranges_in None ws)
    ∙ ap (λ those. shifted_losses by those) (sym (alone_read w ws low))

first_shifts : (by w : ℕ) (ws : List ℕ) → 2 ^ 31 ≤ w
    → ranges_in (Some (shifted by (w - 2 ^ 31))) (map (shifted by) ws) ≡ shifted_losses by (ranges_in (Some (w - 2 ^ 31)) ws)
    → ranges_in None (shifted by w ∷ map (shifted by) ws) ≡ shifted_losses by (ranges_in None (w ∷ ws))
first_shifts by w ws high h =
    first_read (shifted by w) (map (shifted by) ws) (omega (arith, high))
    ∙ ap (λ m. ranges_in (Some m) (map (shifted by) ws)) (omega (arith, high))
    ∙ h
    ∙ ap (λ those. shifted_losses by those) (sym (first_read w ws high))

last_shifts : (by first w : ℕ) (ws : List ℕ) → w < 2 ^ 31 → ranges_in None (map (shifted by) ws) ≡ shifted_losses by (ranges_in None ws)
    → ranges_in (Some (shifted by first)) (shifted by w ∷ map (shifted by) ws) ≡ shifted_losses by (ranges_in (Some first) (w ∷ ws))
last_shifts by first w ws low h =
    let r : Range = record { first = first; last = w } in
    last_read (shifted by first) (shifted by w) (map (shifted by) ws) (omega (arith, low))
    ∙ ap (λ those. ended (shifted_range by r) those) h
    ∙ ended_shifted by r (ranges_in None ws)
    ∙ ap (λ those. shifted_losses by those) (sym (last_read first w ws low))

dangling_shifts : (by first w : ℕ) (ws : List ℕ) → 2 ^ 31 ≤ w
    → ranges_in (Some (shifted by first)) (shifted by w ∷ map (shifted by) ws) ≡ shifted_losses by (ranges_in (Some first) (w ∷ ws))
dangling_shifts by first w ws high =
    dangling_read (shifted by first) (shifted by w) (map (shifted by) ws) (omega (arith, high))
    ∙ ap (λ those. shifted_losses by those) (sym (dangling_read first w ws high))

ranges_shift : (by : ℕ) (begun : Option ℕ) (ws : List ℕ) → ranges_in (shifted_begun by begun) (map (shifted by) ws) ≡ shifted_losses by (ranges_in begun ws)
unfolding shifted_begun
ranges_shift by None [] = refl
ranges_shift by (Some first) [] = refl
ranges_shift by None (w ∷ ws) =
    elim (cases_lt w (2 ^ 31)) [
      | inl low ↦ single_shifts by w ws low (ranges_shift by None ws)
      | inr high ↦ first_shifts by w ws high (ranges_shift by (Some (w - 2 ^ 31)) ws)
    ]
ranges_shift by (Some first) (w ∷ ws) =
    elim (cases_lt w (2 ^ 31)) [
      | inl low ↦ last_shifts by first w ws low (ranges_shift by None ws)
      | inr high ↦ dangling_shifts by first w ws high
    ]

none_shifts : (by : ℕ) (ws : List ℕ) → ranges_in None (map (shifted by) ws) ≡ shifted_losses by (ranges_in None ws)
unfolding shifted_begun
none_shifts by ws = ranges_shift by None ws

pub losses_shift : LossesShift
losses_shift by bytes =
    ap (λ n. cond (n % 4 == 0) (ranges_in None (words_in (shifted_words by bytes))) (Err Ragged)) (length_shifted by bytes)
    ∙ ap (λ ws. cond (length bytes % 4 == 0) (ranges_in None ws) (Err Ragged)) (words_shifted by bytes)
    ∙ ap (λ those. cond (length bytes % 4 == 0) those (Err Ragged)) (none_shifts by (words_in bytes))
    ∙ of_test (length bytes % 4 == 0)
  where
    of_test : (b : Bool)
        → cond b (shifted_losses by (ranges_in None (words_in bytes))) (Err Ragged)
        ≡ shifted_losses by (cond b (ranges_in None (words_in bytes)) (Err Ragged))
    of_test true = refl
    of_test false = refl
