use Rattle.std.proofs.Common.{◌≡◌, ℕ, List, Bool, true, ◌+◌, ◌-◌, ◌*◌, ◌/◌, ◌%◌, ◌<◌, ◌≤◌, ◌⊎◌, [], ◌∷◌, ◌++◌, suc, refl, sym, ap, ◌∙◌, subst, inl}
use Rattle.std.proofs.Common.{inr, arith, rules, slice_index, bit_xor, length, take, map}
use Rattle.std.proofs.lemmas.List.{get_or-take}
use Rattle.srt_aes.specs.Aes.{expanded, next_word, word_of, temp_after, IsKeyLength, schedule_of}
use Rattle.srt_aes.proofs.Lengths.{quarter, key_bounds, few_constants}
use Rattle.srt_aes.proofs.schedule.expand.Goals as goal

front_word : (words : List ℕ) (i j : ℕ) → j < i → word_of (take (4 * i) words) j ≡ word_of words j
front_word words i j less =
    let e0 = get_or-take (4 * i) words (4 * j) 0 (omega arith) in
    let e1 = get_or-take (4 * i) words (4 * j + 1) 0 (omega arith) in
    let e2 = get_or-take (4 * i) words (4 * j + 2) 0 (omega arith) in
    let e3 = get_or-take (4 * i) words (4 * j + 3) 0 (omega arith) in
    cc

-- next_word of the two words that it reads
abbrev combined : (nk i : ℕ) (before last : List ℕ) → List ℕ
combined nk i before last =
    let temp = temp_after nk i last in
    bit_xor (slice_index before 0) (slice_index temp 0) ∷ bit_xor (slice_index before 1) (slice_index temp 1) ∷
    bit_xor (slice_index before 2) (slice_index temp 2) ∷ bit_xor (slice_index before 3) (slice_index temp 3) ∷ []

front_next : (nk i : ℕ) (words : List ℕ) → 0 < nk → nk ≤ i → next_word nk i (take (4 * i) words) ≡ next_word nk i words
unfolding next_word
front_next nk i words some later =
    let before = front_word words i (i - nk) (omega arith) in
    let last = front_word words i (i - 1) (omega arith) in
    ap (λ (v : List ℕ). combined nk i v (word_of (take (4 * i) words) (i - 1))) before ∙
    ap (combined nk i (word_of words (i - nk))) last

four_long : (nk i : ℕ) (words : List ℕ) → length (next_word nk i words) ≡ 4
unfolding next_word
four_long nk i words = refl

step : (key words new word : List ℕ) (nk i : ℕ) → nk ≡ length key / 4 → 0 < nk → nk ≤ i →
    take (4 * i) words ≡ expanded key (i - nk) → word ≡ next_word nk i words →
    take (4 * i + length word) new ≡ take (4 * i) words ++ word → take (4 * (i + 1)) new ≡ expanded key (i + 1 - nk)
unfolding expanded
step key words new word nk i is some later held made wrote =
    let four : length word ≡ 4 = ap (length {A = ℕ}) made ∙ four_long nk i words in
    let long : 4 * (i + 1) ≡ 4 * i + length word = omega arith in
    let more : i + 1 - nk ≡ suc (i - nk) = omega arith in
    let same : i ≡ length key / 4 + (i - nk) = omega arith in
    let front = made ∙ sym (front_next nk i words some later) ∙ ap (next_word nk i) held in
    ap (λ (n : ℕ). take n new) long ∙ wrote ∙ ap (λ (v : List ℕ). v ++ word) held ∙
    ap (λ (v : List ℕ). expanded key (i - nk) ++ v) front ∙
    ap (λ (n : ℕ). expanded key (i - nk) ++ next_word n i (expanded key (i - nk))) is ∙
    ap (λ (n : ℕ). expanded key (i - nk) ++ next_word (length key / 4) n (expanded key (i - nk))) same ∙
    ap (expanded key) (sym more)

pub loop-i-init : goal.loop-i-init
unfolding expanded
loop-i-init c =
    let key = c.args.key.now in
    let nk : ℕ = length key / 4 in
    let long : 4 * nk ≡ 0 + length key = quarter (length key) c.requires ∙ omega arith in
    let none : 0 ≡ nk - nk = omega arith in
    ap (λ (n : ℕ). take n c.write.new.words) long ∙ c.write.ensures ∙ ap (expanded key) none

pub loop-i-preserved : goal.loop-i-preserved
loop-i-preserved c =
    let key = c.args.key.now in
    let bounds = key_bounds (length key) c.requires in
    let some : 0 < length key / 4 = omega arith in
    step key c.loop-i.words c.write-in-loop-i.new.words c.next_word-word.result (length key / 4) c.loop-i.i refl some
    (omega arith) c.loop-i.invariant c.next_word-word.ensures c.write-in-loop-i.ensures

pub returns : goal.returns
returns c =
    let key = c.args.key.now in
    let quarters = quarter (length key) c.requires in
    let long : 4 * length key + 112 ≡ 4 * c.loop-i.i = omega arith in
    let count : c.loop-i.i - length key / 4 ≡ 3 * (length key / 4) + 28 = omega arith in
    ap (λ (n : ℕ). take n c.loop-i.words) long ∙ c.loop-i.invariant ∙ ap (expanded key) count
