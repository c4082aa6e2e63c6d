-- What is written reads back.
use Rattle.std.proofs.Common.{◌≡◌, ℕ, ◌+◌, ◌%◌, ◌^◌, ◌<◌, ◌≢◌, List, [], ◌∷◌, ◌++◌, length, map, Ok, slice_index_or, refl, ap, inl, inr, ◌∙◌, arith}
use Rattle.std.proofs.lemmas.Bool.{cases_order}
use Rattle.std.proofs.lemmas.Bool.Decides.{nat_tests}
use Rattle.std.proofs.lemmas.Nat.{from_be_bytes-to_be_bytes_4}
use Rattle.std.proofs.lemmas.List.Elements.{All-tail, All-map}
use Rattle.std.specs.List.{flat_map, All}
use Rattle.srt_types.specs.Words.{word, words_in}
use Rattle.srt_types.specs.declared.numbers.Seq31.{Seq31}
use Rattle.srt_types.specs.Runs.{Range, span}
use Rattle.srt_loss.specs.Reading.{losses_in}
use Rattle.srt_loss.specs.Text.{range_of, range_words, loss_words, loss_text, IsWritable, WrittenIsRead}
use Rattle.srt_loss.specs.Spelling.{Begins, Single, FirstAndLast, SpellsUpTo}
use Rattle.srt_loss.proofs.Spelled.{spelled_read}

text_whole : (ws : List ℕ) → length (flat_map word ws) % 4 ≡ 0
text_whole [] = refl
text_whole (w ∷ ws) = omega (arith, text_whole ws)

word_front : (n : ℕ) (bytes : List ℕ) → n < 2 ^ 32 → words_in (word n ++ bytes) ≡ n ∷ words_in bytes
word_front n bytes h = ap (λ x. x ∷ words_in bytes) (from_be_bytes-to_be_bytes_4 n h)

words_alone : (r : Range) → r.last ≡ r.first → range_words r ≡ r.first ∷ []
words_alone r e = grind (arith, nat_tests)

words_both : (r : Range) → r.last ≢ r.first → range_words r ≡ (r.first + 2 ^ 31) ∷ r.last ∷ []
words_both r e = grind (arith, nat_tests)

begins_alone : (r : Range) (ws : List ℕ)
    → IsWritable r → r.last ≡ r.first → Begins (words_in (flat_map word (range_words r ++ ws))) r (words_in (flat_map word ws))
begins_alone r ws w e =
    Single (ap (λ x. words_in (flat_map word (x ++ ws))) (words_alone r e) ∙ word_front r.first (flat_map word ws) (omega (arith, w.first))) w.first e

begins_both : (r : Range) (ws : List ℕ)
    → IsWritable r → r.last ≢ r.first → Begins (words_in (flat_map word (range_words r ++ ws))) r (words_in (flat_map word ws))
begins_both r ws w e =
    FirstAndLast
    (ap (λ x. words_in (flat_map word (x ++ ws))) (words_both r e)
    ∙ word_front (r.first + 2 ^ 31) (word r.last ++ flat_map word ws) (omega (arith, w.first))
    ∙ ap (λ x. (r.first + 2 ^ 31) ∷ x) (word_front r.last (flat_map word ws) (omega (arith, w.last))))
    w.last w.near

begins_written : (r : Range) (ws : List ℕ) → IsWritable r → Begins (words_in (flat_map word (range_words r ++ ws))) r (words_in (flat_map word ws))
begins_written r ws w =
    elim (cases_order r.last r.first) [
      | inl e ↦ begins_alone r ws w e
      | inr (inl h) ↦ begins_both r ws w (λ e. omega (arith, h, e))
      | inr (inr h) ↦ begins_both r ws w (λ e. omega (arith, h, e))
    ]

spelled : (rs : List Range) → All IsWritable rs → SpellsUpTo (words_in (loss_text rs)) rs []
spelled [] w = refl
spelled (r ∷ rs) w = (words_in (loss_text rs), begins_written r (loss_words rs) (w 0 r (omega arith)), spelled rs (All-tail IsWritable r rs w))

pub written_is_read : WrittenIsRead
written_is_read rs w = spelled_read (loss_text rs) rs (record { whole = text_whole (loss_words rs); words = spelled rs w })

-- runs whose ends are fewer than 2^30 apart read back
pub runs_read : (runs : List (Seq31 × Seq31)) (words : List ℕ) → words ≡ loss_words (map range_of runs)
    → All (λ r. span (range_of r) < 2 ^ 30) runs
    → losses_in (flat_map word words) ≡ Ok (map range_of runs)
runs_read runs words e near =
    ap (λ x. losses_in (flat_map word x)) e
    ∙ written_is_read (map range_of runs)
    (All-map IsWritable range_of runs
    (λ k d h. record { first = (slice_index_or runs k d).0.small; last = (slice_index_or runs k d).1.small; near = near k d h }))
