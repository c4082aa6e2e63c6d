-- A transcript with one line more.
use Rattle.std.proofs.Common.{◌≡◌, ℕ, suc, ◌+◌, ◌≤◌, List, [], ◌∷◌, ◌++◌, length, sym, ap, ◌∙◌, arith, append_assoc}
use Rattle.std.proofs.lemmas.List.{append-nil}
use Rattle.srt_transcript.specs.Transcript.{line_text, answer_text, transcript_from}

-- one more of the tape, when no line of the output with its number was explained
pub with_line : (number at : ℕ) (lines answers : List (List ℕ)) (line : List ℕ) → length answers ≤ length lines → at ≡ number + length lines
    → transcript_from number (lines ++ line ∷ []) answers ≡ transcript_from number lines answers ++ line_text at line
with_line number at [] [] line h e =
    let same : at ≡ number = omega (arith, e) in
    rw same (append-nil (line_text number line))
with_line number at [] (answer ∷ answers) line h e = absurd (omega (arith, h))
with_line number at (first ∷ lines) [] line h e =
    ap (λ (xs : List ℕ). line_text number first ++ xs) (with_line (number + 1) at lines [] line (omega arith) (omega (arith, e)))
    ∙ sym (append_assoc (line_text number first) (transcript_from (number + 1) lines []) (line_text at line))
with_line number at (first ∷ lines) (answer ∷ answers) line h e =
    ap (λ (xs : List ℕ). line_text number first ++ (answer_text answer ++ xs))
    (with_line (number + 1) at lines answers line (omega (arith, h)) (omega (arith, e)))
    ∙ ap (λ (xs : List ℕ). line_text number first ++ xs)
    (sym (append_assoc (answer_text answer) (transcript_from (number + 1) lines answers) (line_text at line)))
    ∙ sym (append_assoc (line_text number first) (answer_text answer ++ transcript_from (number + 1) lines answers) (line_text at line))

-- one more of the output, when no line of the tape after its number was explained
pub with_answer : (number : ℕ) (lines answers : List (List ℕ)) (answer : List ℕ) → length lines ≤ suc (length answers)
    → transcript_from number lines (answers ++ answer ∷ []) ≡ transcript_from number lines answers ++ answer_text answer
with_answer number [] [] answer h = append-nil (answer_text answer)
with_answer number [] (first ∷ answers) answer h =
    ap (λ (xs : List ℕ). answer_text first ++ xs) (with_answer (number + 1) [] answers answer (omega arith))
    ∙ sym (append_assoc (answer_text first) (transcript_from (number + 1) [] answers) (answer_text answer))
with_answer number (line ∷ []) [] answer h =
    ap (λ (xs : List ℕ). line_text number line ++ xs) (append-nil (answer_text answer))
    ∙ ap (λ (xs : List ℕ). xs ++ answer_text answer) (sym (append-nil (line_text number line)))
with_answer number (line ∷ second ∷ lines) [] answer h = absurd (omega (arith, h))
with_answer number (line ∷ lines) (first ∷ answers) answer h =
    ap (λ (xs : List ℕ). line_text number line ++ (answer_text first ++ xs))
    (with_answer (number + 1) lines answers answer (omega (arith, h)))
    ∙ ap (λ (xs : List ℕ). line_text number line ++ xs)
    (sym (append_assoc (answer_text first) (transcript_from (number + 1) lines answers) (answer_text answer)))
    ∙ sym (append_assoc (line_text number line) (answer_text first ++ transcript_from (number + 1) lines answers) (answer_text answer))
