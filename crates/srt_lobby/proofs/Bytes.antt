-- The lengths of answers.
use Rattle.std.proofs.Common.{◌≡◌, ℕ, ◌≤◌, List, [], ◌++◌, length, take, refl, sym, ap, ◌∙◌, append-nil}
use Rattle.std.proofs.lemmas.List.{take_all}
use Rattle.srt_hs.specs.declared.writing.AnswerKind.{AnswerKind}
use Rattle.srt_hs.specs.declared.writing.AnswerKind.TheVariants.{Induction, Refusal, Conclusion}
use Rattle.srt_hs.specs.declared.writing.HsAnswer.{HsAnswer}
use Rattle.srt_hs.specs.Text.{answer_text, kind_text, blocks_text}

length_of_kind : (initial : ℕ) (what : AnswerKind) → length (kind_text initial what) ≡ 48
length_of_kind initial (Induction cookie) = refl
length_of_kind initial (Refusal code) = refl
length_of_kind initial (Conclusion mtu window id mode recv_ms send_ms congestion) = refl

pub length_of_answer : (a : HsAnswer) → blocks_text a.what ≡ [] → length (answer_text a) ≡ 48
unfolding answer_text
length_of_answer a h =
    ap (λ (rest : List ℕ). length (kind_text a.initial a.what ++ rest)) h ∙ ap length (append-nil (kind_text a.initial a.what))
    ∙ length_of_kind a.initial a.what

-- the concatenation of what was written in steps
pub joined : (none out0 out1 out2 head id text : List ℕ) (n0 n1 n2 : ℕ) → none ≡ [] → take n0 out0 ≡ none ++ head
    → take n1 out1 ≡ take n0 out0 ++ id → take n2 out2 ≡ take n1 out1 ++ text → length out2 ≤ n2
    → out2 ≡ (head ++ id) ++ text
joined none out0 out1 out2 head id text n0 n1 n2 z p q r h =
    sym (take_all n2 out2 h) ∙ r
    ∙ ap (λ (front : List ℕ). front ++ text) (q ∙ ap (λ (front : List ℕ). front ++ id) (p ∙ ap (λ (front : List ℕ). front ++ head) z))
