use Rattle.std.proofs.Common.{◌≡◌, ◌∙◌, ap, List, ℕ, ◌++◌, [], length, take, refl, arith}
use Rattle.srt_types.specs.Words.{word}
use Rattle.srt_hs.specs.Text.{answer_text}
use Rattle.srt_lobby.proofs.Bytes.{length_of_answer, joined}
use Rattle.srt_lobby.proofs.lobby.answer.Goals as goal

pub write_at-requires : goal.write_at-requires
write_at-requires c =
    let len : length (take c.write-len.result c.write-len.new.out) ≡ 48 = ap length c.write-len.ensures.written ∙ length_of_answer _ c.requires in
    omega arith

pub returns : goal.returns
returns c =
    let len : length (take c.write-len.result c.write-len.new.out) ≡ 48 = ap length c.write-len.ensures.written ∙ length_of_answer _ c.requires in
    joined [] c.write_at-end.new.out c.write_at-end-2.new.out c.write_at.new.out
    (word 0x8000_0000 ++ word 0 ++ word 0) (word c.args.id) (answer_text (record { initial = c.args.initial; what = c.args.what }))
    c.write_at-end.result c.write_at-end-2.result c.write_at.result refl
    c.write_at-end.ensures.written
    (c.write_at-end-2.ensures.written ∙ ap (λ (bs : List ℕ). take c.write_at-end.result c.write_at-end.new.out ++ bs) c.to_be_bytes.ensures)
    (c.write_at.ensures.written ∙ ap (λ (bs : List ℕ). take c.write_at-end-2.result c.write_at-end-2.new.out ++ bs) c.write-len.ensures.written)
    (omega arith)
