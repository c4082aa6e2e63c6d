use Rattle.std.proofs.Common.{Ok, Err, drop, ap, ◌∙◌, arith}
use Rattle.std.proofs.lemmas.Result.{err_from_is_err_and}
use Rattle.srt_hs.specs.Grammar.{kind_of}
use Rattle.srt_hs.specs.Reading.{extension_in}
use Rattle.srt_hs.specs.View.{blocks_of, seen}
use Rattle.srt_hs.proofs.Steps.{built, read_ok, read_err, read_short}
use Rattle.std.proofs.lemmas.List.{take_rest}
use Rattle.srt_hs.proofs.reading.parse.Goals as goal

pub returns-then-body-lt48 : goal.returns-then-body-lt48
returns-then-body-lt48 c = read_short c.args.body.now (omega arith)

pub returns-in_err-blocks : goal.returns-in_err-blocks
returns-in_err-blocks c =
    let kind = c.named-kind.ensures ∙ ap kind_of c.read_word.ensures in
    let was = err_from_is_err_and c.from_residual.result c.from_residual.ensures.1 in
    ap seen was.1 ∙ ap (λ fault. Err fault) was.2
    ∙ read_err c.args.body.now c.in_err-blocks.field-0.0 (omega arith)
    (c.in_err-blocks.ensures ∙ ap (λ bytes. extension_in c.named-kind.result bytes) (take_rest c.args.body.now 48)
    ∙ ap (λ k. extension_in k (drop 48 c.args.body.now)) kind)

pub returns : goal.returns
returns c =
    let kind = c.named-kind.ensures ∙ ap kind_of c.read_word.ensures in
    ap (λ h. Ok h)
    (built c.args.body.now c.read_word-2.result c.read_half.result c.read_half-2.result c.read_word-3.result c.read_word-4.result
    c.read_word-5.result c.named-kind.result c.read_word-6.result c.read_word-7.result (blocks_of c.in_ok-blocks.blocks) c.read_word-2.ensures
    c.read_half.ensures c.read_half-2.ensures c.read_word-3.ensures c.read_word-4.ensures c.read_word-5.ensures kind c.read_word-6.ensures
    c.read_word-7.ensures)
    ∙ read_ok c.args.body.now (blocks_of c.in_ok-blocks.blocks) (omega arith)
    (c.in_ok-blocks.ensures ∙ ap (λ bytes. extension_in c.named-kind.result bytes) (take_rest c.args.body.now 48)
    ∙ ap (λ k. extension_in k (drop 48 c.args.body.now)) kind)
