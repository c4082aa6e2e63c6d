use Rattle.srt_pub.proofs.session.Publisher.is_past.Goals as goal
use Rattle.std.proofs.Common.{◌≡◌, ◌+◌, ◌^◌, ◌%◌, ap, sym, ◌∙◌, arith}
use Rattle.std.specs.Prelude.{is_some}
use Rattle.srt_types.specs.Window.{word_of, counted_from, in_window}
use Rattle.srt_pub.proofs.Windows.{past_waiting, past_none, past_is, same_some, no_top}

pub returns-then-waiting : goal.returns-then-waiting
returns-then-waiting c terms initial opening first caller m h =
    past_waiting terms.width _ m.receiving (sym (c.waiting.ensures terms.width initial opening m.receiving h.buffer) ∙ c.if-waiting.true)

pub returns-in_default : goal.returns-in_default
returns-in_default c terms initial opening first caller m h =
    past_none terms.width initial c.args.word m.receiving (no_top c.args.word c.in_default.ensures.some.1)

pub returns : goal.returns
returns c terms initial opening first caller m h =
    let r = m.receiving in
    let width = terms.width in
    let w = c.width.ensures width initial opening r h.buffer in
    let f = c.front.ensures width initial opening r h.buffer in
    let e = c.add-end.ensures.number (initial + r.front) (sym f) in
    let end : word_of c.add-end.result ≡ (initial + (r.front + width)) % 2 ^ 31 = omega (arith, e, w) in
    let there = same_some initial (r.front + width) (2 ^ 30) (word_of c.in-Some.number) (word_of c.add-end.result) c.offset_in.result end
    c.offset_in.ensures.value in
    c.is_some.ensures ∙ there ∙ ap (λ x. is_some (in_window (counted_from initial x) (r.front + width) (2 ^ 30))) c.in-Some.ensures.value
    ∙ past_is width (counted_from initial c.args.word) r h.narrow (sym (c.waiting.ensures width initial opening r h.buffer) ∙ c.if-waiting.false)
