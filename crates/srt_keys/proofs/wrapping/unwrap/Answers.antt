use Rattle.std.proofs.Common.{◌≡◌, ◌∙◌, ℕ, List, ◌++◌, ◌-◌, sym, ap, arith, length, length-drop, take, drop, Some}
use Rattle.std.proofs.Math.Seq.{take_at}
use borrow.Rule.Slice.PartMut.{post_of}
use lib.Seq.{length-take-le}
use Rattle.srt_aes.specs.Keys.{key_of}
use Rattle.srt_keys.specs.Wrap.{unwrapped}
use Rattle.srt_keys.proofs.Stepping.{text_behind, no_text_behind}
use Rattle.srt_keys.proofs.wrapping.unwrap.Goals as goal

pub returns-then-has_initial_value-clause-value : goal.returns-then-has_initial_value-clause-value
returns-then-has_initial_value-clause-value c =
    let wrapped = c.args.wrapped.now in
    let n : ℕ = length wrapped in
    let opened = c.opened-state.result in
    let text = take (n - 8) (drop 8 opened) in
    let long = length-take-le (n - 8) (drop 8 opened) (omega (arith, length-drop 8 opened, c.opened-state.ensures.long)) in
    ap (λ (v : List ℕ). Some (take (n - 8) (v ++ post_of 0 (n - 8) c.args.out.now))) c.copy_from_slice.ensures.after ∙
    ap (λ (v : List ℕ). Some v) (take_at text (post_of 0 (n - 8) c.args.out.now) (n - 8) long) ∙
    text_behind (unwrapped (key_of c.args.key.now) wrapped) opened n c.requires.some c.opened-state.ensures.steps
    (sym c.has_initial_value.ensures ∙ c.if-has_initial_value.true)

pub returns-else-has_initial_value-clause-value : goal.returns-else-has_initial_value-clause-value
returns-else-has_initial_value-clause-value c =
    no_text_behind (unwrapped (key_of c.args.key.now) c.args.wrapped.now) c.opened-state.result (length c.args.wrapped.now)
    c.requires.some c.opened-state.ensures.steps (sym c.has_initial_value.ensures ∙ c.if-has_initial_value.false)
