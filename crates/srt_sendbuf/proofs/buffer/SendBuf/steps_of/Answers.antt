use Rattle.std.proofs.Common.{◌≡◌, ℕ, ◌+◌, Option, Some, None, sym, ap, ◌∙◌}
use Rattle.std.specs.Prelude.{option_map}
use Rattle.srt_types.specs.Window.{word_of, counted_from, in_window}
use Rattle.srt_sendbuf.specs.Sending.{Sending, base, acknowledged_by}
use Rattle.srt_sendbuf.proofs.Ranges.{own_number, IsBase, base_is}
use Rattle.srt_sendbuf.proofs.buffer.SendBuf.steps_of.Goals as goal

-- steps from the base, counted from the initial number
from_base : (initial word number back sent : ℕ) (r : Sending) (steps : Option ℕ) → IsBase initial word back sent r
    → option_map (λ d. initial + base r + d) steps ≡ in_window number (initial + base r) (back + sent + 1)
    → option_map (λ d. base r + d) steps ≡ acknowledged_by (counted_from initial number) r
from_base initial word number back sent r steps b e =
    own_number initial number (base r) (back + sent + 1) steps e ∙ ap (in_window (counted_from initial number) (base r)) b.flying

pub returns-in-Some-clause-value : goal.returns-in-Some-clause-value
returns-in-Some-clause-value c width initial r h =
    let b = base_is width initial c.back-back.result c.args.self.now r h c.back-back.ensures.value in
    from_base initial _ (word_of c.args.number) _ _ r (Some c.in-Some.steps) b
    (c.in-Some.ensures.value (initial + base r) (sym (c.number_back.ensures (initial + base r) b.near)))

pub returns-in-None-clause-value : goal.returns-in-None-clause-value
returns-in-None-clause-value c width initial r h =
    let b = base_is width initial c.back-back.result c.args.self.now r h c.back-back.ensures.value in
    from_base initial _ (word_of c.args.number) _ _ r None b
    (c.in-None.ensures.value (initial + base r) (sym (c.number_back.ensures (initial + base r) b.near)))
