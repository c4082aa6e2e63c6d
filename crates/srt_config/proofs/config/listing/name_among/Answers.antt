use Rattle.std.proofs.Common.{sym, ◌∙◌}
use Rattle.srt_config.proofs.Listed.{name_taken, name_free}
use Rattle.srt_config.proofs.config.listing.name_among.Goals as goal

pub returns-then-is_among : goal.returns-then-is_among
returns-then-is_among c =
    name_taken c.args.names.now c.args.text.now (rw c.as_bytes.ensures.value at (sym c.is_name.ensures ∙ c.if-not-is_name.false))
    (sym c.is_among.ensures ∙ c.if-is_among.true)

pub returns : goal.returns
returns c =
    name_free c.args.names.now c.args.text.now (rw c.as_bytes.ensures.value at (sym c.is_name.ensures ∙ c.if-not-is_name.false))
    (sym c.is_among.ensures ∙ c.if-is_among.false)
