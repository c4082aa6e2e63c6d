use Rattle.std.proofs.Common.{string_bytes, sym, ap, ◌∙◌}
use Rattle.toml.specs.View.{view, members_view}
use Rattle.srt_config.proofs.Completed.{kept_view, put_view}
use Rattle.srt_config.proofs.config.defaults.add_missing.Goals as goal

pub returns-then-contains_key : goal.returns-then-contains_key
returns-then-contains_key c =
    kept_view c.as_str.result.now (string_bytes c.args.key.now) (view c.args.value.now) c.args.members.now.entries c.as_str.ensures.value
    (sym c.contains_key.ensures ∙ c.if-contains_key.true)

pub returns : goal.returns
returns c =
    ap members_view c.in_ok-insert.ensures.entries
    ∙ put_view c.as_str.result.now (string_bytes c.args.key.now) c.in_ok-key.key c.in_ok-value.value (view c.args.value.now) c.args.members.now.entries
    c.as_str.ensures.value c.in_ok-key.ensures.cases c.in_ok-value.ensures.cases (sym c.contains_key.ensures ∙ c.if-contains_key.false)
