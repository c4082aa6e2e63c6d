use Rattle.std.proofs.Common.{◌≡◌, ◌∙◌, ◌-◌, ◌<◌, suc, cond, ℕ, List, Option, Some, length, map, drop, get_or, ap, sym, arith}
use Rattle.std.specs.Str.{bytes_eq}
use Rattle.srt_types.specs.Terms.{terms_of}
use Rattle.srt_lobby.specs.Tables.{index_in}
use Rattle.srt_lobby.proofs.Tables.{inserted}
use Rattle.srt_config.specs.Changes.{place_from}
use Rattle.srt_config.proofs.Compared.{place_step}
use Rattle.srt_config.proofs.changes.by_name.Goals as goal

pub loop-at-preserved : goal.loop-at-preserved
loop-at-preserved c =
    let routes = c.args.entries.now in
    let at = c.loop-at.at - 1 in
    let there : at < length routes = omega (arith, c.loop-at.invariant.within, c.loop-at-test.true) in
    let next : suc at ≡ c.loop-at.at = omega (arith, c.loop-at-test.true) in
    record {
      within = omega (arith, there);
      found = λ name.
          ap (λ es. index_in (λ key. key.items) es name) c.in_ok-insert.ensures.entries
          ∙ inserted (λ key. key.items) name c.loop-at.table.entries c.in_ok-name.name at
          ∙ ap (λ (k : List ℕ). cond (bytes_eq name k) (Some at) (index_in (λ key. key.items) c.loop-at.table.entries name))
          (c.in_ok-name.ensures.items ∙ c.as_bytes.ensures.value)
          ∙ ap (λ (o : Option ℕ). cond (bytes_eq name (terms_of (get_or routes at c.index-entries-at.result)).name) (Some at) o)
          (c.loop-at.invariant.found name ∙ ap (λ (n : ℕ). place_from n name (map terms_of (drop n routes))) (sym next))
          ∙ sym (place_step routes at name c.index-entries-at.result there);
    }
