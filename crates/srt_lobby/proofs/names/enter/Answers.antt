use Rattle.std.proofs.Common.{rules, ◌≡◌, ◌∙◌, ℕ, List, true, sym, ap, None, arith}
use Rattle.std.specs.Option.{is_none}
use Rattle.srt_lobby.specs.Tables.{index_in}
use Rattle.srt_lobby.proofs.Tables.{of_ok, none_behind, entered_by_inserting}
use Rattle.srt_lobby.proofs.names.enter.Goals as goal

pub returns-then-is_none-clause-table : goal.returns-then-is_none-clause-table
returns-then-is_none-clause-table c text =
    let gone : is_none c.get.result ≡ true = search rules in
    let none : index_in (λ key. key.items) c.args.latest.now.entries c.args.name.items ≡ None =
    ap (λ (name : List ℕ). index_in (λ key. key.items) c.args.latest.now.entries name) (sym c.as_slice.ensures.value)
    ∙ sym c.get.ensures.value ∙ none_behind c.get.result gone in
    ap (λ es. index_in (λ key. key.items) es text) (of_ok c.insert.result _ (c.insert.ensures.succeeds (omega (arith, c.requires))) c.insert.ensures.entries)
    ∙ entered_by_inserting (λ key. key.items) c.args.latest.now.entries c.args.name c.args.r text none
