use Rattle.std.proofs.Common.{ap, ◌∙◌, get_or, rules}
use Rattle.std.proofs.lemmas.List.{get_or-set_other, get_or-set_same}
use Rattle.srt_route.specs.declared.ledger.Ledger.{Ledger}
use Rattle.srt_route.specs.Ledgers.{entry_of}
use Rattle.srt_route.proofs.steps.Noting.{end_kept}
use Rattle.srt_route.proofs.ledger.Ledger.keep.Goals as goal

pub returns : goal.returns
returns c d =
    let table = c.args.table.now in
    let old = c.args.self.now in
    let new = c.put.new.self in
    end_kept c.args.active table.publishers.items c.args.at c.args.cause c.args.moment (get_or table.seats.items c.args.at d) c.in-Some.view
    c.heard_at_end.result old new (c.in-Some.ensures d) c.heard_at_end.ensures
    (ap (λ (l : Ledger). entry_of l c.args.at) c.put.ensures ∙ get_or-set_same old.ended c.args.at _ _ (search rules))
    (λ k apart. ap (λ (l : Ledger). entry_of l k) c.put.ensures ∙ get_or-set_other old.ended c.args.at k _ _ apart)
    (ap (λ (l : Ledger). l.opened) c.put.ensures, ap (λ (l : Ledger). l.refusals) c.put.ensures)
    (ap (λ (l : Ledger). l.totals) c.put.ensures)
