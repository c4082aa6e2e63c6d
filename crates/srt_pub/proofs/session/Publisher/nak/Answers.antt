use Rattle.srt_pub.proofs.session.Publisher.nak.Goals as goal
use Rattle.std.proofs.Common.{◌≡◌, ◌<◌, ℕ, List, [], ◌∷◌, length, map, ap, sym, subst, ◌∙◌}
use Rattle.srt_pub.specs.Publishing.{Report, Sent, naks, noted, nak_report, nak_with, gaps_reported, runs_said}
use Rattle.srt_pub.specs.Says.{says}
use Rattle.srt_pub.specs.Stands.{StandsFor}
use Rattle.srt_pub.specs.Counting.{Counted, capped, delivered_in}
use Rattle.srt_pub.specs.declared.counts.Counts.{Counts}
use Rattle.srt_pub.proofs.Counting.{counts_nak}
use Rattle.srt_pub.proofs.Goings.{end_within}
use Rattle.srt_pub.proofs.Reported.{numbers_reported}
use Rattle.srt_pub.proofs.Windows.{beyond}
use Rattle.srt_pub.proofs.Bytes.{none_none, some_some, nak_some, nak_bytes, same_losses}
use Rattle.srt_pub.proofs.Sendings.{naks_by, none_missing, no_items, some_items, pairs_have_words}

pub returns-then-not-has_gaps-clause-stands : goal.returns-then-not-has_gaps-clause-stands
returns-then-not-has_gaps-clause-stands c terms initial opening stamp caller m h =
    let e = none_missing terms c.args.time m c.has_gaps.result (c.has_gaps.ensures terms.width initial opening m.receiving h.buffer) c.if-not-has_gaps.true in
    subst (λ (ns : List Report). StandsFor terms initial opening stamp caller c.args.self.now (record m { notes = noted c.args.time ns m.notes })) (sym e) h

pub returns-then-not-has_gaps-clause-bytes : goal.returns-then-not-has_gaps-clause-bytes
returns-then-not-has_gaps-clause-bytes c terms initial opening stamp caller m h =
    let e = none_missing terms c.args.time m c.has_gaps.result (c.has_gaps.ensures terms.width initial opening m.receiving h.buffer) c.if-not-has_gaps.true in
    sym (ap (map (says caller initial c.args.time)) e)

pub returns-then-is_empty-clause-stands : goal.returns-then-is_empty-clause-stands
returns-then-is_empty-clause-stands c terms initial opening stamp caller m h =
    let all = c.is_nak_due-all.result in
    let rs = runs_said (gaps_reported all terms.width m.seen m.receiving) in
    let none = none_none initial c.runs-runs.result.items rs (c.runs-runs.ensures terms initial opening stamp caller m h)
    (no_items c.runs-runs.result.items (sym c.is_empty.ensures ∙ c.if-is_empty.true)) in
    let e : naks terms c.args.time m ≡ [] = naks_by terms c.args.time m all (c.is_nak_due-all.ensures _ _ _ _ m.notes h.log) ∙ ap (nak_with all) none in
    subst (λ (ns : List Report). StandsFor terms initial opening stamp caller c.args.self.now (record m { notes = noted c.args.time ns m.notes })) (sym e) h

pub returns-then-is_empty-clause-bytes : goal.returns-then-is_empty-clause-bytes
returns-then-is_empty-clause-bytes c terms initial opening stamp caller m h =
    let all = c.is_nak_due-all.result in
    let rs = runs_said (gaps_reported all terms.width m.seen m.receiving) in
    let none = none_none initial c.runs-runs.result.items rs (c.runs-runs.ensures terms initial opening stamp caller m h)
    (no_items c.runs-runs.result.items (sym c.is_empty.ensures ∙ c.if-is_empty.true)) in
    let e : naks terms c.args.time m ≡ [] = naks_by terms c.args.time m all (c.is_nak_due-all.ensures _ _ _ _ m.notes h.log) ∙ ap (nak_with all) none in
    sym (ap (map (says caller initial c.args.time)) e)

pub returns-clause-stands : goal.returns-clause-stands
returns-clause-stands c terms initial opening stamp caller m h =
    let all = c.is_nak_due-all.result in
    let rs = runs_said (gaps_reported all terms.width m.seen m.receiving) in
    let some = some_some initial c.runs-runs.result.items rs (c.runs-runs.ensures terms initial opening stamp caller m h)
    (some_items c.runs-runs.result.items (sym c.is_empty.ensures ∙ c.if-is_empty.false)) in
    let e : naks terms c.args.time m ≡ nak_report all rs ∷ [] =
    naks_by terms c.args.time m all (c.is_nak_due-all.ensures _ _ _ _ m.notes h.log) ∙ nak_some all rs some in
    let lost = c.numbers_in.ensures
    ∙ ap capped
    (numbers_reported all terms.width m.seen initial m.receiving c.runs-runs.result.items
    (end_within terms.width m.receiving (beyond terms.width initial opening c.args.self.now.buffer m.receiving h.buffer)) h.narrow
    (c.runs-runs.ensures terms initial opening stamp caller m h)) in
    subst
    (λ (ns : List Report). StandsFor terms initial opening stamp caller
    (record c.args.self.now { log = c.nak.new.self; counts = c.ask.new.self }) (record m { notes = noted c.args.time ns m.notes }))
    (sym e)
    (record {
      agreed = h.agreed;
      buffer = h.buffer;
      log = c.nak.ensures rs _ _ _ _ m.notes h.log;
      orderly = h.orderly;
      seen = h.seen;
      narrow = h.narrow;
      counts = subst
          (λ (k : Counts).
          Counted k m.receiving.arrivals (delivered_in m.receiving) m.receiving.front (Sent c.args.time (nak_report all rs) ∷ m.notes))
          (sym c.ask.ensures)
          (counts_nak c.args.time all rs c.numbers_in.result c.args.self.now.counts m.receiving.arrivals (delivered_in m.receiving)
          m.receiving.front m.notes lost h.counts);
    })

pub returns-clause-bytes : goal.returns-clause-bytes
returns-clause-bytes c terms initial opening stamp caller m h =
    let all = c.is_nak_due-all.result in
    let rs = runs_said (gaps_reported all terms.width m.seen m.receiving) in
    let said = c.runs-runs.ensures terms initial opening stamp caller m h in
    let some = some_some initial c.runs-runs.result.items rs said (some_items c.runs-runs.result.items (sym c.is_empty.ensures ∙ c.if-is_empty.false)) in
    let e : naks terms c.args.time m ≡ nak_report all rs ∷ [] =
    naks_by terms c.args.time m all (c.is_nak_due-all.ensures _ _ _ _ m.notes h.log) ∙ nak_some all rs some in
    ap (λ (x : List ℕ). x ∷ [])
    (c.encode.ensures.bytes caller h.agreed.caller_is
    ∙ nak_bytes all caller initial c.args.time c.write.result rs
    (c.write.ensures.value ∙ same_losses initial c.runs-runs.result.items rs said))
    ∙ sym (ap (map (says caller initial c.args.time)) e)

pub encode-requires : goal.encode-requires
encode-requires c =
    subst (λ (xs : List ℕ). 0 < length xs) (sym c.write.ensures.value)
    (pairs_have_words c.runs-runs.result.items (some_items c.runs-runs.result.items (sym c.is_empty.ensures ∙ c.if-is_empty.false)))
