use Rattle.srt_pub.proofs.session.Publisher.drop_range.Goals as goal
use Rattle.std.proofs.Common.{List, ℕ, ◌^◌, ◌≤◌, cond, Bool, inl, inr, sym, subst, arith}
use Rattle.std.proofs.lemmas.Bool.{le-ltb}
use Rattle.srt_types.specs.Window.{word_of, counted_from, offset_of}
use Rattle.srt_types.specs.declared.shared.Mode.{Mode}
use Rattle.srt_recvbuf.specs.Receiving.{Arrival, Receiving, requested}
use Rattle.srt_types.specs.Runs.{range_from}
use Rattle.srt_pub.specs.Stands.{StandsFor, IsOrderly}
use Rattle.srt_pub.specs.Counting.{Counted, delivered_in}
use Rattle.srt_pub.proofs.Counting.{passes_request, same_arrivals}
use Rattle.srt_pub.proofs.Goings.{after_request, no_request}
use Rattle.srt_pub.proofs.Windows.{no_top}

pub returns-clause-stands : goal.returns-clause-stands
returns-clause-stands c terms initial opening stamp caller m live h =
    let r = m.receiving in
    let width = terms.width in
    let first = c.in-Some.first in
    let last = c.in-Some-new.last in
    let q = range_from initial (record { first = word_of first; last = word_of last }) in
    let orderly = subst (λ (d : Mode). IsOrderly d width r) live h.orderly in
    let k = after_request width q r h.narrow orderly in
    let P : ℕ → ℕ → Type 0 = λ x y. StandsFor terms initial opening stamp caller c.follow.new.self
    (record m { receiving = requested width (range_from initial (record { first = x; last = y })) r }) in
    let all : P (word_of first) (word_of last) = c.follow.ensures.stands terms initial opening stamp caller m (requested width q r)
    (c.front-front.ensures width initial opening r h.buffer) (c.ack_point-point.ensures width initial opening r h.buffer)
    (passes_request width q r)
    (record {
      agreed = h.agreed;
      buffer = c.dropped.ensures width initial opening r h.buffer;
      log = h.log;
      orderly = subst (λ (d : Mode). IsOrderly d width (requested width q r)) (sym live) k.orderly;
      seen = h.seen;
      narrow = h.narrow;
      counts = subst (λ (xs : List Arrival). Counted c.args.self.now.counts xs (delivered_in r) r.front m.notes)
          (sym (same_arrivals width q r)) h.counts;
      goes_on = k.goes_on;
    }) in
    subst (λ x. P x c.args.last) c.in-Some.ensures.value (subst (λ y. P (word_of first) y) c.in-Some-new.ensures.value all)

-- a word with its top bit set is counted as at least 2^31
top_counts : (initial word : ℕ) → 2 ^ 31 ≤ word → 2 ^ 31 ≤ counted_from initial word
top_counts initial word high = subst (λ (b : Bool). 2 ^ 31 ≤ cond b (offset_of word initial) (2 ^ 31)) (sym (le-ltb word (2 ^ 31) high)) (omega arith)

pub returns-in_default-new-clause-stands : goal.returns-in_default-new-clause-stands
returns-in_default-new-clause-stands c terms initial opening stamp caller m live h =
    let q = range_from initial (record { first = c.args.first; last = c.args.last }) in
    let high : 2 ^ 31 ≤ q.last = top_counts initial c.args.last (no_top c.args.last c.in_default-new.ensures.some.1) in
    subst (λ (r : Receiving). StandsFor terms initial opening stamp caller c.args.self.now (record m { receiving = r }))
    (sym (no_request terms.width q m.receiving (inr high))) h

pub returns-in_default-clause-stands : goal.returns-in_default-clause-stands
returns-in_default-clause-stands c terms initial opening stamp caller m live h =
    let q = range_from initial (record { first = c.args.first; last = c.args.last }) in
    let high : 2 ^ 31 ≤ q.first = top_counts initial c.args.first (no_top c.args.first c.in_default.ensures.some.1) in
    subst (λ (r : Receiving). StandsFor terms initial opening stamp caller c.args.self.now (record m { receiving = r }))
    (sym (no_request terms.width q m.receiving (inl high))) h
