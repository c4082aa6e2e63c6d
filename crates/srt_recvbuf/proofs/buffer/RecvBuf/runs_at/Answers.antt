use Rattle.std.proofs.Common.{◌≡◌, ◌+◌, ◌-◌, ◌<◌, ap, sym, ◌∙◌, [], ◌∷◌, ◌++◌, map, take, length, length-append, arith}
use Rattle.std.specs.Prelude.{filter}
use Rattle.std.proofs.lemmas.List.{map-append}
use Rattle.srt_types.specs.Window.{word_of, number_word}
use Rattle.srt_types.specs.Runs.{runs, numbers_from}
use Rattle.srt_recvbuf.specs.Cells.{cell_at, cell_is_missing}
use Rattle.srt_recvbuf.specs.Stands.{run_words, words_of}
use Rattle.std.proofs.lemmas.Bool.{not-false, not-true}
use Rattle.srt_recvbuf.proofs.Runs.{next_run, none_left, no_more, one_more, none_more, strictly, same_pair}
use Rattle.srt_recvbuf.proofs.buffer.RecvBuf.runs_at.Goals as goal

pub returns-then-low-self : goal.returns-then-low-self
returns-then-low-self c initial front test f t =
    let none = none_left test front c.loop.at c.args.self.now.end (λ d lo lt. t d ∙ c.find-low.ensures.before d lo (omega (arith, lt, c.if-low-self.true))) in
    sym (no_more _ (run_words initial) (32 - c.loop.counter) _ none) ∙ c.loop.invariant.so_far initial front test f t

pub loop-preserved : goal.loop-preserved
loop-preserved c =
    let s = c.args.self.now in
    let low = c.find-low.result in
    let high = c.find-at.result in
    let lt : low < s.end = omega (arith, c.find-low.ensures.high, c.if-low-self.false) in
    let up = strictly (λ d. cell_is_missing (cell_at s.window d)) low high s.end c.find-at.ensures.low lt (c.find-low.ensures.here lt) c.find-at.ensures.here in
    let longer = ap length c.push.ensures.items in
    let by_one = length-append c.loop.runs.items ((c.add.result, c.add-in-loop.result) ∷ []) in
    record {
      inside = c.find-at.ensures.high;
      many = omega (arith, longer, by_one, c.loop.invariant.many);
      so_far = λ initial front test f t.
          let a : word_of c.add.result ≡ number_word initial (front + low) = let k = c.add.ensures.number (initial + front) (sym f) in omega (arith, k) in
          let b : word_of c.add-in-loop.result ≡ number_word initial (front + (high - 1)) =
          let k = c.add-in-loop.ensures.number (initial + front) (sym f) in
          omega (arith, k) in
          let more = ap words_of c.push.ensures.items ∙ map-append _ c.loop.runs.items ((c.add.result, c.add-in-loop.result) ∷ [])
          ∙ ap (λ w. words_of c.loop.runs.items ++ w ∷ []) (same_pair _ _ _ _ a b) in
          let next = next_run test front c.loop.at low high s.end c.find-low.ensures.low up c.find-at.ensures.high
          (λ d lo less. t d ∙ c.find-low.ensures.before d lo less) (λ d lo less. t d ∙ not-false _ (c.find-at.ensures.before d lo less))
          (λ less. t high ∙ not-true _ (c.find-at.ensures.here less)) in
          ap (λ w. w ++ map (run_words initial) (take (32 - (c.loop.counter + 1)) (runs (filter test (numbers_from (front + high) (s.end - high)))))) more
          ∙ sym (one_more (words_of c.loop.runs.items) (run_words initial) (32 - c.loop.counter) (32 - (c.loop.counter + 1)) _ _ _
          (omega (arith, c.loop-test.true)) next)
          ∙ c.loop.invariant.so_far initial front test f t;
    }

pub returns : goal.returns
returns c initial front test f t =
    sym (none_more _ (run_words initial) (32 - c.loop.counter) _ (omega (arith, c.loop-test.false)))
    ∙ c.loop.invariant.so_far initial front test f t
