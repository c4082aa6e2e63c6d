use Rattle.srt_pub.proofs.session.Publisher.runs.Goals as goal
use Rattle.std.proofs.Common.{◌≡◌, ℕ, Bool, ◌+◌, max, map, ap, sym, ◌∙◌, arith}
use Rattle.std.specs.Prelude.{Option}
use Rattle.srt_types.specs.Window.{word_of}
use Rattle.srt_recvbuf.specs.Receiving.{runs_from, gaps_from}
use Rattle.srt_recvbuf.specs.Stands.{run_words}
use Rattle.srt_pub.specs.Publishing.{gaps_reported, runs_said}
use Rattle.srt_pub.proofs.Goings.{end_within}
use Rattle.srt_pub.proofs.Windows.{beyond, number_there}

pub returns-then-all : goal.returns-then-all
returns-then-all c terms initial opening stamp caller m h =
    let r = m.receiving in
    let width = terms.width in
    let f = c.front-front.ensures width initial opening r h.buffer in
    let n = number_there initial r.front width 0 (word_of c.front-front.result) (omega (arith, f)) (omega arith) h.narrow in
    let same : r.front + 0 ≡ r.front = omega arith in
    c.runs.ensures width initial opening r h.buffer ∙ ap (λ (o : Option ℕ). map (run_words initial) (runs_from width o r)) n
    ∙ ap (λ (x : ℕ). map (run_words initial) (runs_said (gaps_from width x r))) same
    ∙ sym (ap (λ (b : Bool). map (run_words initial) (runs_said (gaps_reported b width m.seen r))) c.if-all.true)

pub returns-else-all : goal.returns-else-all
returns-else-all c terms initial opening stamp caller m h =
    let r = m.receiving in
    let width = terms.width in
    let seen = c.args.self.now.log.seen in
    let f = c.front-front.ensures width initial opening r h.buffer in
    let e = c.add.ensures.number (initial + r.front) (sym f) in
    let ends = end_within width r (beyond width initial opening c.args.self.now.buffer r h.buffer) in
    let n = number_there initial r.front width seen (word_of c.add.result) (omega (arith, e)) (omega (arith, h.log.seen_is, h.seen, ends)) h.narrow in
    let same : r.front + seen ≡ max m.seen r.front = omega (arith, h.log.seen_is) in
    c.runs-else-all.ensures width initial opening r h.buffer ∙ ap (λ (o : Option ℕ). map (run_words initial) (runs_from width o r)) n
    ∙ ap (λ (x : ℕ). map (run_words initial) (runs_said (gaps_from width x r))) same
    ∙ sym (ap (λ (b : Bool). map (run_words initial) (runs_said (gaps_reported b width m.seen r))) c.if-all.false)
