use Rattle.srt_pub.proofs.session.Publisher.region_of.Goals as goal
use Rattle.srt_pub.proofs.session.Publisher.region_of.Goals.{After-width-width}
use Rattle.std.proofs.Common.{◌≡◌, ℕ, ◌+◌, ap, ◌∙◌, arith}
use Rattle.srt_types.specs.Window.{word_of, counted_from, offset_of}
use Rattle.srt_pub.specs.Publishing.{Terms, Publishing, region_in}
use Rattle.srt_pub.specs.Stands.{StandsFor}
use Rattle.srt_pub.proofs.Windows.{no_top, region_none, region_inside, region_ahead, region_late, counts_small, distance_there}

pub returns-in_default : goal.returns-in_default
returns-in_default c terms initial opening stamp caller m h =
    region_none terms.width initial c.args.word m.receiving (no_top c.args.word c.in_default.ensures.some.1)

-- the computed distance
far : (c : After-width-width) (terms : Terms) (initial opening stamp caller : ℕ) (m : Publishing)
    → StandsFor terms initial opening stamp caller c.args.self.now m
    → c.steps-distance.result ≡ offset_of (counted_from initial (word_of c.in-Some.number)) m.receiving.front
far c terms initial opening stamp caller m h =
    let front = m.receiving.front in
    let d = offset_of (counted_from initial (word_of c.in-Some.number)) front in
    let s = c.steps-distance.ensures (initial + front) (initial + front + d) (omega arith) (omega arith)
    (c.front.ensures terms.width initial opening m.receiving h.buffer)
    (distance_there initial front (word_of c.in-Some.number) c.in-Some.number.small) in
    omega (arith, s)

pub returns-then-distance-width : goal.returns-then-distance-width
returns-then-distance-width c terms initial opening stamp caller m h =
    let d = far (goal.at.returns-then-distance-width c).After-width-width terms initial opening stamp caller m h in
    let w = c.width-width.ensures terms.width initial opening m.receiving h.buffer in
    region_inside terms.width (counted_from initial (word_of c.in-Some.number)) m.receiving
    (counts_small initial (word_of c.in-Some.number) c.in-Some.number.small) (omega (arith, d, w, c.if-distance-width.true))
    ∙ ap (λ (x : ℕ). region_in terms.width (counted_from initial x) m.receiving) c.in-Some.ensures.value

pub returns-then-distance-width-lt-RANGE_END : goal.returns-then-distance-width-lt-RANGE_END
returns-then-distance-width-lt-RANGE_END c terms initial opening stamp caller m h =
    let d = far (goal.at.returns-then-distance-width-lt-RANGE_END c).After-width-width terms initial opening stamp caller m h in
    let w = c.width-width.ensures terms.width initial opening m.receiving h.buffer in
    region_ahead terms.width (counted_from initial (word_of c.in-Some.number)) m.receiving h.narrow
    (counts_small initial (word_of c.in-Some.number) c.in-Some.number.small) (omega (arith, d, w, c.if-distance-width.false))
    (omega (arith, d, w, c.if-distance-width-lt-RANGE_END.true))
    ∙ ap (λ (x : ℕ). region_in terms.width (counted_from initial x) m.receiving) c.in-Some.ensures.value

pub returns-else-distance-width-lt-RANGE_END : goal.returns-else-distance-width-lt-RANGE_END
returns-else-distance-width-lt-RANGE_END c terms initial opening stamp caller m h =
    let d = far (goal.at.returns-else-distance-width-lt-RANGE_END c).After-width-width terms initial opening stamp caller m h in
    let w = c.width-width.ensures terms.width initial opening m.receiving h.buffer in
    region_late terms.width (counted_from initial (word_of c.in-Some.number)) m.receiving h.narrow
    (counts_small initial (word_of c.in-Some.number) c.in-Some.number.small) (omega (arith, d, w, c.if-distance-width.false))
    (omega (arith, d, w, c.if-distance-width-lt-RANGE_END.false))
    ∙ ap (λ (x : ℕ). region_in terms.width (counted_from initial x) m.receiving) c.in-Some.ensures.value
