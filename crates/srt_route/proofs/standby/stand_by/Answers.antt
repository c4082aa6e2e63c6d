use Rattle.std.proofs.Common.{◌≡◌, ℕ, suc, ◌+◌, ◌-◌, None, refl, sym, ap, subst, ◌∙◌, arith}
use Rattle.srt_pub.specs.Publishing as publishing
use Rattle.srt_pub.specs.Calls.{leaves, next_delivery, after_delivery}
use Rattle.srt_pub.specs.Stands as publishers
use Rattle.srt_route.proofs.steps.Passing.{passed_one, none_passed}
use Rattle.srt_route.proofs.steps.Turns.{leaves_next, leaves_none}
use Rattle.srt_route.proofs.steps.Delivered.{stood}
use Rattle.srt_route.proofs.standby.stand_by.Goals as goal

pub loop-turn-init : goal.loop-turn-init
loop-turn-init c terms initial opening stamp caller time m moment stands = record { done = m; stands = stands; left_is = refl }

pub loop-turn-preserved : goal.loop-turn-preserved
loop-turn-preserved c terms initial opening stamp caller time m moment stands =
    let h = c.loop-turn.invariant terms initial opening stamp caller time m moment stands in
    let same = c.note_delivered.ensures.answer terms initial opening stamp caller time h.done moment h.stands in
    let given = passed_one c.note_delivered.result (next_delivery terms time 0 h.done) same c.if-not-note_delivered.false in
    let one : 64 - c.loop-turn.turn ≡ suc (64 - (c.loop-turn.turn + 1)) = omega (arith, c.loop-turn-test.true) in
    record {
      done = after_delivery terms (next_delivery terms time 0 h.done) h.done;
      stands = c.note_delivered.ensures.stands terms initial opening stamp caller time h.done moment h.stands;
      left_is = sym (leaves_next terms time (64 - (c.loop-turn.turn + 1)) h.done given.0 given.1)
          ∙ (ap (λ (n : ℕ). leaves terms time 0 n h.done) (sym one) ∙ h.left_is);
    }

pub returns-then-not-note_delivered : goal.returns-then-not-note_delivered
returns-then-not-note_delivered c terms initial opening stamp caller time m moment stands =
    let h = c.loop-turn.invariant terms initial opening stamp caller time m moment stands in
    let same = c.note_delivered.ensures.answer terms initial opening stamp caller time h.done moment h.stands in
    let none = none_passed c.note_delivered.result (next_delivery terms time 0 h.done) same c.if-not-note_delivered.true in
    let one : 64 - c.loop-turn.turn ≡ suc (63 - c.loop-turn.turn) = omega (arith, c.loop-turn-test.true) in
    let last : h.done ≡ publishing.delivered terms time None m =
    sym (leaves_none terms time 0 (63 - c.loop-turn.turn) h.done none)
    ∙ (ap (λ (n : ℕ). leaves terms time 0 n h.done) (sym one)
    ∙ (h.left_is ∙ stood terms initial opening stamp caller time c.args.publisher.now m stands)) in
    subst (λ (q : publishing.Publishing). publishers.StandsFor terms initial opening stamp caller c.note_delivered.new.self q)
    (ap (λ (o : _). after_delivery terms o h.done) none ∙ last)
    (c.note_delivered.ensures.stands terms initial opening stamp caller time h.done moment h.stands)

pub returns : goal.returns
returns c terms initial opening stamp caller time m moment stands =
    let h = c.loop-turn.invariant terms initial opening stamp caller time m moment stands in
    let none : 64 - c.loop-turn.turn ≡ 0 = omega (arith, c.loop-turn-test.false) in
    let last : h.done ≡ publishing.delivered terms time None m =
    ap (λ (n : ℕ). leaves terms time 0 n h.done) (sym none) ∙ (h.left_is ∙ stood terms initial opening stamp caller time c.args.publisher.now m stands) in
    subst (λ (q : publishing.Publishing). publishers.StandsFor terms initial opening stamp caller c.loop-turn.publisher q) last h.stands
