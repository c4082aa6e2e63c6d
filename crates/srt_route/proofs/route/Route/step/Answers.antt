use Rattle.std.proofs.Common.{◌≡◌, ℕ, ◌<◌, ◌||◌, Bool, List, length, map, max, get_or, refl, sym, ap, subst, ◌∙◌, arith}
use Rattle.std.specs.Prelude.{◌∷◌}
use Rattle.srt_types.specs.Items.{input_of}
use Rattle.srt_route.specs.declared.seat.Seat.{Seat}
use Rattle.srt_route.specs.Ends.{kept_of}
use Rattle.srt_route.specs.Route.{after, closes, route_before}
use Rattle.srt_route.specs.Tallies.{tally_of}
use Rattle.srt_route.specs.Written.{written}
use Rattle.srt_route.proofs.steps.Closing.{closes_down, comes_before, generations_left, given_back, room_of, stays_closed, was_closed}
use Rattle.srt_route.proofs.steps.Noting.{same_grow}
use Rattle.srt_route.proofs.steps.Notified.{closed_kept}
use Rattle.srt_route.proofs.steps.Stepping.{replies_wait}
use Rattle.srt_route.proofs.steps.Tallied.{closed_tally}
use Rattle.srt_route.proofs.route.Route.step.Goals as goal

pub returns-then-not-closes-clause-stands : goal.returns-then-not-closes-clause-stands
returns-then-not-closes-clause-stands c e index items h =
    let item = input_of c.args.item.now in
    let m = after e index items in
    let before = comes_before e index c.later-self.result item c.args.self.now m c.in-Open.table c.in-Open.keys c.in-Open.scratch h c.in-Open.is
    (c.later-self.ensures ∙ ap (max c.args.self.now.clock) c.moment.ensures) in
    record {
      clock_is = before.clock_is;
      stage_is = c.process.ensures.table e index m before;
      room = omega (
        arith,
        room_of e index c.args.self.now m c.in-Open.table c.in-Open.keys c.in-Open.scratch h c.in-Open.is,
        (c.process.ensures.replies e index m before).kept,
      );
      closed_is = ap (λ (b : Bool). b || closes item) before.is_open ∙ (sym c.closes.ensures ∙ c.if-not-closes.true);
      keys_are = c.process.ensures.keys e index m before;
    }

pub returns-then-not-closes-clause-replies : goal.returns-then-not-closes-clause-replies
returns-then-not-closes-clause-replies c e index items h =
    let item = input_of c.args.item.now in
    let m = after e index items in
    let before = comes_before e index c.later-self.result item c.args.self.now m c.in-Open.table c.in-Open.keys c.in-Open.scratch h c.in-Open.is
    (c.later-self.ensures ∙ ap (max c.args.self.now.clock) c.moment.ensures) in
    replies_wait e index items item c.args.self.now.waiting c.process.new.waiting
    (room_of e index c.args.self.now m c.in-Open.table c.in-Open.keys c.in-Open.scratch h c.in-Open.is) c.requires.none_waits
    (c.process.ensures.replies e index m before)

pub returns-then-not-closes-clause-tally : goal.returns-then-not-closes-clause-tally
returns-then-not-closes-clause-tally c e index items h =
    let m = after e index items in
    c.process.ensures.tally e index m
    (comes_before e index c.later-self.result (input_of c.args.item.now) c.args.self.now m c.in-Open.table c.in-Open.keys c.in-Open.scratch h c.in-Open.is
    (c.later-self.ensures ∙ ap (max c.args.self.now.clock) c.moment.ensures))

pub returns-else-not-closes-clause-stands : goal.returns-else-not-closes-clause-stands
returns-else-not-closes-clause-stands c e index items h =
    let item = input_of c.args.item.now in
    let m = after e index items in
    let generations = c.generations_of-generations.result in
    let before = comes_before e index c.later-self.result item c.args.self.now m c.in-Open.table c.in-Open.keys c.in-Open.scratch h c.in-Open.is
    (c.later-self.ensures ∙ ap (max c.args.self.now.clock) c.moment.ensures) in
    closes_down e index items item _ generations c.replace.ensures.after before.clock_is before.is_open
    (generations_left e index c.later-self.result c.process.new.table generations (after e index (item ∷ items)).sessions
    (c.process.ensures.table e index m before)
    (subst
    (λ (seats : List Seat). (slot : ℕ) (d : Seat) → slot < length seats → get_or generations slot 0 ≡ (get_or seats slot d).generation)
    c.deref.ensures.value c.generations_of-generations.ensures.counts)
    (λ slot past. c.generations_of-generations.ensures.none slot (omega (arith, past, ap length c.deref.ensures.value))))
    c.trim.ensures.trimmed
    (sym c.closes.ensures ∙ c.if-not-closes.false)

pub returns-else-not-closes-clause-replies : goal.returns-else-not-closes-clause-replies
returns-else-not-closes-clause-replies c e index items h =
    let item = input_of c.args.item.now in
    let m = after e index items in
    let before = comes_before e index c.later-self.result item c.args.self.now m c.in-Open.table c.in-Open.keys c.in-Open.scratch h c.in-Open.is
    (c.later-self.ensures ∙ ap (max c.args.self.now.clock) c.moment.ensures) in
    ap (map written) c.trim.ensures.replies
    ∙ replies_wait e index items item c.args.self.now.waiting c.process.new.waiting
    (room_of e index c.args.self.now m c.in-Open.table c.in-Open.keys c.in-Open.scratch h c.in-Open.is) c.requires.none_waits
    (c.process.ensures.replies e index m before)

pub returns-else-not-closes-clause-tally : goal.returns-else-not-closes-clause-tally
returns-else-not-closes-clause-tally c e index items h =
    let m = after e index items in
    c.process.ensures.tally e index m
    (comes_before e index c.later-self.result (input_of c.args.item.now) c.args.self.now m c.in-Open.table c.in-Open.keys c.in-Open.scratch h c.in-Open.is
    (c.later-self.ensures ∙ ap (max c.args.self.now.clock) c.moment.ensures))

pub returns-in-Closed-clause-stands : goal.returns-in-Closed-clause-stands
returns-in-Closed-clause-stands c e index items h =
    stays_closed e index items (input_of c.args.item.now) c.args.self.now _ _ h c.in-Closed.is
    (c.later-self.ensures ∙ ap (max c.args.self.now.clock) c.moment.ensures) refl refl

pub returns-in-Closed-clause-ends : goal.returns-in-Closed-clause-ends
returns-in-Closed-clause-ends c e index items h =
    closed_kept e index (input_of c.args.item.now) (route_before e index (input_of c.args.item.now) items) (kept_of c.args.self.now.ledger)
    (was_closed e index c.args.self.now (after e index items) _ h c.in-Closed.is)

pub returns-in-Closed-clause-tally : goal.returns-in-Closed-clause-tally
returns-in-Closed-clause-tally c e index items h =
    closed_tally e index (input_of c.args.item.now) (route_before e index (input_of c.args.item.now) items) (tally_of c.args.self.now.ledger)
    (was_closed e index c.args.self.now (after e index items) _ h c.in-Closed.is)

pub returns-in-Closed-clause-sums : goal.returns-in-Closed-clause-sums
returns-in-Closed-clause-sums c = same_grow c.args.self.now.ledger.totals c.args.self.now.ledger.totals refl

pub returns-in-Closed-clause-released : goal.returns-in-Closed-clause-released
returns-in-Closed-clause-released c e index items h shut =
    let back = given_back e index c.args.self.now (after e index items) _ h c.in-Closed.is in
    record { buffers = back.buffers; queue = back.queue }
