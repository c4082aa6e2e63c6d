use Rattle.std.proofs.Common.{◌+◌, ◌-◌, ◌∙◌, Bool, List, refl, sym, subst}
use Rattle.std.specs.Prelude.{IsNone, IsSome, Option}
use Rattle.srt_route.specs.Waits.{places_of, replies_of}
use Rattle.srt_session_keys.specs.Subscriber.{subscriber_of}
use Rattle.srt_sub.specs.Subscribing as subscribing
use Rattle.srt_sub.specs.Stands as subscribers
use Rattle.srt_sub.specs.Emission.{Emitting}
use Rattle.srt_sub.specs.declared.payloads.Emitted.{Emitted}
use Rattle.srt_route.proofs.steps.Encrypting.{IsEncrypting, encrypting_begins, encrypting_more, encrypting_ends, never_so_many_under}
use Rattle.srt_route.proofs.encrypted_transmit.emit_encrypted.Goals as goal

pub loop-turn-init : goal.loop-turn-init
loop-turn-init c terms initial opening caller m stands fresh few made =
    encrypting_begins c.args.to c.args.pending (subscriber_of c.args.keys.now) terms initial opening caller c.args.subscriber.now m
    (replies_of c.args.waiting.now) _ stands fresh made

pub loop-turn-preserved : goal.loop-turn-preserved
loop-turn-preserved c terms initial opening caller m stands fresh few made =
    let h = c.loop-turn.invariant terms initial opening caller m stands fresh few made in
    let next = c.emit_indexed.ensures.some (subst (λ (o : Option Emitted). IsSome o) (sym c.in-Some.is) refl) terms initial opening caller m h.left
    h.emitting in
    let told = c.emit_indexed.ensures.told terms initial opening caller m next.report next.rest
    (subst (λ (rs : List subscribing.Report). Emitting terms initial opening caller c.args.to.clock c.args.to.recent c.loop-turn.subscriber m rs)
    next.left_is h.emitting)
    few in
    subst
    (λ (b : Bool). IsEncrypting c.args.to c.args.pending b (subscriber_of c.args.keys.now) terms initial opening caller c.emit_indexed.new.self m
    (replies_of c.args.waiting.now) (replies_of c.put_emitted-left.new.waiting) (places_of c.args.waiting.now) (places_of c.put_emitted-left.new.waiting)
    (c.loop-turn.turn + 1))
    (sym c.put_emitted-left.ensures.pending)
    (encrypting_more c.args.to c.args.pending c.loop-turn.left (subscriber_of c.args.keys.now) terms initial opening caller c.loop-turn.subscriber
    c.emit_indexed.new.self m (replies_of c.args.waiting.now) (replies_of c.loop-turn.waiting) (replies_of c.put_emitted-left.new.waiting) _ _ _
    c.loop-turn.turn c.in-Some.kind c.emit_indexed.new.packet h next (sym c.in-Some.is ∙ told.0) (c.put_emitted-left.ensures.said h.made))

pub returns-in-None : goal.returns-in-None
returns-in-None c terms initial opening caller m stands fresh few made =
    let h = c.loop-turn.invariant terms initial opening caller m stands fresh few made in
    let over = c.emit_indexed.ensures.none (subst (λ (o : Option Emitted). IsNone o) (sym c.in-None.is) refl) terms initial opening caller m h.left
    h.emitting in
    record {
      stands = subst
          (λ (k : subscribing.Subscribing). subscribers.StandsFor terms initial opening caller c.args.to.clock c.emit_indexed.new.self
          (subscribing.reported terms (c.args.to.clock - opening) c.args.to.recent k))
          fresh over.1;
      said = encrypting_ends c.args.to c.args.pending c.loop-turn.left (subscriber_of c.args.keys.now) terms initial opening caller c.loop-turn.subscriber m
          (replies_of c.args.waiting.now) (replies_of c.loop-turn.waiting) (replies_of c.put_announcement.new.waiting) _ _ _ c.loop-turn.turn h over.0
          (c.put_announcement.ensures h.made);
    }

pub returns : goal.returns
returns c terms initial opening caller m stands fresh few made =
    absurd (never_so_many_under c.args.to c.args.pending c.loop-turn.left (subscriber_of c.args.keys.now) terms initial opening caller
    c.loop-turn.subscriber m (replies_of c.args.waiting.now) (replies_of c.loop-turn.waiting) _ _ c.loop-turn.turn
    (c.loop-turn.invariant terms initial opening caller m stands fresh few made) c.loop-turn-test.false)
