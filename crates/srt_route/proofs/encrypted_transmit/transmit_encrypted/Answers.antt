use Rattle.std.proofs.Common.{◌≡◌, ℕ, ◌-◌, ◌^◌, ◌<◌, ◌∙◌, Bool, length, sym, ap, subst, arith}
use Rattle.srt_sub.specs.Stands as subscribers
use Rattle.srt_sub.specs.Held.{held}
use Rattle.srt_sub.proofs.Bounds.{stays_below_bounds}
use Rattle.srt_session_keys.specs.Subscriber.{Subscriber as Keys, is_due, subscriber_of}
use Rattle.srt_route.specs.EncryptedOutput.{keys_with, payloads_confirmed}
use Rattle.srt_route.specs.inside.Encrypting.{IsMade}
use Rattle.srt_route.proofs.steps.Encrypting.{keys_by, made_with_it, sends_encrypted, sends_nothing}
use Rattle.srt_route.proofs.encrypted_transmit.transmit_encrypted.Goals as goal

pub returns-then-queued-ge-MAX_QUEUED : goal.returns-then-queued-ge-MAX_QUEUED
returns-then-queued-ge-MAX_QUEUED c terms initial opening m stands fresh time =
    sends_nothing c.args.to (subscriber_of c.args.keys.now) terms initial opening c.args.subscriber.now m c.args.waiting.now
    c.queued_payloads-queued.result
    (c.queued_payloads-queued.ensures terms initial opening c.args.to.caller (c.args.to.clock - opening) 0 m stands) c.if-queued-ge-MAX_QUEUED.true stands

pub returns : goal.returns
returns c terms initial opening m stands fresh time =
    let earlier = subscriber_of c.args.keys.now in
    let later = subscriber_of c.announce-announced.new.self in
    let queued = c.queued_payloads-queued.result in
    let count = c.queued_payloads-queued.ensures terms initial opening c.args.to.caller (c.args.to.clock - opening) 0 m stands in
    let below : queued < 2 ^ 61 = omega (arith, c.if-queued-ge-MAX_QUEUED.false) in
    let few : length m.sending.queue < 2 ^ 64 = omega (arith, count, below) in
    let keys_are : later ≡ keys_with c.announce-announced.result c.args.to.time earlier =
    c.announce-announced.ensures.keys
    ∙ (keys_by (is_due earlier queued c.args.to.time) c.args.to.time earlier
    ∙ ap (λ (b : Bool). keys_with b c.args.to.time earlier) (sym c.announce-announced.ensures.due)) in
    let made : IsMade c.announce-announced.result later =
    subst (λ (k : Keys). IsMade c.announce-announced.result k) (sym keys_are) (made_with_it c.announce-announced.result c.args.to.time earlier) in
    let holds = subst
    (λ (b : ℕ). subscribers.StandsFor terms initial opening c.args.to.caller c.args.to.clock c.hold-window.new.self (held terms b m))
    c.confirmed_payloads.ensures (c.hold-window.ensures.stands (c.args.to.clock - opening) terms initial opening c.args.to.caller 0 m stands) in
    let still = stays_below_bounds.fresh terms (c.args.to.clock - opening) (payloads_confirmed later) m fresh in
    sends_encrypted c.args.to earlier later terms initial opening c.emit_encrypted.new.subscriber c.release.new.self m c.args.waiting.now
    c.emit_encrypted.new.waiting queued c.hold-window.result c.announce-announced.result count below c.announce-announced.ensures.due keys_are
    (c.hold-window.ensures.window terms initial opening c.args.to.caller c.args.to.clock m stands) time
    (c.emit_encrypted.ensures terms initial opening c.args.to.caller (held terms (payloads_confirmed later) m) holds still few made)
    (λ terms initial opening caller time given n h. c.release.ensures terms initial opening caller time given n h)
