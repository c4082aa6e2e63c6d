use Rattle.std.proofs.Common.{◌≡◌, ◌-◌, ◌∙◌, Bool, sym, ap, subst, arith}
use Rattle.srt_session_keys.specs.Subscriber.{Subscriber as Keys, is_due, subscriber_of}
use Rattle.srt_route.specs.EncryptedOutput.{keys_with}
use Rattle.srt_route.specs.inside.Encrypting.{IsMade}
use Rattle.srt_route.proofs.steps.Encrypting.{announces_due, announces_nothing, keys_by, made_with_it}
use Rattle.srt_route.proofs.encrypted_transmit.announce_at_end.Goals as goal

pub returns-then-queued-ge-MAX_QUEUED : goal.returns-then-queued-ge-MAX_QUEUED
returns-then-queued-ge-MAX_QUEUED c terms initial opening m stands =
    announces_nothing c.args.to (subscriber_of c.args.keys.now) m c.args.waiting.now c.queued_payloads-queued.result
    (c.queued_payloads-queued.ensures terms initial opening c.args.to.caller (c.args.to.clock - opening) 0 m stands) c.if-queued-ge-MAX_QUEUED.true

pub returns : goal.returns
returns c terms initial opening m stands =
    let earlier = subscriber_of c.args.keys.now in
    let later = subscriber_of c.announce-announced.new.self in
    let queued = c.queued_payloads-queued.result in
    let count = c.queued_payloads-queued.ensures terms initial opening c.args.to.caller (c.args.to.clock - opening) 0 m stands in
    let keys_are : later ≡ keys_with c.announce-announced.result c.args.to.time earlier =
    c.announce-announced.ensures.keys
    ∙ (keys_by (is_due earlier queued c.args.to.time) c.args.to.time earlier
    ∙ ap (λ (b : Bool). keys_with b c.args.to.time earlier) (sym c.announce-announced.ensures.due)) in
    let made : IsMade c.announce-announced.result later =
    subst (λ (k : Keys). IsMade c.announce-announced.result k) (sym keys_are) (made_with_it c.announce-announced.result c.args.to.time earlier) in
    announces_due c.args.to earlier later m c.args.waiting.now c.put_announcement.new.waiting queued c.announce-announced.result count
    (omega (arith, c.if-queued-ge-MAX_QUEUED.false)) c.announce-announced.ensures.due keys_are (c.put_announcement.ensures made)
