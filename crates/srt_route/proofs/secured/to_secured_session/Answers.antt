use Rattle.std.proofs.Common.{◌≡◌, ◌≢◌, ℕ, refl, sym, ap, ◌∙◌, arith}
use Rattle.srt_packet.specs.View.{packet_of}
use Rattle.srt_route.specs.RouteKeys.{with_slot}
use Rattle.srt_route.specs.StoredKeys.{AreKeys}
use Rattle.srt_route.specs.Decryption.{in_clear}
use Rattle.srt_route.proofs.stored.Stored.{for_none_beyond, for_none_stored, for_one}
use Rattle.srt_route.proofs.steps.Securing.{none_passes, passes_packet, same_keys, same_slot, session_heard, slot_is}
use Rattle.srt_route.proofs.secured.to_secured_session.Goals as goal

pub returns-then-at-len-clause-secured : goal.returns-then-at-len-clause-secured
returns-then-at-len-clause-secured c e index ss keys bytes is are has here =
    let p = packet_of c.args.packet.now in
    let clock = c.args.arrival.clock in
    let peer = c.args.arrival.peer in
    let other : p.dest ≢ 0 = λ none. omega (arith, none, c.requires.destined) in
    passes_packet e index clock peer p bytes ss keys c.args.keys.now c.to_destination.new.table _ c.args.ledger.now c.to_destination.new.ledger here
    (none_passes e index clock peer p bytes ss keys other is.alone
    (for_none_beyond index peer p.dest e.sessions ss (omega (arith, c.args.table.now.few, is.places_are))
    (omega (arith, c.slot_in-at.ensures, c.if-at-len.true, c.len.ensures, is.places_are))))
    are (c.to_destination.ensures.table e index ss is) (c.to_destination.ensures.answer e index ss is) (c.to_destination.ensures.ends e index ss is)
    (c.to_destination.ensures.tally e index ss is)

pub returns-then-not-is_for-clause-secured : goal.returns-then-not-is_for-clause-secured
returns-then-not-is_for-clause-secured c e index ss keys bytes is are has here =
    let p = packet_of c.args.packet.now in
    let clock = c.args.arrival.clock in
    let peer = c.args.arrival.peer in
    let did = c.to_destination-then-not-is_for in
    let other : p.dest ≢ 0 = λ none. omega (arith, none, c.requires.destined) in
    passes_packet e index clock peer p bytes ss keys c.args.keys.now did.new.table _ c.args.ledger.now did.new.ledger here
    (none_passes e index clock peer p bytes ss keys other is.alone
    (for_none_stored e index clock c.args.table.now ss peer p.dest c.slot_in-at.result c.index.result.now is c.args.table.now.few c.slot_in-at.ensures
    (omega (arith, c.if-at-len.false, c.len.ensures)) c.index.ensures (sym c.is_for.ensures ∙ c.if-not-is_for.true)))
    are (did.ensures.table e index ss is) (did.ensures.answer e index ss is) (did.ensures.ends e index ss is) (did.ensures.tally e index ss is)

pub returns-clause-secured : goal.returns-clause-secured
returns-clause-secured c e index ss keys bytes is are has here =
    let p = packet_of c.args.packet.now in
    let clock = c.args.arrival.clock in
    let peer = c.args.arrival.peer in
    let at = c.slot_in-at.result in
    let did = c.to_destination-2 in
    let other : p.dest ≢ 0 = λ none. omega (arith, none, c.requires.destined) in
    let one = for_one e index clock c.args.table.now ss peer p.dest at c.index.result.now is c.args.table.now.few c.slot_in-at.ensures
    (omega (arith, c.if-at-len.false, c.len.ensures)) c.index.ensures (sym c.is_for.ensures ∙ c.if-not-is_for.false) in
    let s = one.1 in
    let it = one.2 in
    let clear : packet_of c.decrypt-clear.result ≡ in_clear (keys.held s.slot) p =
    c.decrypt-clear.ensures.packet e keys are has it.below ∙ ap (λ (n : ℕ). in_clear (keys.held n) p) (sym (slot_is at ss s it.found_is)) in
    let kept : AreKeys e c.decrypt-clear.new.self keys =
    same_keys e c.decrypt-clear.new.self (with_slot at (keys.held at) keys) keys refl refl (λ slot below. sym (same_slot at keys.held slot))
    (c.decrypt-clear.ensures.keys e keys are) in
    session_heard e index clock peer p (packet_of c.decrypt-clear.result) bytes ss keys s c.decrypt-clear.new.self did.new.table _ c.args.ledger.now
    did.new.ledger here other it.found_for clear kept (did.ensures.table e index ss is) (did.ensures.answer e index ss is) (did.ensures.ends e index ss is)
    (did.ensures.tally e index ss is)
