use Rattle.std.proofs.Common.{◌<◌, map, drop, length, sym, ◌∙◌, arith}
use Rattle.std.proofs.lemmas.List.{length-map}
use Rattle.srt_mailbox.specs.Identities.{identity_in}
use Rattle.srt_mailbox.specs.Places.{arrived}
use Rattle.srt_mailbox.proofs.Tokens.{shown_at}
use Rattle.srt_serve.proofs.Settlings.{same_so_far, has_all, lock_at}
use Rattle.srt_serve.proofs.settling.began_with.Goals as goal

pub reached-requires-clause-place : goal.reached-requires-clause-place
reached-requires-clause-place g c =
    let below : c.loop-r.r < length c.args.put.now.items = omega (arith, c.loop-r-test.true, c.len-r-end.ensures, c.args.put.now.ok.0) in
    lock_at (λ t. t.of) (λ p. p.seat.id) c.args.put.now.items c.args.routes.now.places.now c.loop-r.r c.index.result.now
    c.requires below c.index.ensures

pub loop-r-preserved : goal.loop-r-preserved
loop-r-preserved g c =
    let below : c.loop-r.r < length c.args.put.now.items = omega (arith, c.loop-r-test.true, c.len-r-end.ensures, c.args.put.now.ok.0) in
    same_so_far (map (λ t. identity_in t.value.cell) c.args.put.now.items) (arrived c.args.routes.now) c.loop-r.r
    (shown_at (λ t. identity_in t.value.cell) c.args.put.now.items c.loop-r.r c.index.result.now below c.index.ensures ∙ sym c.reached.ensures)
    (omega (arith, below, length-map c.args.put.now.items (λ t. identity_in t.value.cell))) c.loop-r.invariant

pub returns-clause-began : goal.returns-clause-began
returns-clause-began g c =
    let all = length-map c.args.put.now.items (λ t. identity_in t.value.cell) in (
      drop c.loop-r.r (arrived c.args.routes.now),
      has_all (map (λ t. identity_in t.value.cell) c.args.put.now.items) (arrived c.args.routes.now) c.loop-r.r
          (omega (arith, c.loop-r-test.false, c.len-r-end.ensures, c.args.put.now.ok.0, all))
          (omega (arith, c.loop-r.auto.r-end, c.len-r-end.ensures, c.if-routes-len.false, c.routes.ensures, c.len.ensures))
          (omega (arith, c.loop-r-test.false, c.loop-r.auto.r-end, c.len-r-end.ensures, c.args.put.now.ok.0, all)) c.loop-r.invariant,
    )
