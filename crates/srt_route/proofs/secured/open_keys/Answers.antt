use Rattle.std.proofs.Common.{◌≡◌, ℕ, ◌%◌, None, length, sym, ap, subst, ◌∙◌}
use Rattle.srt_route.specs.declared.slot_keys.KeyOpening.{KeyOpening}
use Rattle.srt_route.specs.declared.secured.Verdict.{Verdict}
use Rattle.srt_route.specs.Route.{asked, decision}
use Rattle.srt_route.specs.Sessions.{generation_of, id_of}
use Rattle.srt_route.specs.SlotKeys.{brought_of}
use Rattle.srt_route.specs.inside.Secured.{IsInside, IsJudged, RepeatsIn}
use Rattle.srt_route.proofs.steps.Securing.{first_inside, first_judged, first_refused, first_repeats}
use Rattle.srt_route.proofs.steps.Steps.{is_admitted}
use Rattle.srt_route.proofs.stored.Kept.{seat_at, some_buffers}
use Rattle.srt_route.proofs.secured.open_keys.Goals as goal

pub returns-in-Ok-clause-judged : goal.returns-in-Ok-clause-judged
returns-in-Ok-clause-judged c e index ss keys passphrase is are has =
    let slot = c.in-Ok.admission.at in
    let peer = c.args.arrival.peer in
    let clock = c.args.arrival.clock in
    let decided = is_admitted e peer c.args.c.now ss c.in-Ok.admission (sym (c.admit.ensures.value e index clock ss is) ∙ c.in-Ok.is) in
    let count : c.index.result.now.generation ≡ generation_of ss slot % 65536 =
    (seat_at e index clock c.args.table.now ss slot c.index.result.now (some_buffers c.args.table.now) is c.in-Ok.ensures.inside c.index.ensures).count_is in
    let id : c.id_at.result ≡ id_of index (generation_of ss slot) slot =
    c.id_at.ensures (generation_of ss slot) count ∙ ap (λ (n : ℕ). id_of n (generation_of ss slot) slot) is.index_is in
    let o : KeyOpening = record { clock = clock; peer = peer; cookie = c.args.cookie; role = c.args.c.now.role; id = c.id_at.result; slot = slot } in
    subst (λ (v : Verdict). IsJudged e peer c.args.c.now v c.open_session.new.self
    (asked passphrase (brought_of c.args.brought.now) index clock peer c.args.cookie c.args.c.now ss keys (decision e peer c.args.c.now ss)))
    (sym c.verdict_of.ensures)
    (first_judged e index clock peer c.args.cookie c.args.c.now passphrase (brought_of c.args.brought.now) ss keys c.open_session.new.self
    c.open_session.result o slot (decision e peer c.args.c.now ss) decided.0
    (ap (λ (n : ℕ). record { clock = clock; peer = peer; cookie = c.args.cookie; role = c.args.c.now.role; id = n; slot = slot }) id)
    (c.open_session.ensures.opened e keys passphrase are has))

pub returns-in-Ok-clause-repeats : goal.returns-in-Ok-clause-repeats
returns-in-Ok-clause-repeats c e index ss is =
    let slot = c.in-Ok.admission.at in
    let peer = c.args.arrival.peer in
    let decided = is_admitted e peer c.args.c.now ss c.in-Ok.admission
    (sym (c.admit.ensures.value e index c.args.arrival.clock ss is) ∙ c.in-Ok.is) in
    subst (λ (v : Verdict). RepeatsIn e peer c.args.c.now ss v None) (sym c.verdict_of.ensures)
    (first_repeats e peer c.args.c.now ss slot c.open_session.result decided.0)

pub returns-in-Ok-clause-inside : goal.returns-in-Ok-clause-inside
returns-in-Ok-clause-inside c =
    subst (λ (v : Verdict). IsInside (length c.args.table.now.seats.items) v) (sym c.verdict_of.ensures)
    (first_inside (length c.args.table.now.seats.items) c.in-Ok.admission.at c.open_session.result c.in-Ok.ensures.inside)

pub returns-in-Err-clause-judged : goal.returns-in-Err-clause-judged
returns-in-Err-clause-judged c e index ss keys passphrase is are has =
    let peer = c.args.arrival.peer in
    first_refused e index c.args.arrival.clock peer c.args.cookie c.args.c.now passphrase (brought_of c.args.brought.now) ss keys c.args.keys.now
    c.in-Err.field-0 (decision e peer c.args.c.now ss) (sym (c.admit.ensures.value e index c.args.arrival.clock ss is) ∙ c.in-Err.is) are
