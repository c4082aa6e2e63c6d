use Rattle.std.proofs.Common.{◌≡◌, ℕ, List, Option, true, find, sym, ap, subst, ◌∙◌}
use Rattle.std.specs.List.{position}
use Rattle.std.specs.Option.{is_some}
use Rattle.srt_route.specs.RouteKeys.{brought_in, cookie_in, passphrase_of}
use Rattle.srt_route.specs.Route.{conclusion_judged, is_of}
use Rattle.srt_route.specs.Sessions.{Session}
use Rattle.srt_route.specs.Tables.{holds}
use Rattle.srt_route.specs.inside.Secured.{IsJudged, IsRepeated}
use Rattle.srt_route.proofs.stored.Stored.{none_of_caller}
use Rattle.srt_route.proofs.steps.Securing.{caller_found, clear_judged, clear_passed, no_passphrase, slot_is, some_passphrase}
use Rattle.srt_route.proofs.secured.judge.Goals as goal

pub returns-then-secures-clause-judged : goal.returns-then-secures-clause-judged
returns-then-secures-clause-judged c e index ss keys is are =
    let peer = c.args.arrival.peer in
    let role = c.args.c.now.role in
    let secured : is_some (passphrase_of e role) ≡ true = sym (c.secures.ensures e keys are) ∙ c.if-secures.true in
    some_passphrase (passphrase_of e role)
    (λ (p : Option (List ℕ)). IsJudged e peer c.args.c.now c.judge_secured.result c.judge_secured.new.keys
    (conclusion_judged p (brought_in c.args.info.now) e index c.args.arrival.clock peer (cookie_in c.args.info.now) c.args.c.now ss keys
    (find (is_of peer c.args.c.now.caller) ss)))
    secured (λ x has. c.judge_secured.ensures.judged e index ss keys x is are has)

pub returns-in-Some-clause-judged : goal.returns-in-Some-clause-judged
returns-in-Some-clause-judged c e index ss keys is are =
    let peer = c.args.arrival.peer in
    let at = c.in-Some.slot in
    let first = ap (position (holds peer c.args.c.now.caller)) (sym c.deref.ensures.value) ∙ (sym c.slot_of.ensures ∙ c.in-Some.is) in
    let it = caller_found e index c.args.arrival.clock c.args.table.now ss peer c.args.c.now.caller at is first in
    let none = no_passphrase (passphrase_of e c.args.c.now.role) (sym (c.secures.ensures e keys are) ∙ c.if-secures.false) in
    clear_judged e index c.args.arrival.clock peer c.args.info.now c.args.c.now ss keys c.args.keys.now at it.0 (passphrase_of e c.args.c.now.role)
    (brought_in c.args.info.now) (find (is_of peer c.args.c.now.caller) ss) none it.2 (slot_is at ss it.0 it.1) are

pub returns-in-Some-clause-repeats : goal.returns-in-Some-clause-repeats
returns-in-Some-clause-repeats c e index ss is =
    let peer = c.args.arrival.peer in
    let at = c.in-Some.slot in
    let first = ap (position (holds peer c.args.c.now.caller)) (sym c.deref.ensures.value) ∙ (sym c.slot_of.ensures ∙ c.in-Some.is) in
    let it = caller_found e index c.args.arrival.clock c.args.table.now ss peer c.args.c.now.caller at is first in
    subst (λ (o : Option Session). IsRepeated e peer c.args.c.now ss at o) (sym it.2) it.1

pub returns-in-None-clause-judged : goal.returns-in-None-clause-judged
returns-in-None-clause-judged c e index ss keys is are =
    let peer = c.args.arrival.peer in
    let first = ap (position (holds peer c.args.c.now.caller)) (sym c.deref.ensures.value) ∙ (sym c.slot_of.ensures ∙ c.in-None.is) in
    let none = no_passphrase (passphrase_of e c.args.c.now.role) (sym (c.secures.ensures e keys are) ∙ c.if-secures.false) in
    clear_passed e index c.args.arrival.clock peer c.args.info.now c.args.c.now ss keys c.args.keys.now (passphrase_of e c.args.c.now.role)
    (brought_in c.args.info.now) (find (is_of peer c.args.c.now.caller) ss) none
    (none_of_caller e index c.args.arrival.clock c.args.table.now ss peer c.args.c.now.caller is first) are
