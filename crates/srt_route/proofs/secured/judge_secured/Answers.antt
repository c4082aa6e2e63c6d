use Rattle.std.proofs.Common.{◌≡◌, ℕ, Option, Some, None, option_map, find, refl, sym, ap, subst, ◌∙◌}
use Rattle.std.specs.List.{position}
use Rattle.srt_route.specs.declared.secured.Verdict.TheVariants.{Ignored, Repeats}
use Rattle.srt_route.specs.RouteKeys.{Brought, brought_in, cookie_in}
use Rattle.srt_route.specs.Route.{asked, conclusion_judged, decision, is_of}
use Rattle.srt_route.specs.Sessions.{Session}
use Rattle.srt_route.specs.SlotKeys.{brought_of}
use Rattle.srt_route.specs.Tables.{holds}
use Rattle.srt_route.specs.inside.Secured.{IsJudged, IsRepeated, RepeatsIn}
use Rattle.srt_route.proofs.stored.Stored.{none_of_caller}
use Rattle.srt_route.proofs.steps.Securing.{again_judged, caller_found, slot_is}
use Rattle.srt_route.proofs.secured.judge_secured.Goals as goal

pub returns-in_default-clause-judged : goal.returns-in_default-clause-judged
returns-in_default-clause-judged c e index ss keys passphrase is are has =
    let peer = c.args.arrival.peer in
    let nothing : brought_in c.args.info.now ≡ None = sym c.brought_in.ensures ∙ ap (option_map brought_of) c.in_default.is in
    subst
    (λ (b : Option Brought). IsJudged e peer c.args.c.now Ignored c.args.keys.now
    (conclusion_judged (Some passphrase) b e index c.args.arrival.clock peer (cookie_in c.args.info.now) c.args.c.now ss keys
    (find (is_of peer c.args.c.now.caller) ss)))
    (sym nothing) (record { verdict_is = refl; keys_are = are })

pub returns-in-Some-slot_of-clause-judged : goal.returns-in-Some-slot_of-clause-judged
returns-in-Some-slot_of-clause-judged c e index ss keys passphrase is are has =
    let peer = c.args.arrival.peer in
    let at = c.in-Some-slot_of.at in
    let some : brought_in c.args.info.now ≡ Some (brought_of c.in-Some.brought) = sym c.brought_in.ensures ∙ ap (option_map brought_of) c.in-Some.is in
    let first = ap (position (holds peer c.args.c.now.caller)) (sym c.deref.ensures.value) ∙ (sym c.slot_of.ensures ∙ c.in-Some-slot_of.is) in
    let it = caller_found e index c.args.arrival.clock c.args.table.now ss peer c.args.c.now.caller at is first in
    subst
    (λ (b : Option Brought). IsJudged e peer c.args.c.now (Repeats at) c.args.keys.now
    (conclusion_judged (Some passphrase) b e index c.args.arrival.clock peer (cookie_in c.args.info.now) c.args.c.now ss keys
    (find (is_of peer c.args.c.now.caller) ss)))
    (sym some)
    (again_judged e index c.args.arrival.clock peer c.args.info.now c.args.c.now ss keys c.args.keys.now at it.0 (Some passphrase)
    (brought_of c.in-Some.brought) (find (is_of peer c.args.c.now.caller) ss) it.2 (slot_is at ss it.0 it.1) are)

pub returns-in-None-clause-judged : goal.returns-in-None-clause-judged
returns-in-None-clause-judged c e index ss keys passphrase is are has =
    let clock = c.args.arrival.clock in
    let peer = c.args.arrival.peer in
    let some : brought_in c.args.info.now ≡ Some (brought_of c.in-Some.brought) = sym c.brought_in.ensures ∙ ap (option_map brought_of) c.in-Some.is in
    let none = none_of_caller e index clock c.args.table.now ss peer c.args.c.now.caller is
    (ap (position (holds peer c.args.c.now.caller)) (sym c.deref.ensures.value) ∙ (sym c.slot_of.ensures ∙ c.in-None.is)) in
    subst
    (λ (b : Option Brought). IsJudged e peer c.args.c.now c.open_keys.result c.open_keys.new.keys
    (conclusion_judged (Some passphrase) b e index clock peer (cookie_in c.args.info.now) c.args.c.now ss keys (find (is_of peer c.args.c.now.caller) ss)))
    (sym some)
    (subst
    (λ (o : Option Session). IsJudged e peer c.args.c.now c.open_keys.result c.open_keys.new.keys
    (conclusion_judged (Some passphrase) (Some (brought_of c.in-Some.brought)) e index clock peer (cookie_in c.args.info.now) c.args.c.now ss keys o))
    (sym none)
    (subst
    (λ (cookie : ℕ). IsJudged e peer c.args.c.now c.open_keys.result c.open_keys.new.keys
    (asked passphrase (brought_of c.in-Some.brought) index clock peer cookie c.args.c.now ss keys (decision e peer c.args.c.now ss)))
    c.cookie_in.ensures (c.open_keys.ensures.judged e index ss keys passphrase is are has)))

pub returns-in-Some-slot_of-clause-repeats : goal.returns-in-Some-slot_of-clause-repeats
returns-in-Some-slot_of-clause-repeats c e index ss is =
    let peer = c.args.arrival.peer in
    let at = c.in-Some-slot_of.at in
    let first = ap (position (holds peer c.args.c.now.caller)) (sym c.deref.ensures.value) ∙ (sym c.slot_of.ensures ∙ c.in-Some-slot_of.is) in
    let it = caller_found e index c.args.arrival.clock c.args.table.now ss peer c.args.c.now.caller at is first in
    subst (λ (o : Option Session). IsRepeated e peer c.args.c.now ss at o) (sym it.2) it.1

pub returns-in-None-clause-repeats : goal.returns-in-None-clause-repeats
returns-in-None-clause-repeats c e index ss is =
    let peer = c.args.arrival.peer in
    let none = none_of_caller e index c.args.arrival.clock c.args.table.now ss peer c.args.c.now.caller is
    (ap (position (holds peer c.args.c.now.caller)) (sym c.deref.ensures.value) ∙ (sym c.slot_of.ensures ∙ c.in-None.is)) in
    subst (λ (o : Option Session). RepeatsIn e peer c.args.c.now ss c.open_keys.result o) (sym none) (c.open_keys.ensures.repeats e index ss is)
