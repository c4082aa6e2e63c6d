use Rattle.std.proofs.Common.{◌≡◌, ◌<◌, length, sym, ap, ◌∙◌, arith}
use Rattle.srt_route.specs.RouteKeys.{SlotKeys, request_of}
use Rattle.srt_route.specs.Route.{Answers, Output, sent}
use Rattle.srt_route.specs.Sessions.{answer_of}
use Rattle.srt_route.specs.SlotKeys.{place_keys_of}
use Rattle.srt_route.specs.inside.Secured.{repeated}
use Rattle.srt_route.proofs.stored.Kept.{seat_at, some_buffers}
use Rattle.srt_route.proofs.steps.Securing.{answer_is, none_is_stored, stored_is}
use Rattle.srt_route.proofs.secured.repeat_request.Goals as goal

pub returns-in-Some : goal.returns-in-Some
returns-in-Some c e index clock ss keys s is are secured below found old =
    let peer = c.args.peer in
    let slot = c.args.slot in
    let x = c.index.result.now in
    let inside : slot < length c.args.table.now.seats.items = omega (arith, below, is.places_are) in
    let seat = seat_at e index clock c.args.table.now ss slot x (some_buffers c.args.table.now) is inside c.index.ensures in
    let here = stored_is e index slot x.session ss c.in-Some.session s seat.session_is c.in-Some.is found in
    let same = answer_is e index c.in-Some.session s here in
    let k = place_keys_of c.index-in-Some.result.now in
    let held : k ≡ keys.held slot = ap place_keys_of c.index-in-Some.ensures ∙ are.held_are secured slot c.index-in-Some.result.now below in
    c.repeat.ensures (old ∙ ap (λ (o : Output). sent (record { peer = peer; packet = o })) (sym same))
    ∙ ap (λ (o : Output). sent (repeated (request_of k) (record { peer = peer; packet = o }))) same
    ∙ ap (λ (n : SlotKeys). sent (repeated (request_of n) (record { peer = peer; packet = Answers s.conclusion.caller (answer_of e index s) }))) held

pub returns-in_default : goal.returns-in_default
returns-in_default c e index clock ss keys s is are secured below found old =
    let slot = c.args.slot in
    let x = c.index.result.now in
    let inside : slot < length c.args.table.now.seats.items = omega (arith, below, is.places_are) in
    let seat = seat_at e index clock c.args.table.now ss slot x (some_buffers c.args.table.now) is inside c.index.ensures in
    absurd (none_is_stored e index slot x.session ss s seat.session_is c.in_default.is found)
