use Rattle.std.proofs.Common.{◌≡◌, ◌-◌, ◌^◌, ◌<◌, List, ◌∷◌, length, sym, ap, subst, ◌∙◌}
use Rattle.srt_sendbuf.specs.Sending.{Queued}
use Rattle.srt_sub.specs.Subscribing.{Report}
use Rattle.srt_sub.specs.Says.{says}
use Rattle.srt_sub.proofs.Carried.{first_stored, stored_there, queue_there}
use Rattle.srt_sub.proofs.session.Subscriber.emit_indexed.Goals as goal

pub returns-then-not-emit-clause-told : goal.returns-then-not-emit-clause-told
returns-then-not-emit-clause-told c terms initial opening caller m report rest h few =
    let over = c.emit.ensures.none c.if-not-emit.true terms initial opening caller m (report ∷ rest) h in
    absurd (let none = over.0 in cc)

pub returns-clause-told : goal.returns-clause-told
returns-clause-told c terms initial opening caller m report rest h few =
    let time = c.args.now - opening in
    let first = first_stored terms initial opening caller time c.args.recent c.args.self.now m report rest h in
    let wrote = c.emit.ensures.some c.if-not-emit.false terms initial opening caller m (report ∷ rest) h in
    let left = wrote.left_is in
    let same : report ≡ wrote.report = cc in
    let text = wrote.text_is ∙ ap (λ (r : Report). says caller initial time r) (sym same) in
    let on = wrote.goes_on in
    let queue = queue_there terms initial opening caller time c.args.recent c.emit.new.self m wrote.rest on in
    let told = c.kind_of.ensures terms initial opening caller time on.given time on.middle report on.stands
    (subst (λ (xs : List Queued). length xs < 2 ^ 64) (sym queue) few) text
    (stored_there terms initial opening caller time c.args.recent c.emit.new.self m wrote.rest on report first.stored) first.emitted in
    (told, first.stored)
