use Rattle.std.proofs.Common.{◌≡◌, true, false, ◌∙◌, sym, ap, subst}
use Rattle.std.specs.List.{list_any}
use Rattle.srt_route.specs.declared.publisher_buffers.PublisherBuffers.{PublisherBuffers}
use Rattle.srt_route.specs.Tables.{publishes_from}
use Rattle.srt_route.specs.inside.Standby.{HasActive}
use Rattle.srt_route.proofs.steps.Saying.{some_same}
use Rattle.srt_route.proofs.steps.Delivered.{leading_active, other_active, none_publishes}
use Rattle.srt_route.proofs.standby.active_buffers.Goals as goal

pub returns-then-have_publisher-clause-some : goal.returns-then-have_publisher-clause-some
returns-then-have_publisher-clause-some c which is e index clock ss body =
    let t = c.args.table.now in
    subst (λ (b : PublisherBuffers). HasActive ss t b) (some_same t.leading which is)
    (leading_active e index clock t ss body
    (sym (c.have_publisher.ensures ∙ ap (list_any (publishes_from t.leading)) c.deref.ensures.value) ∙ c.if-have_publisher.true))

pub returns-then-have_publisher-2-clause-some : goal.returns-then-have_publisher-2-clause-some
returns-then-have_publisher-2-clause-some c which is e index clock ss body =
    let t = c.args.table.now in
    let other = c.other-other.ensures in
    subst (λ (b : PublisherBuffers). HasActive ss t b) (sym other ∙ some_same c.other-other.result which is)
    (other_active e index clock t ss body
    (sym (c.have_publisher.ensures ∙ ap (list_any (publishes_from t.leading)) c.deref.ensures.value) ∙ c.if-have_publisher.false)
    (subst (λ (b : PublisherBuffers). list_any (publishes_from b) t.seats.items ≡ true) other
    (sym (c.have_publisher-2.ensures ∙ ap (list_any (publishes_from c.other-other.result)) c.deref-2.ensures.value) ∙ c.if-have_publisher-2.true)))

pub returns-clause-none : goal.returns-clause-none
returns-clause-none c is e index clock ss body =
    let t = c.args.table.now in
    none_publishes e index clock t ss body
    (sym (c.have_publisher.ensures ∙ ap (list_any (publishes_from t.leading)) c.deref.ensures.value) ∙ c.if-have_publisher.false)
    (subst (λ (b : PublisherBuffers). list_any (publishes_from b) t.seats.items ≡ false) c.other-other.ensures
    (sym (c.have_publisher-2.ensures ∙ ap (list_any (publishes_from c.other-other.result)) c.deref-2.ensures.value) ∙ c.if-have_publisher-2.false))
