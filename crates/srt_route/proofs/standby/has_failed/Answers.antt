use Rattle.std.proofs.Common.{◌≡◌, true, false, ◌∙◌, refl, sym, ap, subst, arith}
use Rattle.std.specs.List.{list_any}
use Rattle.srt_route.specs.declared.publisher_buffers.PublisherBuffers.{PublisherBuffers}
use Rattle.srt_route.specs.Past.{silence_of}
use Rattle.srt_route.specs.Sessions.{time_in}
use Rattle.srt_route.specs.PublisherBuffers.{other_buffers}
use Rattle.srt_route.specs.Tables.{Uses, publishes_from}
use Rattle.srt_route.proofs.stored.Publishers.{found_from}
use Rattle.srt_route.proofs.steps.Overtaking.{are_both, failed_is, heard_in_time, none_failed, other_in_time, silent_is}
use Rattle.srt_route.proofs.standby.has_failed.Goals as goal

pub returns-then-not-have_publisher : goal.returns-then-not-have_publisher
returns-then-not-have_publisher c e index ss h =
    let t = c.args.table.now in
    sym (none_failed e index c.args.clock c.args.limit t ss t.leading h
    (sym (c.have_publisher.ensures ∙ ap (list_any (publishes_from t.leading)) c.deref.ensures.value) ∙ c.if-not-have_publisher.true))

pub returns-then-not-have_publisher-2 : goal.returns-then-not-have_publisher-2
returns-then-not-have_publisher-2 c e index ss h =
    let t = c.args.table.now in
    sym (none_failed e index c.args.clock c.args.limit t ss (other_buffers t.leading) h
    (subst (λ (b : PublisherBuffers). list_any (publishes_from b) t.seats.items ≡ false) c.other-other.ensures
    (sym (c.have_publisher-2.ensures ∙ ap (list_any (publishes_from c.other-other.result)) c.deref-2.ensures.value)
    ∙ c.if-not-have_publisher-2.true)))

pub returns-then-silent_for-limit : goal.returns-then-silent_for-limit
returns-then-silent_for-limit c e index ss h =
    let t = c.args.table.now in
    let clock = c.args.clock in
    let it = found_from e index clock t ss t.leading h
    (sym (c.have_publisher.ensures ∙ ap (list_any (publishes_from t.leading)) c.deref.ensures.value) ∙ c.if-not-have_publisher.false) in
    let other = found_from e index clock t ss (other_buffers t.leading) h
    (subst (λ (b : PublisherBuffers). list_any (publishes_from b) t.seats.items ≡ true) c.other-other.ensures
    (sym (c.have_publisher-2.ensures ∙ ap (list_any (publishes_from c.other-other.result)) c.deref-2.ensures.value)
    ∙ c.if-not-have_publisher-2.false)) in
    let first = silent_is e index clock t ss it.at it.session t.leading c.place.result c.index.result.now c.silent_for.result h it.here it.uses
    c.place.ensures.value c.index.ensures c.silent_for.ensures in
    heard_in_time c.args.limit c.silent_for.result (silence_of (time_in other.session clock) other.session.past) c.if-silent_for-limit.true
    ∙ failed_is c.args.limit clock c.silent_for.result (silence_of (time_in other.session clock) other.session.past) ss it.session other.session
    (are_both e index clock t ss it other h) first refl

pub returns : goal.returns
returns c e index ss h =
    let t = c.args.table.now in
    let clock = c.args.clock in
    let it = found_from e index clock t ss t.leading h
    (sym (c.have_publisher.ensures ∙ ap (list_any (publishes_from t.leading)) c.deref.ensures.value) ∙ c.if-not-have_publisher.false) in
    let other = found_from e index clock t ss (other_buffers t.leading) h
    (subst (λ (b : PublisherBuffers). list_any (publishes_from b) t.seats.items ≡ true) c.other-other.ensures
    (sym (c.have_publisher-2.ensures ∙ ap (list_any (publishes_from c.other-other.result)) c.deref-2.ensures.value)
    ∙ c.if-not-have_publisher-2.false)) in
    let first = silent_is e index clock t ss it.at it.session t.leading c.place.result c.index.result.now c.silent_for.result h it.here it.uses
    c.place.ensures.value c.index.ensures c.silent_for.ensures in
    let second = silent_is e index clock t ss other.at other.session c.other-other.result c.place-2.result c.index-2.result.now
    c.silent_for-2.result h other.here
    (subst (λ (b : PublisherBuffers). Uses t other.at b) (sym c.other-other.ensures) other.uses)
    c.place-2.ensures.value c.index-2.ensures c.silent_for-2.ensures in
    other_in_time c.args.limit c.silent_for.result c.silent_for-2.result (omega (arith, c.if-silent_for-limit.false))
    ∙ failed_is c.args.limit clock c.silent_for.result c.silent_for-2.result ss it.session other.session
    (are_both e index clock t ss it other h) first second
