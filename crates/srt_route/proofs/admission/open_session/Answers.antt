use Rattle.std.proofs.Common.{◌≡◌, ℕ, true, false, ◌∷◌, [], ◌%◌, ◌∙◌, get_or, set, refl, sym, ap, subst}
use Rattle.srt_pub.specs.Stands.{width_of}
use Rattle.srt_route.specs.inside.Standby.{unused_buffers}
use Rattle.srt_types.specs.Items.{Datagram}
use Rattle.srt_hs.specs.declared.writing.HsAnswer.{HsAnswer}
use Rattle.srt_route.specs.Sessions.{Session, publishes, agreed, answer_of, generation_of, id_of, session_id}
use Rattle.srt_route.specs.Route.{Answers, sent, session_opened}
use Rattle.srt_route.proofs.stored.Kept.{some_buffers, seat_at}
use Rattle.srt_route.proofs.stored.Publishers.{unused}
use Rattle.srt_route.specs.Parts.{RecordsEnd, buffers_used, is_given_up, role_of, until_of}
use Rattle.srt_route.specs.declared.part.Part.{Part}
use Rattle.srt_route.proofs.stored.Parts.{opened_buffers, opened_lasts, opened_records, opened_role, opened_until}
use Rattle.srt_route.proofs.steps.Starting.{buffer_fits, has_begun, session_stored}
use Rattle.srt_route.proofs.admission.open_session.Goals as goal

pub returns : goal.returns
returns c e index ss h agrees first free few =
    let at = c.args.admission.at in
    let clock = c.args.arrival.clock in
    let peer = c.args.arrival.peer in
    let old = c.args.table.now in
    let x = c.index_mut.result.now in
    let s : Session = session_opened clock peer c.args.arrival.stamp c.args.c at (generation_of ss at) in
    let which = c.unused_buffers-buffers.result in
    let seat = seat_at e index clock old ss at x (some_buffers old) h c.requires.inside c.index_mut.ensures.value in
    let free_buffers = λ (role : publishes c.args.c.role ≡ true). unused e index clock old ss which h (few role)
    (c.unused_buffers-buffers.ensures ∙ ap unused_buffers c.deref.ensures.value) in
    let place = c.place.ensures.value in
    let p = c.index_mut-2.result.now in
    let there = subst (λ (n : ℕ). p ≡ get_or old.publishers.items n p) place c.index_mut-2.ensures.value in
    let begun = has_begun e index clock peer c.args.arrival.stamp c.args.c at (generation_of ss at) old which p
    c.start_buffers.new.publisher x c.start_buffers.new.seat ss h there seat.wide
    (c.start_buffers.ensures e agrees (buffer_fits e h.limits) (ap width_of there ∙ h.publishers_wide which p) seat.wide) free_buffers in
    let count : c.index.result.now.generation ≡ generation_of ss at % 65536 =
    (seat_at e index clock old ss at c.index.result.now (some_buffers old) h c.requires.inside c.index.ensures).count_is in
    let id : c.id_at-id.result ≡ session_id index s =
    c.id_at-id.ensures (generation_of ss at) count ∙ ap (λ (n : ℕ). id_of n (generation_of ss at) at) h.index_is in
    let answer : c.accepted-answer.result ≡ answer_of e index s = c.accepted-answer.ensures e agrees h.buffer_is ∙ ap (λ (n : ℕ). agreed e n c.args.c) id in
    record {
      table_is = session_stored e index clock peer c.args.arrival.stamp c.args.c old _ ss at which c.start_buffers.new.publisher x
          c.start_buffers.new.seat c.index_mut-3.result.now c.fill.new.self _ h c.requires.inside c.index_mut.ensures.value
          c.index_mut-3.ensures.value c.fill.ensures refl (refl, refl, refl, refl, refl)
          (ap (λ (n : ℕ). set old.publishers.items n c.start_buffers.new.publisher) place) c.leading_after-table.ensures
          (λ publishing. ap buffers_used c.opened.ensures ∙ opened_buffers c.args.c.role which publishing) begun
          (record {
            peer_is = refl;
            caller_is = refl;
            id_is = id;
            role_is = ap role_of c.opened.ensures ∙ opened_role c.args.c.role which;
            opened_is = refl;
            heard_is = refl;
            drains_is = ap until_of c.opened.ensures ∙ opened_until c.args.c.role which;
            file_is = subst (λ (p : Part). RecordsEnd p false) (sym c.opened.ensures) (opened_records c.args.c.role which);
            given_up_is = ap is_given_up c.opened.ensures ∙ opened_lasts c.args.c.role which;
            answer_is = answer;
          })
          free first free_buffers;
      replies_are = ap (λ (d : Datagram). d ∷ [])
          (c.answer_to.ensures ∙ ap (λ (a : HsAnswer). sent (record { peer = peer; packet = Answers c.args.c.caller a })) answer);
    }
