use Rattle.std.proofs.Common.{◌≡◌, ℕ, ◌+◌, ◌-◌, Option, Some, List, [], ◌∷◌, refl, sym, ap, subst, ◌∙◌, arith}
use Rattle.std.specs.Prelude.{if◌then◌else◌}
use Rattle.srt_types.specs.Runs.{Run}
use Rattle.srt_sendbuf.specs.Sending.{Due}
use Rattle.srt_sub.specs.Subscribing.{Report, Subscribing, Dropped, Media, KeepAlive, Sent, expired, prepared, unreported, drops_of, noted, most, keep_alives}
use Rattle.srt_sub.specs.Says.{says}
use Rattle.srt_sub.specs.inside.Turns.{due_in, phase_after, with_due, given_with}
use Rattle.srt_sub.specs.Stands.{StandsIn}
use Rattle.srt_sub.specs.Emission.{resends_in}
use Rattle.srt_sub.specs.declared.session.Phase.{Phase}
use Rattle.srt_sub.specs.declared.session.Phase.TheVariants.{Lost, New}
use Rattle.srt_sub.proofs.Credits.{resends_said}
use Rattle.srt_sub.proofs.Sound.{rephased}
use Rattle.srt_sub.proofs.Turns.{Parts, settled, settled_said, settled_gave, goes_on, a_drop, a_media, a_keep_alive, no_media, over, drop_said}
use Rattle.srt_sub.proofs.Turns.{media_said, one_said, none_said, at_most_one, due_there, wrote, wrote_none, no_drop, no_data}
use Rattle.srt_sub.proofs.Dues.{sent_in_queue}
use Rattle.srt_sub.proofs.session.Subscriber.next_packet.Goals as goal

pub returns-then-next_drop-clause-some : goal.returns-then-next_drop-clause-some
returns-then-next_drop-clause-some c said terms initial opening caller given middle m left h l =
    let time = c.args.time in
    let percent = terms.resend_percent in
    let recent = c.args.recent in
    let x = prepared terms time recent (expired terms time middle) in
    let begun = c.prepare.ensures terms initial opening caller given _ h in
    let stands = begun.0 in
    let phase = c.next_drop.ensures.phase ∙ begun.1 in
    let outgoing = drop_said (unreported x.notes) (says caller initial time) _
    (wrote c.next_drop.result c.next_drop.new.packet _ c.if-next_drop.true
    (c.next_drop.ensures.answer terms initial opening caller given x stands)) in
    let after : Subscribing = record x { notes = Sent time (Dropped outgoing.0) ∷ x.notes } in
    let places = most - given in
    let again = resends_in c.args.self.now.phase percent places x.notes in
    let same : resends_in c.next_drop.new.self.phase percent places after.notes ≡ again =
    ap (λ (f : Phase). resends_in f percent places after.notes) phase
    ∙ resends_said c.args.self.now.phase percent places time (Dropped outgoing.0) x.notes refl in
    goes_on terms initial opening caller time recent given given c.args.self.now.phase c.next_drop.new.packet c.next_drop.new.self
    (expired terms time middle) m after left (Dropped outgoing.0) l.few
    (subst
    (λ (o : Option Run).
    StandsIn terms initial opening caller time given c.next_drop.new.self (record x { notes = noted time (drops_of o) x.notes }))
    outgoing.1 (c.next_drop.ensures.stands terms initial opening caller given x stands))
    (settled_said terms time recent x (Dropped outgoing.0) refl (settled terms time recent middle)) outgoing.2 l
    (subst (λ (y : ℕ). Parts places again places y terms time x after (Dropped outgoing.0)) (sym same)
    (a_drop places again terms time x outgoing.0 outgoing.1))

pub returns-then-next_media-clause-some : goal.returns-then-next_media-clause-some
returns-then-next_media-clause-some c said terms initial opening caller given middle m left h l =
    let time = c.args.time in
    let percent = terms.resend_percent in
    let recent = c.args.recent in
    let x = prepared terms time recent (expired terms time middle) in
    let phase = c.next_drop.new.self.phase in
    let drop = no_drop terms initial opening caller time recent given c.args.self.now c.prepare.new.self c.next_drop.new.self (expired terms time middle) m
    left c.next_drop.result c.next_drop.new.packet c.if-next_drop.false c.prepare.ensures c.next_drop.ensures.answer c.next_drop.ensures.stands
    c.next_drop.ensures.phase h l in
    let outgoing = media_said (due_in (64 - given) phase terms x) (λ d. says caller initial time (Media d.number d.again d.origin d.payload)) _
    (wrote c.next_media.result c.next_media.new.packet _ c.if-next_media.true
    (c.next_media.ensures.answer terms initial opening caller given x drop.stands l.few)) in
    let d = outgoing.0 in
    let there = due_there (64 - given) phase terms x d outgoing.1 in
    let room = there.0 in
    let sent = c.next_media.ensures.stands terms initial opening caller given x drop.stands l.few in
    let later : c.next_media.new.self.phase ≡ (if d.again then phase else New) = sent.1 ∙ ap (λ (o : Option Due). phase_after o phase) outgoing.1 in
    let report = Media d.number d.again d.origin d.payload in
    goes_on terms initial opening caller time recent given (given + 1) phase c.next_media.new.packet c.next_media.new.self (expired terms time middle) m
    (with_due time (Some d) x) left report (omega (arith, room))
    (subst (λ (o : Option Due). StandsIn terms initial opening caller time (given_with o given) c.next_media.new.self (with_due time o x))
    outgoing.1 sent.0)
    (settled_gave terms time recent d.number x report refl (settled terms time recent middle)) outgoing.2 drop.left_is
    (subst
    (λ (f : Phase). Parts (64 - given) (resends_in phase percent (64 - given) x.notes) (64 - (given + 1))
    (resends_in f percent (64 - (given + 1)) (Sent time report ∷ x.notes)) terms time x (with_due time (Some d) x) report)
    (sym later)
    (a_media (64 - given) (64 - (given + 1)) phase terms time x d (omega (arith, room)) drop.silent
    (sent_in_queue terms.width initial c.next_drop.new.self.buffer x.sending drop.stands.buffer_is) there.1))

pub returns-then-next_keep_alive-clause-some : goal.returns-then-next_keep_alive-clause-some
returns-then-next_keep_alive-clause-some c said terms initial opening caller given middle m left h l =
    let time = c.args.time in
    let percent = terms.resend_percent in
    let recent = c.args.recent in
    let x = prepared terms time recent (expired terms time middle) in
    let phase = c.next_drop.new.self.phase in
    let drop = no_drop terms initial opening caller time recent given c.args.self.now c.prepare.new.self c.next_drop.new.self (expired terms time middle) m
    left c.next_drop.result c.next_drop.new.packet c.if-next_drop.false c.prepare.ensures c.next_drop.ensures.answer c.next_drop.ensures.stands
    c.next_drop.ensures.phase h l in
    let calm = no_data terms initial opening caller time recent given c.next_drop.new.self c.next_media.new.self (expired terms time middle) m left
    c.next_media.result c.next_media.new.packet c.if-next_media.false c.next_media.ensures.answer c.next_media.ensures.stands drop in
    let outgoing = one_said (keep_alives time [] x.notes) (says caller initial time) _ KeepAlive (at_most_one time x.notes)
    (wrote c.next_keep_alive.result c.next_keep_alive.new.packet _ c.if-next_keep_alive.true
    (c.next_keep_alive.ensures.answer terms initial opening caller given x calm.stands)) in
    let after : Subscribing = record x { notes = Sent time KeepAlive ∷ x.notes } in
    let places = most - given in
    let again = resends_in phase percent places x.notes in
    let same : resends_in c.next_keep_alive.new.self.phase percent places after.notes ≡ again =
    ap (λ (f : Phase). resends_in f percent places after.notes) (c.next_keep_alive.ensures.phase ∙ calm.same)
    ∙ resends_said phase percent places time KeepAlive x.notes refl in
    goes_on terms initial opening caller time recent given given phase c.next_keep_alive.new.packet c.next_keep_alive.new.self
    (expired terms time middle) m after left KeepAlive l.few
    (subst
    (λ (rs : List Report).
    StandsIn terms initial opening caller time given c.next_keep_alive.new.self (record x { notes = noted time rs x.notes }))
    outgoing.0 (c.next_keep_alive.ensures.stands terms initial opening caller given x calm.stands))
    (settled_said terms time recent x KeepAlive refl (settled terms time recent middle)) outgoing.1 drop.left_is
    (subst (λ (y : ℕ). Parts places again places y terms time x after KeepAlive) (sym same)
    (a_keep_alive places again terms time x calm.silent
    (no_media places phase terms x (sent_in_queue terms.width initial c.next_media.new.self.buffer x.sending calm.stands.buffer_is) calm.none)
    outgoing.0))

pub returns-clause-none : goal.returns-clause-none
returns-clause-none c said terms initial opening caller given middle m left h l =
    let time = c.args.time in
    let recent = c.args.recent in
    let x = prepared terms time recent (expired terms time middle) in
    let phase = c.next_drop.new.self.phase in
    let drop = no_drop terms initial opening caller time recent given c.args.self.now c.prepare.new.self c.next_drop.new.self (expired terms time middle) m
    left c.next_drop.result c.next_drop.new.packet c.if-next_drop.false c.prepare.ensures c.next_drop.ensures.answer c.next_drop.ensures.stands
    c.next_drop.ensures.phase h l in
    let calm = no_data terms initial opening caller time recent given c.next_drop.new.self c.next_media.new.self (expired terms time middle) m left
    c.next_media.result c.next_media.new.packet c.if-next_media.false c.next_media.ensures.answer c.next_media.ensures.stands drop in
    let alive = none_said (keep_alives time [] x.notes) (says caller initial time) KeepAlive (at_most_one time x.notes)
    (wrote_none c.next_keep_alive.result c.next_keep_alive.new.packet _ c.if-next_keep_alive.false
    (c.next_keep_alive.ensures.answer terms initial opening caller given x calm.stands)) in
    let last = subst
    (λ (rs : List Report).
    StandsIn terms initial opening caller time given c.next_keep_alive.new.self (record x { notes = noted time rs x.notes }))
    alive (c.next_keep_alive.ensures.stands terms initial opening caller given x calm.stands) in
    let done = over (most - given) (resends_in phase terms.resend_percent (most - given) x.notes) terms time x calm.silent
    (no_media (most - given) phase terms x
    (sent_in_queue terms.width initial c.next_media.new.self.buffer x.sending calm.stands.buffer_is) calm.none)
    alive in
    let s = c.next_keep_alive.new.self in
    record {
      left_is = sym drop.left_is.left_is ∙ done.reports_are;
      stands = subst (λ (y : Subscribing). StandsIn terms initial opening caller time 0 (record s { given = 0; phase = Lost }) y)
          (sym done.end_is ∙ drop.left_is.end_is)
          (rephased terms initial opening caller time given s x last time 0 0 s.buffer s.history x refl last.buffer_is last.history_is
          last.sound s.counts last.counts_are Lost (λ e. refl) last.credited);
    }

pub returns-clause-same : goal.returns-clause-same
returns-clause-same c said =
    c.next_keep_alive.ensures.kept c.if-next_keep_alive.false
    ∙ c.next_media.ensures.same c.if-next_media.false
    ∙ c.next_drop.ensures.kept c.if-next_drop.false
