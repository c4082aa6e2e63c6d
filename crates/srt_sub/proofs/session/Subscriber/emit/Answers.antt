use Rattle.std.proofs.Common.{◌≡◌, ℕ, ◌-◌, sym, ap, subst, ◌∙◌, arith}
use Rattle.srt_sub.specs.Subscribing.{expired}
use Rattle.srt_sub.specs.Stands.{StandsIn}
use Rattle.srt_sub.specs.Emission.{IsLeft, IsNextAt, IsOverAt}
use Rattle.srt_sub.specs.declared.session.Phase.{Phase}
use Rattle.srt_sub.proofs.session.Subscriber.emit.Goals as goal

pub returns-clause-some : goal.returns-clause-some
returns-clause-some c said terms initial opening caller m left h =
    let k = c.time-time.result in
    let now = c.args.now - opening in
    let stands = c.drop_old.ensures.stands terms initial opening caller now h.given h.middle h.stands (omega arith) in
    let at : k ≡ now = c.time-time.ensures.value ∙ ap (λ o. c.args.now - o) stands.opening_is in
    let there = c.next_packet.ensures.some said terms initial opening caller h.given h.middle m left
    (subst (λ (t : ℕ). StandsIn terms initial opening caller t h.given c.drop_old.new.self (expired terms t h.middle)) (sym at) stands)
    (subst (λ (t : ℕ). IsLeft terms t c.args.recent h.given c.drop_old.new.self.phase (expired terms t h.middle) m left) (sym at)
    (subst (λ (f : Phase). IsLeft terms now c.args.recent h.given f (expired terms now h.middle) m left) (sym c.drop_old.ensures.phase) h.left_is)) in
    subst (λ (t : ℕ). IsNextAt terms initial opening caller t c.args.recent c.next_packet.new.packet c.next_packet.new.self m left) at there

pub returns-clause-none : goal.returns-clause-none
returns-clause-none c said terms initial opening caller m left h =
    let k = c.time-time.result in
    let now = c.args.now - opening in
    let stands = c.drop_old.ensures.stands terms initial opening caller now h.given h.middle h.stands (omega arith) in
    let at : k ≡ now = c.time-time.ensures.value ∙ ap (λ o. c.args.now - o) stands.opening_is in
    let there = c.next_packet.ensures.none said terms initial opening caller h.given h.middle m left
    (subst (λ (t : ℕ). StandsIn terms initial opening caller t h.given c.drop_old.new.self (expired terms t h.middle)) (sym at) stands)
    (subst (λ (t : ℕ). IsLeft terms t c.args.recent h.given c.drop_old.new.self.phase (expired terms t h.middle) m left) (sym at)
    (subst (λ (f : Phase). IsLeft terms now c.args.recent h.given f (expired terms now h.middle) m left) (sym c.drop_old.ensures.phase) h.left_is)) in
    let here = subst (λ (t : ℕ). IsOverAt terms initial opening caller t c.args.recent c.next_packet.new.self m left) at there in
    (here.left_is, here.stands)
