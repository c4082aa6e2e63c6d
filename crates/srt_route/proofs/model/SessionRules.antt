-- The rules of single sessions: when a publisher's packets are due, and when a subscriber is sent everything again.
use Rattle.std.proofs.Common.{◌≡◌, ◌-◌, Bool, true, false, refl, sym, ap, subst, ◌∙◌, arith, pos, ◌+ℤ◌, ◌-ℤ◌}
use Rattle.std.proofs.lemmas.Bool.Decides.{nat_tests}
use Rattle.std.proofs.lemmas.Int.{ints}
use Rattle.srt_types.specs.declared.shared.Callers.{Callers}
use Rattle.srt_types.specs.declared.shared.Callers.TheVariants.{Draft, Libsrt}
use Rattle.srt_types.specs.declared.shared.Mode.{Mode}
use Rattle.srt_types.specs.declared.shared.Mode.TheVariants.{Live, Buffer}
use Rattle.srt_types.proofs.Lifts.{lift_is}
use Rattle.srt_pub.specs.Publishing.{clock_if, clock_samples, correction_in, correction_of, due_in, follows}
use Rattle.srt_sub.specs.Subscribing.{presumed}
use Rattle.srt_sub.specs.declared.resend_all.Resending.TheVariants.{AtEachTimeout, Once, BackingOff}
use Rattle.srt_sub.proofs.Tries.{is_still}
use Rattle.srt_route.specs.Deadlines.{DeadlinesAreNear, IsDueNear}
use Rattle.srt_route.specs.Drafts.{ClocksAreTrusted, ResendAtEachTimeout}
use Rattle.srt_route.specs.Resends.{SilentAreSentNothing}
use Rattle.srt_route.specs.Sessions.{is_recent, resending_of, stamp_in, terms_of, time_in}

pub deadlines_are_near : DeadlinesAreNear
deadlines_are_near e clock stamp s p live le =
    let terms = (terms_of e s).publisher in
    let time = time_in s clock in
    let correction = correction_of terms p.notes in
    let h = (lift_is (stamp_in s stamp) (pos time -ℤ correction)).0 in
    let since : pos clock ≡ pos s.opening +ℤ pos (clock - s.opening) = omega (arith, ints, le) in
    let near : IsDueNear terms.delay clock (pos s.opening +ℤ due_in Live terms correction time (stamp_in s stamp)) =
    record { above = omega (arith, ints, h.above, since); below = omega (arith, ints, h.below, since) } in
    subst (λ (m : Mode). IsDueNear terms.delay clock (pos s.opening +ℤ due_in m terms correction time (stamp_in s stamp))) (sym live) near

-- a session on a route for libsrt callers doesn't send everything again at each timeout
not_each_timeout : (c : Callers) (mode : Mode) (periodic_nak : Bool) → c ≡ Libsrt → resending_of c mode periodic_nak ≡ AtEachTimeout → ⊥
not_each_timeout Draft mode periodic_nak libsrt same = absurd (let bad : Draft ≡ Libsrt = libsrt in cc)
not_each_timeout Libsrt Live true libsrt same = absurd (let bad : Once ≡ AtEachTimeout = same in cc)
not_each_timeout Libsrt Live false libsrt same = absurd (let bad : BackingOff ≡ AtEachTimeout = same in cc)
not_each_timeout Libsrt Buffer periodic_nak libsrt same = absurd (let bad : BackingOff ≡ AtEachTimeout = same in cc)

-- in live mode a subscriber that sends periodic NAKs is sent everything again once
pub resends_once : (c : Callers) (mode : Mode) (periodic_nak : Bool) → c ≡ Libsrt → mode ≡ Live → periodic_nak ≡ true
    → resending_of c mode periodic_nak ≡ Once
resends_once c mode periodic_nak libsrt live reports =
    ap (λ (d : Callers). resending_of d mode periodic_nak) libsrt
    ∙ (ap (λ (m : Mode). resending_of Libsrt m periodic_nak) live ∙ ap (λ (b : Bool). resending_of Libsrt Live b) reports)

pub silent_are_sent_nothing : SilentAreSentNothing
silent_are_sent_nothing e clock s m libsrt silent =
    let terms = (terms_of e s).subscriber in
    let never : is_recent s clock ≡ false = grind (arith, nat_tests, silent) in
    ap (λ (b : Bool). presumed terms (time_in s clock) b m) never
    ∙ is_still terms (time_in s clock) m (not_each_timeout e.rules.callers e.mode s.conclusion.periodic_nak libsrt)

not_followed : (mode : Mode) (c : Callers) → c ≡ Draft → follows mode c ≡ false
not_followed Buffer c draft = refl
not_followed Live Draft draft = refl
not_followed Live Libsrt draft = absurd (let bad : Libsrt ≡ Draft = draft in cc)

pub clocks_are_trusted : ClocksAreTrusted
clocks_are_trusted e c notes draft = ap (λ (b : Bool). correction_in (clock_if b (clock_samples notes))) (not_followed e.mode e.rules.callers draft)

pub resend_at_each_timeout : ResendAtEachTimeout
resend_at_each_timeout e c draft = ap (λ (callers : Callers). resending_of callers e.mode c.periodic_nak) draft
