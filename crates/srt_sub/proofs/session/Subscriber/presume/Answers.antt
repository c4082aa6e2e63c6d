use Rattle.std.proofs.Common.{◌≡◌, ℕ, ◌≤◌, ◌==◌, ◌&&◌, ◌∷◌, Bool, true, false, length, refl, sym, ap, ◌∙◌, arith}
use Rattle.std.specs.Prelude.{nat_lt}
use Rattle.std.proofs.lemmas.Bool.{lt-ltb, le-ltb}
use Rattle.std.proofs.lemmas.Bool.Decides.{nat_tests}
use Rattle.srt_sendbuf.specs.Sending.{front, next, lost, all_lost}
use Rattle.srt_sub.specs.Subscribing.{Presumed, Terms, Subscribing, resend_due, has_waited}
use Rattle.srt_sub.specs.Stands.{StandsIn}
use Rattle.srt_sub.specs.declared.resend_all.Resending.{Resending}
use Rattle.srt_sub.specs.declared.session.Subscriber.{Subscriber}
use Rattle.srt_sub.proofs.Sound.{changed, sound_marked}
use Rattle.srt_sub.proofs.Turns.{false_first}
use Rattle.srt_sub.proofs.Doubling.{first_time}
use Rattle.srt_sub.proofs.session.Subscriber.presume.Goals as goal

pub returns-then-any_lost-clause-stands : goal.returns-then-any_lost-clause-stands
returns-then-any_lost-clause-stands c terms initial opening caller given m h =
    let some = sym (c.any_lost.ensures terms.width initial m.sending h.buffer_is) ∙ c.if-any_lost.true in
    let b : (length (lost m.sending) == 0) ≡ false = grind (arith, nat_tests, some) in
    let f : resend_due terms c.args.time c.args.recent m ≡ false = false_first _ _ _ b in
    rw f h

-- the rule and the delay of the code are those of the terms
waited : (terms : Terms) (initial opening caller time given : ℕ) (recent b : Bool) (s : Subscriber) (m : Subscribing)
    → StandsIn terms initial opening caller time given s m → b ≡ has_waited s.resending s.delay time recent m.notes
    → has_waited terms.resending terms.delay time recent m.notes ≡ b
waited terms initial opening caller time given recent b s m h e =
    sym (e ∙ ap (λ (r : Resending). has_waited r s.delay time recent m.notes) h.resending_is
    ∙ ap (λ d. has_waited terms.resending d time recent m.notes) h.delay_is)

pub returns-then-resend_due-clause-stands : goal.returns-then-resend_due-clause-stands
returns-then-resend_due-clause-stands c terms initial opening caller given m h =
    let s = c.args.self.now in
    let none = sym (c.any_lost.ensures terms.width initial m.sending h.buffer_is) ∙ c.if-any_lost.false in
    let flying = c.in_flight.ensures terms.width initial m.sending h.buffer_is in
    let some : nat_lt (front m.sending) (next m.sending) ≡ true = lt-ltb _ _ (omega (arith, flying, c.if-in_flight-eq0.false)) in
    let b : (length (lost m.sending) == 0) ≡ true = grind (arith, nat_tests, none) in
    let long : has_waited terms.resending terms.delay c.args.time c.args.recent m.notes ≡ true =
    waited terms initial opening caller c.args.time given c.args.recent c.resend_due.result s m h (c.resend_due.ensures initial terms m.notes h.history_is)
    ∙ c.if-resend_due.true in
    let t : resend_due terms c.args.time c.args.recent m ≡ true = rw (some, b, long) refl in
    rw t
    (changed terms initial opening caller c.args.time given s m h c.args.time given s.given c.lose_all.new.self
    c.note_presumed.new.self (record m { sending = all_lost m.sending; notes = Presumed ∷ m.notes }) h.given_is
    (c.lose_all.ensures terms.width initial m.sending h.buffer_is)
    (c.note_presumed.ensures initial terms m.notes (λ once. first_time terms.resending terms.delay c.args.time c.args.recent m.notes once long) h.history_is)
    (sound_marked terms c.args.time m.sending (all_lost m.sending) refl refl h.sound) s.counts h.counts_are
    h.phase_is h.credited)

pub returns-then-in_flight-eq0-clause-stands : goal.returns-then-in_flight-eq0-clause-stands
returns-then-in_flight-eq0-clause-stands c terms initial opening caller given m h =
    let flying = c.in_flight.ensures terms.width initial m.sending h.buffer_is in
    let none : next m.sending ≤ front m.sending = omega (arith, flying, c.if-in_flight-eq0.true) in
    let b : nat_lt (front m.sending) (next m.sending) ≡ false = le-ltb _ _ none in
    let f : resend_due terms c.args.time c.args.recent m ≡ false = rw b refl in
    rw f h

false_last : (a : Bool) → (a && false) ≡ false
false_last true = refl
false_last false = refl

pub returns-else-resend_due-clause-stands : goal.returns-else-resend_due-clause-stands
returns-else-resend_due-clause-stands c terms initial opening caller given m h =
    let short : has_waited terms.resending terms.delay c.args.time c.args.recent m.notes ≡ false =
    waited terms initial opening caller c.args.time given c.args.recent c.resend_due.result c.args.self.now m h
    (c.resend_due.ensures initial terms m.notes h.history_is)
    ∙ c.if-resend_due.false in
    let f : resend_due terms c.args.time c.args.recent m ≡ false = rw short (false_last _) in
    rw f h
