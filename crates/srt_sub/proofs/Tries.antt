-- The laws of resending all.
use Rattle.std.proofs.Common.{◌≡◌, ℕ, ◌+◌, ◌*◌, ◌/◌, ◌^◌, ◌<◌, ◌≤◌, ◌==◌, min, max, Bool, true, false, ◌&&◌, if◌then◌else◌, Some, List, [], ◌∷◌, ◌++◌}
use Rattle.std.proofs.Common.{length, refl, sym, ap, subst, ◌∙◌, arith}
use Rattle.std.specs.Prelude.{nat_lt, nat_le}
use Rattle.std.proofs.lemmas.Bool.{lt-ltb}
use Rattle.std.proofs.lemmas.Bool.Decides.{nat_tests}
use Rattle.srt_sendbuf.specs.Sending.{front, next, lost, all_lost}
use Rattle.srt_sub.specs.Subscribing.{Terms, Subscribing, Note, Presumed, resend_due, presumed, prepared, renewed, reports_of, sent_of}
use Rattle.srt_sub.specs.Subscribing.{most, resends, resend_timeout, quiet_time, has_waited, tries, sampled, grown, growth, with_ack}
use Rattle.srt_sub.specs.Tries.{CountsTries, WaitsLongEnough, IsStillInSilence, ResendsAtEachTimeout}
use Rattle.srt_sub.specs.declared.resend_all.Resending.{Resending}
use Rattle.srt_sub.specs.declared.resend_all.Resending.TheVariants.{AtEachTimeout, Once, BackingOff}

-- the number of tries
counts_due : (terms : Terms) (time : ℕ) (recent : Bool) (s : Subscribing)
    → resend_due terms time recent s ≡ true → tries (presumed terms time recent s).notes ≡ tries s.notes + 1
counts_due terms time recent s e =
    ap (λ (b : Bool). tries (if b then record s { sending = all_lost s.sending; notes = Presumed ∷ s.notes } else s).notes) e

tries_sampled : (more : List ℕ) (notes : List Note) → tries (sampled more ++ notes) ≡ tries notes
tries_sampled [] notes = refl
tries_sampled (rtt ∷ []) notes = refl
tries_sampled (rtt ∷ variance ∷ []) notes = refl
tries_sampled (rtt ∷ variance ∷ window ∷ more) notes = refl

counts_growth : (time n : ℕ) (more : List ℕ) (s : Subscribing) → s.sending.acked < n → tries (with_ack time more (Some n) s).notes ≡ 0
counts_growth time n more s lt =
    tries_sampled more (growth time n s.sending ++ s.notes) ∙ ap (λ (b : Bool). tries (grown time b ++ s.notes)) (lt-ltb _ _ lt)

pub counts_tries : CountsTries
counts_tries = record { due = counts_due; growth = counts_growth }

-- the time that has passed if it is time to resend all
last_true : (a b : Bool) → (a && b) ≡ true → b ≡ true
last_true true b e = e
last_true false b e = absurd cc

waited : (terms : Terms) (time : ℕ) (recent : Bool) (s : Subscribing) (rule : Resending) → terms.resending ≡ rule → resend_due terms time recent s ≡ true
    → has_waited rule terms.delay time recent s.notes ≡ true
waited terms time recent s rule is e =
    subst (λ (r : Resending). has_waited r terms.delay time recent s.notes ≡ true) is (last_true _ _ e)

waits_once : (terms : Terms) (time : ℕ) (recent : Bool) (s : Subscribing) → terms.resending ≡ Once → resend_due terms time recent s ≡ true
    → (tries s.notes ≡ 0) × (resend_timeout s.notes ≤ quiet_time time s.notes) × (terms.delay / 2 ≤ quiet_time time s.notes)
waits_once terms time recent s is e =
    let h : has_waited Once terms.delay time recent s.notes ≡ true = waited terms time recent s Once is e in
    let long : max (resend_timeout s.notes) (terms.delay / 2) ≤ quiet_time time s.notes = grind (arith, nat_tests, h) in
    (grind (arith, nat_tests, h), omega (arith, long), omega (arith, long))

waits_backing : (terms : Terms) (time : ℕ) (recent : Bool) (s : Subscribing) → terms.resending ≡ BackingOff → resend_due terms time recent s ≡ true
    → resend_timeout s.notes * 2 ^ min (tries s.notes) 6 ≤ quiet_time time s.notes
waits_backing terms time recent s is e =
    let h : has_waited BackingOff terms.delay time recent s.notes ≡ true = waited terms time recent s BackingOff is e in
    grind (arith, nat_tests, h)

pub waits_long_enough : WaitsLongEnough
waits_long_enough = record { once = waits_once; backing = waits_backing }

-- without a recent packet
false_last : (a : Bool) → (a && false) ≡ false
false_last true = refl
false_last false = refl

still : (rule : Resending) (delay time : ℕ) (notes : List Note) → (rule ≡ AtEachTimeout → ⊥) → has_waited rule delay time false notes ≡ false
still AtEachTimeout delay time notes other = absurd (other refl)
still Once delay time notes other = refl
still BackingOff delay time notes other = refl

pub is_still : IsStillInSilence
is_still terms time s other =
    let none : resend_due terms time false s ≡ false =
    ap (λ b. (nat_lt (front s.sending) (next s.sending) && (length (lost s.sending) == 0)) && b) (still terms.resending terms.delay time s.notes other)
    ∙ false_last _ in
    ap (λ (b : Bool). if b then record s { sending = all_lost s.sending; notes = Presumed ∷ s.notes } else s) none

-- at each timeout
at_each : (terms : Terms) (time : ℕ) (recent : Bool) (s : Subscribing) → terms.resending ≡ AtEachTimeout
    → resend_due terms time recent s
    ≡ (nat_lt (front s.sending) (next s.sending) && (length (lost s.sending) == 0) && nat_le (resend_timeout s.notes) (quiet_time time s.notes))
at_each terms time recent s is =
    ap (λ (r : Resending). nat_lt (front s.sending) (next s.sending) && (length (lost s.sending) == 0) && has_waited r terms.delay time recent s.notes) is

prepared_alike : (terms : Terms) (time : ℕ) (s : Subscribing) → terms.resending ≡ AtEachTimeout → prepared terms time true s ≡ prepared terms time false s
prepared_alike terms time s is =
    let x = renewed terms time s in
    ap (λ (b : Bool). if b then record x { sending = all_lost x.sending; notes = Presumed ∷ x.notes } else x)
    (at_each terms time true x is ∙ sym (at_each terms time false x is))

pub resends_at_each_timeout : ResendsAtEachTimeout
resends_at_each_timeout =
    record {
      due = at_each;
      reports = λ terms time s is.
          ap (λ (z : Subscribing). reports_of most (resends terms.resend_percent most z.notes) terms time z) (prepared_alike terms time s is);
      reported = λ terms time s is.
          ap (λ (z : Subscribing). sent_of most (resends terms.resend_percent most z.notes) terms time z) (prepared_alike terms time s is);
    }
