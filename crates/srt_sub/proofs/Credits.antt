-- The credit for packets that are sent again, and the bound that it ensures.
use Rattle.std.proofs.Common.{◌≡◌, ℕ, suc, ◌+◌, ◌-◌, ◌*◌, ◌<◌, ◌≤◌, min, Bool, true, false, ◌&&◌, if◌then◌else◌, Option, None, Some}
use Rattle.std.proofs.Common.{List, [], ◌∷◌, ◌++◌, refl, sym, ap, subst, ◌∙◌, arith}
use Rattle.std.specs.Prelude.{nat_lt, nat_le}
use Rattle.std.proofs.Math.Nat.{mul-add}
use Rattle.std.proofs.lemmas.Bool.{true≢false}
use Rattle.std.proofs.lemmas.Bool.Decides.{nat_tests}
use Rattle.srt_sub.specs.Subscribing.{Report, Acked, Dropped, Media, KeepAlive, Note, Sent, Renewed, Presumed, is_media, sampled, grown, credit, credit_after}
use Rattle.srt_sub.specs.Subscribing.{last_media, may_resend, resends, renewal_due, renewed_notes}
use Rattle.srt_sub.specs.Counting.{resent_in, fresh_in, renewals_in}
use Rattle.srt_sub.specs.Stands.{AreCredited, IsCredit}
use Rattle.srt_sub.specs.inside.Turns.{phase_now, sends_lost}
use Rattle.srt_sub.specs.Emission.{resends_in}
use Rattle.srt_sub.specs.declared.resend_credit.Credit.{Credit}
use Rattle.srt_sub.specs.declared.session.Phase.{Phase}
use Rattle.srt_sub.specs.declared.session.Phase.TheVariants.{Lost, New}
use Rattle.srt_sendbuf.specs.Sending.{Sending}

-- the bound at the opening and later
pub credited_first : (percent : Option ℕ) (time : ℕ) → AreCredited percent time []
credited_first percent time =
    record { before = omega arith; rare = omega arith; bounded = λ p e. omega arith; spent = λ p e lt. absurd (omega (arith, lt)) }

pub credited_later : (percent : Option ℕ) (time later : ℕ) (notes : List Note) → time ≤ later → AreCredited percent time notes → AreCredited percent later notes
credited_later percent time later notes le h =
    record { before = omega (arith, h.before, le); rare = omega (arith, h.rare, le); bounded = h.bounded; spent = h.spent }

-- the bound after an ACK
pub credited_reported : (percent : Option ℕ) (time : ℕ) (rest : List ℕ) (notes : List Note)
    → AreCredited percent time notes → AreCredited percent time (sampled rest ++ notes)
credited_reported percent time [] notes h = h
credited_reported percent time (rtt ∷ []) notes h = h
credited_reported percent time (rtt ∷ variance ∷ []) notes h = h
credited_reported percent time (rtt ∷ variance ∷ window ∷ rest) notes h = h

pub credited_grown : (percent : Option ℕ) (time : ℕ) (grows : Bool) (notes : List Note)
    → AreCredited percent time notes → AreCredited percent time (grown time grows ++ notes)
credited_grown percent time true notes h = h
credited_grown percent time false notes h = h

-- the bound after a resend
has_credit : (p : ℕ) (percent : Option ℕ) (notes : List Note) → percent ≡ Some p → may_resend percent notes ≡ true → 100 ≤ credit p notes
has_credit p percent notes e m =
    let b : may_resend (Some p) notes ≡ true = subst (λ (o : Option ℕ). may_resend o notes ≡ true) e m in
    grind (arith, nat_tests, b)

bound_again : (a c x y r : ℕ) → x ≡ y → 100 ≤ c → 100 * a + c ≤ 6_400 + y + 100 * r → 100 * (a + 1) + (c - 100) ≤ 6_400 + x + 100 * r
bound_again a c x y r e some le = omega (arith, e, some, le)

none_more : (n : ℕ) → n + 0 ≡ n
none_more n = omega arith

pub credited_again : (percent : Option ℕ) (time n origin : ℕ) (payload : List ℕ) (notes : List Note) → may_resend percent notes ≡ true
    → AreCredited percent time notes
    → AreCredited percent time (Sent time (Media n true origin payload) ∷ notes)
credited_again percent time n origin payload notes m h =
    record {
      before = omega arith;
      rare = h.rare;
      bounded = λ p e.
          bound_again (resent_in notes) (credit p notes) (p * (fresh_in notes + 0)) (p * fresh_in notes) (renewals_in notes)
          (ap (λ k. p * k) (none_more (fresh_in notes))) (has_credit p percent notes e m) (h.bounded p e);
      spent = λ p e lt. h.rare;
    }

-- the bound after a new packet
bound_new : (a c p x y r : ℕ) → x ≡ y + p → 100 * a + c ≤ 6_400 + y + 100 * r → 100 * (a + 0) + min (c + p) 819_200 ≤ 6_400 + x + 100 * r
bound_new a c p x y r e le = omega (arith, e, le)

pub credited_new : (percent : Option ℕ) (time n origin : ℕ) (payload : List ℕ) (notes : List Note)
    → AreCredited percent time notes → AreCredited percent time (Sent time (Media n false origin payload) ∷ notes)
credited_new percent time n origin payload notes h =
    record {
      before = omega arith;
      rare = h.rare;
      bounded = λ p e.
          bound_new (resent_in notes) (credit p notes) p (p * (fresh_in notes + 1)) (p * fresh_in notes) (renewals_in notes)
          (one_times p (fresh_in notes)) (h.bounded p e);
      spent = λ p e lt. h.rare;
    }
  where
    once : (p : ℕ) → p * 1 ≡ p
    once p = omega arith

    one_times : (p f : ℕ) → p * (f + 1) ≡ p * f + p
    one_times p f = mul-add p f 1 ∙ ap (λ k. p * f + k) (once p)

pub credited_media : (percent : Option ℕ) (time n origin : ℕ) (again : Bool) (payload : List ℕ) (notes : List Note)
    → (again ≡ true → may_resend percent notes ≡ true) → AreCredited percent time notes
    → AreCredited percent time (Sent time (Media n again origin payload) ∷ notes)
credited_media percent time n origin true payload notes may h = credited_again percent time n origin payload notes (may refl) h
credited_media percent time n origin false payload notes may h = credited_new percent time n origin payload notes h

-- the bound after the credit was raised
pub credited_renewed : (percent : Option ℕ) (time : ℕ) (notes : List Note)
    → AreCredited percent time notes → AreCredited percent time (renewed_notes percent time notes)
credited_renewed None time notes h = h
credited_renewed (Some p) time notes h = by (nat_lt (credit p notes) 100) (nat_le 20_000 (time - last_media notes)) refl refl
  where
    by : (a b : Bool) → nat_lt (credit p notes) 100 ≡ a → nat_le 20_000 (time - last_media notes) ≡ b
        → AreCredited (Some p) time (if a && b then Renewed time ∷ notes else notes)
    by true true low long =
        let few : credit p notes < 100 = grind (arith, nat_tests, low) in
        let wait : 20_000 ≤ time - last_media notes = grind (arith, nat_tests, long) in
        let last = h.spent p refl few in
        record {
          before = h.before;
          rare = omega (arith, last, wait);
          bounded = λ q e. let le = h.bounded q e in omega (arith, le);
          spent = λ q e lt. absurd (omega (arith, lt));
        }
    by true false low long = h
    by false b low long = h

-- the number of packets that may be sent again
pub resends_one : (percent : Option ℕ) (q time n origin : ℕ) (payload : List ℕ) (notes : List Note) → may_resend percent notes ≡ true
    → resends percent (suc q) notes ≡ suc (resends percent q (Sent time (Media n true origin payload) ∷ notes))
resends_one None q time n origin payload notes m = refl
resends_one (Some p) q time n origin payload notes m =
    let some : 100 ≤ credit p notes = grind (arith, nat_tests, m) in
    omega (arith, some)

pub resends_none : (percent : Option ℕ) (places : ℕ) (notes : List Note) → may_resend percent notes ≡ false → resends percent places notes ≡ 0
resends_none None places notes m = absurd (true≢false m)
resends_none (Some p) places notes m =
    let few : credit p notes < 100 = grind (arith, nat_tests, m) in
    omega (arith, few)

pub resends_few : (percent : Option ℕ) (places : ℕ) (notes : List Note) → resends percent places notes ≤ places
resends_few None places notes = omega arith
resends_few (Some p) places notes = omega arith

-- whether the credit is raised
false_last : (a : Bool) → (a && false) ≡ false
false_last true = refl
false_last false = refl

pub renewal_once : (percent : Option ℕ) (time : ℕ) (notes : List Note) → renewal_due percent time (renewed_notes percent time notes) ≡ false
renewal_once None time notes = refl
renewal_once (Some p) time notes = by (renewal_due (Some p) time notes) refl
  where
    by : (b : Bool) → renewal_due (Some p) time notes ≡ b → renewal_due (Some p) time (if b then Renewed time ∷ notes else notes) ≡ false
    by true e = refl
    by false e = e

pub not_renewed : (percent : Option ℕ) (time : ℕ) (notes : List Note) → renewal_due percent time notes ≡ false → renewed_notes percent time notes ≡ notes
not_renewed percent time notes e = ap (λ (b : Bool). if b then Renewed time ∷ notes else notes) e

pub renewal_said : (percent : Option ℕ) (time : ℕ) (r : Report) (notes : List Note) → is_media r ≡ false → renewal_due percent time notes ≡ false
    → renewal_due percent time (Sent time r ∷ notes) ≡ false
renewal_said None time r notes m e = refl
renewal_said (Some p) time (Acked mark) notes m e = e
renewal_said (Some p) time (Dropped run) notes m e = e
renewal_said (Some p) time (Media n again origin payload) notes m e = absurd (true≢false m)
renewal_said (Some p) time KeepAlive notes m e = e

pub renewal_presumed : (percent : Option ℕ) (time : ℕ) (notes : List Note)
    → renewal_due percent time notes ≡ false → renewal_due percent time (Presumed ∷ notes) ≡ false
renewal_presumed None time notes e = refl
renewal_presumed (Some p) time notes e = e

none_since : (time : ℕ) → nat_le 20_000 (time - time) ≡ false
none_since time = grind (arith, nat_tests)

pub renewal_gave : (percent : Option ℕ) (time : ℕ) (r : Report) (notes : List Note) → is_media r ≡ true → renewal_due percent time (Sent time r ∷ notes) ≡ false
renewal_gave None time r notes m = refl
renewal_gave (Some p) time (Acked mark) notes m = absurd (true≢false (sym m))
renewal_gave (Some p) time (Dropped run) notes m = absurd (true≢false (sym m))
renewal_gave (Some p) time (Media n again origin payload) notes m =
    ap (λ b. nat_lt (credit_after p (Media n again origin payload) (credit p notes)) 100 && b) (none_since time) ∙ false_last _
renewal_gave (Some p) time KeepAlive notes m = absurd (true≢false (sym m))

-- whether the credit is raised, by its value and by the time since the last data packet
pub renewal_early : (percent : Option ℕ) (time : ℕ) (notes : List Note) → time - last_media notes < 20_000 → renewed_notes percent time notes ≡ notes
renewal_early None time notes lt = refl
renewal_early (Some p) time notes lt =
    let b : nat_le 20_000 (time - last_media notes) ≡ false = grind (arith, nat_tests, lt) in
    not_renewed (Some p) time notes (ap (λ x. nat_lt (credit p notes) 100 && x) b ∙ false_last _)

pub renewal_enough : (percent : Option ℕ) (time : ℕ) (notes : List Note) → may_resend percent notes ≡ true → renewed_notes percent time notes ≡ notes
renewal_enough None time notes m = refl
renewal_enough (Some p) time notes m =
    let b : nat_lt (credit p notes) 100 ≡ false = grind (arith, nat_tests, m) in
    not_renewed (Some p) time notes (ap (λ x. x && nat_le 20_000 (time - last_media notes)) b)

pub renewal_now : (percent : Option ℕ) (time : ℕ) (notes : List Note) → may_resend percent notes ≡ false → 20_000 ≤ time - last_media notes
    → renewed_notes percent time notes ≡ Renewed time ∷ notes
renewal_now None time notes m le = absurd (true≢false m)
renewal_now (Some p) time notes m le =
    let a : nat_lt (credit p notes) 100 ≡ true = grind (arith, nat_tests, m) in
    let b : nat_le 20_000 (time - last_media notes) ≡ true = grind (arith, nat_tests, le) in
    rw (a, b) refl

-- a packet without data changes no credit
pub resends_said : (phase : Phase) (percent : Option ℕ) (places time : ℕ) (r : Report) (notes : List Note)
    → is_media r ≡ false → resends_in phase percent places (Sent time r ∷ notes) ≡ resends_in phase percent places notes
resends_said New percent places time r notes m = refl
resends_said Lost None places time r notes m = refl
resends_said Lost (Some p) places time (Acked mark) notes m = refl
resends_said Lost (Some p) places time (Dropped run) notes m = refl
resends_said Lost (Some p) places time (Media n again origin payload) notes m = absurd (true≢false m)
resends_said Lost (Some p) places time KeepAlive notes m = refl

credit_same : (p time : ℕ) (r : Report) (notes : List Note) → is_media r ≡ false → credit p (Sent time r ∷ notes) ≡ credit p notes
credit_same p time (Acked mark) notes m = refl
credit_same p time (Dropped run) notes m = refl
credit_same p time (Media n again origin payload) notes m = absurd (true≢false m)
credit_same p time KeepAlive notes m = refl

pub credit_said : (percent : Option ℕ) (c : Credit) (time : ℕ) (r : Report) (notes : List Note)
    → is_media r ≡ false → IsCredit percent c notes → IsCredit percent c (Sent time r ∷ notes)
credit_said percent c time r notes m h =
    record { percent_is = h.percent_is; hundredths_are = λ p e. h.hundredths_are p e ∙ sym (credit_same p time r notes m) }

-- a packet that was sent again was allowed
pub was_allowed : (phase : Phase) (percent : Option ℕ) (notes : List Note) (r : Sending)
    → sends_lost (phase_now phase percent notes) r ≡ true → may_resend percent notes ≡ true
was_allowed New percent notes r e = absurd (true≢false (sym e))
was_allowed Lost percent notes r e = by (may_resend percent notes) refl e
  where
    by : (b : Bool) → may_resend percent notes ≡ b → sends_lost (if b then Lost else New) r ≡ true → may_resend percent notes ≡ true
    by true m k = m
    by false m k = absurd (true≢false (sym k))
