use Rattle.srt_pub.proofs.session.Publisher.receive.Goals as goal
use Rattle.std.proofs.Common.{◌≡◌, ◌∷◌, ℕ, ℤ, pos, ◌+ℤ◌, ap, sym, subst, ◌∙◌, length, arith, rules, w64, SFits}
use Rattle.std.specs.Prelude.{Option}
use Rattle.std.proofs.lemmas.Int.{to_z-of_z}
use Rattle.srt_types.specs.Window.{word_of, counted_from, in_window}
use Rattle.srt_types.specs.Lift.{stamped_from}
use Rattle.srt_types.specs.declared.shared.Mode.{Mode}
use Rattle.srt_types.specs.declared.shared.Mode.TheVariants.{Buffer}
use Rattle.srt_recvbuf.specs.Receiving.{put_of, received, with_number}
use Rattle.srt_recvbuf.specs.declared.buffer.Put.{Put}
use Rattle.srt_recvbuf.specs.declared.buffer.Put.TheVariants.{Outside}
use Rattle.srt_pub.specs.Publishing.{Publishing, Arrived, Terms, due_in, correction_of, region_in, with_data}
use Rattle.srt_pub.specs.Stands.{StandsFor}
use Rattle.srt_pub.specs.Counting.{Counted, delivered_in, with_put}
use Rattle.srt_pub.specs.declared.counts.Counts.{Counts}
use Rattle.srt_pub.specs.declared.region.Region.{Region}
use Rattle.srt_pub.proofs.Counting.{counts_one, counts_put, passes_data}
use Rattle.srt_pub.proofs.Goings.{after_data}
use Rattle.srt_pub.proofs.Windows.{no_number, no_top}

pub returns-in_default-clause-stands : goal.returns-in_default-clause-stands
returns-in_default-clause-stands c terms initial opening first caller time m n h =
    let r = m.receiving in
    let region = c.region_of-region.result in
    let at = c.saturating_sub-time.result in
    let moment : at ≡ time = omega (arith, n, h.agreed.opening_is, c.saturating_sub-time.ensures) in
    let due = due_in terms.mode terms (correction_of terms m.notes) time (stamped_from first c.args.stamp) in
    let none = no_number initial c.args.word r.front terms.width (no_top c.args.word c.in_default.ensures.some.1) in
    let S : Publishing → Type 0 = λ x. StandsFor terms initial opening first caller
    (record c.args.self.now { log = c.note_data.new.self; counts = c.come.new.self }) x in
    let outside : S (record { receiving = r; notes = Arrived at region Outside ∷ m.notes; seen = m.seen }) = record {
      agreed = h.agreed;
      buffer = h.buffer;
      log = c.note_data.ensures region _ _ _ _ _ h.log;
      orderly = h.orderly;
      seen = h.seen;
      narrow = h.narrow;
      counts = subst (λ (k : Counts). Counted k r.arrivals (delivered_in r) r.front (Arrived at region Outside ∷ m.notes)) (sym c.come.ensures)
          (counts_one at region Outside c.args.self.now.counts r.arrivals (delivered_in r) r.front m.notes h.counts);
    } in
    let placed = subst
    (λ (o : Option ℕ). S (record {
      receiving = with_number o c.args.payload.bytes.now due r;
      notes = Arrived at region (put_of o r) ∷ m.notes;
      seen = m.seen;
    }))
    (sym none) outside in
    let o = in_window (counted_from initial c.args.word) r.front terms.width in
    let timed = subst
    (λ (x : ℕ). S (record {
      receiving = with_number o c.args.payload.bytes.now due r;
      notes = Arrived x region (put_of o r) ∷ m.notes;
      seen = m.seen;
    }))
    moment placed in
    subst
    (λ (q : Region). S (record {
      receiving = with_number o c.args.payload.bytes.now due r;
      notes = Arrived time q (put_of o r) ∷ m.notes;
      seen = m.seen;
    }))
    (c.region_of-region.ensures terms initial opening first caller m h) timed

in_buffer : (terms : Terms) (correction : ℤ) (time stamp : ℕ) → terms.mode ≡ Buffer → due_in terms.mode terms correction time stamp ≡ pos 0
in_buffer terms correction time stamp e = ap (λ (d : Mode). due_in d terms correction time stamp) e

pub returns-clause-stands : goal.returns-clause-stands
returns-clause-stands c terms initial opening first caller time m n h =
    let r = m.receiving in
    let width = terms.width in
    let word = word_of c.in-Some.number in
    let region = c.region_of-region.result in
    let at = c.saturating_sub-time.result in
    let moment : at ≡ time = omega (arith, n, h.agreed.opening_is, c.saturating_sub-time.ensures) in
    let became = c.put-put.result in
    let stamp = stamped_from first c.args.stamp in
    let correction = correction_of terms m.notes in
    let due = due_in terms.mode terms correction time stamp in
    let k = after_data terms.mode width (counted_from initial word) c.args.payload.bytes.now due r c.args.payload.some (in_buffer terms correction time stamp)
    h.orderly in
    let a = h.agreed in
    let corrected : c.correction.result ≡ correction = c.correction.ensures.value terms _ _ _ _ h.log in
    let correction_fits : SFits w64 c.correction.result = search rules in
    let due_is = rw to_z-of_z at (c.due-due.ensures terms time a.mode_is a.delay_is (omega (arith, n, a.opening_is))) in
    let is : c.due-due.result ≡ pos opening +ℤ due = due_is
    ∙ ap (λ (x : ℤ). pos c.args.self.now.agreed.opening +ℤ due_in terms.mode terms x time (stamped_from c.args.self.now.agreed.first.word c.args.stamp))
    corrected
    ∙ ap (λ (x : ℕ). pos x +ℤ due_in terms.mode terms correction time (stamped_from c.args.self.now.agreed.first.word c.args.stamp)) a.opening_is
    ∙ ap (λ (x : ℕ). pos opening +ℤ due_in terms.mode terms correction time (stamped_from x c.args.stamp)) a.stamp_is in
    let fits : SFits w64 c.due-due.result = search rules in
    let put = rw to_z-of_z at (c.put-put.ensures.stands width initial opening r due) in
    let m1 : Publishing = record { receiving = r; notes = Arrived at region became ∷ m.notes; seen = m.seen } in
    let o = in_window (counted_from initial word) r.front width in
    let arrived : Counted c.come.new.self r.arrivals (delivered_in r) r.front (Arrived at region became ∷ m.notes) =
    subst (λ (k : Counts). Counted k r.arrivals (delivered_in r) r.front (Arrived at region became ∷ m.notes)) (sym c.come.ensures)
    (counts_one at region became c.args.self.now.counts r.arrivals (delivered_in r) r.front m.notes h.counts) in
    let is_put = c.put-put.ensures.answer width initial opening r h.buffer in
    let stored : c.store.new.self ≡ with_put (put_of o r) (length c.args.payload.bytes.now) c.come.new.self =
    c.store.ensures ∙ ap (λ (k : Put). with_put k (length c.args.payload.bytes.now) c.come.new.self) is_put in
    let counts = subst
    (λ (k : Counts). Counted k (received width (counted_from initial word) c.args.payload.bytes.now due r).arrivals (delivered_in r) r.front
    (Arrived at region became ∷ m.notes))
    (sym stored) (counts_put o c.args.payload.bytes.now due r c.come.new.self (delivered_in r) r.front (Arrived at region became ∷ m.notes) arrived) in
    let S : Publishing → Type 0 = λ x. StandsFor terms initial opening first caller c.follow.new.self x in
    let P : ℕ → Type 0 = λ x. S (with_data terms time stamp (counted_from initial x) c.args.payload.bytes.now m) in
    let stored_in = received width (counted_from initial word) c.args.payload.bytes.now due r in
    let lies : region ≡ region_in width (counted_from initial word) r = c.region_of-region.ensures terms initial opening first caller m h
    ∙ sym (ap (λ (x : ℕ). region_in width (counted_from initial x) r) c.in-Some.ensures.value) in
    let followed = c.follow.ensures.stands terms initial opening first caller m1
    (received width (counted_from initial word) c.args.payload.bytes.now due r) (c.front-front.ensures width initial opening r h.buffer)
    (c.ack_point-point.ensures width initial opening r h.buffer) (passes_data width (counted_from initial word) c.args.payload.bytes.now due r)
    (record {
      agreed = h.agreed;
      buffer = put is h.buffer;
      log = c.note_data-2.ensures region _ _ _ _ _ h.log;
      orderly = k.orderly;
      seen = h.seen;
      narrow = h.narrow;
      counts = counts;
      goes_on = k.goes_on;
    }) in
    let timed = subst (λ (x : ℕ). S (record { receiving = stored_in; notes = Arrived x region became ∷ m.notes; seen = m.seen })) moment followed in
    let placed = subst (λ (q : Region). S (record { receiving = stored_in; notes = Arrived time q became ∷ m.notes; seen = m.seen })) lies timed in
    let lies_in = region_in width (counted_from initial word) r in
    subst P c.in-Some.ensures.value
    (subst (λ (x : Put). S (record { receiving = stored_in; notes = Arrived time lies_in x ∷ m.notes; seen = m.seen })) is_put placed)
