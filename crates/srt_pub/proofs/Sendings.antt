-- The packets that an event sends.
use Rattle.std.proofs.Common.{◌≡◌, ◌≢◌, ℕ, ◌-◌, ◌<◌, ◌≤◌, max, Bool, true, false, cond, Option, List, [], ◌∷◌, ◌++◌, length, map, refl, sym, ap, ◌∙◌, arith}
use Rattle.std.specs.Prelude.{nat_le, nat_lt, ◌==◌}
use Rattle.std.proofs.lemmas.Bool.{eqb-true}
use Rattle.std.proofs.lemmas.Bool.Decides.{nat_tests}
use Rattle.std.proofs.lemmas.List.{map-append}
use Rattle.srt_types.specs.Given.{given}
use Rattle.srt_types.specs.declared.numbers.Seq31.{Seq31}
use Rattle.srt_loss.specs.Text.{range_of, loss_words}
use Rattle.srt_packet.specs.declared.encoded.EncodedPacket.{EncodedPacket}
use Rattle.srt_packet.specs.Encoded.{bytes_of}
use Rattle.srt_recvbuf.specs.Receiving.{end_of, ack_point}
use Rattle.srt_recvbuf.proofs.Points.{no_gaps}
use Rattle.srt_timing.specs.RoundTrip.{after_samples, nak_interval}
use Rattle.srt_pub.specs.Publishing.{Note, Sent, Report, KeepAlive, Terms, Publishing, samples, last_nak_of_all, last_sent, noted, nak_with}
use Rattle.srt_pub.specs.Publishing.{naks, naks_of, gaps_reported, runs_said, is_nak_due, keep_alives, keep_alive_if, acks, reports}
use Rattle.srt_pub.specs.Says.{says}
use Rattle.srt_pub.specs.Calls.{texts, listed, keep_alive_after}
use Rattle.srt_pub.proofs.Logs.{after_acks}

pub alive_is : (ack nak : Bool) (time : ℕ) (notes : List Note)
    → ack ≡ false → nak ≡ false → nat_le 1_000_000 (time - last_sent notes) ≡ true → keep_alive_after ack nak time notes ≡ KeepAlive ∷ []
alive_is true nak time notes a n e = cc
alive_is false true time notes a n e = cc
alive_is false false time notes a n e = ap keep_alive_if e

pub alive_not : (ack nak : Bool) (time : ℕ) (notes : List Note)
    → ack ≡ false → nak ≡ false → nat_le 1_000_000 (time - last_sent notes) ≡ false → keep_alive_after ack nak time notes ≡ []
alive_not true nak time notes a n e = cc
alive_not false true time notes a n e = cc
alive_not false false time notes a n e = ap keep_alive_if e

pub naks_by : (terms : Terms) (time : ℕ) (m : Publishing) (all : Bool)
    → all ≡ is_nak_due terms.callers time m.notes → naks terms time m ≡ nak_with all (runs_said (gaps_reported all terms.width m.seen m.receiving))
unfolding naks
naks_by terms time m all e = ap (λ (b : Bool). naks_of b terms.width m.seen m.receiving) (sym e)

-- if nothing is missing, no NAK is due
pub none_missing : (terms : Terms) (time : ℕ) (m : Publishing) (has_gaps : Bool)
    → has_gaps ≡ nat_lt (ack_point terms.width m.receiving) (end_of m.receiving.arrivals) → has_gaps ≡ false → naks terms time m ≡ []
unfolding naks
none_missing terms time m has_gaps tells none = by (is_nak_due terms.callers time m.notes)
  where
    full : end_of m.receiving.arrivals ≤ ack_point terms.width m.receiving
    full = let below = sym tells ∙ none in grind (arith, nat_tests)

    by : (all : Bool) → naks_of all terms.width m.seen m.receiving ≡ []
    by true = ap (λ (ns : List ℕ). nak_with true (runs_said ns)) (no_gaps terms.width m.receiving.front m.receiving (omega arith) full)
    by false = ap (λ (ns : List ℕ). nak_with false (runs_said ns)) (no_gaps terms.width (max m.seen m.receiving.front) m.receiving (omega arith) full)

two_words : (b : Bool) (x y z : ℕ) (more : List ℕ) → 0 < length (cond b (x ∷ []) (y ∷ z ∷ []) ++ more)
two_words true x y z more = omega arith
two_words false x y z more = omega arith

pub pairs_have_words : (pairs : List (Seq31 × Seq31)) → pairs ≢ [] → 0 < length (loss_words (map range_of pairs))
pairs_have_words [] ne = absurd (ne refl)
pairs_have_words (p ∷ pairs) ne = two_words _ _ _ _ _

-- a NAK doesn't depend on the ACK before it
pub naks_after : (terms : Terms) (time : ℕ) (m : Publishing) (rs : List Report) → samples (noted time rs m.notes) ≡ samples m.notes
    → last_nak_of_all (noted time rs m.notes) ≡ last_nak_of_all m.notes
    → naks terms time (record m { notes = noted time rs m.notes }) ≡ naks terms time m
unfolding naks
naks_after terms time m rs s n =
    ap
    (λ (xs : List ℕ).
    naks_of (nat_le (nak_interval (after_samples terms.callers xs)) (time - last_nak_of_all (noted time rs m.notes))) terms.width m.seen
    m.receiving)
    s
    ∙ ap (λ (x : ℕ). naks_of (nat_le (nak_interval (after_samples terms.callers (samples m.notes))) (time - x)) terms.width m.seen m.receiving) n

pub naks_same : (terms : Terms) (time : ℕ) (m : Publishing) → naks terms time (record m { notes = noted time (acks terms time m) m.notes }) ≡ naks terms time m
naks_same terms time m = let k = after_acks terms _ _ time m.notes in naks_after terms time m (acks terms time m) k.samples_are k.nak_is

pub noted_append : (time : ℕ) (xs ys : List Report) (notes : List Note) → noted time (xs ++ ys) notes ≡ noted time ys (noted time xs notes)
noted_append time [] ys notes = refl
noted_append time (x ∷ xs) ys notes = noted_append time xs ys (Sent time x ∷ notes)

pub alive_same : (caller initial time : ℕ) (ack nak : Bool) (p q : EncodedPacket) (xs ys : List Report) (notes : List Note)
    → texts (listed (given ack p)) ≡ map (says caller initial time) xs → texts (listed (given nak q)) ≡ map (says caller initial time) ys
    → keep_alive_after ack nak time (noted time ys (noted time xs notes)) ≡ keep_alives time (xs ++ ys) notes
alive_same caller initial time false nak p q (x ∷ xs) ys notes e f = cc
alive_same caller initial time true nak p q [] ys notes e f = cc
alive_same caller initial time true nak p q (x ∷ xs) ys notes e f = refl
alive_same caller initial time false false p q [] (y ∷ ys) notes e f = cc
alive_same caller initial time false true p q [] [] notes e f = cc
alive_same caller initial time false true p q [] (y ∷ ys) notes e f = refl
alive_same caller initial time false false p q [] [] notes e f = refl

pub reports_are : (terms : Terms) (time : ℕ) (m : Publishing) (xs ys zs : List Report)
    → xs ≡ acks terms time m → ys ≡ naks terms time m → zs ≡ keep_alives time (xs ++ ys) m.notes → (xs ++ ys) ++ zs ≡ reports terms time m
unfolding reports
reports_are terms time m xs ys zs a n k =
    ap (λ (w : List Report). (xs ++ ys) ++ w) k
    ∙ ap (λ (w : List Report). (w ++ ys) ++ keep_alives time (w ++ ys) m.notes) a
    ∙ ap (λ (w : List Report). (acks terms time m ++ w) ++ keep_alives time (acks terms time m ++ w) m.notes) n

texts_append : (u v : List EncodedPacket) → texts (u ++ v) ≡ texts u ++ texts v
texts_append [] v = refl
texts_append (x ∷ u) v = ap (λ (w : List (List ℕ)). bytes_of x ∷ w) (texts_append u v)

pub all_texts : (f : Report → List ℕ) (p q r : Option EncodedPacket) (xs ys zs : List Report) → texts (listed p) ≡ map f xs
    → texts (listed q) ≡ map f ys → texts (listed r) ≡ map f zs
    → texts ((listed p ++ listed q) ++ listed r) ≡ map f ((xs ++ ys) ++ zs)
all_texts f p q r xs ys zs a b c =
    texts_append (listed p ++ listed q) (listed r) ∙ ap (λ (w : List (List ℕ)). w ++ texts (listed r)) (texts_append (listed p) (listed q))
    ∙ ap (λ (w : List (List ℕ)). (w ++ texts (listed q)) ++ texts (listed r)) a
    ∙ ap (λ (w : List (List ℕ)). (map f xs ++ w) ++ texts (listed r)) b ∙ ap (λ (w : List (List ℕ)). (map f xs ++ map f ys) ++ w) c
    ∙ sym (map-append f (xs ++ ys) zs ∙ ap (λ (w : List (List ℕ)). w ++ map f zs) (map-append f xs ys))

pub no_items : {X : Type 0} (xs : List X) → (length xs == 0) ≡ true → xs ≡ []
no_items [] e = refl
no_items (x ∷ xs) e = let k = eqb-true _ _ e in absurd (omega (arith, k))

pub some_items : {X : Type 0} (xs : List X) → (length xs == 0) ≡ false → xs ≢ []
some_items [] e = cc
some_items (x ∷ xs) e = λ q. cc
