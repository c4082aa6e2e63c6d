-- Buffers after calls that marked packets as lost.
use Rattle.std.proofs.Common.{◌≡◌, ℕ, ◌+◌, ◌-◌, ◌*◌, ◌/◌, ◌<◌, ◌≤◌, min, max, Bool, true, false, ◌&&◌, ◌||◌, if◌then◌else◌, Some, List, []}
use Rattle.std.proofs.Common.{inl, inr, ◌⊎◌, refl, sym, ap, ◌∙◌, arith}
use Rattle.std.specs.Prelude.{nat_lt, nat_le}
use Rattle.std.proofs.lemmas.Bool.{cases_lt, true≢false}
use Rattle.std.proofs.lemmas.Bool.Decides.{nat_tests}
use Rattle.std.proofs.lemmas.Nat.{mul-le}
use Rattle.std.proofs.Math.Nat.{suc-mul}
use Rattle.srt_types.specs.Window.{word_of}
use Rattle.srt_types.specs.Counts.{message_of}
use Rattle.srt_types.specs.Runs.{Range, is_requested, ranges_from}
use Rattle.srt_loss.specs.Window.{is_in_part}
use Rattle.srt_sendbuf.specs.Sending.{Sending, front, next, is_in_span, is_marked, requested}
use Rattle.srt_sendbuf.specs.Places.{lost_at}
use Rattle.srt_sendbuf.specs.Stands.{StandsFor, HasMarked, TakesParts}
use Rattle.srt_sendbuf.specs.declared.buffer.SendBuf.{SendBuf}
use Rattle.srt_sendbuf.proofs.Asks.{alone, swap}
use Rattle.srt_sendbuf.proofs.Named.{together}

pub nothing_marked : (b : SendBuf) → HasMarked (λ d. false) b b
nothing_marked b =
    record {
      same = record { width = refl; length = refl; kept = λ d. refl };
      front_is = refl;
      behind_is = refl;
      sent_is = refl;
      message_is = refl;
      next_message_is = refl;
      lost_is = λ d lt. refl;
      within = λ h. h;
      lowest = λ h. h;
    }

-- two calls in sequence
pub both_marked : (p q : ℕ → Bool) (a b c : SendBuf) → HasMarked p a b → HasMarked q b c → HasMarked (λ d. p d || q d) a c
both_marked p q a b c m n =
    record {
      same = record { width = n.same.width ∙ m.same.width; length = n.same.length ∙ m.same.length; kept = λ d. n.same.kept d ∙ m.same.kept d };
      front_is = n.front_is ∙ m.front_is;
      behind_is = n.behind_is ∙ m.behind_is;
      sent_is = n.sent_is ∙ m.sent_is;
      message_is = n.message_is ∙ m.message_is;
      next_message_is = n.next_message_is ∙ m.next_message_is;
      lost_is = λ d lt. n.lost_is d (on d lt) ∙ ap (λ t. q d || t) (m.lost_is d lt) ∙ swap (q d) (p d) (lost_at a.ring d);
      within = λ h d lt. n.within (λ k l. m.within h k (back k l)) d (on d lt);
      lowest = λ h. n.lowest (m.lowest h);
    }
  where
    on : (d : ℕ) → d < a.sent → d < b.sent
    on d lt = let e = m.sent_is in omega (arith, e, lt)

    back : (d : ℕ) → d < b.sent → d < a.sent
    back d lt = let e = m.sent_is in omega (arith, e, lt)

pub marked_as : (p q : ℕ → Bool) (a b : SendBuf) → ((d : ℕ) → d < a.sent → q d ≡ p d) → HasMarked p a b → HasMarked q a b
marked_as p q a b e m =
    record {
      same = m.same;
      front_is = m.front_is;
      behind_is = m.behind_is;
      sent_is = m.sent_is;
      message_is = m.message_is;
      next_message_is = m.next_message_is;
      lost_is = λ d lt. m.lost_is d lt ∙ ap (λ t. t || lost_at a.ring d) (sym (e d lt));
      within = m.within;
      lowest = m.lowest;
    }

-- the record after a loss list whose numbers in flight are those of the marked places
pub requested_stands : (width initial : ℕ) (a b : SendBuf) (named : ℕ → Bool) (ranges : List Range) (r : Sending) → StandsFor width initial a r
    → HasMarked named a b → ((d : ℕ) → d < a.sent → is_requested ranges (front r + d) ≡ named d)
    → StandsFor width initial b (requested ranges r)
requested_stands width initial a b named ranges r h m e =
    record {
      width_is = m.same.width ∙ h.width_is;
      fields =
          record {
            word_is = ap word_of m.front_is ∙ h.fields.word_is;
            behind_is = m.behind_is ∙ h.fields.behind_is;
            queued_is = ap (λ n. front r + n) m.same.length ∙ h.fields.queued_is;
            flying_is = ap (λ n. front r + n) m.sent_is ∙ h.fields.flying_is;
            base_message_is = ap message_of m.message_is ∙ h.fields.base_message_is;
            end_message_is = ap message_of m.next_message_is ∙ h.fields.end_message_is;
            kept_is = λ d lt. m.same.kept d ∙ h.fields.kept_is d (let l = m.same.length in omega (arith, l, lt));
            lost_is = λ d lt. lost d (back d lt);
            within = λ d lt. m.within h.fields.within d (back d lt);
            lowest = m.lowest h.fields.lowest;
            in_order = h.fields.in_order;
          };
    }
  where
    back : (d : ℕ) → d < b.sent → d < a.sent
    back d lt = let s = m.sent_is in omega (arith, s, lt)

    flies : (d : ℕ) → d < a.sent → is_in_span (front r) (next r) (front r + d) ≡ true
    flies d lt = let n = h.fields.flying_is in grind (arith, nat_tests, n, lt)

    mixed : (x y s : Bool) → s ≡ true → (x || y) ≡ ((s && x) || y)
    mixed x y true e = refl
    mixed x y false e = absurd (true≢false (sym e))

    lost : (d : ℕ) → d < a.sent → lost_at b.ring d ≡ is_marked (requested ranges r).marks (front r + d)
    lost d lt =
        m.lost_is d lt
        ∙ ap (λ t. t || lost_at a.ring d) (sym (e d lt))
        ∙ ap (λ t. is_requested ranges (front r + d) || t) (h.fields.lost_is d lt)
        ∙ mixed (is_requested ranges (front r + d)) (is_marked r.marks (front r + d)) (is_in_span (front r) (next r) (front r + d)) (flies d lt)

-- one part: the places that are marked, and the bounds of the lost places
pub part_lost : (first last d : ℕ) (lost lost2 : Bool)
    → lost2 ≡ (if nat_le first d && nat_lt d (last + 1) then true else lost) → lost2 ≡ (is_in_part (Some (first, last)) d || lost)
part_lost first last d lost lost2 ls = ls ∙ either (nat_le first d) (nat_lt d (last + 1)) (nat_le d last) lost upto
  where
    upto : nat_lt d (last + 1) ≡ nat_le d last
    upto = grind (arith, nat_tests)

    either : (a b c l : Bool) → b ≡ c → (if a && b then true else l) ≡ ((a && c) || l)
    either true true c l e = ap (λ t. t || l) e
    either true false c l e = ap (λ t. t || l) e
    either false b c l e = refl

outside : (first last d : ℕ) (lost lost2 : Bool)
    → lost2 ≡ (if nat_le first d && nat_lt d (last + 1) then true else lost) → (d < first) ⊎ (last < d) → lost2 ≡ lost
outside first last d lost lost2 ls (inl a) =
    let e : nat_le first d ≡ false = grind (arith, nat_tests, a) in ls ∙ ap (λ t. if t && nat_lt d (last + 1) then true else lost) e
outside first last d lost lost2 ls (inr a) =
    let e : (nat_le first d && nat_lt d (last + 1)) ≡ false = grind (arith, nat_tests, a) in ls ∙ ap (λ t. if t then true else lost) e

pub part_within : (first last low high low2 high2 flying : ℕ) (lost lost2 : ℕ → Bool)
    → ((d : ℕ) → lost2 d ≡ (if nat_le first d && nat_lt d (last + 1) then true else lost d))
    → (low < high → (low2 ≡ min low first) × (high2 ≡ max high (last + 1))) → (high ≤ low → (low2 ≡ first) × (high2 ≡ last + 1))
    → ((d : ℕ) → d < flying → lost d ≡ true → (low ≤ d) × (d < high)) → (d : ℕ) → d < flying → lost2 d ≡ true
    → (low2 ≤ d) × (d < high2)
part_within first last low high low2 high2 flying lost lost2 ls some none within d lt b = inside (cases_lt d first) (cases_lt last d) (cases_lt low high)
  where
    old : lost d ≡ true → (low < high) ⊎ (high ≤ low) → (low2 ≤ d) × (d < high2)
    old l (inl c) = let s = some c in let i = within d lt l in (omega (arith, s.0, i.0), omega (arith, s.1, i.1))
    old l (inr c) = let i = within d lt l in absurd (omega (arith, c, i.0, i.1))

    new : first ≤ d → d ≤ last → (low < high) ⊎ (high ≤ low) → (low2 ≤ d) × (d < high2)
    new f l (inl c) = let s = some c in (omega (arith, s.0, f), omega (arith, s.1, l))
    new f l (inr c) = let s = none c in (omega (arith, s.0, f), omega (arith, s.1, l))

    inside : (d < first) ⊎ (first ≤ d) → (last < d) ⊎ (d ≤ last) → (low < high) ⊎ (high ≤ low) → (low2 ≤ d) × (d < high2)
    inside (inl f) l c = old (sym (outside first last d (lost d) (lost2 d) (ls d) (inl f)) ∙ b) c
    inside (inr f) (inl l) c = old (sym (outside first last d (lost d) (lost2 d) (ls d) (inr l)) ∙ b) c
    inside (inr f) (inr l) c = new f l c

pub part_lowest : (first last low high low2 high2 : ℕ) (lost lost2 : ℕ → Bool) → first ≤ last
    → ((d : ℕ) → lost2 d ≡ (if nat_le first d && nat_lt d (last + 1) then true else lost d))
    → (low < high → (low2 ≡ min low first) × (high2 ≡ max high (last + 1))) → (high ≤ low → (low2 ≡ first) × (high2 ≡ last + 1))
    → (low < high → lost low ≡ true)
    → lost2 low2 ≡ true
part_lowest first last low high low2 high2 lost lost2 le ls some none lowest = lowest2 (cases_lt low high) (cases_lt low first)
  where
    at_first : lost2 first ≡ true
    at_first =
        let e : (nat_le first first && nat_lt first (last + 1)) ≡ true = grind (arith, nat_tests, le) in
        ls first ∙ ap (λ t. if t then true else lost first) e

    lowest2 : (low < high) ⊎ (high ≤ low) → (low < first) ⊎ (first ≤ low) → lost2 low2 ≡ true
    lowest2 (inl c) (inl a) =
        let s = some c in
        let e : low2 ≡ low = omega (arith, s.0, a) in
        ap lost2 e ∙ outside first last low (lost low) (lost2 low) (ls low) (inl a) ∙ lowest c
    lowest2 (inl c) (inr a) = let s = some c in let e : low2 ≡ first = omega (arith, s.0, a) in ap lost2 e ∙ at_first
    lowest2 (inr c) a = let s = none c in ap lost2 s.0 ∙ at_first

-- ranges that are read from a loss list
pub taken_nothing : (b : SendBuf) (list left : List Range) → left ≡ list → TakesParts b b list left
taken_nothing b list left e =
    (λ d. false, nothing_marked b, λ initial from place w lt. ap (λ xs. is_requested (ranges_from initial xs) (from + place)) (sym e))

pub taken_both : (a b c : SendBuf) (list between left : List Range) → TakesParts a b list between → TakesParts b c between left → TakesParts a c list left
taken_both a b c list between left s t = (
  λ d. s.0 d || t.0 d,
  both_marked s.0 t.0 a b c s.1 t.1,
  λ initial from place w lt.
      s.2 initial from place w lt
      ∙ ap (λ x. s.0 place || x) (t.2 initial from place (w ∙ sym (ap word_of s.1.front_is)) (let e = s.1.sent_is in omega (arith, e, lt)))
      ∙ together (s.0 place) (t.0 place) (is_requested (ranges_from initial left) (from + place)),
)

pub taken_all : (width initial : ℕ) (a b : SendBuf) (list left : List Range) (r : Sending)
    → StandsFor width initial a r → TakesParts a b list left → left ≡ [] → StandsFor width initial b (requested (ranges_from initial list) r)
taken_all width initial a b list left r h t e =
    requested_stands width initial a b t.0 (ranges_from initial list) r h t.1
    (λ d lt. t.2 initial (front r) d (sym h.fields.word_is) lt ∙ ap (λ xs. t.0 d || is_requested (ranges_from initial xs) (front r + d)) e ∙ alone (t.0 d))

-- each step makes at most as many marks as there are packets in flight
pub one_turn_more : (turns first before after sent sent2 : ℕ)
    → before ≤ first + turns * sent → after ≤ before + sent2 → sent2 ≡ sent → after ≤ first + (turns + 1) * sent
one_turn_more turns first before after sent sent2 b a e =
    let more : (turns + 1) * sent ≡ turns * sent + sent = ap (λ n. n * sent) (omega arith) ∙ suc-mul turns sent in
    omega (arith, b, a, e, more)

pub turns_in_all : (turns all left first after sent front next : ℕ)
    → 365 * turns + left ≤ all → after ≤ first + (turns + 1) * sent → front + sent ≡ next → after ≤ first + (all / 365 + 1) * (next - front)
turns_in_all turns all left first after sent front next t a e =
    let more : (turns + 1) * sent ≤ (all / 365 + 1) * (next - front) =
    mul-le (turns + 1) sent (all / 365 + 1) (next - front) (omega (arith, t)) (omega (arith, e)) in
    omega (arith, a, more)
