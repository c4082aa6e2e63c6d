-- The fields of ACKs represent the notes after each event.
use Rattle.std.proofs.Common.{◌≡◌, ◌⊎◌, inl, inr, ℕ, suc, zero, ◌+◌, ◌-◌, ◌<◌, ◌≤◌, min, Bool, true, false, cond, not, ◌||◌, ◌&&◌, Option}
use Rattle.std.proofs.Common.{Some, None, List, [], ◌∷◌, length, refl, sym, ap, subst, ◌∙◌, arith}
use Rattle.std.specs.Prelude.{nat_lt, nat_le, ◌==◌, slice_get}
use Rattle.std.proofs.lemmas.Bool.{cases_lt, lt-ltb, le-ltb}
use Rattle.std.proofs.lemmas.Bool.Decides.{nat_tests}
use Rattle.srt_pub.specs.Publishing.{Terms, Full, Note, Arrived, Sent, Confirmed, Report, FullAck, LightAck, fulls, is_confirmed, later_of}
use Rattle.srt_pub.specs.Publishing.{latest_confirmed, says_pair, is_known, arrived_since_ack, time_of, is_full_due, is_light_due, full_ack}
use Rattle.srt_pub.specs.Publishing.{ack_of, acks_at}
use Rattle.srt_pub.specs.Kept.{IsNotPast, AreFulls, AreAcks}
use Rattle.srt_pub.specs.declared.region.Region.{Region}
use Rattle.srt_recvbuf.specs.declared.buffer.Put.{Put}
use Rattle.srt_packet.specs.declared.writing.Rates.{Rates}

same_full : (f g : Full) → Some f ≡ Some g → f ≡ g
same_full f g e = cc

-- no Full ACK yet
nothing_there : (d : ℕ) (f : Full) → slice_get {X = Full} [] d ≡ Some f → ⊥
nothing_there d f e = cc

no_latest : (f : Full) (o : Option Full) → o ≡ None → o ≡ Some f → ⊥
no_latest f o none e = cc

known_first : (width : ℕ) → true ≡ ((0 == 0) && (0 + width - 0 == width))
known_first width = grind (arith, nat_tests)

pub acks_first : (width : ℕ) → AreAcks width 0 0 [] true 0 0 0
acks_first width =
    record {
      inside = omega arith;
      sent = record {
        numbered = λ d f e. absurd (nothing_there d f e);
        rising = λ d e f g le a b. absurd (nothing_there d f a);
        low = λ d f e. absurd (nothing_there d f e);
        high = λ d f e. absurd (nothing_there d f e);
      };
      confirmed = record { latest = λ f e. absurd (no_latest f _ refl e); below = λ index le. refl };
      known_is = known_first width;
      same_is = λ d f lt e. absurd (nothing_there d f e);
      last_is = refl;
      arrived_is = refl;
    }

pub acks_arrived : (time : ℕ) (region : Region) (put : Put) (width front point came' : ℕ) (notes : List Note) (known : Bool) (same last arrived : ℕ)
    → came' ≡ min (arrived + 1) 64 → AreAcks width front point notes known same last arrived
    → AreAcks width front point (Arrived time region put ∷ notes) known same last came'
acks_arrived time region put width front point came' notes known same last arrived more h =
    record {
      inside = h.inside;
      sent = h.sent;
      confirmed = record { latest = h.confirmed.latest; below = h.confirmed.below };
      known_is = h.known_is;
      same_is = h.same_is;
      last_is = h.last_is;
      arrived_is = omega (arith, h.arrived_is, more);
    }

-- a report that isn't a Full ACK
acks_said : (width front point time came' : ℕ) (r : Report) (notes : List Note) (known : Bool) (same last arrived : ℕ)
    → fulls (Sent time r ∷ notes) ≡ fulls notes → came' ≡ min (arrived_since_ack (Sent time r ∷ notes)) 64
    → AreAcks width front point notes known same last arrived
    → AreAcks width front point (Sent time r ∷ notes) known same last came'
acks_said width front point time came' r notes known same last arrived fs_are arrived_is h =
    let F : List Full → Type 0 = λ fs. AreFulls width front point fs in
    record {
      inside = h.inside;
      sent = subst F (sym fs_are) h.sent;
      confirmed =
          record {
            latest = λ f e. let k = h.confirmed.latest f e in (k.0, ap (λ fs. slice_get fs k.0) fs_are ∙ k.1);
            below = λ index le. h.confirmed.below index (subst (λ (fs : List Full). length fs ≤ index) fs_are le);
          };
      known_is = h.known_is;
      same_is = λ d f lt e. h.same_is d f lt (sym (ap (λ fs. slice_get fs d) fs_are) ∙ e);
      last_is = h.last_is ∙ sym (ap time_of fs_are);
      arrived_is = arrived_is;
    }

pub acks_light : (width front point time said : ℕ) (notes : List Note) (known : Bool) (same last arrived : ℕ)
    → AreAcks width front point notes known same last arrived → AreAcks width front point (Sent time (LightAck said) ∷ notes) known same last 0
acks_light width front point time said notes known same last arrived h =
    acks_said width front point time 0 (LightAck said) notes known same last arrived refl refl h

-- a report that isn't an ACK
pub record IsNoAck (time : ℕ) (r : Report) (notes : List Note) : Type 0 where
  pub fulls_are : fulls (Sent time r ∷ notes) ≡ fulls notes
  pub arrived_is : arrived_since_ack (Sent time r ∷ notes) ≡ arrived_since_ack notes

pub acks_other : (width front point time : ℕ) (r : Report) (notes : List Note) (known : Bool) (same last arrived : ℕ) → IsNoAck time r notes
    → AreAcks width front point notes known same last arrived
    → AreAcks width front point (Sent time r ∷ notes) known same last arrived
acks_other width front point time r notes known same last arrived n h =
    acks_said width front point time arrived r notes known same last arrived n.fulls_are (h.arrived_is ∙ sym (ap (λ k. min k 64) n.arrived_is)) h

-- the front or the acknowledgement point moves on: none of the Full ACKs reported the new pair
no_pair : (width front a front_steps point fp fa : ℕ) → 0 < front_steps + point → a + point ≤ front + front_steps + width → fp ≤ a
    → fp + fa ≤ front + width
    → ((a + point == fp) && (front + front_steps + width - (a + point) == fa)) ≡ false
no_pair width front a front_steps point fp fa more inside le up = grind (arith, nat_tests)

unknown : (width front a front_steps point : ℕ) (fs : List Full) (latest : Option Full) → 0 < front_steps + point
    → a + point ≤ front + front_steps + width → AreFulls width front a fs → ((f : Full) → latest ≡ Some f → (d : ℕ) × (slice_get fs d ≡ Some f))
    → is_known width (a + point) (front + front_steps + width - (a + point)) latest ≡ false
unknown width front a front_steps point fs None more inside h among = no_pair width front a front_steps point 0 width more inside (omega arith) (omega arith)
unknown width front a front_steps point fs (Some f) more inside h among =
    let k = among f refl in
    let high = h.high k.0 f k.1 in
    no_pair width front a front_steps point f.point f.available more inside high.0 high.1

none_below : (d : ℕ) (b : Bool) → b ≡ false → nat_lt d 0 ≡ b
none_below d b e = grind (arith, nat_tests)

pub acks_moved : (width front a front_steps point : ℕ) (notes : List Note) (known : Bool) (same last arrived : ℕ) → 0 < front_steps + point
    → a + point ≤ front + front_steps + width → AreAcks width front a notes known same last arrived
    → AreAcks width (front + front_steps) (a + point) notes false 0 last arrived
acks_moved width front a front_steps point notes known same last arrived more inside h =
    record {
      inside = inside;
      sent =
          record {
            numbered = h.sent.numbered;
            rising = h.sent.rising;
            low = h.sent.low;
            high = λ d f e. let k = h.sent.high d f e in (omega (arith, k.0), omega (arith, k.1));
          };
      confirmed = h.confirmed;
      known_is = sym (unknown width front a front_steps point (fulls notes) (latest_confirmed notes) more inside h.sent h.confirmed.latest);
      same_is = λ d f lt e. let k = h.sent.high d f e in none_below d _ (no_pair width front a front_steps point f.point f.available more inside k.0 k.1);
      last_is = h.last_is;
      arrived_is = h.arrived_is;
    }

-- a Full ACK is sent, which reports the current pair
reads : (d : ℕ) (x f : Full) (fs : List Full) → slice_get (x ∷ fs) d ≡ Some f → ((d ≡ 0) × (x ≡ f)) ⊎ ((e : ℕ) × (d ≡ e + 1) × (slice_get fs e ≡ Some f))
reads zero x f fs e = inl (refl, same_full x f e)
reads (suc d) x f fs e = inr (d, omega arith, e)

not_past_itself : (x y : Full) → x ≡ y → IsNotPast x y
not_past_itself x y e =
    let p = ap (λ (f : Full). f.point) e in
    let a = ap (λ (f : Full). f.available) e in
    record { point = omega (arith, p); window = omega (arith, p, a) }

fulls_more : (width front a : ℕ) (x : Full) (fs : List Full) → x.index ≡ length fs → x.point ≡ a → x.point + x.available ≡ front + width
    → a ≤ front + width → AreFulls width front a fs
    → AreFulls width front a (x ∷ fs)
fulls_more width front a x fs index point window inside h =
    record {
      numbered = λ d f e. elim (reads d x f fs e) [
        | inl z ↦ let i = ap (λ (g : Full). g.index) z.1 in omega (arith, z.0, i, index)
        | inr k ↦ let n = h.numbered k.0 f k.2 in omega (arith, n, k.1)
      ];
      rising = λ d e f g le af ag. elim (reads d x f fs af) [
        | inl z ↦ elim (reads e x g fs ag) [
          | inl y ↦ not_past_itself g f (sym y.1 ∙ z.1)
          | inr k ↦
              let high = h.high k.0 g k.2 in
              let p = ap (λ (q : Full). q.point) z.1 in
              let v = ap (λ (q : Full). q.available) z.1 in
              record { point = omega (arith, high.0, p, point); window = omega (arith, high.1, p, v, window) }
        ]
        | inr j ↦ elim (reads e x g fs ag) [
          | inl y ↦ absurd (omega (arith, y.0, j.1, le))
          | inr k ↦ h.rising j.0 k.0 f g (omega (arith, j.1, k.1, le)) j.2 k.2
        ]
      ];
      low = λ d f e. elim (reads d x f fs e) [
        | inl z ↦ let p = ap (λ (q : Full). q.point) z.1 in let v = ap (λ (q : Full). q.available) z.1 in omega (arith, p, v, window)
        | inr k ↦ h.low k.0 f k.2
      ];
      high = λ d f e. elim (reads d x f fs e) [
        | inl z ↦ let p = ap (λ (q : Full). q.point) z.1 in let v = ap (λ (q : Full). q.available) z.1 in (omega (arith, p, point), omega (arith, p, v, window))
        | inr k ↦ h.high k.0 f k.2
      ];
    }

says_it : (a room fp fa : ℕ) → fp ≡ a → fa ≡ room → ((a == fp) && (room == fa)) ≡ true
says_it a room fp fa p v = grind (arith, nat_tests)

one_more : (d e same : ℕ) (b : Bool) → d ≡ e + 1 → d < 64 → nat_lt e same ≡ b → nat_lt d (min (same + 1) 64) ≡ b
one_more d e same b i lt h = grind (arith, nat_tests)

at_first : (d same : ℕ) (b : Bool) → d ≡ 0 → b ≡ true → nat_lt d (min (same + 1) 64) ≡ b
at_first d same b i h = grind (arith, nat_tests)

pub acks_full : (width front a time rtt variance room same' : ℕ) (rates : Rates) (notes : List Note) (known : Bool) (same last arrived : ℕ)
    → room ≡ front + width - a → same' ≡ min (same + 1) 64 → AreAcks width front a notes known same last arrived
    → AreAcks width front a (Sent time (FullAck (length (fulls notes)) a rtt variance room rates) ∷ notes) known same' time 0
acks_full width front a time rtt variance room same' rates notes known same last arrived is more h =
    let x : Full = record { index = length (fulls notes); time = time; point = a; available = room } in
    record {
      inside = h.inside;
      sent = fulls_more width front a x (fulls notes) refl refl (omega (arith, is, h.inside)) h.inside h.sent;
      confirmed =
          record {
            latest = λ f e. let k = h.confirmed.latest f e in (suc k.0, k.1);
            below = λ index le. h.confirmed.below index (omega (arith, le));
          };
      known_is = h.known_is;
      same_is = λ d f lt e. rw more (elim (reads d x f (fulls notes) e) [
        | inl z ↦
            let p = ap (λ (q : Full). q.point) z.1 in
            let v = ap (λ (q : Full). q.available) z.1 in
            at_first d same _ z.0 (says_it a (front + width - a) f.point f.available (sym p) (sym v ∙ is))
        | inr k ↦ one_more d k.0 same _ k.1 lt (h.same_is k.0 f (omega (arith, k.1, lt)) k.2)
      ]);
      last_is = refl;
      arrived_is = refl;
    }

-- a Full ACK is confirmed
none_before : (k s : Bool) (width front a fp fa : ℕ) → k ≡ ((a == 0) && (front + width - a == width))
    → s ≡ ((a == fp) && (front + width - a == fa)) → a ≤ front + width → fp ≤ a → fp + fa ≤ front + width → width ≤ fp + fa
    → (k || s) ≡ s
none_before k s width front a fp fa ki si inside le up low = grind (arith, nat_tests)

stays : (k s : Bool) (width front a fp fa gp ga : ℕ) → k ≡ ((a == gp) && (front + width - a == ga))
    → s ≡ ((a == fp) && (front + width - a == fa)) → a ≤ front + width → fp ≤ gp → fp + fa ≤ gp + ga → gp ≤ a → gp + ga ≤ front + width
    → (k || s) ≡ k
stays k s width front a fp fa gp ga ki si inside p w le up = grind (arith, nat_tests)

takes_over : (k s : Bool) (width front a fp fa gp ga : ℕ) → k ≡ ((a == gp) && (front + width - a == ga))
    → s ≡ ((a == fp) && (front + width - a == fa)) → a ≤ front + width → gp ≤ fp → gp + ga ≤ fp + fa → fp ≤ a → fp + fa ≤ front + width
    → (k || s) ≡ s
takes_over k s width front a fp fa gp ga ki si inside p w le up = grind (arith, nat_tests)

known_with : (width front a d : ℕ) (fs : List Full) (f : Full) (latest : Option Full) (k s : Bool) → AreFulls width front a fs
    → a ≤ front + width → slice_get fs d ≡ Some f → ((g : Full) → latest ≡ Some g → (e : ℕ) × (slice_get fs e ≡ Some g))
    → k ≡ is_known width a (front + width - a) latest → s ≡ says_pair a (front + width - a) f
    → (k || s) ≡ is_known width a (front + width - a) (later_of f latest)
known_with width front a d fs f None k s h inside at among ki si =
    let high = h.high d f at in
    none_before k s width front a f.point f.available ki si inside high.0 high.1 (h.low d f at) ∙ si
known_with width front a d fs f (Some g) k s h inside at among ki si =
    let e = among g refl in
    let i = h.numbered d f at in
    let j = h.numbered e.0 g e.1 in
    elim (cases_lt f.index g.index) [
      | inl lt ↦
          let n = h.rising e.0 d g f (omega (arith, i, j, lt)) e.1 at in
          let high = h.high e.0 g e.1 in
          stays k s width front a f.point f.available g.point g.available ki si inside n.point n.window high.0 high.1 ∙ ki
          ∙ sym (ap (λ (b : Bool). is_known width a (front + width - a) (cond b (Some g) (Some f))) (lt-ltb _ _ lt))
      | inr ge ↦
          let n = h.rising d e.0 f g (omega (arith, i, j, ge)) at e.1 in
          let high = h.high d f at in
          takes_over k s width front a f.point f.available g.point g.available ki si inside n.point n.window high.0 high.1 ∙ si
          ∙ sym (ap (λ (b : Bool). is_known width a (front + width - a) (cond b (Some g) (Some f))) (le-ltb _ _ ge))
    ]

among_later : (f g : Full) (latest : Option Full) (fs : List Full) (d : ℕ) → slice_get fs d ≡ Some f
    → ((x : Full) → latest ≡ Some x → (e : ℕ) × (slice_get fs e ≡ Some x)) → later_of f latest ≡ Some g
    → (e : ℕ) × (slice_get fs e ≡ Some g)
among_later f g None fs d at among is = (d, at ∙ is)
among_later f g (Some x) fs d at among is = elim (cases_lt f.index x.index) [
  | inl lt ↦ let e = among x refl in (e.0, e.1 ∙ sym (ap (λ (b : Bool). cond b (Some x) (Some f)) (lt-ltb _ _ lt)) ∙ is)
  | inr ge ↦ (d, at ∙ sym (ap (λ (b : Bool). cond b (Some x) (Some f)) (le-ltb _ _ ge)) ∙ is)
]

not_it : (a b : ℕ) (c : Bool) → a < b → c ≡ false → ((a == b) || c) ≡ false
not_it a b c lt e = grind (arith, nat_tests)

pub acks_confirmed : (width front a d time stamp sample : ℕ) (f : Full) (notes : List Note) (known known' : Bool) (same last arrived : ℕ) → d < 64
    → slice_get (fulls notes) d ≡ Some f → known' ≡ (known || nat_lt d same) → AreAcks width front a notes known same last arrived
    → AreAcks width front a (Confirmed time stamp f sample ∷ notes) known' same last arrived
acks_confirmed width front a d time stamp sample f notes known known' same last arrived lt at is h =
    record {
      inside = h.inside;
      sent = h.sent;
      confirmed =
          record {
            latest = λ g e. among_later f g (latest_confirmed notes) (fulls notes) d at h.confirmed.latest e;
            below = λ index le.
                let n = h.sent.numbered d f at in
                not_it f.index index (is_confirmed notes index) (omega (arith, n, le)) (h.confirmed.below index le);
          };
      known_is = is
          ∙ known_with width front a d (fulls notes) f (latest_confirmed notes) known (nat_lt d same) h.sent h.inside at h.confirmed.latest
          h.known_is (h.same_is d f lt at);
      same_is = h.same_is;
      last_is = h.last_is;
      arrived_is = h.arrived_is;
    }

due_when_known : (known : Bool) (b : Bool) → known ≡ true → false ≡ (b && not known)
due_when_known known b e = rw e (by b)
  where
    by : (b : Bool) → false ≡ (b && not true)
    by true = refl
    by false = refl

due_when_unknown : (known : Bool) (b : Bool) → known ≡ false → b ≡ (b && not known)
due_when_unknown known b e = rw e (by b)
  where
    by : (b : Bool) → b ≡ (b && not false)
    by true = refl
    by false = refl

-- whether a Full ACK is due
pub full_not_due : (width front point time : ℕ) (notes : List Note) (known : Bool) (same last arrived : ℕ) → known ≡ true
    → AreAcks width front point notes known same last arrived
    → false ≡ is_full_due width point (front + width - point) time notes
unfolding is_full_due
full_not_due width front point time notes known same last arrived k h =
    due_when_known (is_known width point (front + width - point) (latest_confirmed notes)) _ (sym h.known_is ∙ k)

pub full_due : (width front point time since : ℕ) (notes : List Note) (known : Bool) (same last arrived : ℕ) → known ≡ false
    → since ≡ time - last → AreAcks width front point notes known same last arrived
    → nat_le 10_000 since ≡ is_full_due width point (front + width - point) time notes
unfolding is_full_due
full_due width front point time since notes known same last arrived k s h =
    ap (nat_le 10_000) (s ∙ ap (λ x. time - x) h.last_is)
    ∙ due_when_unknown (is_known width point (front + width - point) (latest_confirmed notes)) _ (sym h.known_is ∙ k)

pub light_due : (width front point : ℕ) (notes : List Note) (known : Bool) (same last arrived : ℕ)
    → AreAcks width front point notes known same last arrived → nat_le 64 arrived ≡ is_light_due notes
light_due width front point notes known same last arrived h = let e = h.arrived_is in grind (arith, nat_tests)

pub acks_by : (terms : Terms) (a available time : ℕ) (notes : List Note) (full light : Bool) → is_full_due terms.width a available time notes ≡ full
    → is_light_due notes ≡ light
    → acks_at terms a available time notes ≡ ack_of full light (full_ack terms a available notes) (LightAck a)
unfolding acks_at
acks_by terms a available time notes full light f l =
    ap (λ b. ack_of b (is_light_due notes) (full_ack terms a available notes) (LightAck a)) f
    ∙ ap (λ b. ack_of full b (full_ack terms a available notes) (LightAck a)) l

pub acks_still : (width front front' a a' : ℕ) (notes : List Note) (known : Bool) (same last arrived : ℕ)
    → front ≡ front' → a ≡ a' → AreAcks width front a notes known same last arrived → AreAcks width front' a' notes known same last arrived
acks_still width front front' a a' notes known same last arrived p q h =
    subst (λ (x : ℕ). AreAcks width front' x notes known same last arrived) q (subst (λ (x : ℕ). AreAcks width x a notes known same last arrived) p h)
