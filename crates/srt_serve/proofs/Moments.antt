-- Ends that were ticked, and ticked again.
use Rattle.std.proofs.Common.{◌≡◌, inl, ℕ, zero, suc, ◌+◌, ◌≤◌, Option, List, [], ◌∷◌, ◌++◌, map, length, take, drop, slice_set}
use Rattle.std.proofs.Common.{slice_index_or, None, refl, sym, ap, subst, ◌∙◌, append_assoc, append-nil, arith}
use Rattle.std.specs.Prelude.{Result, Ok, Err, OnOk, IfErr}
use Rattle.std.proofs.lemmas.List.{map-append}
use Rattle.std.proofs.Math.Seq.{take-append_seam}
use Rattle.srt_mailbox.specs.Ends.{Producer, producer}
use Rattle.srt_poller.specs.Devices.{joined}
use Rattle.srt_serve.specs.Ticks.{IsWithin, TickOf, tick, accepts, accepts_all, moments_of, added_in, WasTicked, WereTicked, WereTickedIn, Ticked}
use Rattle.srt_poller.proofs.Joined.{joined_none, joined_twice}
use Rattle.srt_serve.proofs.Within.{within_append}

-- an inbox that accepts more, and more again
accepts_none : (a : Producer) → a ≡ accepts_all [] a
accepts_none a = ap (producer a.queue a.capacity) (sym (append-nil a.offered))

accepts_again : (xs ys : List ℕ) (a b c : Producer) → b ≡ accepts_all xs a → c ≡ accepts_all ys b → c ≡ accepts_all (xs ++ ys) a
accepts_again xs ys a b c h k =
    k ∙ ap (accepts_all ys) h
    ∙ ap (producer a.queue a.capacity) (append_assoc a.offered (map tick xs) (map tick ys) ∙ ap (λ more. a.offered ++ more) (sym (map-append tick xs ys)))

module _ {E : Type 0} (inbox : E → Producer) (tried : E → Option (List ℕ)) where
  pub was_again : (ms ns : List ℕ) (a b c : E) → WasTicked inbox tried ms a b → WasTicked inbox tried ns b c → WasTicked inbox tried (ms ++ ns) a c
  was_again ms ns a b c h k = (
    k.0 ∙ ap (λ reported. joined reported ns) h.0 ∙ joined_twice (tried a) ms ns,
    h.1 ++ k.1,
    within_append h.1 ms k.1 ns h.2 k.2,
    accepts_again h.1 k.1 (inbox a) (inbox b) (inbox c) h.3 k.3,
  )

  was_not : (a : E) → WasTicked inbox tried [] a a
  was_not a = (sym (joined_none (tried a)), [], tt, accepts_none (inbox a))

  -- nothing was offered
  pub was_same : (a b : E) → b ≡ a → WasTicked inbox tried [] a b
  was_same a b h = subst (λ (x : E). WasTicked inbox tried [] a x) (sym h) (was_not a)

  -- a tick was offered: the inbox accepted it, or was full
  pub was_offered : {F : Type 0} (m : ℕ) (a b : E) (result : Result (Unit {0}) F)
      → OnOk result (inbox b ≡ accepts m (inbox a)) → IfErr result (λ _. inbox b ≡ inbox a) → tried b ≡ joined (tried a) (m ∷ [])
      → WasTicked inbox tried (m ∷ []) a b
  was_offered m a b (Ok u) h k reported = (reported, m ∷ [], inl (refl, tt), h)
  was_offered m a b (Err f) h k reported = (reported, [], tt, k ∙ accepts_none (inbox a))

  pub were_not : (was : List E) → WereTicked inbox tried [] was was
  were_not [] = tt
  were_not (a ∷ was) = (was_not a, were_not was)

  pub were_again : (ms ns : List ℕ) (was bs cs : List E)
      → WereTicked inbox tried ms was bs → WereTicked inbox tried ns bs cs → WereTicked inbox tried (ms ++ ns) was cs
  were_again ms ns [] [] [] h k = tt
  were_again ms ns [] [] (c ∷ cs) h k = absurd k
  were_again ms ns [] (b ∷ bs) cs h k = absurd h
  were_again ms ns (a ∷ was) [] cs h k = absurd h
  were_again ms ns (a ∷ was) (b ∷ bs) [] h k = absurd k
  were_again ms ns (a ∷ was) (b ∷ bs) (c ∷ cs) h k = (was_again ms ns a b c h.0 k.0, were_again ms ns was bs cs h.1 k.1)

  -- the first n were ticked, and the others are as they were
  abbrev pub FirstTicked : (n : ℕ) → (moments : List ℕ) → List E → List E → Type 0
  FirstTicked zero ms was bs = bs ≡ was
  FirstTicked (suc n) ms [] [] = Unit {0}
  FirstTicked (suc n) ms [] (b ∷ bs) = ⊥
  FirstTicked (suc n) ms (a ∷ was) [] = ⊥
  FirstTicked (suc n) ms (a ∷ was) (b ∷ bs) = WasTicked inbox tried ms a b × FirstTicked n ms was bs

  pub first_set : (n : ℕ) (ms : List ℕ) (was bs : List E) (d z : E)
      → FirstTicked n ms was bs → WasTicked inbox tried ms (slice_index_or bs n d) z → FirstTicked (suc n) ms was (slice_set bs n z)
  first_set zero ms was bs d z h k =
      subst (λ (xs : List E). WasTicked inbox tried ms (slice_index_or xs zero d) z → FirstTicked (suc zero) ms was (slice_set xs zero z))
      (sym h) (at_zero was) k
    where
      at_zero : (xs : List E) → WasTicked inbox tried ms (slice_index_or xs zero d) z → FirstTicked (suc zero) ms xs (slice_set xs zero z)
      at_zero [] w = tt
      at_zero (x ∷ xs) w = (w, refl)
  first_set (suc n) ms [] [] d z h k = tt
  first_set (suc n) ms [] (b ∷ bs) d z h k = absurd h
  first_set (suc n) ms (a ∷ was) [] d z h k = absurd h
  first_set (suc n) ms (a ∷ was) (b ∷ bs) d z h k = (h.0, first_set n ms was bs d z h.1 k)

  pub first_more : (n : ℕ) (ms : List ℕ) (was bs : List E) (d z : E)
      → FirstTicked n ms was bs → WasTicked inbox tried ms (slice_index_or bs n d) z → FirstTicked (n + 1) ms was (slice_set bs n z)
  first_more n ms was bs d z h k =
      let one : suc n ≡ n + 1 = omega arith in
      subst (λ (m : ℕ). FirstTicked m ms was (slice_set bs n z)) one (first_set n ms was bs d z h k)

  pub all_first : (n : ℕ) (ms : List ℕ) (was bs : List E) → FirstTicked n ms was bs → length was ≤ n → WereTicked inbox tried ms was bs
  all_first zero ms [] bs h k = subst (λ (xs : List E). WereTicked inbox tried ms [] xs) (sym h) tt
  all_first zero ms (a ∷ was) bs h k = absurd (omega arith)
  all_first (suc n) ms [] [] h k = tt
  all_first (suc n) ms [] (b ∷ bs) h k = absurd h
  all_first (suc n) ms (a ∷ was) [] h k = absurd h
  all_first (suc n) ms (a ∷ was) (b ∷ bs) h k = (h.0, all_first n ms was bs h.1 (omega arith))

  pub as_many : (ms : List ℕ) (was bs : List E) → WereTicked inbox tried ms was bs → length bs ≡ length was
  as_many ms [] [] h = refl
  as_many ms [] (b ∷ bs) h = absurd h
  as_many ms (a ∷ was) [] h = absurd h
  as_many ms (a ∷ was) (b ∷ bs) h = ap (λ (n : ℕ). suc n) (as_many ms was bs h.1)

  -- what was lent is put back whole
  pub put_back : (ms : List ℕ) (was bs : List E) (len : ℕ)
      → len ≡ length was → WereTicked inbox tried ms was bs → WereTicked inbox tried ms was (take len (bs ++ drop (length bs) was))
  put_back ms was bs len places h =
      let same : length bs ≡ length was = as_many ms was bs h in
      rw (places ∙ sym same, take-append_seam bs (drop (length bs) was)) h

  -- a tick more, and the ends added before it
  pub one_tick_more : (gave given given' : Option (List ℕ)) (added added' added'' : List E) (old bs cs : List E) (m : ℕ) (more : List E)
      → Ticked inbox tried gave given added added' old bs
      → given' ≡ joined given (m ∷ []) → added'' ≡ added' ++ more → WereTicked inbox tried (m ∷ []) (bs ++ more) cs
      → Ticked inbox tried gave given' added added'' old cs
  one_tick_more gave given given' added added' added'' old bs cs m more h reported grew k = (
    record { added = more; moment = m } ∷ h.0,
    reported ∙ ap (λ was. joined was (m ∷ [])) h.1 ∙ joined_twice gave (moments_of h.0) (m ∷ []),
    grew ∙ ap (λ was. was ++ more) h.2 ∙ append_assoc added (added_in h.0) more,
    (bs, h.3, k),
  )

-- at the clock's ends of a run, which don't record what they were offered
abbrev pub itself : Producer → Producer
itself c = c

abbrev pub unrecorded : Producer → Option (List ℕ)
unrecorded c = None

-- the inbox of this end accepted ticks of some of these times
abbrev pub HasTicks : (moments : List ℕ) → Producer → Producer → Type 0
HasTicks ms a b = (accepted : List ℕ) × IsWithin accepted ms × (b ≡ accepts_all accepted a)

abbrev pub HaveTicks : (moments : List ℕ) → List Producer → List Producer → Type 0
HaveTicks ms [] [] = Unit {0}
HaveTicks ms [] (b ∷ bs) = ⊥
HaveTicks ms (a ∷ was) [] = ⊥
HaveTicks ms (a ∷ was) (b ∷ bs) = HasTicks ms a b × HaveTicks ms was bs

pub have_none : (ms : List ℕ) (was : List Producer) → HaveTicks ms was was
have_none ms [] = tt
have_none ms (a ∷ was) = (([], tt, accepts_none a), have_none ms was)

pub have_further : (ms : List ℕ) (was bs more : List Producer) → HaveTicks ms was bs → HaveTicks ms (was ++ more) (bs ++ more)
have_further ms [] [] more h = have_none ms more
have_further ms [] (b ∷ bs) more h = absurd h
have_further ms (a ∷ was) [] more h = absurd h
have_further ms (a ∷ was) (b ∷ bs) more h = (h.0, have_further ms was bs more h.1)

have_again : (ms : List ℕ) (m : ℕ) (was bs cs : List Producer)
    → HaveTicks ms was bs → WereTicked itself unrecorded (m ∷ []) bs cs → HaveTicks (ms ++ m ∷ []) was cs
have_again ms m [] [] [] h k = tt
have_again ms m [] [] (c ∷ cs) h k = absurd k
have_again ms m [] (b ∷ bs) cs h k = absurd h
have_again ms m (a ∷ was) [] cs h k = absurd h
have_again ms m (a ∷ was) (b ∷ bs) [] h k = absurd k
have_again ms m (a ∷ was) (b ∷ bs) (c ∷ cs) h k = (
  (
    h.0.0 ++ k.0.1,
    within_append h.0.0 ms k.0.1 (m ∷ []) h.0.1 k.0.2,
    accepts_again h.0.0 k.0.1 a b c h.0.2 k.0.3,
  ),
  have_again ms m was bs cs h.1 k.1,
)

-- ends that were there, followed by the added ones, have ticks of the times
pub have_ticks : (ticks : List (TickOf Producer)) (was bs : List Producer)
    → WereTickedIn itself unrecorded ticks was bs → HaveTicks (moments_of ticks) (was ++ added_in ticks) bs
have_ticks [] was bs h = rw (append-nil was) (subst (λ (xs : List Producer). HaveTicks [] was xs) (sym h) (have_none [] was))
have_ticks (t ∷ ticks) was bs h =
    subst (λ (xs : List Producer). HaveTicks (moments_of (t ∷ ticks)) xs bs) (append_assoc was (added_in ticks) t.added)
    (have_again (moments_of ticks) t.moment ((was ++ added_in ticks) ++ t.added) (h.0 ++ t.added) bs
    (have_further (moments_of ticks) (was ++ added_in ticks) h.0 t.added (have_ticks ticks was h.0 h.1)) h.2)
