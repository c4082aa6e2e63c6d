-- The starts of rounds: which names were in use then.
use Rattle.std.proofs.Common.{◌≡◌, ◌∙◌, inl, inr, refl, sym, ap, subst, ℕ, zero, suc, Bool, true, false, ◌&&◌, Option, None, Some, IfSome}
use Rattle.std.proofs.Common.{List, [], ◌∷◌, ◌++◌, map, slice_get}
use Rattle.std.specs.Option.{option_map}
use Rattle.std.proofs.lemmas.Bool.{and_left}
use Rattle.std.proofs.lemmas.Option.{slice_get-map}
use Rattle.srt_types.specs.declared.shared.Schedule.{Schedule}
use Rattle.srt_lobby.specs.declared.names.Names.{Names}
use Rattle.srt_lobby.specs.Names.{RouteName, names_of, index_of, is_shown_at, has_name_at, AreDistinct}
use Rattle.srt_lobby.specs.Changing.{hidden_at, shown_at, IsUnused, AreHidden}
use Rattle.srt_lobby.proofs.Finds.{found_there, has_name_shown, has_name_text}
use Rattle.srt_lobby.proofs.Changing.{is_hidden, was_shown}
use Rattle.srt_lobby.proofs.Tables.{apart}
use Rattle.srt_poller.specs.Schedules.{opened_if}
use Rattle.srt_poller.specs.History.{Event, Begins, Waits, WaitFails, ReadsNothing, ReadFails, Answers, Accepts, Overflows, Refuses, Drops, Sends, Resends}
use Rattle.srt_poller.specs.History.{State, state_by}
use Rattle.srt_poller.specs.Beginnings.{all_shown}
use Rattle.srt_poller.specs.Plans.{texts_of, IsAlone}
use Rattle.srt_poller.specs.Starts.{RoundStart, round_start, starts_by, starts_in, text_at, IsNameUsed, IsUsedIn, ClosesAllIn, IsKeptIn}
use Rattle.srt_poller.proofs.ShownInRound.{texts_opened_if, texts_after}

-- the names of a lobby
pub names_differ : (names : Names) → AreDistinct (names_of names)
names_differ names = apart _ _ names.shown

-- hidden names at the end
none_has : (more : List RouteName) → AreHidden more → (i : ℕ) (text : List ℕ) → has_name_at more i text ≡ false
none_has [] hidden i text = refl
none_has (n ∷ more) hidden zero text = and_left n.is_shown _ hidden.0
none_has (n ∷ more) hidden (suc i) text = none_has more hidden.1 i text

has_left : (names more : List RouteName) → AreHidden more → (i : ℕ) (text : List ℕ) → has_name_at (names ++ more) i text ≡ true →
    has_name_at names i text ≡ true
has_left [] more hidden i text h = let bad : false ≡ true = sym (none_has more hidden i text) ∙ h in cc
has_left (n ∷ names) more hidden zero text h = h
has_left (n ∷ names) more hidden (suc i) text h = has_left names more hidden i text h

pub distinct_more : (names more : List RouteName) → AreHidden more → AreDistinct names → AreDistinct (names ++ more)
distinct_more names more hidden distinct i j text p q = distinct i j text (has_left names more hidden i text p) (has_left names more hidden j text q)

-- the same start, with further routes
abbrev pub start_more : List RouteName → RoundStart → RoundStart
start_more more start = round_start start.round start.closes_all (start.names ++ more)

abbrev pub starts_more : List RouteName → List RoundStart → List RoundStart
starts_more more starts = map (start_more more) starts

-- what kept routes from opening then keeps them still
pub record Grow (starts later : List RoundStart) : Type 0 where
  pub used : (r k : ℕ) → IsUsedIn starts r k → IsUsedIn later r k
  pub closes : (k : ℕ) → ClosesAllIn starts k → ClosesAllIn later k

pub kept_grows : (starts later : List RoundStart) (r k : ℕ) → Grow starts later → IsKeptIn starts r k → IsKeptIn later r k
kept_grows starts later r k g (inl c) = inl (g.closes k c)
kept_grows starts later r k g (inr u) = inr (g.used r k u)

pub grow_none : (starts : List RoundStart) → Grow starts starts
grow_none starts = record { used = λ r k u. u; closes = λ k c. c }

used_left : (starts more : List RoundStart) (r k : ℕ) → IsUsedIn starts r k → IsUsedIn (starts ++ more) r k
used_left [] more r k u = absurd u
used_left (s ∷ starts) more r k (inl u) = inl u
used_left (s ∷ starts) more r k (inr u) = inr (used_left starts more r k u)

closes_left : (starts more : List RoundStart) (k : ℕ) → ClosesAllIn starts k → ClosesAllIn (starts ++ more) k
closes_left [] more k u = absurd u
closes_left (s ∷ starts) more k (inl u) = inl u
closes_left (s ∷ starts) more k (inr u) = inr (closes_left starts more k u)

pub grow_left : (starts more : List RoundStart) → Grow starts (starts ++ more)
grow_left starts more = record { used = used_left starts more; closes = closes_left starts more }

pub used_last : (starts : List RoundStart) (start : RoundStart) (r : ℕ) → IsNameUsed start.names r → IsUsedIn (starts ++ start ∷ []) r start.round
used_last [] start r u = inl (refl, u)
used_last (s ∷ starts) start r u = inr (used_last starts start r u)

pub closes_last : (starts : List RoundStart) (start : RoundStart) → start.closes_all ≡ true → ClosesAllIn (starts ++ start ∷ []) start.round
closes_last [] start c = inl (refl, c)
closes_last (s ∷ starts) start c = inr (closes_last starts start c)

-- a round's start with more names in use
module _ (k : ℕ) (c : Bool) (ns ms : List RouteName) (grows : (r : ℕ) → IsNameUsed ns r → IsNameUsed ms r) where
  used_again : (starts : List RoundStart) (r j : ℕ) → IsUsedIn (starts ++ round_start k c ns ∷ []) r j → IsUsedIn (starts ++ round_start k c ms ∷ []) r j
  used_again [] r j (inl u) = inl (u.0, grows r u.1)
  used_again [] r j (inr u) = absurd u
  used_again (s ∷ starts) r j (inl u) = inl u
  used_again (s ∷ starts) r j (inr u) = inr (used_again starts r j u)

  closes_again : (starts : List RoundStart) (j : ℕ) → ClosesAllIn (starts ++ round_start k c ns ∷ []) j → ClosesAllIn (starts ++ round_start k c ms ∷ []) j
  closes_again [] j u = u
  closes_again (s ∷ starts) j (inl u) = inl u
  closes_again (s ∷ starts) j (inr u) = inr (closes_again starts j u)

  pub grow_last : (starts : List RoundStart) → Grow (starts ++ round_start k c ns ∷ []) (starts ++ round_start k c ms ∷ [])
  grow_last starts = record { used = used_again starts; closes = closes_again starts }

-- further routes
text_left : (names more : List RouteName) (r : ℕ) (text : List ℕ) → text_at names r ≡ Some text → text_at (names ++ more) r ≡ Some text
text_left [] more r text h = cc
text_left (n ∷ names) more zero text h = h
text_left (n ∷ names) more (suc r) text h = text_left names more r text h

still_has : (names more : List RouteName) (i : ℕ) (text : List ℕ) → has_name_at names i text ≡ true → has_name_at (names ++ more) i text ≡ true
still_has [] more i text h = let bad : false ≡ true = h in cc
still_has (n ∷ names) more zero text h = h
still_has (n ∷ names) more (suc i) text h = still_has names more i text h

used_with : (names more : List RouteName) (r : ℕ) → IsNameUsed names r → IsNameUsed (names ++ more) r
used_with names more r u = (u.0, u.1, u.2, text_left names more r u.1 u.3, still_has names more u.0 u.1 u.4)

used_more : (more : List RouteName) (starts : List RoundStart) (r k : ℕ) → IsUsedIn starts r k → IsUsedIn (starts_more more starts) r k
used_more more [] r k u = u
used_more more (s ∷ starts) r k (inl u) = inl (u.0, used_with s.names more r u.1)
used_more more (s ∷ starts) r k (inr u) = inr (used_more more starts r k u)

closes_more : (more : List RouteName) (starts : List RoundStart) (k : ℕ) → ClosesAllIn starts k → ClosesAllIn (starts_more more starts) k
closes_more more [] k u = u
closes_more more (s ∷ starts) k (inl u) = inl u
closes_more more (s ∷ starts) k (inr u) = inr (closes_more more starts k u)

pub grow_more : (more : List RouteName) (starts : List RoundStart) → Grow starts (starts_more more starts)
grow_more more starts = record { used = used_more more starts; closes = closes_more more starts }

-- a further route becomes visible
text_stays : (j : ℕ) (names : List RouteName) (r : ℕ) → text_at (shown_at j names) r ≡ text_at names r
text_stays j [] r = refl
text_stays zero (n ∷ names) zero = refl
text_stays zero (n ∷ names) (suc r) = refl
text_stays (suc j) (n ∷ names) zero = refl
text_stays (suc j) (n ∷ names) (suc r) = text_stays j names r

has_shown : (j : ℕ) (names : List RouteName) (i : ℕ) (text : List ℕ) → has_name_at names i text ≡ true → has_name_at (shown_at j names) i text ≡ true
has_shown j [] i text h = h
has_shown zero (n ∷ names) zero text h = and_after n.is_shown _ h
  where
    and_after : (a b : Bool) → (a && b) ≡ true → b ≡ true
    and_after true b e = e
    and_after false b e = let bad : false ≡ true = e in cc
has_shown zero (n ∷ names) (suc i) text h = h
has_shown (suc j) (n ∷ names) zero text h = h
has_shown (suc j) (n ∷ names) (suc i) text h = has_shown j names i text h

pub used_shown : (j : ℕ) (names : List RouteName) (r : ℕ) → IsNameUsed names r → IsNameUsed (shown_at j names) r
used_shown j names r u = (u.0, u.1, u.2, text_stays j names r ∙ u.3, has_shown j names u.0 u.1 u.4)

-- a name that isn't unused is in use
pub is_used : (names : List RouteName) (r : ℕ) → (IsUnused r names → ⊥) → IsNameUsed names r
is_used names r used = at (slice_get names r) refl
  where
    found : (name : RouteName) → slice_get names r ≡ Some name → (o : Option ℕ) → index_of (hidden_at r names) name.text ≡ o → IsNameUsed names r
    found name h None e =
        absurd (used (subst (λ (o : Option RouteName). IfSome o (λ n. index_of (hidden_at r names) n.text ≡ None)) (sym h) e))
    found name h (Some i) e =
        let there : has_name_at (hidden_at r names) i name.text ≡ true = found_there (hidden_at r names) i name.text e in (
          i,
          name.text,
          λ same.
              let bad : false ≡ true = sym (is_hidden names r) ∙ ap (is_shown_at (hidden_at r names)) (sym same) ∙ has_name_shown name.text _ there in
              let wrong : ⊥ = cc in wrong,
          ap (option_map (λ (n : RouteName). n.text)) h,
          was_shown names r i name.text there,
        )

    at : (o : Option RouteName) → slice_get names r ≡ o → IsNameUsed names r
    at (Some name) h = found name h (index_of (hidden_at r names) name.text) refl
    at None h = absurd (used (subst (λ (o : Option RouteName). IfSome o (λ n. index_of (hidden_at r names) n.text ≡ None)) (sym h) _))

-- a name that no other route has is never in use
text_there : (names : List RouteName) (i : ℕ) (text : List ℕ) → has_name_at names i text ≡ true → text_at names i ≡ Some text
text_there names i text h = has_name_text text (slice_get names i) h

pub alone_unused : (names : List RouteName) (r : ℕ) → IsAlone (texts_of names) r → IsNameUsed names r → ⊥
alone_unused names r alone u =
    u.2 (alone u.0 u.1 (slice_get-map (λ (n : RouteName). n.text) names r ∙ u.3)
    (slice_get-map (λ (n : RouteName). n.text) names u.0 ∙ text_there names u.0 u.1 u.4))

texts_shown : (names : List RouteName) → texts_of (all_shown names) ≡ texts_of names
texts_shown [] = refl
texts_shown (n ∷ names) = ap (λ (l : List (List ℕ)). n.text ∷ l) (texts_shown names)

pub texts_as : (names others : List RouteName) → all_shown names ≡ all_shown others → texts_of names ≡ texts_of others
texts_as names others same = sym (texts_shown names) ∙ ap texts_of same ∙ texts_shown others

pub starts_alone : (schedules : List Schedule) (s : State) (events : List Event) (r k : ℕ) → IsAlone (texts_of s.names) r →
    IsUsedIn (starts_in schedules s events) r k → ⊥
starts_alone schedules s [] r k alone u = u
starts_alone schedules s (event ∷ events) r k alone u =
    by event u (λ v. starts_alone schedules (state_by schedules s event) events r k
    (subst (λ (ts : List (List ℕ)). IsAlone ts r)
    (sym (texts_as (state_by schedules s event).names s.names (texts_after schedules s (event ∷ [])))) alone) v)
  where
    rest : List RoundStart
    rest = starts_in schedules (state_by schedules s event) events

    by : (e : Event) → IsUsedIn (starts_by schedules s e ++ rest) r k → (IsUsedIn rest r k → ⊥) → ⊥
    by (Begins c m os) (inl v) later =
        let ns = opened_if c s.round schedules s.names in
        alone_unused ns r
        (subst (λ (ts : List (List ℕ)). IsAlone ts r) (sym (texts_as ns s.names (texts_opened_if c s.round schedules s.names))) alone) v.1
    by (Begins c m os) (inr v) later = later v
    by Waits v later = later v
    by WaitFails v later = later v
    by ReadsNothing v later = later v
    by ReadFails v later = later v
    by (Answers a b o) v later = later v
    by (Accepts a n) v later = later v
    by (Overflows a n) v later = later v
    by (Refuses a n) v later = later v
    by (Drops a cause) v later = later v
    by (Sends n d o) v later = later v
    by (Resends n d o) v later = later v
