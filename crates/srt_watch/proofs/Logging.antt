-- What a log writes, call by call.
use Rattle.std.proofs.Common.{◌≡◌, ℕ, ◌+◌, ◌/◌, Bool, true, false, if◌then◌else◌, nat_le, List, [], ◌∷◌, ◌++◌}
use Rattle.std.proofs.Common.{◌<◌, length, map, take, get_or, Option, refl, sym, ap, ◌∙◌, subst, append_assoc, append-nil, None, Some}
use Rattle.std.proofs.Common.{Result, Ok, Err, inl, inr}
use Rattle.std.proofs.KnownBytes.{Appends-nil, Appends-trans}
use Rattle.std.specs.Io.KnownBytes.{Appends, Keeps}
use Rattle.srt_log.specs.LineShares.{SharedCall, AreShares, polled, omitted_in}
use Rattle.srt_watch.proofs.Appended.{mapped}
use Rattle.srt_watch.specs.declared.log.When.{When}
use Rattle.srt_watch.specs.declared.log.LogPace.{LogPace}
use Rattle.srt_watch.specs.Log.{LogCall, Polled, most, missed_at, missed_of, after_missed, left_out_text}
use Rattle.srt_watch.specs.declared.output.NotWritten.{NotWritten}
use Rattle.srt_watch.specs.Writes.{is_passing, refused_after, HasRefused}
use Rattle.srt_watch.specs.Log.{LogState, state_after, text_of, state_after_all, text_of_all, HasState, Wrote, Logged}

-- nothing was written
pub wrote_nothing : (b : Option (List ℕ)) (p : LogPace) → Wrote b b p p []
wrote_nothing b p = record { shares_are = refl; missed_is = refl; second_is = refl; looks_is = refl; whole_is = λ w. w; text_is = λ w. Appends-nil b }

-- one text, and then another one
pub wrote_both : (a b c : Option (List ℕ)) (p q r : LogPace) (x y : List ℕ) → Wrote a b p q x → Wrote b c q r y → Wrote a c p r (x ++ y)
wrote_both a b c p q r x y f g = record {
  shares_are = g.shares_are ∙ f.shares_are;
  missed_is = g.missed_is ∙ f.missed_is;
  second_is = g.second_is ∙ f.second_is;
  looks_is = g.looks_is ∙ f.looks_is;
  whole_is = λ w. f.whole_is (g.whole_is w);
  text_is = λ w. Appends-trans a b c x y (f.text_is (g.whole_is w)) (g.text_is w);
}

-- the state after some calls and more, and the text of all of them
pub state_after_both : (s : LogState) (xs ys : List LogCall) → state_after_all s (xs ++ ys) ≡ state_after_all (state_after_all s xs) ys
unfolding state_after_all
state_after_both s [] ys = refl
state_after_both s (x ∷ xs) ys = state_after_both (state_after s x) xs ys

pub text_of_both : (s : LogState) (xs ys : List LogCall) → text_of_all s (xs ++ ys) ≡ text_of_all s xs ++ text_of_all (state_after_all s xs) ys
unfolding state_after_all text_of_all
text_of_both s [] ys = refl
text_of_both s (x ∷ xs) ys =
    ap (λ (t : List ℕ). text_of s x ++ t) (text_of_both (state_after s x) xs ys)
    ∙ sym (append_assoc (text_of s x) (text_of_all (state_after s x) xs) (text_of_all (state_after_all (state_after s x) xs) ys))

-- no call
pub logged_nothing : (b : Option (List ℕ)) (p : LogPace) → Logged b b p p []
unfolding state_after_all text_of_all
logged_nothing b p = record { whole_is = λ w. w; state_is = λ s h. h; text_is = λ s h w. Appends-nil b }

-- some calls, and then others
pub logged_both : (a b c : Option (List ℕ)) (p q r : LogPace) (xs ys : List LogCall) →
    Logged a b p q xs → Logged b c q r ys → Logged a c p r (xs ++ ys)
logged_both a b c p q r xs ys f g = record {
  whole_is = λ w. f.whole_is (g.whole_is w);
  state_is = λ s h. subst (λ t. HasState r t) (sym (state_after_both s xs ys)) (g.state_is (state_after_all s xs) (f.state_is s h));
  text_is = λ s h w. subst (λ t. Appends a c t) (sym (text_of_both s xs ys))
      (Appends-trans a b c (text_of_all s xs) (text_of_all (state_after_all s xs) ys) (f.text_is s h (g.whole_is w))
      (g.text_is (state_after_all s xs) (f.state_is s h) w));
}

-- calls by another name
pub logged_as : (a b : Option (List ℕ)) (p q : LogPace) (xs ys : List LogCall) → xs ≡ ys → Logged a b p q xs → Logged a b p q ys
logged_as a b p q xs ys e l = subst (λ t. Logged a b p q t) e l

pub logged_no_more : (a b c : Option (List ℕ)) (p q r : LogPace) → Logged a b p q [] → Logged b c q r [] → Logged a c p r []
logged_no_more a b c p q r f g = logged_both a b c p q r [] [] f g

-- one call, by which the pace changes first and this is written then
pub logged_by : (a b : Option (List ℕ)) (p q r : LogPace) (call : LogCall) (text : List ℕ) → q.is_whole ≡ p.is_whole →
    ((s : LogState) → HasState p s → HasState q (state_after s call)) → ((s : LogState) → HasState p s → text ≡ text_of s call) →
    Wrote a b q r text → Logged a b p r (call ∷ [])
unfolding state_after_all text_of_all
logged_by a b p q r call text whole state says w = record {
  whole_is = λ e. sym whole ∙ w.whole_is e;
  state_is = λ s h. let k = state s h in record {
    shares_stand = subst (λ l. AreShares l (state_after s call).calls) (sym w.shares_are) k.shares_stand;
    missed_is = w.missed_is ∙ k.missed_is;
    second_is = w.second_is ∙ k.second_is;
    looks_is = w.looks_is ∙ k.looks_is;
  };
  text_is = λ s h e. subst (λ t. Appends a b t) (says s h ∙ sym (append-nil (text_of s call))) (w.text_is e);
}

-- the same of a call that does what another one does, and writes this then
pub logged_then : (a b c : Option (List ℕ)) (o p q r : LogPace) (first call : LogCall) (text : List ℕ) → Logged a b o p (first ∷ []) →
    q.is_whole ≡ p.is_whole → ((s : LogState) → HasState p (state_after s first) → HasState q (state_after s call)) →
    ((s : LogState) → HasState p (state_after s first) → text_of s call ≡ text_of s first ++ text) →
    Wrote b c q r text → Logged a c o r (call ∷ [])
unfolding state_after_all text_of_all
logged_then a b c o p q r first call text l whole state says w = record {
  whole_is = λ e. l.whole_is (sym whole ∙ w.whole_is e);
  state_is = λ s h. let k = state s (l.state_is s h) in record {
    shares_stand = subst (λ x. AreShares x (state_after s call).calls) (sym w.shares_are) k.shares_stand;
    missed_is = w.missed_is ∙ k.missed_is;
    second_is = w.second_is ∙ k.second_is;
    looks_is = w.looks_is ∙ k.looks_is;
  };
  text_is = λ s h e.
      subst (λ t. Appends a c t) (sym (append-nil (text_of s call) ∙ says s (l.state_is s h)))
      (Appends-trans a b c (text_of s first) text
      (subst (λ t. Appends a b t) (append-nil (text_of s first)) (l.text_is s h (sym whole ∙ w.whole_is e))) (w.text_is e));
}

-- no call
pub logged_none : (b : Option (List ℕ)) (p : LogPace) (calls : List LogCall) → calls ≡ [] → Logged b b p p calls
logged_none b p calls none = subst (λ xs. Logged b b p p xs) (sym none) (logged_nothing b p)

-- a choice goes through a function
if_of : {A B : Type 0} (f : A → B) (b : Bool) (x y : A) → f (if b then x else y) ≡ (if b then f x else f y)
if_of f true x y = refl
if_of f false x y = refl

pub if_same : {A B : Type 0} (f : A → B) (b : Bool) (x y : A) → f x ≡ f y → f (if b then x else y) ≡ f y
if_same f true x y e = e
if_same f false x y e = refl

-- the pace after missed events were logged
pub missed_whole : (p : LogPace) (moment : ℕ) → (after_missed p moment).is_whole ≡ p.is_whole
missed_whole p moment =
    if_same (λ q. q.is_whole) (nat_le (moment / 1_000_000) p.second) p (record p { missed = 0; second = moment / 1_000_000 }) refl

pub missed_shares : (p : LogPace) (moment : ℕ) → (after_missed p moment).shares ≡ p.shares
missed_shares p moment =
    if_same (λ q. q.shares) (nat_le (moment / 1_000_000) p.second) p (record p { missed = 0; second = moment / 1_000_000 }) refl

pub missed_looks : (p : LogPace) (moment : ℕ) → (after_missed p moment).looks ≡ p.looks
missed_looks p moment =
    if_same (λ q. q.looks) (nat_le (moment / 1_000_000) p.second) p (record p { missed = 0; second = moment / 1_000_000 }) refl

pub polled_state : (p p' q : LogPace) (when : When) → q ≡ after_missed p' when.moment → p'.missed ≡ p.missed → p'.second ≡ p.second → p'.looks ≡ p.looks →
    ((calls : List SharedCall) → AreShares p.shares calls → AreShares p'.shares (polled when.moment calls)) →
    (s : LogState) → HasState p s → HasState q (state_after s (Polled when))
polled_state p p' q when new missed second looks stands s h =
    let m = when.moment / 1_000_000 in
    let se : p'.second ≡ s.second = second ∙ h.second_is in
    let me : p'.missed ≡ s.missed = missed ∙ h.missed_is in
    record {
      shares_stand =
          subst (λ x. AreShares x (state_after s (Polled when)).calls) (sym (ap (λ x. x.shares) new ∙ missed_shares p' when.moment))
          (stands s.calls h.shares_stand);
      missed_is =
          ap (λ x. x.missed) new ∙ if_of (λ x. x.missed) (nat_le m p'.second) p' (record p' { missed = 0; second = m })
          ∙ (λ i. if nat_le m (se i) then me i else 0);
      second_is =
          ap (λ x. x.second) new ∙ if_of (λ x. x.second) (nat_le m p'.second) p' (record p' { missed = 0; second = m })
          ∙ (λ i. if nat_le m (se i) then se i else m);
      looks_is = ap (λ x. x.looks) new ∙ missed_looks p' when.moment ∙ looks ∙ h.looks_is;
    }

pub polled_count : (p p' : LogPace) (when : When) (n count missed : ℕ) → n ≡ most (count + missed) → missed ≡ missed_of p' when.moment →
    p'.missed ≡ p.missed → p'.second ≡ p.second → (s : LogState) → HasState p s → count ≡ omitted_in s.calls when.moment →
    n ≡ most (omitted_in s.calls when.moment + missed_at s when)
polled_count p p' when n count missed sum is me se s h counted =
    let m : missed ≡ missed_at s when = is ∙ (λ i. if nat_le (when.moment / 1_000_000) ((se ∙ h.second_is) i) then 0 else (me ∙ h.missed_is) i) in
    sum ∙ (λ i. most (counted i + m i))

pub polled_text : (p p' : LogPace) (when : When) (n count missed : ℕ) → n ≡ most (count + missed) → missed ≡ missed_of p' when.moment →
    p'.missed ≡ p.missed → p'.second ≡ p.second → (s : LogState) → HasState p s → count ≡ omitted_in s.calls when.moment →
    left_out_text when n ≡ text_of s (Polled when)
polled_text p p' when n count missed sum is me se s h counted = ap (left_out_text when) (polled_count p p' when n count missed sum is me se s h counted)

-- calls of a list, one more
pub logged_mapped : {A : Type 0} (f : A → LogCall) (d : A) (xs : List A) (i : ℕ) (a b c : Option (List ℕ)) (p q r : LogPace) → i < length xs →
    Logged a b p q (map f (take i xs)) → Logged b c q r (f (get_or xs i d) ∷ []) → Logged a c p r (map f (take (i + 1) xs))
logged_mapped f d xs i a b c p q r within l m = subst (λ t. Logged a c p r t) (sym (mapped f d xs i within)) (logged_both a b c p q r _ _ l m)

-- bytes that stayed, and then grew by nothing
kept_then : (a b c : Option (List ℕ)) → Keeps a b → Appends b c [] → Appends a c []
kept_then None b c k q = tt
kept_then (Some x) None c k q = absurd k
kept_then (Some x) (Some y) None k q = absurd q
kept_then (Some x) (Some y) (Some z) k q = q ∙ ap (λ l. l ++ []) k

-- behind a flush the number of lines that the writer had no room for was written: none while no write has failed
pub caught_up : (a b c : Option (List ℕ)) (p r : LogPace) (when : When) (count : ℕ) → Keeps a b → (p.is_whole ≡ true → count ≡ 0) →
    Wrote b c p r (left_out_text when count) → Logged a c p r []
unfolding state_after_all text_of_all
caught_up a b c p r when count kept none w = record {
  whole_is = w.whole_is;
  state_is = λ s h. record {
    shares_stand = subst (λ l. AreShares l s.calls) (sym w.shares_are) h.shares_stand;
    missed_is = w.missed_is ∙ h.missed_is;
    second_is = w.second_is ∙ h.second_is;
    looks_is = w.looks_is ∙ h.looks_is;
  };
  text_is = λ s h e. kept_then a b c kept (subst (λ n. Appends b c (left_out_text when n)) (none (w.whole_is e)) (w.text_is e));
}

-- however a write ended, its lines were refused or not
refused_by : (passing : Bool) (old count : ℕ) → HasRefused old (if passing then most (old + count) else old) count
refused_by true old count = inr refl
refused_by false old count = inl refl

refused_with : {T : Type 0} (outcome : Result T NotWritten) (old count : ℕ) → HasRefused old (refused_after outcome old count) count
refused_with (Ok t) old count = inl refl
refused_with (Err why) old count = refused_by (is_passing why) old count

pub refused_so : {T : Type 0} (outcome : Result T NotWritten) (old new count : ℕ) → new ≡ refused_after outcome old count → HasRefused old new count
refused_so outcome old new count is = subst (λ n. HasRefused old n count) (sym is) (refused_with outcome old count)
