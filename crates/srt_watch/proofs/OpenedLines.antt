-- The lines of routes that open.
use Rattle.std.proofs.Common.{◌≡◌, ℕ, ◌<◌, List, [], ◌∷◌, length, map, drop, get_or, Option, refl, sym, ap, ◌∙◌, subst, arith, ◌==◌, true, false}
use Rattle.std.proofs.lemmas.Bool.Decides.{nat_tests}
use Rattle.srt_types.specs.declared.shared.Entry.{Entry}
use Rattle.srt_types.specs.Terms.{terms_of}
use Rattle.srt_config.specs.declared.changes.RouteChange.{RouteChange}
use Rattle.srt_watch.proofs.Logging.{logged_nothing, logged_both, logged_as}
use Rattle.srt_watch.specs.ChangeLines.{open_call, opens_calls}
use Rattle.srt_watch.specs.Indexes.{next_after}
use Rattle.srt_watch.specs.Log.{LogCall, Logged}
use Rattle.srt_watch.specs.declared.log.LogPace.{LogPace}
use Rattle.srt_watch.specs.declared.log.When.{When}

-- the calls so far and the others are all of them
abbrev pub LeadsTo : (a b : Option (List ℕ)) (p q : LogPace) (rest all : List LogCall) → Type 0
LeadsTo a b p q rest all = (c : Option (List ℕ)) (r : LogPace) → Logged b c q r rest → Logged a c p r all

pub leads_begin : (a : Option (List ℕ)) (p : LogPace) (all : List LogCall) → LeadsTo a a p p all all
leads_begin a p all c r l = l

pub leads_on : (a b d : Option (List ℕ)) (p q s : LogPace) (when : When) (index : ℕ) (changes : List RouteChange) (entries : List Entry)
    (change : RouteChange) (entry : Entry) (all : List LogCall) → 0 < length changes → 0 < length entries →
    LeadsTo a b p q (opens_calls when index changes (map terms_of entries)) all →
    Logged b d q s (open_call when (get_or changes 0 change) (terms_of (get_or entries 0 entry)) index) →
    LeadsTo a d p s (opens_calls when (next_after index (get_or changes 0 change)) (drop 1 changes) (map terms_of (drop 1 entries))) all
leads_on a b d p q s when index [] entries change entry all some many leads l c r m = absurd (omega arith)
leads_on a b d p q s when index (x ∷ changes) [] change entry all some many leads l c r m = absurd (omega arith)
leads_on a b d p q s when index (x ∷ changes) (y ∷ entries) change entry all some many leads l c r m = leads c r (logged_both b d c q s r _ _ l m)

no_opens : (when : When) (index : ℕ) (changes : List RouteChange) (entries : List Entry) → length changes ≡ 0 →
    opens_calls when index changes (map terms_of entries) ≡ []
no_opens when index [] entries none = refl
no_opens when index (x ∷ changes) entries none = cc

no_more_opens : (when : When) (index : ℕ) (changes : List RouteChange) (entries : List Entry) → length entries ≡ 0 →
    opens_calls when index changes (map terms_of entries) ≡ []
no_more_opens when index [] entries none = refl
no_more_opens when index (x ∷ changes) [] none = refl
no_more_opens when index (x ∷ changes) (y ∷ entries) none = cc

pub leads_end : (a b : Option (List ℕ)) (p q : LogPace) (when : When) (index : ℕ) (changes : List RouteChange) (entries : List Entry) (all : List LogCall) →
    length changes ≡ 0 → LeadsTo a b p q (opens_calls when index changes (map terms_of entries)) all → Logged a b p q all
leads_end a b p q when index changes entries all none leads =
    leads b q (subst (λ x. Logged b b q q x) (sym (no_opens when index changes entries none)) (logged_nothing b q))

pub leads_end_too : (a b : Option (List ℕ)) (p q : LogPace) (when : When) (index : ℕ) (changes : List RouteChange) (entries : List Entry)
    (all : List LogCall) → length entries ≡ 0 → LeadsTo a b p q (opens_calls when index changes (map terms_of entries)) all → Logged a b p q all
leads_end_too a b p q when index changes entries all none leads =
    leads b q (subst (λ x. Logged b b q q x) (sym (no_more_opens when index changes entries none)) (logged_nothing b q))

some_of : (n : ℕ) → (n == 0) ≡ false → 0 < n
some_of n some = grind (arith, nat_tests, some)

none_of : (n : ℕ) → (n == 0) ≡ true → n ≡ 0
none_of n none = grind (arith, nat_tests, none)

-- the same by the code's tests, and for the slices that are left
pub leads_kept : (a b d : Option (List ℕ)) (p q s : LogPace) (when : When) (index next : ℕ) (changes rest : List RouteChange) (entries others : List Entry)
    (change first : RouteChange) (entry one : Entry) (all : List LogCall) → (length changes == 0) ≡ false → (length entries == 0) ≡ false →
    change ≡ get_or changes 0 first → entry ≡ get_or entries 0 one → next ≡ next_after index change → rest ≡ drop 1 changes → others ≡ drop 1 entries →
    LeadsTo a b p q (opens_calls when index changes (map terms_of entries)) all →
    Logged b d q s (open_call when change (terms_of entry) index) → LeadsTo a d p s (opens_calls when next rest (map terms_of others)) all
leads_kept a b d p q s when index next changes rest entries others change first entry one all some many ec ee en er eo leads l c r m =
    leads_on a b d p q s when index changes entries first one all (some_of _ some) (some_of _ many) leads
    (logged_as _ _ _ _ _ _ (λ i. open_call when (ec i) (terms_of (ee i)) index) l) c r
    (logged_as _ _ _ _ _ _ (λ i. opens_calls when ((en ∙ ap (next_after index) ec) i) (er i) (map terms_of (eo i))) m)

pub leads_over : (a b : Option (List ℕ)) (p q : LogPace) (when : When) (index : ℕ) (changes : List RouteChange) (entries : List Entry) (all : List LogCall) →
    (length changes == 0) ≡ true → LeadsTo a b p q (opens_calls when index changes (map terms_of entries)) all → Logged a b p q all
leads_over a b p q when index changes entries all none leads = leads_end a b p q when index changes entries all (none_of _ none) leads

pub leads_over_too : (a b : Option (List ℕ)) (p q : LogPace) (when : When) (index : ℕ) (changes : List RouteChange) (entries : List Entry)
    (all : List LogCall) → (length entries == 0) ≡ true → LeadsTo a b p q (opens_calls when index changes (map terms_of entries)) all → Logged a b p q all
leads_over_too a b p q when index changes entries all none leads = leads_end_too a b p q when index changes entries all (none_of _ none) leads
