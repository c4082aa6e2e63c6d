-- Faults that are explained one by one.
use Rattle.std.proofs.Common.{◌≡◌, ℕ, zero, suc, ◌<◌, ◌-◌, ◌⊎◌, inl, inr, false, true, List, [], ◌∷◌, ◌++◌, map, take, drop, length, append-nil}
use Rattle.std.proofs.Common.{Option, Some, None, IsSome, Result, Err, refl, sym, ap, subst, ◌∙◌, ◌↔◌, arith}
use Rattle.std.specs.Option.{option_to_list}
use Rattle.toml.specs.Data.{Members}
use Rattle.srt_config.specs.declared.config.placed.Place.{Place}
use Rattle.srt_config.specs.declared.config.placed.PlacedFault.{PlacedFault}
use Rattle.srt_config.specs.declared.config.faults.ConfigFault.TheVariants.{OutOfMemory}
use Rattle.srt_config.specs.FirstFault.{Fault, plain_fault, Gives}
use Rattle.srt_config.specs.FaultPlace.{document_place}
use Rattle.srt_config.specs.Defaults.{with_defaults}
use Rattle.srt_config.specs.Config.{Settings, settings_of, config_in}
use Rattle.srt_config.specs.AllFaults.{Placed, placed, placed_seen, faults_seen, all_faults}
use Rattle.srt_config.specs.AllFaultLaws.{first, fault_of}
use Rattle.srt_config.proofs.AllFaults.{first_is_read}
use Rattle.srt_explain.specs.declared.explanation.Explanation.{Explanation}
use Rattle.srt_explain.specs.declared.explanation.Faults.{Faults}
use Rattle.srt_explain.specs.declared.others.Others.{Others}
use Rattle.srt_explain.specs.Explaining.{place_of, IsPrivate}
use Rattle.srt_explain.specs.Listing.{faults_of, told_of, HasAll, ArePrivate}
use Rattle.srt_explain.specs.Misspelled.{with_faults}
use Rattle.srt_explain.specs.inside.Others.{AreOthers, HasOthers}
use Rattle.srt_explain.proofs.Meant.{first_told}

-- an iterator that gives nothing has nothing left
pub nothing_left : {X : Type 0} (count : ℕ) (items : List X) (r : Option X) → count ≡ length items → (IsSome r ↔ (0 < count)) → r ≡ None → items ≡ []
nothing_left count [] r h k none = refl
nothing_left count (y ∷ ys) None h k none =
    let bad : false ≡ true = k.1 (omega (arith, h)) in
    cc
nothing_left count (y ∷ ys) (Some x) h k none = cc

-- what an iterator has left once it gave the first, if there is one
rest_of : (faults rest : List PlacedFault) (r : Option PlacedFault) (count : ℕ) → count ≡ length faults → (IsSome r ↔ (0 < count))
    → faults ≡ option_to_list r ++ rest → rest ≡ drop 1 faults
rest_of faults rest (Some x) count h k e = ap (drop 1) (sym e)
rest_of faults rest None count h k e = sym e ∙ nothing_left count faults None h k refl ∙ sym (ap (drop 1) (nothing_left count faults None h k refl))

seen_rest : (faults : List PlacedFault) → faults_seen (drop 1 faults) ≡ drop 1 (faults_seen faults)
seen_rest [] = refl
seen_rest (x ∷ xs) = refl

pub first_passed : (faults items rest : List PlacedFault) (list : List Explanation) (r : Option PlacedFault) (count : ℕ)
    → count ≡ length items → (IsSome r ↔ (0 < count)) → items ≡ faults → items ≡ option_to_list r ++ rest → list ≡ []
    → map told_of list ++ take 19 (faults_seen rest) ≡ take 19 (drop 1 (faults_seen faults))
first_passed faults items rest list r count h k same e none =
    ap (λ xs. map told_of xs ++ take 19 (faults_seen rest)) none
    ∙ ap (λ xs. take 19 (faults_seen xs)) (rest_of items rest r count h k e)
    ∙ ap (take 19) (seen_rest items)
    ∙ ap (λ xs. take 19 (drop 1 (faults_seen xs))) same

joined : (xs : List Explanation) (e : Explanation) (rest : List Placed) → map told_of (xs ++ e ∷ []) ++ rest ≡ map told_of xs ++ told_of e ∷ rest
joined [] e rest = refl
joined (x ∷ xs) e rest = ap (λ ys. told_of x ∷ ys) (joined xs e rest)

told_is : (e : Explanation) (p : PlacedFault) → e.fault ≡ p.fault → place_of e.part ≡ p.place → told_of e ≡ placed_seen p
told_is e p f at = ap (λ x. placed x (plain_fault e.fault)) at ∙ ap (λ x. placed p.place (plain_fault x)) f

-- one more is explained
pub one_more : (list later : List Explanation) (e : Explanation) (p : PlacedFault) (old rest : List PlacedFault) (m k : ℕ) (all : List Placed)
    → later ≡ list ++ e ∷ [] → old ≡ p ∷ rest → e.fault ≡ p.fault → place_of e.part ≡ p.place → m ≡ suc k
    → map told_of list ++ take m (faults_seen old) ≡ all → map told_of later ++ take k (faults_seen rest) ≡ all
one_more list later e p old rest m k all l o f at n h =
    ap (λ xs. map told_of xs ++ take k (faults_seen rest)) l
    ∙ joined list e (take k (faults_seen rest))
    ∙ ap (λ x. map told_of list ++ x ∷ take k (faults_seen rest)) (told_is e p f at)
    ∙ ap (λ xs. map told_of list ++ take (suc k) (faults_seen xs)) (sym o)
    ∙ ap (λ i. map told_of list ++ take i (faults_seen old)) (sym n)
    ∙ h

take_none : (n : ℕ) → take n (faults_seen []) ≡ []
take_none zero = refl
take_none (suc n) = refl

-- all are explained
pub none_more : (list : List Explanation) (n : ℕ) (rest : List PlacedFault) (all : List Placed)
    → (n ≡ 0) ⊎ (rest ≡ []) → map told_of list ++ take n (faults_seen rest) ≡ all → map told_of list ≡ all
none_more list n rest all (inl z) h =
    sym (append-nil (map told_of list)) ∙ ap (λ i. map told_of list ++ take i (faults_seen rest)) (sym z) ∙ h
none_more list n rest all (inr e) h =
    sym (append-nil (map told_of list)) ∙ ap (λ xs. map told_of list ++ xs) (sym (take_none n))
    ∙ ap (λ xs. map told_of list ++ take n (faults_seen xs)) (sym e) ∙ h

-- one more that has nothing private
pub private_more : (list later : List Explanation) (e : Explanation) → later ≡ list ++ e ∷ [] → ArePrivate list → IsPrivate e → ArePrivate later
private_more list later e l h p = subst ArePrivate (sym l) (together list h) where
  together : (xs : List Explanation) → ArePrivate xs → ArePrivate (xs ++ e ∷ [])
  together [] h = (p, tt)
  together (x ∷ xs) h = (h.0, together xs h.1)

pub alone_private : (first : Explanation) (others : List Explanation) → others ≡ [] → IsPrivate first → ArePrivate (first ∷ others)
alone_private first others none p = subst (λ xs. ArePrivate (first ∷ xs)) (sym none) (p, tt)

many : (faults : List PlacedFault) → length faults ≡ length (faults_seen faults)
many [] = refl
many (x ∷ xs) = ap suc (many xs)

-- the others of these faults
pub others_are : (faults : List PlacedFault) (all : List Placed) (o : Others) → faults_seen faults ≡ all
    → map told_of o.explained.items ≡ take 19 (drop 1 (faults_seen faults)) → o.more ≡ length faults - 20 → ArePrivate o.explained.items → AreOthers all o
others_are faults all o e told more hidden =
    (told ∙ ap (λ xs. take 19 (drop 1 xs)) e, more ∙ ap (λ n. n - 20) (many faults ∙ ap length e), hidden)

-- a text that isn't TOML has no others
pub no_others : (d : Option Members) (o : Others) → None ≡ d → o.explained.items ≡ [] → o.more ≡ 0 → AreOthers (faults_of d) o
no_others d o none explained more =
    subst (λ x. AreOthers (faults_of x) o) none (ap (map told_of) explained, more, subst ArePrivate (sym explained) tt)

-- the others of a text's table, as it is written and with the defaults
pub others_of_text : (d : Option Members) (written table whole : Members) (o : Others) → Some written ≡ d → Some table ≡ d
    → whole ≡ with_defaults table → AreOthers (with_faults [] (all_faults written whole)) o → AreOthers (faults_of d) o
others_of_text d written table whole o p q r h =
    let both : Some written ≡ Some table = p ∙ sym q in
    let same : written ≡ table = cc in
    subst (λ x. AreOthers (faults_of x) o) p (subst (λ x. AreOthers (with_faults [] (all_faults written x)) o) (r ∙ ap with_defaults (sym same)) h)

-- the first is the same, or an allocation failed
pub gives_first : {said : Result Settings Fault} (e first : Explanation) → (e ≡ first) ⊎ (e.fault ≡ OutOfMemory)
    → Gives settings_of (Err first.fault) said → Gives settings_of (Err e.fault) said
gives_first {said} e first (inl p) h = subst (λ (x : Explanation). Gives settings_of (Err x.fault) said) (sym p) h
gives_first e first (inr p) h = inl (ap Err p)

pub place_first : {at : Place} (e first : Explanation) → (e ≡ first) ⊎ (e.fault ≡ OutOfMemory)
    → (first.fault ≡ OutOfMemory) ⊎ (place_of first.part ≡ at) → (e.fault ≡ OutOfMemory) ⊎ (place_of e.part ≡ at)
place_first {at} e first (inl p) h = subst (λ (x : Explanation). (x.fault ≡ OutOfMemory) ⊎ (place_of x.part ≡ at)) (sym p) h
place_first e first (inr p) h = inl p

first_of_document : (d : Option Members) → first (faults_of d) ≡ fault_of (config_in d) (document_place d)
first_of_document (Some table) = first_told (all_faults table (with_defaults table)) ∙ first_is_read table (with_defaults table)
first_of_document None = refl

begins : (all : List Placed) (x : Placed) → first all ≡ Some x → all ≡ x ∷ drop 1 all
begins [] x h = absurd (let bad : None ≡ Some x = h in cc)
begins (y ∷ ys) x h =
    let both : Some y ≡ Some x = h in
    let same : y ≡ x = cc in
    ap (λ z. z ∷ ys) same

begins_so : (d : Option Members) (e : Explanation) → Err (plain_fault e.fault) ≡ config_in d → place_of e.part ≡ document_place d
    → faults_of d ≡ told_of e ∷ drop 1 (faults_of d)
begins_so d e g p =
    begins (faults_of d) (told_of e)
    (first_of_document d
    ∙ ap (λ x. fault_of x (document_place d)) (sym g)
    ∙ ap (λ x. Some (placed x (plain_fault e.fault))) (sym p))

-- the first and the others are all
pub all_told : (d : Option Members) (f : Faults) → Gives settings_of (Err f.first.fault) (config_in d)
    → (f.first.fault ≡ OutOfMemory) ⊎ (place_of f.first.part ≡ document_place d) → (f.first.fault ≡ OutOfMemory) ⊎ HasOthers (faults_of d) f
    → HasAll (faults_of d) f
all_told d f (inl g) p o = inl (let said : Err f.first.fault ≡ Err OutOfMemory = g in cc)
all_told d f (inr g) (inl p) o = inl p
all_told d f (inr g) (inr p) (inl o) = inl o
all_told d f (inr g) (inr p) (inr o) =
    inr (ap (λ ys. told_of f.first ∷ ys) o.0 ∙ ap (take 20) (sym (begins_so d f.first g p)), o.1)
