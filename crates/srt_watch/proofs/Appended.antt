-- Lists that are made item by item.
use Rattle.std.proofs.Common.{◌≡◌, ℕ, ◌+◌, ◌<◌, List, [], ◌∷◌, ◌++◌, length, map, take, drop, get_or, refl, sym, ap, ◌∙◌, arith}
use Rattle.std.proofs.Common.{append_assoc, append-nil, add-one}
use Rattle.std.proofs.lemmas.List.{take_more, flat_map_more, map-append}
use Rattle.std.specs.List.{flat_map}
use Rattle.srt_types.specs.declared.shared.Entry.{Entry}
use Rattle.srt_types.specs.Terms.{Terms, terms_of}
use Rattle.srt_config.specs.declared.changes.RouteChange.{RouteChange}
use Rattle.srt_log.specs.declared.config_events.ChangeSummary.{ChangeSummary}
use Rattle.srt_watch.specs.Indexes.{index_of, next_after, indexes_from, counted, counted_all}
use Rattle.srt_watch.specs.Requests.{opened_at, opened_by, first_indexes}

-- what is mapped of a list with one more item
pub mapped : {A B : Type 0} (f : A → B) (d : A) (xs : List A) (i : ℕ) → i < length xs → map f (take (i + 1) xs) ≡ map f (take i xs) ++ f (get_or xs i d) ∷ []
mapped f d xs i within = ap (map f) (take_more xs i d within) ∙ map-append f (take i xs) (get_or xs i d ∷ [])

pub flat_mapped : {A B : Type 0} (f : A → List B) (d : A) (xs : List A) (i : ℕ) → i < length xs →
    flat_map f (take (i + 1) xs) ≡ flat_map f (take i xs) ++ f (get_or xs i d)
flat_mapped f d xs i within = ap (flat_map f) (take_more xs i d within) ∙ sym (flat_map_more f [] (take i xs) (get_or xs i d))

-- one list put behind another
pub joined : {A : Type 0} (x y z a b : List A) → y ≡ x ++ a → z ≡ y ++ b → z ≡ x ++ (a ++ b)
joined x y z a b e f = f ∙ ap (λ (l : List _). l ++ b) e ∙ append_assoc x a b

-- the first route and the others
pub indexes_step : (before : List ℕ) (next : ℕ) (changes : List RouteChange) (change : RouteChange) → 0 < length changes →
    indexes_from before next changes
    ≡ index_of before next (get_or changes 0 change) ∷ indexes_from before (next_after next (get_or changes 0 change)) (drop 1 changes)
indexes_step before next [] change some = absurd (omega arith)
indexes_step before next (x ∷ changes) change some = refl

pub indexes_end : (before : List ℕ) (next : ℕ) (changes : List RouteChange) → length changes ≡ 0 → indexes_from before next changes ≡ []
indexes_end before next [] none = refl
indexes_end before next (x ∷ changes) none = cc

pub counted_step : (n : ChangeSummary) (changes : List RouteChange) (change : RouteChange) → 0 < length changes →
    counted_all n changes ≡ counted_all (counted n (get_or changes 0 change)) (drop 1 changes)
counted_step n [] change some = absurd (omega arith)
counted_step n (x ∷ changes) change some = refl

pub counted_end : (n : ChangeSummary) (changes : List RouteChange) → length changes ≡ 0 → counted_all n changes ≡ n
counted_end n [] none = refl
counted_end n (x ∷ changes) none = cc

-- one entry more, a copy of one with these keys
pub entry_added : (old new : List Entry) (copy : Entry) (terms : Terms) → new ≡ old ++ copy ∷ [] → terms_of copy ≡ terms →
    map terms_of new ≡ map terms_of old ++ terms ∷ []
entry_added old new copy terms e f = ap (map terms_of) e ∙ map-append terms_of old (copy ∷ []) ∙ ap (λ (t : Terms). map terms_of old ++ t ∷ []) f

-- the first of the routes and the others
pub opened_step : (changes : List RouteChange) (entries : List Entry) (change : RouteChange) (entry : Entry) → 0 < length changes → 0 < length entries →
    opened_by changes (map terms_of entries)
    ≡ opened_at (get_or changes 0 change) (terms_of (get_or entries 0 entry)) ++ opened_by (drop 1 changes) (map terms_of (drop 1 entries))
opened_step [] entries change entry some many = absurd (omega arith)
opened_step (x ∷ changes) [] change entry some many = absurd (omega arith)
opened_step (x ∷ changes) (y ∷ entries) change entry some many = refl

pub opened_end : (changes : List RouteChange) (entries : List Entry) → length changes ≡ 0 → opened_by changes (map terms_of entries) ≡ []
opened_end [] entries none = refl
opened_end (x ∷ changes) entries none = cc

pub opened_last : (changes : List RouteChange) (entries : List Entry) → length entries ≡ 0 → opened_by changes (map terms_of entries) ≡ []
opened_last [] entries none = refl
opened_last (x ∷ changes) [] none = refl
opened_last (x ∷ changes) (y ∷ entries) none = cc

pub first_none : first_indexes 0 ≡ []
unfolding first_indexes
first_none = refl

pub first_step : (routes : ℕ) → first_indexes (routes + 1) ≡ first_indexes routes ++ routes ∷ []
unfolding first_indexes
first_step routes = rw add-one refl

-- a list behind which nothing is left is the whole
pub opened_all : (x rest all : List Terms) → x ++ rest ≡ all → rest ≡ [] → x ≡ all
opened_all x rest all e none = sym (append-nil x) ∙ ap (λ (l : List Terms). x ++ l) (sym none) ∙ e
