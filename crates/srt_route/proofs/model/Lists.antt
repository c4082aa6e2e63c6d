-- Changes of every element of a list.
use Rattle.std.proofs.Common.{◌≡◌, ℕ, zero, suc, Bool, true, false, cond, Option, None, Some, List, [], ◌∷◌, ◌++◌, map, length, refl, sym, ap, ◌∙◌}
use Rattle.std.specs.Prelude.{⊤, IfSome, filter, find, filter_map, option_map, fold, take, take_while, slice_get, ◌||◌}
use Rattle.std.specs.List.{prefix_len, list_any, flat_map, cons_option}
use Rattle.std.proofs.lemmas.List.{map-append}

pub map_through : {A B C D : Type 0}
    → (σ : A → B) (f : B → D) (g : A → C) (τ : C → D) → ((x : A) → f (σ x) ≡ τ (g x)) → (xs : List A) → map f (map σ xs) ≡ map τ (map g xs)
map_through σ f g τ e [] = refl
map_through σ f g τ e (x ∷ xs) = ap (λ y. y ∷ map f (map σ xs)) (e x) ∙ ap (λ ys. τ (g x) ∷ ys) (map_through σ f g τ e xs)

pub map_twice : {A B C : Type 0} → (f : A → B) (g : B → C) (xs : List A) → map g (map f xs) ≡ map (λ x. g (f x)) xs
map_twice f g [] = refl
map_twice f g (x ∷ xs) = ap (λ ys. g (f x) ∷ ys) (map_twice f g xs)

pub any_through : {A B : Type 0} → (σ : A → B) (p : B → Bool) (q : A → Bool) → ((x : A) → p (σ x) ≡ q x) → (xs : List A) → list_any p (map σ xs) ≡ list_any q xs
any_through σ p q e [] = refl
any_through σ p q e (x ∷ xs) = ap (λ b. b || list_any p (map σ xs)) (e x) ∙ ap (λ b. q x || b) (any_through σ p q e xs)

pub find_through : {A B : Type 0}
    → (σ : A → B) (p : B → Bool) (q : A → Bool) → ((x : A) → p (σ x) ≡ q x) → (xs : List A) → find p (map σ xs) ≡ option_map σ (find q xs)
find_through σ p q e [] = refl
find_through {A} {B} σ p q e (x ∷ xs) =
    ap (λ b. cond b (Some (σ x)) (find p (map σ xs))) (e x) ∙ ap (λ o. cond (q x) (Some (σ x)) o) (find_through σ p q e xs) ∙ inside (q x)
  where
    inside : (b : Bool) → cond b (Some (σ x)) (option_map σ (find q xs)) ≡ option_map σ (cond b (Some x) (find q xs))
    inside true = refl
    inside false = refl

pub find_same : {A : Type 0} → (p q : A → Bool) → ((x : A) → p x ≡ q x) → (xs : List A) → find p xs ≡ find q xs
find_same p q e [] = refl
find_same p q e (x ∷ xs) = ap (λ b. cond b (Some x) (find p xs)) (e x) ∙ ap (λ o. cond (q x) (Some x) o) (find_same p q e xs)

pub flat_through : {A B C D : Type 0} → (σ : A → B) (f : B → List D) (g : A → List C) (τ : C → D) → ((x : A) → f (σ x) ≡ map τ (g x))
    → (xs : List A)
    → flat_map f (map σ xs) ≡ map τ (flat_map g xs)
flat_through σ f g τ e [] = refl
flat_through σ f g τ e (x ∷ xs) =
    ap (λ ys. ys ++ flat_map f (map σ xs)) (e x) ∙ ap (λ ys. map τ (g x) ++ ys) (flat_through σ f g τ e xs)
    ∙ sym (map-append τ (g x) (flat_map g xs))

pub flat_same : {A B C : Type 0}
    → (σ : A → B) (f : B → List C) (g : A → List C) → ((x : A) → f (σ x) ≡ g x) → (xs : List A) → flat_map f (map σ xs) ≡ flat_map g xs
flat_same σ f g e [] = refl
flat_same σ f g e (x ∷ xs) = ap (λ ys. ys ++ flat_map f (map σ xs)) (e x) ∙ ap (λ ys. g x ++ ys) (flat_same σ f g e xs)

pub picked_through : {A B C : Type 0} → (σ : B → C) (f : A → Option C) (g : A → Option B) → ((x : A) → f x ≡ option_map σ (g x))
    → (xs : List A)
    → filter_map f xs ≡ map σ (filter_map g xs)
picked_through σ f g e [] = refl
picked_through {A} {B} {C} σ f g e (x ∷ xs) =
    ap (λ o. cons_option o (filter_map f xs)) (e x) ∙ ap (λ ys. cons_option (option_map σ (g x)) ys) (picked_through σ f g e xs)
    ∙ inside (g x)
  where
    inside : (o : Option B) → cons_option (option_map σ o) (map σ (filter_map g xs)) ≡ map σ (cons_option o (filter_map g xs))
    inside None = refl
    inside (Some y) = refl

pub fold_through : {A B C : Type 0} → (σ : A → B) (f : C → B → C) (g : C → A → C) → ((c : C) (x : A) → f c (σ x) ≡ g c x)
    → (xs : List A) (c : C)
    → fold f c (map σ xs) ≡ fold g c xs
fold_through σ f g e [] c = refl
fold_through σ f g e (x ∷ xs) c = ap (λ d. fold f d (map σ xs)) (e c x) ∙ fold_through σ f g e xs (g c x)

pub filter_through : {A B : Type 0}
    → (σ : A → B) (p : B → Bool) (q : A → Bool) → ((x : A) → p (σ x) ≡ q x) → (xs : List A) → filter p (map σ xs) ≡ map σ (filter q xs)
filter_through σ p q e [] = refl
filter_through {A} {B} σ p q e (x ∷ xs) =
    ap (λ b. cond b (σ x ∷ filter p (map σ xs)) (filter p (map σ xs))) (e x)
    ∙ ap (λ ys. cond (q x) (σ x ∷ ys) ys) (filter_through σ p q e xs) ∙ inside (q x)
  where
    inside : (b : Bool) → cond b (σ x ∷ map σ (filter q xs)) (map σ (filter q xs)) ≡ map σ (cond b (x ∷ filter q xs) (filter q xs))
    inside true = refl
    inside false = refl

pub filter_same : {A : Type 0} → (p q : A → Bool) → ((x : A) → p x ≡ q x) → (xs : List A) → filter p xs ≡ filter q xs
filter_same p q e [] = refl
filter_same p q e (x ∷ xs) = ap (λ b. cond b (x ∷ filter p xs) (filter p xs)) (e x) ∙ ap (λ ys. cond (q x) (x ∷ ys) ys) (filter_same p q e xs)

-- the number of elements that pass a test
abbrev pub how_many : {A : Type 0} → (A → Bool) → List A → ℕ
how_many p xs = length (filter p xs)

pub one_more : {A : Type 0} (p : A → Bool) (x : A) (xs : List A) (b : Bool) → p x ≡ b → how_many p (x ∷ xs) ≡ cond b (suc (how_many p xs)) (how_many p xs)
one_more p x xs true is = ap (λ (b : Bool). length (cond b (x ∷ filter p xs) (filter p xs))) is
one_more p x xs false is = ap (λ (b : Bool). length (cond b (x ∷ filter p xs) (filter p xs))) is

-- each element of the list has a property
abbrev pub Each : {A : Type 0} → (A → Type 0) → List A → Type 0
Each P [] = ⊤
Each P (x ∷ xs) = P x × Each P xs

pub each_append : {A : Type 0} (P : A → Type 0) (xs ys : List A) → Each P xs → Each P ys → Each P (xs ++ ys)
each_append P [] ys h k = k
each_append P (x ∷ xs) ys h k = (h.0, each_append P xs ys h.1 k)

pub each_take : {A : Type 0} (P : A → Type 0) (n : ℕ) (xs : List A) → Each P xs → Each P (take n xs)
each_take P zero xs h = tt
each_take P (suc n) [] h = tt
each_take P (suc n) (x ∷ xs) h = (h.0, each_take P n xs h.1)

pub each_while : {A : Type 0} (P : A → Type 0) (p : A → Bool) (xs : List A) → Each P xs → Each P (take_while p xs)
each_while P p xs h = each_take P (prefix_len p xs) xs h

pub each_mapped : {A B : Type 0} (P : A → Type 0) (Q : B → Type 0) (f : A → B) → ((x : A) → P x → Q (f x)) → (xs : List A) → Each P xs → Each Q (map f xs)
each_mapped P Q f keeps [] h = tt
each_mapped P Q f keeps (x ∷ xs) h = (keeps x h.0, each_mapped P Q f keeps xs h.1)

pub each_flat : {A B : Type 0} (P : A → Type 0) (Q : B → Type 0) (f : A → List B)
    → ((x : A) → P x → Each Q (f x)) → (xs : List A) → Each P xs → Each Q (flat_map f xs)
each_flat P Q f keeps [] h = tt
each_flat P Q f keeps (x ∷ xs) h = each_append Q (f x) (flat_map f xs) (keeps x h.0) (each_flat P Q f keeps xs h.1)

pub each_found : {A : Type 0} (P : A → Type 0) (p : A → Bool) (xs : List A) → Each P xs → IfSome (find p xs) P
each_found P p [] h = tt
each_found {A} P p (x ∷ xs) h = by (p x) (each_found P p xs h.1)
  where
    by : (b : Bool) → IfSome (find p xs) P → IfSome (cond b (Some x) (find p xs)) P
    by true later = h.0
    by false later = later

pub each_picked : {A B : Type 0} (P : B → Type 0) (f : A → Option B) → ((x : A) → IfSome (f x) P) → (xs : List A) → Each P (filter_map f xs)
each_picked P f keeps [] = tt
each_picked {A} {B} P f keeps (x ∷ xs) = by (f x) (keeps x) (each_picked P f keeps xs)
  where
    by : (o : Option B) → IfSome o P → Each P (filter_map f xs) → Each P (cons_option o (filter_map f xs))
    by None one rest = rest
    by (Some y) one rest = (one, rest)

pub each_at : {A : Type 0} (P : A → Type 0) (xs : List A) (n : ℕ) → Each P xs → IfSome (slice_get xs n) P
each_at P [] n h = tt
each_at P (x ∷ xs) zero h = h.0
each_at P (x ∷ xs) (suc n) h = each_at P xs n h.1
