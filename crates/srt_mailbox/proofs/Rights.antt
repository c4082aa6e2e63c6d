-- A right to use a queue, through each kind of operation. At most one pass has the right, and that pass knows all
-- operations performed with it. `views` are the views of the passes; `may v` states whether a pass with the view v has
-- the right, and `done v` which operations it knows of.
use Rattle.std.proofs.Common.{◌≡◌, ◌≢◌, ℕ, zero, suc, Bool, true, false, true≢false, List, [], ◌∷◌, ◌++◌, length, set, sym, refl, ap, ◌∙◌, subst, ⊎_elim}
use mathlib.Core.Option.{some, some-ne-none, some-injective}
use lib.ListN.{get_elem?}
use Rattle.crossbeam_queue.proofs.Lists.{at_set, at_snoc}

-- a view made without the right doesn't have it
pub never : false ≢ true
never t = true≢false (sym t)

module _ {V : Type 0} where
  abbrev pub All : (ℕ → V → Type 0) → List V → Type 0
  All F views = (pass : ℕ) (v : V) → get_elem? views pass ≡ some v → F pass v

  pub all_one : (F : ℕ → V → Type 0) (v : V) → F 0 v → All F (v ∷ [])
  all_one F v f zero u e = subst (F 0) (some-injective v u e) f
  all_one F v f (suc j) u e = absurd (some-ne-none u (sym e))

  all_set : (F : ℕ → V → Type 0) (views : List V) (pass : ℕ) (w : V)
      → F pass w → ((j : ℕ) (u : V) → j ≢ pass → get_elem? views j ≡ some u → F j u) → All F (set views pass w)
  all_set F views pass w mine others j u e = ⊎_elim (λ (x : (j ≡ pass) × (w ≡ u)). subst (λ (y : ℕ × V). F y.0 y.1) (λ i. (sym x.0 i, x.1 i)) mine)
      (λ (x : (j ≢ pass) × (get_elem? views j ≡ some u)). others j u x.0 x.1) (at_set views pass j w u e)

  at_end : (views : List V) (a b : V) (j : ℕ) → get_elem? views j ≢ some b → get_elem? (views ++ a ∷ []) j ≡ some b → j ≡ length views
  at_end [] a b zero n e = refl
  at_end [] a b (suc j) n e = absurd (some-ne-none b (sym e))
  at_end (x ∷ xs) a b zero n e = absurd (n e)
  at_end (x ∷ xs) a b (suc j) n e = ap suc (at_end xs a b j n e)

  -- a pass's view before another pass's view changed
  pub before : (views : List V) (pass : ℕ) (w : V) (other : ℕ) (u : V)
      → other ≢ pass → get_elem? (set views pass w) other ≡ some u → get_elem? views other ≡ some u
  before views pass w other u apart e = ⊎_elim (λ x. absurd (apart x.0)) (λ x. x.1) (at_set views pass other w u e)

module _ {V L : Type 0} (may : V → Bool) (done : V → L) where
  -- a pass that has the right is the pass p, and knows that xs was performed
  abbrev pub Has : (p : ℕ) (xs : L) (pass : ℕ) → V → Type 0
  Has p xs pass v = may v ≡ true → (pass ≡ p) × (done v ≡ xs)

  -- an operation with the right
  pub used : (p : ℕ) (xs ys : L) (views : List V) (pass : ℕ) (v w : V)
      → All (Has p xs) views → get_elem? views pass ≡ some v → may v ≡ true → done w ≡ ys → All (Has p ys) (set views pass w)
  used p xs ys views pass v w has at mine knows =
      all_set (Has p ys) views pass w (λ _. ((has pass v at mine).0, knows)) (λ j u other e t. absurd (other ((has j u e t).0 ∙ sym (has pass v at mine).0)))

  -- an operation with another right, of a pass whose view of this right is unchanged
  pub kept : (p : ℕ) (xs ys : L) (views : List V) (pass : ℕ) (v w : V)
      → All (Has p xs) views → get_elem? views pass ≡ some v → xs ≡ ys → may w ≡ may v → done w ≡ done v → All (Has p ys) (set views pass w)
  kept p xs ys views pass v w has at same may_is done_is =
      all_set (Has p ys) views pass w (λ t. let f = has pass v at (sym may_is ∙ t) in (f.0, done_is ∙ f.1 ∙ same))
      (λ j u other e t. let f = has j u e t in (f.0, f.1 ∙ same))

  -- a new pass receives the right
  pub given : (p : ℕ) (xs : L) (views : List V) (pass : ℕ) (v left right : V) → All (Has p xs) views → get_elem? views pass ≡ some v
      → may v ≡ true → may left ≢ true → done right ≡ done v
      → All (Has (length (set views pass left)) xs) (set views pass left ++ right ∷ [])
  given p xs views pass v left right has at mine gone same j u e t =
      let rest : List V = set views pass left in
      let none : All (λ _ y. may y ≢ true) rest =
      all_set (λ _ y. may y ≢ true) views pass left gone (λ k y other f s. other ((has k y f s).0 ∙ sym (has pass v at mine).0)) in
      ⊎_elim (λ x. absurd (none j u x t))
      (λ (is : right ≡ u). (at_end rest right u j (λ x. none j u x t) e, ap done (sym is) ∙ same ∙ (has pass v at mine).1))
      (at_snoc rest right u j e)

  -- a new pass receives another right, and not this one
  pub held : (p : ℕ) (xs : L) (views : List V) (pass : ℕ) (v left right : V) → All (Has p xs) views → get_elem? views pass ≡ some v
      → may left ≡ may v → done left ≡ done v → may right ≢ true
      → All (Has p xs) (set views pass left ++ right ∷ [])
  held p xs views pass v left right has at may_is done_is lacks j u e t =
      ⊎_elim (λ x. kept p xs xs views pass v left has at refl may_is done_is j u x t) (λ (is : right ≡ u). absurd (lacks (ap may is ∙ t)))
      (at_snoc (set views pass left) right u j e)

  -- the right is returned by another pass, which becomes unusable
  pub returned : (p : ℕ) (xs : L) (views : List V) (pass other : ℕ) (u both spent : V) → All (Has p xs) views
      → get_elem? views other ≡ some u → may u ≡ true → done both ≡ done u → may spent ≢ true
      → All (Has pass xs) (set (set views pass both) other spent)
  returned p xs views pass other u both spent has at theirs same lacks =
      all_set (Has pass xs) (set views pass both) other spent (λ t. absurd (lacks t))
      (λ j y apart e. all_set (λ k z. k ≢ other → Has pass xs k z) views pass both (λ _ _. (refl, same ∙ (has other u at theirs).1))
      (λ k z _ f away t. absurd (away ((has k z f t).0 ∙ sym (has other u at theirs).0))) j y e apart)

  -- another right is returned by another pass, which becomes unusable
  pub outlasts : (p : ℕ) (xs : L) (views : List V) (pass other : ℕ) (v both spent : V) → All (Has p xs) views
      → get_elem? views pass ≡ some v → may both ≡ may v → done both ≡ done v → may spent ≢ true
      → All (Has p xs) (set (set views pass both) other spent)
  outlasts p xs views pass other v both spent has at may_is done_is lacks =
      all_set (Has p xs) (set views pass both) other spent (λ t. absurd (lacks t)) (λ j y _ e. kept p xs xs views pass v both has at refl may_is done_is j y e)
