-- Routes come one after another.
use Rattle.std.proofs.Common.{◌≡◌, inl, inr, ℕ, ◌<◌, List, [], ◌∷◌, ◌++◌, length, get_or, sym, subst, ◌∙◌, arith}
use Rattle.std.specs.Prelude.{Result, Ok, Err, IfOk, IfErr}
use Rattle.std.proofs.Math.Seq.{get_or-append_seam}
use Rattle.std.proofs.lemmas.Bool.{cases_lt}
use Rattle.std.proofs.lemmas.List.{get_or_append_left, length-append}
use Rattle.srt_mailbox.specs.Cells.{CellIdentity}
use Rattle.srt_poller.specs.declared.ends.Ends.{Ends}
use Rattle.srt_serve.specs.inside.Arrived.{AreIndexed}
use Rattle.srt_serve.specs.Opened.{AreOpened}

some_of : {X : Type 0} (xs : List X) (r : ℕ) → r < length xs → X
some_of [] r h = absurd (omega arith)
some_of (x ∷ xs) r h = x

-- routes whose ends are those of their places have their indexes
pub opened_indexed : (routes : List CellIdentity) (ends : List Ends) → AreOpened routes ends → AreIndexed routes
opened_indexed routes ends opened r n below = (opened.each r n (some_of ends r (omega (arith, below, opened.as_many))) below).index_is

-- one route more, with the next index
pub indexed_grow : (routes routes' : List CellIdentity) (n : CellIdentity) → routes' ≡ routes ++ n ∷ [] → n.index ≡ length routes
    → AreIndexed routes → AreIndexed routes'
indexed_grow routes routes' n grew index h = subst AreIndexed (sym grew) (λ r m below. elim (cases_lt r (length routes)) [
  | inl lt ↦ rw (get_or_append_left routes (n ∷ []) m r lt) (h r m lt)
  | inr le ↦
      let last : length routes ≡ r = omega (arith, length-append routes (n ∷ []), below, le) in
      let here : get_or (routes ++ n ∷ []) r m ≡ n = rw (← last) (get_or-append_seam routes n [] m) in
      rw here (index ∙ last)
])

-- perhaps one route more
pub next_indexed : {E F : Type 0} (Q : E → Type 0) (N : Type 0) (found : Result E F) (routes routes' : List CellIdentity)
    → ((e : E) → Q e → (n : CellIdentity) × (routes' ≡ routes ++ n ∷ []) × (n.index ≡ length routes)) → (N → routes' ≡ routes)
    → IfOk found Q → IfErr found (λ _. N) → AreIndexed routes → AreIndexed routes'
next_indexed Q N (Ok e) routes routes' more same some none indexed =
    let one = more e some in
    indexed_grow routes routes' one.0 one.1 one.2 indexed
next_indexed Q N (Err f) routes routes' more same some none indexed = subst AreIndexed (sym (same none)) indexed
