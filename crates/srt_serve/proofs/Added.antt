-- Which routes the watcher answered to open.
use Rattle.std.proofs.Common.{◌≡◌, inl, inr, ℕ, zero, suc, ◌+◌, ◌<◌, ◌≤◌, List, [], ◌∷◌, ◌++◌, length, map, get_or, sym, subst, append_assoc, arith}
use Rattle.std.specs.Prelude.{Result, Ok, Err, IfOk, IfErr}
use Rattle.std.proofs.Math.Seq.{get_or-append_seam}
use Rattle.std.proofs.lemmas.Bool.{cases_lt}
use Rattle.std.proofs.lemmas.List.{get_or_append_left, length-append}
use Rattle.srt_types.specs.declared.shared.Entry.{Entry}
use Rattle.srt_types.specs.Terms.{terms_of}
use Rattle.srt_mailbox.specs.Cells.{CellIdentity}
use Rattle.srt_supervision.specs.Answers.{Answer, Opens, AreOpenings}
use Rattle.srt_serve.specs.inside.Arrived.{IsAnswered, AreAnswered}
use Rattle.srt_serve.specs.Opened.{terms_in}
use Rattle.srt_serve.specs.Ran.{WereAdded}

-- of routes that are all among the first nothing is asked
pub first_answered : (answered : Answer → Type 0) (first : ℕ) (routes : List CellIdentity) → length routes ≤ first → AreAnswered answered first routes
first_answered answered first routes few r n below late = absurd (omega (arith, few, below, late))

-- the entry at this place of a change is one that was requested to open
opening_at : (answered : Answer → Type 0) (entries : List Entry) (i : ℕ) (entry : Entry)
    → i < length entries → AreOpenings answered (map terms_of entries) → answered (Opens (terms_of (get_or entries i entry)))
opening_at answered [] i entry below asked = absurd (omega (arith, below))
opening_at answered (e ∷ entries) zero entry below asked = asked.0
opening_at answered (e ∷ entries) (suc i) entry below asked = opening_at answered entries i entry (omega (arith, below)) asked.1

pub entry_answered : (answered : Answer → Type 0) (first index : ℕ) (entries : List Entry) (i : ℕ) (entry : Entry)
    → i < length entries → entry ≡ get_or entries i entry → AreOpenings answered (map terms_of entries) → IsAnswered answered first index (terms_of entry)
entry_answered answered first index entries i entry below there asked late =
    ∣ subst (λ (e : Entry). answered (Opens (terms_of e))) (sym there) (opening_at answered entries i entry below asked) ∣₁

-- one route more
answered_grow : (answered : Answer → Type 0) (first : ℕ) (routes routes' : List CellIdentity) (n : CellIdentity)
    → routes' ≡ routes ++ n ∷ [] → n.index ≡ length routes → IsAnswered answered first n.index n.terms
    → AreAnswered answered first routes → AreAnswered answered first routes'
answered_grow answered first routes routes' n grew index new h =
    subst (AreAnswered answered first) (sym grew) (λ r m below. elim (cases_lt r (length routes)) [
      | inl lt ↦ rw (get_or_append_left routes (n ∷ []) m r lt) (h r m lt)
      | inr le ↦
          let last : length routes ≡ r = omega (arith, length-append routes (n ∷ []), below, le) in
          let here : get_or (routes ++ n ∷ []) r m ≡ n = rw (← last) (get_or-append_seam routes n [] m) in
          rw here (λ late. new (omega (arith, late, last, index)))
    ])

-- perhaps one route more
pub next_answered : {E F : Type 0} (answered : Answer → Type 0) (first : ℕ) (Q : E → Type 0) (N : Type 0) (found : Result E F)
    (routes routes' : List CellIdentity)
    → ((e : E) → Q e → (n : CellIdentity) × (routes' ≡ routes ++ n ∷ []) × (n.index ≡ length routes) × IsAnswered answered first n.index n.terms)
    → (N → routes' ≡ routes)
    → IfOk found Q → IfErr found (λ _. N) → AreAnswered answered first routes → AreAnswered answered first routes'
next_answered answered first Q N (Ok e) routes routes' more same some none h =
    let one = more e some in
    answered_grow answered first routes routes' one.0 one.1 one.2 one.3 h
next_answered answered first Q N (Err f) routes routes' more same some none h = subst (AreAnswered answered first) (sym (same none)) h

-- the watcher answered to open all routes after the first ones
added_after : (answered : Answer → Type 0) (first : ℕ) (routes later : List CellIdentity) → first ≤ length routes
    → AreAnswered answered first (routes ++ later) → WereAdded answered (terms_in later)
added_after answered first routes [] enough h = tt
added_after answered first routes (n ∷ later) enough h =
    let grown : length (routes ++ n ∷ []) ≡ length routes + 1 = length-append routes (n ∷ []) in
    let whose : get_or (routes ++ n ∷ later) (length routes) n ≡ n = get_or-append_seam routes n later n in
    let many = length-append routes (n ∷ later) in (
      subst (λ (m : CellIdentity). ∥ answered (Opens m.terms) ∥₁) whose (h (length routes) n (omega (arith, many)) enough),
      added_after answered first (routes ++ n ∷ []) later (omega (arith, enough, grown))
          (subst (AreAnswered answered first) (sym (append_assoc routes (n ∷ []) later)) h),
    )

pub were_added : (answered : Answer → Type 0) (first : ℕ) (routes routes' later : List CellIdentity) → length routes ≡ first → routes' ≡ routes ++ later
    → AreAnswered answered first routes' → WereAdded answered (terms_in later)
were_added answered first routes routes' later many grew h =
    added_after answered first routes later (omega (arith, many)) (subst (AreAnswered answered first) grew h)
