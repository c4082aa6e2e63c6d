-- Routes are opened one after another.
use Rattle.std.proofs.Common.{◌≡◌, inl, inr, ℕ, ◌+◌, ◌<◌, List, [], ◌∷◌, ◌++◌, length, map, take, get_or, slice_get}
use Rattle.std.proofs.Common.{true, Some, refl, sym, ap, subst, ◌∙◌, arith}
use Rattle.std.proofs.Math.Seq.{get_or-append_seam}
use Rattle.std.proofs.lemmas.Bool.{cases_lt}
use Rattle.std.proofs.lemmas.List.{take_more, map-append, get_or_append_left, length-append, length-map}
use Rattle.srt_mailbox.proofs.Tokens.{one_shown, shown_at}
use Rattle.srt_types.specs.declared.shared.Entry.{Entry}
use Rattle.srt_types.specs.Terms.{Terms, terms_of}
use Rattle.srt_mailbox.specs.Cells.{CellIdentity}
use Rattle.srt_mailbox.specs.Ends.{Producer, producer, drained}
use Rattle.srt_poller.specs.declared.ends.Ends.{Ends}
use Rattle.srt_serve.specs.Opened.{IsOpened, AreOpened, terms_in, new_clock, new_clocks}

get_or_push : {X : Type 0} (xs : List X) (x d : X) (k : ℕ) → length xs ≡ k → get_or (xs ++ x ∷ []) k d ≡ x
get_or_push xs x d k h = rw (← h) (get_or-append_seam xs x [] d)

length_push : {X : Type 0} (xs : List X) (x : X) → length (xs ++ x ∷ []) ≡ length xs + 1
length_push xs x = length-append xs (x ∷ [])

pub none_opened : AreOpened [] []
none_opened = record { as_many = refl; each = λ r n e below. absurd (omega arith) }

pub one_more : (routes : List CellIdentity) (ends : List Ends) (n : CellIdentity) (e : Ends)
    → IsOpened (length routes) n e → AreOpened routes ends → AreOpened (routes ++ n ∷ []) (ends ++ e ∷ [])
one_more routes ends n e new h = record {
  as_many = omega (arith, length_push ends e, length_push routes n, h.as_many);
  each = λ r n' e' below. elim (cases_lt r (length routes)) [
    | inl lt ↦
        rw (get_or_append_left routes (n ∷ []) n' r lt, get_or_append_left ends (e ∷ []) e' r (omega (arith, h.as_many, lt)))
        (h.each r n' e' lt)
    | inr le ↦
        let last : length routes ≡ r = omega (arith, length_push routes n, below, le) in
        rw (get_or_push routes n n' r last, get_or_push ends e e' r (h.as_many ∙ last))
        (subst (λ (j : ℕ). IsOpened j n e) last new)
  ];
}

-- the terms of the routes that were opened are those of the entries so far, and of one more
pub terms_grow : (entries : List Entry) (i : ℕ) (entry : Entry) (routes routes' : List CellIdentity) (n : CellIdentity)
    → i < length entries → entry ≡ get_or entries i entry → n.terms ≡ terms_of entry → routes' ≡ routes ++ n ∷ []
    → terms_in routes ≡ map terms_of (take i entries) → terms_in routes' ≡ map terms_of (take (i + 1) entries)
terms_grow entries i entry routes routes' n below there whose grew h =
    rw (take_more entries i entry below, ← there, map-append terms_of (take i entries) (entry ∷ []))
    (ap terms_in grew ∙ map-append (λ m. m.terms) routes (n ∷ [])
    ∙ ap (λ (ts : List Terms). ts ++ n.terms ∷ []) h
    ∙ ap (λ (t : Terms). map terms_of (take i entries) ++ t ∷ []) whose)

-- the clock's ends are those of the routes that its reader has reached, and of one more
pub clocks_grow : (routes routes' : List CellIdentity) (clocks clocks' : List Producer) (n : CellIdentity)
    → routes' ≡ routes ++ n ∷ [] → clocks' ≡ clocks ++ new_clock n ∷ [] → clocks ≡ new_clocks routes → clocks' ≡ new_clocks routes'
clocks_grow routes routes' clocks clocks' n added taken h =
    taken ∙ ap (λ (cs : List Producer). cs ++ new_clock n ∷ []) h ∙ sym (map-append new_clock routes (n ∷ [])) ∙ ap new_clocks (sym added)

-- the lock of a place is at its index
pub place_put : {S : Type 0} (id : S → ℕ) (places : List S) (locks : List ℕ) (i n : ℕ) (p : S) (of : ℕ)
    → locks ≡ map id places → i ≡ n → p ≡ get_or places i p → i < length places → of ≡ id p → slice_get locks n ≡ Some of
place_put id places locks i n p of shown same there within put =
    ap (λ (ns : List ℕ). slice_get ns n) shown ∙ ap (slice_get (map id places)) (sym same) ∙ shown_at id places i p within there ∙ ap Some (sym put)

-- the tokens of the places so far, and of one more
pub tokens_grow : {T S : Type 0} (of : T → ℕ) (who : T → CellIdentity) (id : S → ℕ) (places : List S) (tokens tokens' : List T) (t : T)
    (routes routes' : List CellIdentity) (n : CellIdentity)
    →
    (map of tokens ≡ take (length tokens) (map id places)) × (map who tokens ≡ routes) → tokens' ≡ tokens ++ t ∷ [] → routes' ≡ routes ++ n ∷ []
    → who t ≡ n → slice_get (map id places) (length routes) ≡ Some (of t)
    →
    (map of tokens' ≡ take (length tokens') (map id places)) × (map who tokens' ≡ routes')
tokens_grow of who id places tokens tokens' t routes routes' n h pushed grew whose at =
    let many : length routes ≡ length tokens = ap length (sym h.1) ∙ length-map tokens who in (
      one_shown of id tokens places h.0 tokens' t true pushed (ap (slice_get (map id places)) (sym many) ∙ at),
      ap (map who) pushed ∙ map-append who tokens (t ∷ [])
          ∙ ap (λ (ns : List CellIdentity). ns ++ who t ∷ []) h.1
          ∙ ap (λ (m : CellIdentity). routes ++ m ∷ []) whose
          ∙ sym grew,
    )

-- the route that was taken from a place is that which was put there
pub first_taken : (added added' : List CellIdentity) (n there put : CellIdentity) (e : Ends) (i : ℕ)
    → added' ≡ added ++ n ∷ [] → n.index ≡ length added → e.ingress ≡ producer n.inbox n.terms.inbox []
    → e.drain ≡ drained n.outbox n.terms.outbox [] e.drain.hand → i ≡ length added → slice_get added' i ≡ Some there → there ≡ put
    → (added' ≡ added ++ put ∷ []) × IsOpened (length added) put e
first_taken added added' n there put e i grew index ingress drain at found same =
    let here : slice_get added' i ≡ Some n = ap (λ ns. slice_get ns i) grew ∙ ap (λ j. slice_get (added ++ n ∷ []) j) at ∙ at_end added n in
    let whose : n ≡ put = some_same (sym here ∙ found) ∙ same in (
      grew ∙ ap (λ m. added ++ m ∷ []) whose,
      subst (λ m. IsOpened (length added) m e) whose (record { index_is = index; ingress = ingress; drain = drain }),
    )
  where
    at_end : (xs : List CellIdentity) (x : CellIdentity) → slice_get (xs ++ x ∷ []) (length xs) ≡ Some x
    at_end [] x = refl
    at_end (y ∷ xs) x = at_end xs x

    some_same : {a b : CellIdentity} → Some a ≡ Some b → a ≡ b
    some_same h = cc
