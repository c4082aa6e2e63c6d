-- The function reads what the relation defines.
use Rattle.std.proofs.Common.{IfOk, IfErr, IsOkAnd, ◌≡◌, ◌⊎◌, ℕ, ◌+◌, ◌-◌, ◌%◌, ◌^◌, ◌<◌, ◌≤◌, ◌≢◌, None, Result, Ok, Err, List, [], ◌∷◌}
use Rattle.std.proofs.Common.{length, refl, sym, ap, subst, inl, inr, ◌∙◌, arith}
use Rattle.std.proofs.lemmas.Bool.{cases_lt, cases_order}
use Rattle.std.specs.Result.{result_err, result_unwrap_or}
use Rattle.srt_types.specs.Runs.{Range, span}
use Rattle.srt_loss.specs.declared.reading.LossFault.{LossFault}
use Rattle.srt_loss.specs.declared.reading.LossFault.TheVariants.{Ragged, Dangling, Backward}
use Rattle.srt_types.specs.Words.{words_in}
use Rattle.srt_loss.specs.Reading.{then_those, alone, ranges_in, losses_in}
use Rattle.srt_loss.specs.Spelling.{Begins, Single, FirstAndLast, SpellsUpTo, Spells, IsDangling, IsBackward, HasFault, SpelledIsRead, FaultIsRead}
use Rattle.srt_loss.proofs.Words.{whole_read, ragged_read, alone_read, both_read, backward_read, dangling_read, last_read, range_read}

begins_read : (ws : List ℕ) (r : Range) (next : List ℕ) → Begins ws r next → ranges_in None ws ≡ then_those r (ranges_in None next)
begins_read ws r next (Single e small same) =
    let one : alone r.first ≡ r = ap (λ l. record { first = r.first; last = l }) (sym same) in
    ap (λ x. ranges_in None x) e ∙ alone_read r.first next small ∙ ap (λ x. then_those x (ranges_in None next)) one
begins_read ws r next (FirstAndLast e small near) = ap (λ x. ranges_in None x) e ∙ range_read r next small near

-- prepends ranges to the ranges that were read after them; their fault is returned unchanged
all_those : List Range → Result (List Range) LossFault → Result (List Range) LossFault
all_those [] x = x
all_those (r ∷ rs) x = then_those r (all_those rs x)

up_to_read : (ws : List ℕ) (rs : List Range) (rest : List ℕ) → SpellsUpTo ws rs rest → ranges_in None ws ≡ all_those rs (ranges_in None rest)
unfolding all_those
up_to_read ws [] rest e = ap (λ x. ranges_in None x) e
up_to_read ws (r ∷ rs) rest (next, b, h) = begins_read ws r next b ∙ ap (λ x. then_those r x) (up_to_read next rs rest h)

all_ok : (rs : List Range) → all_those rs (Ok []) ≡ Ok rs
unfolding all_those
all_ok [] = refl
all_ok (r ∷ rs) = ap (λ x. then_those r x) (all_ok rs)

all_err : (rs : List Range) (fault : LossFault) → all_those rs (Err fault) ≡ Err fault
unfolding all_those
all_err [] fault = refl
all_err (r ∷ rs) fault = ap (λ x. then_those r x) (all_err rs fault)

pub spelled_read : (bytes : List ℕ) (rs : List Range) → Spells bytes rs → losses_in bytes ≡ Ok rs
spelled_read bytes rs s = whole_read bytes s.whole ∙ up_to_read (words_in bytes) rs [] s.words ∙ all_ok rs

is_dangling_read : (ws : List ℕ) → IsDangling ws → ranges_in None ws ≡ Err Dangling
is_dangling_read [] h = absurd h
is_dangling_read (first ∷ []) h = last_read first h
is_dangling_read (first ∷ last ∷ ws) h = dangling_read first last ws h.0 h.1

is_backward_read : (ws : List ℕ) → IsBackward ws → ranges_in None ws ≡ Err Backward
is_backward_read [] h = absurd h
is_backward_read (first ∷ []) h = absurd h
is_backward_read (first ∷ last ∷ ws) h = backward_read first last ws h.0 h.1 h.2

pub fault_read : (bytes : List ℕ) (fault : LossFault) → HasFault bytes fault → losses_in bytes ≡ Err fault
fault_read bytes Ragged h = ragged_read bytes h
fault_read bytes Dangling (whole, rs, rest, s, h) =
    whole_read bytes whole ∙ up_to_read (words_in bytes) rs rest s ∙ ap (λ x. all_those rs x) (is_dangling_read rest h) ∙ all_err rs Dangling
fault_read bytes Backward (whole, rs, rest, s, h) =
    whole_read bytes whole ∙ up_to_read (words_in bytes) rs rest s ∙ ap (λ x. all_those rs x) (is_backward_read rest h) ∙ all_err rs Backward

-- the consequence of a result of reading for the words
Outcome : List ℕ → Result (List Range) LossFault → Type 0
Outcome ws (Ok rs) = SpellsUpTo ws rs []
Outcome ws (Err Ragged) = ⊥
Outcome ws (Err Dangling) = (ranges : List Range) × (rest : List ℕ) × SpellsUpTo ws ranges rest × IsDangling rest
Outcome ws (Err Backward) = (ranges : List Range) × (rest : List ℕ) × SpellsUpTo ws ranges rest × IsBackward rest

outcome_after : (ws : List ℕ) (r : Range) (next : List ℕ)
    → Begins ws r next → (read : Result (List Range) LossFault) → Outcome next read → Outcome ws (then_those r read)
unfolding Outcome
outcome_after ws r next b (Ok rs) o = (next, b, o)
outcome_after ws r next b (Err Ragged) o = o
outcome_after ws r next b (Err Dangling) (rs, rest, s, h) = (r ∷ rs, rest, (next, b, s), h)
outcome_after ws r next b (Err Backward) (rs, rest, s, h) = (r ∷ rs, rest, (next, b, s), h)

alone_outcome : (w : ℕ) (ws : List ℕ) → w < 2 ^ 31 → Outcome ws (ranges_in None ws) → Outcome (w ∷ ws) (ranges_in None (w ∷ ws))
alone_outcome w ws h o =
    subst (λ (x : Result (List Range) LossFault). Outcome (w ∷ ws) x) (sym (alone_read w ws h))
    (outcome_after (w ∷ ws) (alone w) ws (Single refl h refl) (ranges_in None ws) o)

both_outcome : (w v : ℕ) (ws : List ℕ) → 2 ^ 31 ≤ w → v < 2 ^ 31 → Outcome ws (ranges_in None ws) → Outcome (w ∷ v ∷ ws) (ranges_in None (w ∷ v ∷ ws))
unfolding Outcome
both_outcome w v ws h l o =
    let r : Range = record { first = w - 2 ^ 31; last = v } in
    let back : w ≡ (w - 2 ^ 31) + 2 ^ 31 = omega arith in
    elim (cases_lt (span r) (2 ^ 30)) [
      | inl n ↦ subst (λ (x : Result (List Range) LossFault). Outcome (w ∷ v ∷ ws) x) (sym (both_read w v ws h l n))
          (outcome_after (w ∷ v ∷ ws) r ws (FirstAndLast (ap (λ x. x ∷ v ∷ ws) back) l n) (ranges_in None ws) o)
      | inr n ↦ subst (λ (x : Result (List Range) LossFault). Outcome (w ∷ v ∷ ws) x) (sym (backward_read w v ws h l n)) ([], w ∷ v ∷ ws, refl, (h, l, n))
    ]

outcome : (ws : List ℕ) → Outcome ws (ranges_in None ws)
unfolding Outcome
outcome [] = refl
outcome (w ∷ []) =
    elim (cases_lt w (2 ^ 31)) [
      | inl h ↦ alone_outcome w [] h (outcome [])
      | inr h ↦ subst (λ (x : Result (List Range) LossFault). Outcome (w ∷ []) x) (sym (last_read w h)) ([], w ∷ [], refl, h)
    ]
outcome (w ∷ v ∷ ws) =
    elim (cases_lt w (2 ^ 31)) [
      | inl h ↦ alone_outcome w (v ∷ ws) h (outcome (v ∷ ws))
      | inr h ↦ elim (cases_lt v (2 ^ 31)) [
        | inl l ↦ both_outcome w v ws h l (outcome ws)
        | inr l ↦ subst (λ (x : Result (List Range) LossFault). Outcome (w ∷ v ∷ ws) x) (sym (dangling_read w v ws h l)) ([], w ∷ v ∷ ws, refl, (h, l))
      ]
    ]

outcome_spells : (bytes : List ℕ) → length bytes % 4 ≡ 0 → (rs : List Range) → ranges_in None (words_in bytes) ≡ Ok rs → Spells bytes rs
unfolding Outcome
outcome_spells bytes whole rs e =
    record { whole = whole; words = subst (λ (x : Result (List Range) LossFault). Outcome (words_in bytes) x) e (outcome (words_in bytes)) }

outcome_fault : (bytes : List ℕ) → length bytes % 4 ≡ 0 → (fault : LossFault) → ranges_in None (words_in bytes) ≡ Err fault → HasFault bytes fault
unfolding Outcome
outcome_fault bytes whole Ragged e = absurd (subst (λ (x : Result (List Range) LossFault). Outcome (words_in bytes) x) e (outcome (words_in bytes)))
outcome_fault bytes whole Dangling e =
    let (rs, rest, s, h) = subst (λ (x : Result (List Range) LossFault). Outcome (words_in bytes) x) e (outcome (words_in bytes)) in
    (whole, rs, rest, s, h)
outcome_fault bytes whole Backward e =
    let (rs, rest, s, h) = subst (λ (x : Result (List Range) LossFault). Outcome (words_in bytes) x) e (outcome (words_in bytes)) in
    (whole, rs, rest, s, h)

cases_whole : (bytes : List ℕ) → (length bytes % 4 ≡ 0) ⊎ (length bytes % 4 ≢ 0)
cases_whole bytes =
    elim (cases_order (length bytes % 4) 0) [
      | inl e ↦ inl e
      | inr (inl h) ↦ inr (λ e. omega (arith, h, e))
      | inr (inr h) ↦ inr (λ e. omega (arith, h, e))
    ]

ragged_fault : (bytes : List ℕ) → length bytes % 4 ≢ 0 → (fault : LossFault) → Ragged ≡ fault → HasFault bytes fault
ragged_fault bytes ragged Ragged e = ragged
ragged_fault bytes ragged Dangling e = absurd cc
ragged_fault bytes ragged Backward e = absurd cc

pub read_spelled : (bytes : List ℕ) (rs : List Range) → losses_in bytes ≡ Ok rs → Spells bytes rs
read_spelled bytes rs e =
    elim (cases_whole bytes) [
      | inl whole ↦ outcome_spells bytes whole rs (sym (whole_read bytes whole) ∙ e)
      | inr ragged ↦ let k = sym (ragged_read bytes ragged) ∙ e in cc
    ]

pub read_fault : (bytes : List ℕ) (fault : LossFault) → losses_in bytes ≡ Err fault → HasFault bytes fault
read_fault bytes fault e =
    elim (cases_whole bytes) [
      | inl whole ↦ outcome_fault bytes whole fault (sym (whole_read bytes whole) ∙ e)
      | inr ragged ↦ let k = sym (ragged_read bytes ragged) ∙ e in ragged_fault bytes ragged fault cc
    ]

pub spelled_is_read : SpelledIsRead
spelled_is_read bytes rs = (spelled_read bytes rs, read_spelled bytes rs)

pub fault_is_read : FaultIsRead
fault_is_read bytes fault = (fault_read bytes fault, read_fault bytes fault)

-- a result that equals the function's is right by the relation
pub answer_found : (bytes : List ℕ) (read : Result (List Range) LossFault) → read ≡ losses_in bytes → IfOk read (λ ranges. Spells bytes ranges)
answer_found bytes (Ok rs) e = read_spelled bytes rs (sym e)
answer_found bytes (Err fault) e = tt

pub answer_only : (bytes : List ℕ) (read : Result (List Range) LossFault)
    → read ≡ losses_in bytes → (ranges : List Range) → Spells bytes ranges → IsOkAnd read (λ losses. losses ≡ ranges)
answer_only bytes (Ok rs) e ranges s = let k = e ∙ spelled_read bytes ranges s in cc
answer_only bytes (Err fault) e ranges s = let k = e ∙ spelled_read bytes ranges s in absurd cc

pub answer_fault : (bytes : List ℕ) (read : Result (List Range) LossFault) → read ≡ losses_in bytes → IfErr read (λ fault. HasFault bytes fault)
answer_fault bytes (Ok rs) e = tt
answer_fault bytes (Err fault) e = read_fault bytes fault (sym e)

no_fault : (read : Result (List Range) LossFault) → result_err read ≡ None → read ≡ Ok (result_unwrap_or read [])
no_fault (Ok rs) e = refl
no_fault (Err fault) e = absurd cc

empty_read : (bytes : List ℕ) → length bytes ≡ 0 → losses_in bytes ≡ Ok []
empty_read [] h = refl
empty_read (b ∷ bytes) h = absurd (omega (arith, h))

-- if the bytes have the same fault as an empty rest, they have none
pub all_read : (bytes rest : List ℕ) → result_err (losses_in rest) ≡ result_err (losses_in bytes) → length rest ≡ 0
    → losses_in bytes ≡ Ok (result_unwrap_or (losses_in bytes) [])
all_read bytes rest e h = no_fault (losses_in bytes) (sym e ∙ ap (λ x. result_err x) (empty_read rest h))
