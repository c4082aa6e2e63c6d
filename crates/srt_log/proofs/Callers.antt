-- Refused callers as plain values.
use Rattle.std.proofs.Common.{◌≡◌, ℕ, zero, suc, ◌+◌, Bool, true, false, not, ◌++◌, List, [], ◌∷◌, length, map, take, drop, nat_lt, cond, Option, None, Some}
use Rattle.std.proofs.Common.{option_map, refl, sym, ap, ◌∙◌}
use Rattle.std.specs.Prelude.{slice_get}
use Rattle.std.specs.List.{remove, position, prefix_len, position_or_len}
use Rattle.std.proofs.lemmas.List.{length-map}
use Rattle.std.proofs.lemmas.Option.{slice_get-map}
use Rattle.srt_log.specs.declared.repeats.Refusal.{Refusal}
use Rattle.srt_log.specs.declared.repeats.Repeat.{Repeat}
use Rattle.srt_log.specs.Repeats.{Caller, caller_of, callers_of, is_of, is_lapsed, is_due, behind}

pub get_seen : (rs : List Repeat) (at : ℕ) → slice_get (callers_of rs) at ≡ option_map caller_of (slice_get rs at)
get_seen rs at = slice_get-map caller_of rs at

pub added_seen : (rs : List Repeat) (r : Repeat) → callers_of (rs ++ r ∷ []) ≡ callers_of rs ++ caller_of r ∷ []
added_seen [] r = refl
added_seen (x ∷ rs) r = ap (λ cs. caller_of x ∷ cs) (added_seen rs r)

appended : (rs qs : List Repeat) → callers_of (rs ++ qs) ≡ callers_of rs ++ callers_of qs
appended [] qs = refl
appended (x ∷ rs) qs = ap (λ cs. caller_of x ∷ cs) (appended rs qs)

front : (n : ℕ) (rs : List Repeat) → callers_of (take n rs) ≡ take n (callers_of rs)
front zero rs = refl
front (suc n) [] = refl
front (suc n) (x ∷ rs) = ap (λ cs. caller_of x ∷ cs) (front n rs)

rest : (n : ℕ) (rs : List Repeat) → callers_of (drop n rs) ≡ drop n (callers_of rs)
rest zero rs = refl
rest (suc n) [] = refl
rest (suc n) (x ∷ rs) = rest n rs

removed_seen : (rs : List Repeat) (at : ℕ) → callers_of (remove rs at) ≡ remove (callers_of rs) at
removed_seen rs at =
    appended (take at rs) (drop (suc at) rs) ∙ ap (λ cs. cs ++ callers_of (drop (suc at) rs)) (front at rs)
    ∙ ap (λ cs. take at (callers_of rs) ++ cs) (rest (suc at) rs)

pub behind_seen : (rs : List Repeat) (at : ℕ) (r : Repeat) → callers_of (remove rs at ++ r ∷ []) ≡ behind (callers_of rs) at (caller_of r)
behind_seen rs at r = added_seen (remove rs at) r ∙ ap (λ cs. cs ++ caller_of r ∷ []) (removed_seen rs at)

passes : (p : Caller → Bool) (rs : List Repeat) → prefix_len (λ r. not (p (caller_of r))) rs ≡ prefix_len (λ c. not (p c)) (callers_of rs)
passes p [] = refl
passes p (x ∷ rs) = ap (λ n. cond (not (p (caller_of x))) (1 + n) 0) (passes p rs)

pub many_seen : (rs : List Repeat) → length (callers_of rs) ≡ length rs
many_seen rs = length-map rs caller_of

seen : (p : Caller → Bool) (rs : List Repeat) → position (λ r. p (caller_of r)) rs ≡ position p (callers_of rs)
seen p rs =
    ap (λ (n : ℕ). cond (nat_lt n (length rs)) (Some n) None) (passes p rs)
    ∙ ap (λ (m : ℕ). cond (nat_lt (position_or_len p (callers_of rs)) m) (Some (position_or_len p (callers_of rs))) None) (sym (many_seen rs))

pub place_seen : (rs : List Repeat) (refusal : Refusal) → position (λ r. is_of refusal (caller_of r)) rs ≡ position (is_of refusal) (callers_of rs)
place_seen rs refusal = seen (is_of refusal) rs

pub lapsed_seen : (rs : List Repeat) (moment : ℕ) → position (λ r. is_lapsed moment (caller_of r)) rs ≡ position (is_lapsed moment) (callers_of rs)
lapsed_seen rs moment = seen (is_lapsed moment) rs

pub due_seen : (rs : List Repeat) (moment : ℕ) → position (λ r. is_due moment (caller_of r)) rs ≡ position (is_due moment) (callers_of rs)
due_seen rs moment = seen (is_due moment) rs
