-- The bytes that one read of a reader consumes.
use Rattle.std.proofs.Common.{◌≡◌, ℕ, ◌+◌, ◌<◌, ◌≤◌, true, eqb, List, [], ◌∷◌, ◌++◌, length, take, drop, slice_index, Option, Some, None}
use Rattle.std.proofs.Common.{refl, sym, ap, ◌∙◌, arith, append_assoc, eq-eqb, eqb-true, length-take-le}
use Rattle.std.proofs.lemmas.List.{take_more, take-append-drop, get_or-take, get_or_default}
use Rattle.std.specs.Option.{IfSome}
use Rattle.std.specs.Io.{StartsWith}
use Rattle.std.specs.Io.KnownBytes.{Consumes}
use Rattle.std.proofs.KnownBytes.{starts_with_rest}
use Rattle.memchr.specs.Find.{Nowhere, Passes, is_byte}
use Rattle.srt_replay.specs.Known.{Took, BeginsWith, NoLf}

pub no_lf : (hay : List ℕ) (k : ℕ) → k ≤ length hay → Nowhere (Passes (is_byte 10) hay) 0 k → NoLf (take k hay)
no_lf hay k within none j d low e =
    let short : j < k = omega (arith, length-take-le k hay within) in
    none j (omega arith) short (eq-eqb _ _ (get_or_default hay j 0 d (omega arith) ∙ sym (get_or-take k hay j d short) ∙ e))

pub no_lf_whole : (hay : List ℕ) → Nowhere (Passes (is_byte 10) hay) 0 (length hay) → NoLf hay
no_lf_whole hay none j d low e = none j (omega arith) low (eq-eqb _ _ (get_or_default hay j 0 d low ∙ e))

pub through_lf : (hay : List ℕ) (k : ℕ) → k < length hay → eqb (slice_index hay k) 10 ≡ true → take (k + 1) hay ≡ take k hay ++ 10 ∷ []
through_lf hay k within is = take_more hay k 0 within ∙ ap (λ (b : ℕ). take k hay ++ b ∷ []) (eqb-true _ _ is)

begin : (ys xs : List ℕ) → Some ys ≡ Some xs → ys ≡ xs
begin ys xs e = cc

pub begins : (old : Option (List ℕ)) (shown : List ℕ) (k : ℕ) → IfSome old (λ xs. StartsWith xs shown) → BeginsWith old (take k shown)
begins None shown k h xs e = absurd cc
begins (Some ys) shown k h xs e =
    let rest = drop (length shown) ys in (
      drop k shown ++ rest,
      sym (begin ys xs e) ∙ starts_with_rest ys shown h ∙ ap (λ (l : List ℕ). l ++ rest) (sym (take-append-drop k shown))
          ∙ append_assoc (take k shown) (drop k shown) rest,
    )

pub begins_whole : (old : Option (List ℕ)) (shown : List ℕ) → IfSome old (λ xs. StartsWith xs shown) → BeginsWith old shown
begins_whole None shown h xs e = absurd cc
begins_whole (Some ys) shown h xs e = (drop (length shown) ys, sym (begin ys xs e) ∙ starts_with_rest ys shown h)

pub took_from : (old new : Option (List ℕ)) (bs : List ℕ) → Consumes old new bs → Took old new bs
took_from None new bs c xs e = absurd cc
took_from (Some zs) None bs c xs e = absurd c
took_from (Some zs) (Some ys) bs c xs e = (ys, refl, sym (begin zs xs e) ∙ c)
