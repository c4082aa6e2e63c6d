-- Lines of faults, one after the other.
use Rattle.std.proofs.Common.{◌≡◌, ℕ, ◌+◌, ◌<◌, List, [], ◌∷◌, ◌++◌, length, take, get_or, append-nil, append_assoc, refl, sym, ap, ◌∙◌, subst}
use Rattle.std.proofs.lemmas.List.{take_more}
use Rattle.std.proofs.lemmas.Grind.{put_two}
use Rattle.std.specs.Prelude.{Option, None, Some, IfSome, Result, IsOk}
use Rattle.std.specs.Fmt.{HasWritten, IsPlainFormatter, DisplaysOnOk, ◌++?◌}
use Rattle.std.specs.declared.fmt.Error.{Error}
use Rattle.std.specs.declared.fmt.Formatter.{Formatter}
use Rattle.srt_explain.specs.declared.explanation.Explanation.{Explanation}
use Rattle.srt_explain.specs.FaultLines.{fault_line, fault_lines}

-- texts that may say nothing, one after the other
nothing_then : (o : Option (List ℕ)) → Some [] ++? o ≡ o
nothing_then None = refl
nothing_then (Some a) = refl

then_nothing : (o : Option (List ℕ)) → o ++? Some [] ≡ o
then_nothing None = refl
then_nothing (Some a) = ap Some (append-nil a)

then_assoc : (o p q : Option (List ℕ)) → (o ++? p) ++? q ≡ o ++? p ++? q
then_assoc None p q = refl
then_assoc (Some a) None q = refl
then_assoc (Some a) (Some b) None = refl
then_assoc (Some a) (Some b) (Some c) = ap Some (append_assoc a b c)

lines_push : (path : List ℕ) (its : List Explanation) (it : Explanation) →
    fault_lines path (its ++ it ∷ []) ≡ fault_lines path its ++? fault_line path it
lines_push path [] it = then_nothing (fault_line path it) ∙ sym (nothing_then (fault_line path it))
lines_push path (x ∷ its) it =
    ap (λ o. fault_line path x ++? o) (lines_push path its it) ∙ sym (then_assoc (fault_line path x) (fault_lines path its) (fault_line path it))

module _ {W : Type 0} (took : W → List ℕ → W → Type 0) where
  -- what is written behind what was
  written_then : (f g h : Formatter W) (r : Result (Unit {0}) Error) (o p : Option (List ℕ)) → IfSome o (λ bs. HasWritten took f bs g) →
      DisplaysOnOk took g r p h → IsOk r → IfSome (o ++? p) (λ bs. HasWritten took f bs h)
  written_then f g h r None p so_far writes ok = tt
  written_then f g h r (Some a) None so_far writes ok = tt
  written_then f g h r (Some a) (Some b) so_far writes ok = put_two took f g h a b (a ++ b) so_far (writes so_far.plain ok) refl

  -- the line of one more fault is written
  pub one_more : (path : List ℕ) (its : List Explanation) (at : ℕ) (it : Explanation) (f g h : Formatter W) (r : Result (Unit {0}) Error) →
      at < length its → it ≡ get_or its at it → (IsPlainFormatter f → IfSome (fault_lines path (take at its)) (λ bs. HasWritten took f bs g)) →
      DisplaysOnOk took g r (fault_line path it) h → IsOk r → IsPlainFormatter f →
      IfSome (fault_lines path (take (at + 1) its)) (λ bs. HasWritten took f bs h)
  one_more path its at it f g h r within is so_far writes ok plain =
      let more : fault_lines path (take (at + 1) its) ≡ fault_lines path (take at its) ++? fault_line path it =
      ap (fault_lines path) (take_more its at it within ∙ ap (λ x. take at its ++ x ∷ []) (sym is)) ∙ lines_push path (take at its) it in
      subst (λ o. IfSome o (λ bs. HasWritten took f bs h)) (sym more)
      (written_then f g h r (fault_lines path (take at its)) (fault_line path it) (so_far plain) writes ok)
