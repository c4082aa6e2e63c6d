-- Warnings one after the other, and the risks.
use Rattle.std.proofs.Common.{◌≡◌, ℕ, ◌+◌, ◌<◌, List, [], ◌∷◌, ◌++◌, length, take, get_or, append_assoc, append-nil, refl, sym, ap, ◌∙◌}
use Rattle.std.proofs.lemmas.List.{take_more, flat_map_more}
use Rattle.std.specs.List.{flat_map}
use Rattle.srt_explain.specs.declared.grouping.RouteRisk.{RouteRisk}
use Rattle.srt_explain.specs.declared.warnings.Warning.{Warning}
use Rattle.srt_explain.specs.Warnings.{given}
use Rattle.srt_explain.specs.Grouping.{is_told, first_ones, more_of}

-- the first ones of warnings and of one more
told_last : (before ws : List Warning) (w : Warning) →
    first_ones before (ws ++ w ∷ []) ≡ first_ones before ws ++ given (is_told (before ++ ws) w) w
told_last before [] w = append-nil (given (is_told before w) w) ∙ ap (λ (b : List Warning). given (is_told b w) w) (sym (append-nil before))
told_last before (x ∷ ws) w =
    ap (λ l. given (is_told before x) x ++ l) (told_last (before ++ x ∷ []) ws w)
    ∙ sym (append_assoc (given (is_told before x) x) (first_ones (before ++ x ∷ []) ws) _)
    ∙ ap (λ (b : List Warning). (given (is_told before x) x ++ first_ones (before ++ x ∷ []) ws) ++ given (is_told b w) w)
    (append_assoc before (x ∷ []) ws)

pub one_more : (xs : List Warning) (ws : List Warning) (at : ℕ) (d : Warning) (list new : List Warning) → at < length ws →
    list ≡ xs ++ first_ones [] (take at ws) → new ≡ list ++ given (is_told (take at ws) (get_or ws at d)) (get_or ws at d) →
    new ≡ xs ++ first_ones [] (take (at + 1) ws)
one_more xs ws at d list new within is put =
    put ∙ ap (λ l. l ++ given (is_told (take at ws) (get_or ws at d)) (get_or ws at d)) is
    ∙ append_assoc xs (first_ones [] (take at ws)) _
    ∙ ap (λ l. xs ++ l) (sym (ap (first_ones []) (take_more ws at d within) ∙ told_last [] (take at ws) (get_or ws at d)))

pub next_risk : (xs ws : List Warning) (risks : List RouteRisk) (at : ℕ) (d : RouteRisk) (list new : List Warning) → at < length risks →
    list ≡ xs ++ flat_map (more_of ws) (take at risks) → new ≡ list ++ more_of ws (get_or risks at d) →
    new ≡ xs ++ flat_map (more_of ws) (take (at + 1) risks)
next_risk xs ws risks at d list new within is put =
    put ∙ ap (λ l. l ++ more_of ws (get_or risks at d)) is ∙ append_assoc xs (flat_map (more_of ws) (take at risks)) _
    ∙ ap (λ l. xs ++ l)
    (sym (ap (flat_map (more_of ws)) (take_more risks at d within) ∙ sym (flat_map_more (more_of ws) [] (take at risks) (get_or risks at d))))
