-- Warnings, one after the other.
use Rattle.std.proofs.Common.{◌≡◌, ℕ, ◌+◌, ◌<◌, Bool, true, false, List, [], ◌∷◌, ◌++◌, length, map, take, get_or, append-nil, append_assoc}
use Rattle.std.proofs.Common.{sym, ap, subst, ◌∙◌}
use Rattle.std.proofs.lemmas.List.{take_more, map-append}
use Rattle.std.specs.Fmt.Cut.{IsTextOrCut}
use Rattle.std.specs.Fmt.InlineText.{inline_text}
use Rattle.std.specs.declared.fmt.InlineText.{InlineText}
use Rattle.srt_types.specs.Terms.{Terms}
use Rattle.srt_explain.specs.declared.warnings.Warning.{Warning}
use Rattle.srt_explain.specs.Texts.{line_for}
use Rattle.srt_explain.specs.Warnings.{names_missing_key}
use Rattle.srt_host.specs.Watching.{told_if, told_warnings, AreTexts, AreWarnings, TellsOne}

told_last : (ws : List Warning) (w : Warning) → told_warnings (ws ++ w ∷ []) ≡ told_warnings ws ++ told_if (names_missing_key w) w
told_last [] w = append-nil (told_if (names_missing_key w) w)
told_last (x ∷ ws) w =
    ap (λ l. told_if (names_missing_key x) x ++ l) (told_last ws w)
    ∙ sym (append_assoc (told_if (names_missing_key x) x) (told_warnings ws) (told_if (names_missing_key w) w))

texts_last : (lines : List (List ℕ)) (texts : List (InlineText 512)) (line : List ℕ) (text : InlineText 512) → AreTexts lines texts
    → IsTextOrCut 512 line (inline_text text) → AreTexts (lines ++ line ∷ []) (texts ++ text ∷ [])
texts_last [] [] line text h k = (k, tt)
texts_last [] (t ∷ texts) line text h k = absurd h
texts_last (l ∷ lines) [] line text h k = absurd h
texts_last (l ∷ lines) (t ∷ texts) line text h k = (h.0, texts_last lines texts line text h.1 k)

one_told : (terms : List Terms) (lines : List (List ℕ)) (w : Warning) (missing : Bool) (old new : List (InlineText 512)) → AreTexts lines old
    → TellsOne missing (line_for terms w) old new → AreTexts (lines ++ map (line_for terms) (told_if missing w)) new
one_told terms lines w true old new h k = subst (λ l. AreTexts l new) (sym (append-nil lines)) (subst (AreTexts lines) (sym k) h)
one_told terms lines w false old new h k =
    subst (AreTexts (lines ++ line_for terms w ∷ [])) (sym k.new_is) (texts_last lines old (line_for terms w) k.warning h k.text_is)

pub none_told : (terms : List Terms) (ws : List Warning) (texts : List (InlineText 512)) → ws ≡ [] → texts ≡ [] → AreWarnings terms ws texts
none_told terms ws texts e f = subst (λ l. AreWarnings terms l texts) (sym e) (subst (AreWarnings terms []) (sym f) tt)

pub one_more : (terms : List Terms) (ws : List Warning) (i : ℕ) (d : Warning) (old new : List (InlineText 512)) → i < length ws
    → AreWarnings terms (take i ws) old → TellsOne (names_missing_key (get_or ws i d)) (line_for terms (get_or ws i d)) old new
    → AreWarnings terms (take (i + 1) ws) new
one_more terms ws i d old new within h k =
    let w : Warning = get_or ws i d in
    let all : map (line_for terms) (told_warnings (take (i + 1) ws))
    ≡ map (line_for terms) (told_warnings (take i ws)) ++ map (line_for terms) (told_if (names_missing_key w) w) =
    ap (λ (l : List Warning). map (line_for terms) (told_warnings l)) (take_more ws i d within)
    ∙ ap (map (line_for terms)) (told_last (take i ws) w)
    ∙ map-append (line_for terms) (told_warnings (take i ws)) (told_if (names_missing_key w) w) in
    subst (λ l. AreTexts l new) (sym all) (one_told terms _ w (names_missing_key w) old new h k)
