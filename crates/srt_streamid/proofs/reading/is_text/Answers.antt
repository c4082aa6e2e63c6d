use Rattle.std.proofs.Common.{◌≡◌, ℕ, Bool, true, false, List, Result, Ok, Err, MatchResult, is_ok, refl, sym, ◌∙◌}
use Rattle.std.specs.Str.{IsUtf8, is_utf8}
use Rattle.std.proofs.lemmas.Str.{IsUtf8-from_is_utf8, is_utf8-from_IsUtf8}
use Rattle.srt_streamid.proofs.reading.is_text.Goals as goal

refused : (bs : List ℕ) → ¬ (IsUtf8 bs) → (b : Bool) → is_utf8 bs ≡ b → false ≡ b
refused bs h true = λ e. absurd (h (IsUtf8-from_is_utf8 bs e))
refused bs h false = λ e. refl

reported : {T E : Type 0} (r : Result T E) (bs : List ℕ) (P : T → Type 0) (Q : E → Type 0)
    → MatchResult r (λ s. P s × IsUtf8 bs) (λ e. ¬ (IsUtf8 bs) × Q e) → is_ok r ≡ is_utf8 bs
reported (Ok s) bs P Q h = sym (is_utf8-from_IsUtf8 bs h.1)
reported (Err e) bs P Q h = refused bs h.0 (is_utf8 bs) refl

pub returns : goal.returns
returns c = c.is_ok.ensures.value ∙ reported c.from_utf8.result c.args.bytes.now (λ s. s.now ≡ c.args.bytes.now) _ c.from_utf8.ensures.cases
