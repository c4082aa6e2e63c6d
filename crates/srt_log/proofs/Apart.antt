-- That shares are apart, and how many lines of each are written.
use Rattle.std.proofs.Common.{◌≡◌, ℕ, ◌+◌, ◌-◌, ◌^◌, ◌≤◌, Bool, true, false, ◌&&◌, nat_le, cond, List, [], ◌∷◌, ◌++◌, min, refl, ap, arith, ◌∙◌}
use Rattle.std.proofs.lemmas.Bool.Decides.{nat_tests}
use Rattle.srt_log.specs.declared.line_limits.LineKind.{LineKind}
use Rattle.srt_log.specs.declared.line_limits.LineKind.TheVariants.{Session, Refusal}
use Rattle.srt_log.specs.LineLimit.{LimitCall, begins, counted, lines_in, more_if, is_within, omitted_within, written_within}
use Rattle.srt_log.specs.LineShares.{SharedCall, share_of, calls_of, AreOthers, KeepsApart, KeepsShares}

-- what another kind's lines leave of a kind
kept : (kind : LineKind) (flood calls : List SharedCall) → AreOthers kind flood → calls_of kind (flood ++ calls) ≡ calls_of kind calls
kept kind [] calls others = refl
kept kind (a ∷ flood) calls others =
    ap (λ b. cond b (a.call ∷ calls_of kind (flood ++ calls)) (calls_of kind (flood ++ calls))) others.0 ∙ kept kind flood calls others.1

pub apart : (kind : LineKind) (flood calls : List SharedCall) (moment : ℕ) → AreOthers kind flood → KeepsApart kind flood calls moment
apart kind flood calls moment others = record {
  written = ap (λ own. is_within (share_of kind) own moment) (kept kind flood calls others);
  omitted = ap (λ own. omitted_within (share_of kind) own moment) (kept kind flood calls others);
}

-- a line more in a second of n lines, w of which are written
line_more : (most n w : ℕ) (t : Bool) → most ≤ 50 → nat_le (min (n + 1) (2 ^ 64 - 1)) most ≡ t → w ≡ min n most
    → more_if t w ≡ min (min (n + 1) (2 ^ 64 - 1)) most
line_more most n w true few h e = grind (arith, nat_tests, few, h, e)
line_more most n w false few h e = grind (arith, nat_tests, few, h, e)

call_more : (begins line : Bool) (most n w : ℕ) → most ≤ 50 → w ≡ min n most
    → more_if (line && nat_le (counted true (cond begins 0 n)) most) (cond begins 0 w) ≡ min (counted line (cond begins 0 n)) most
call_more true true most n w few e = line_more most 0 0 _ few refl (omega arith)
call_more true false most n w few e = omega arith
call_more false true most n w few e = line_more most n w _ few refl e
call_more false false most n w few e = e

written_is : (most : ℕ) (calls : List LimitCall) → most ≤ 50 → written_within most calls ≡ min (lines_in calls) most
written_is most [] few = omega arith
written_is most (a ∷ calls) few =
    call_more (begins calls a.moment) a.is_line most (lines_in calls) (written_within most calls) few (written_is most calls few)

-- a share is at most 50
pub few_of : (kind : LineKind) → share_of kind ≤ 50
few_of Session = omega arith
few_of Refusal = omega arith

pub keeps_shares : (calls : List SharedCall) → KeepsShares calls
keeps_shares calls = record {
  first_ones = λ kind. written_is (share_of kind) (calls_of kind calls) (few_of kind);
  most =
      let sessions = written_is (share_of Session) (calls_of Session calls) (omega arith) in
      let refusals = written_is (share_of Refusal) (calls_of Refusal calls) (omega arith) in
      omega (arith, sessions, refusals);
}
