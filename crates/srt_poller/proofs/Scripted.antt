-- What devices in memory have recorded after a step.
use Rattle.std.proofs.Common.{◌≡◌, ℕ, zero, suc, ◌+◌, ◌≤◌, Some, List, [], ◌∷◌, ◌++◌, take, length, refl, sym, ap, ◌∙◌, append_assoc}
use Rattle.std.proofs.Common.{append-nil, arith, Bool, true, false}
use Rattle.std.specs.Prelude.{slice_get, min, nat_le}
use Rattle.std.proofs.lemmas.Bool.Decides.{nat_tests}
use Rattle.std.proofs.lemmas.List.{take_all, take-append-le, length-take}
use Rattle.srt_poller.specs.declared.scripts.SourceStep.{SourceStep}
use Rattle.srt_poller.specs.Devices.{Arrival}
use Rattle.srt_poller.specs.Scripts.{given_by_step, given_in}

pub given_more : (steps : List SourceStep) (at : ℕ) (s : SourceStep)
    → slice_get steps at ≡ Some s → given_in (take (at + 1) steps) ≡ given_in (take at steps) ++ given_by_step s
given_more [] at s h = cc
given_more (x ∷ xs) zero s h = let same : x ≡ s = cc in append-nil (given_by_step x) ∙ ap given_by_step same
given_more (x ∷ xs) (suc at) s h =
    let e : suc at + 1 ≡ suc (at + 1) = omega arith in
    ap (λ n. given_in (take n (x ∷ xs))) e ∙ ap (λ (ys : List Arrival). given_by_step x ++ ys) (given_more xs at s h)
    ∙ sym (append_assoc (given_by_step x) (given_in (take at xs)) (given_by_step s))

pub bytes_given : (bytes copy rest : List ℕ) (len : ℕ) → copy ≡ take len bytes → len ≡ min (length bytes) 2048 → take len (copy ++ rest) ≡ take 2048 bytes
bytes_given bytes copy rest len h e =
    let size : length copy ≡ min len (length bytes) = ap length h ∙ length-take len bytes in
    let fits : len ≤ length copy = omega arith in
    take-append-le len copy rest fits ∙ ap (take len) h ∙ by_length (nat_le (length bytes) 2048) refl
  where
    by_length : (b : Bool) → nat_le (length bytes) 2048 ≡ b → take len (take len bytes) ≡ take 2048 bytes
    by_length true is =
        let short : length bytes ≤ 2048 = grind (arith, nat_tests) in
        let whole : length bytes ≤ len = omega arith in
        ap (take len) (take_all len bytes whole) ∙ take_all len bytes whole ∙ sym (take_all 2048 bytes short)
    by_length false is =
        let long : 2048 ≤ length bytes = grind (arith, nat_tests) in
        let same : len ≡ 2048 = omega arith in
        let size : length (take len bytes) ≤ len = let z = length-take len bytes in omega arith in
        take_all len (take len bytes) size ∙ ap (λ n. take n bytes) same
