-- Finding all KMREQ blocks is finding the first and then the others, for any sufficient bound on their number.
use Rattle.std.proofs.Common.{◌≡◌, ◌∙◌, ℕ, zero, suc, ◌≤◌, ◌<◌, true, false, List, [], ◌∷◌, length, drop, refl, ap, arith}
use Rattle.srt_hs.specs.Grammar.{after_block}
use Rattle.srt_hs.specs.KeyRequest.{Asked, begins_with_block, with_first_request, with_requests, requests_in, key_request_in}
use Rattle.srt_hs.proofs.Steps.{after_shorter}
use Rattle.srt_types.specs.Words.{word_at}
use Rattle.std.proofs.lemmas.Bool.Decides.{nat_tests}
use Rattle.std.proofs.lemmas.Bool.{cond-true, cond-false}
use Rattle.std.specs.Prelude.{if◌then◌else◌}

-- all bounds of at least the number of bytes have the same result
enough : (m n : ℕ) (before : Asked) (bytes : List ℕ) → length bytes ≤ m → length bytes ≤ n →
    with_requests m before bytes ≡ with_requests n before bytes
enough zero zero before [] h k = refl
enough zero (suc n) before [] h k = refl
enough (suc m) zero before [] h k = refl
enough (suc m) (suc n) before [] h k = refl
enough zero n before (b ∷ bytes) h k = absurd (omega arith)
enough (suc m) zero before (b ∷ bytes) h k = absurd (omega arith)
enough (suc m) (suc n) before (b ∷ bytes) h k =
    let shorter = after_shorter b bytes in
    let rest = after_block (b ∷ bytes) in
    ap (λ (x : Asked). if begins_with_block (b ∷ bytes) then x else before)
    (enough m n (with_first_request before (b ∷ bytes)) rest (omega arith) (omega arith))

pub one_more : (before : Asked) (bytes : List ℕ) → 0 < length bytes → begins_with_block bytes ≡ true →
    with_requests (length bytes) before bytes ≡
    with_requests (length (after_block bytes)) (with_first_request before bytes) (after_block bytes)
one_more before [] some whole = absurd (omega arith)
one_more before (b ∷ bytes) some whole =
    let shorter = after_shorter b bytes in
    let rest = after_block (b ∷ bytes) in
    let next = with_first_request before (b ∷ bytes) in
    cond-true (begins_with_block (b ∷ bytes)) (with_requests (length bytes) next rest) before whole ∙
    enough (length bytes) (length rest) next rest shorter (omega arith)

pub no_more : (before : Asked) (bytes : List ℕ) → 0 < length bytes → begins_with_block bytes ≡ false →
    with_requests (length bytes) before bytes ≡ before
no_more before [] some cut = absurd (omega arith)
no_more before (b ∷ bytes) some cut =
    cond-false (begins_with_block (b ∷ bytes))
    (with_requests (length bytes) (with_first_request before (b ∷ bytes)) (after_block (b ∷ bytes))) before cut

pub of_conclusion : (body : List ℕ) → 48 ≤ length body → word_at body 20 ≡ 0xffff_ffff →
    requests_in (drop 48 body) ≡ key_request_in body
of_conclusion body long is = grind (arith, nat_tests, long, is)
