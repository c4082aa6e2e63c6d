-- Computed examples: reasons, their numbers and names (section 4.3, table 7).
use Rattle.std.proofs.Common.{◌≡◌, [], ◌∷◌, None, Some, refl}
use Rattle.srt_hs.specs.declared.refusal_codes.RefusalCode.TheVariants as reasons
use Rattle.srt_hs.specs.Refusals.{number_of, code_with, refusal_name, name_of}

wrong_secret : number_of reasons.BadSecret ≡ 1010
wrong_secret = refl

wrong_secret_back : code_with 1010 ≡ Some reasons.BadSecret
unfolding code_with
wrong_secret_back = refl

-- a number for which the gateway never refuses, and one between those of the table and of applications
backlog_is_no_reason : code_with 1005 ≡ None
unfolding code_with
backlog_is_no_reason = refl

beyond_the_table : code_with 1016 ≡ None
unfolding code_with
beyond_the_table = refl

-- `PEER`
peer_by_name : name_of reasons.Peer ≡ 80 ∷ 69 ∷ 69 ∷ 82 ∷ []
unfolding refusal_name
peer_by_name = refl

-- `IPE`
internal_by_name : refusal_name 1006 ≡ 73 ∷ 80 ∷ 69 ∷ []
unfolding refusal_name
internal_by_name = refl

-- 1000 is `UNKNOWN`, and so is what no table has
unknown_by_name : refusal_name 1000 ≡ refusal_name 2000
unfolding refusal_name
unknown_by_name = refl
