-- Computed examples: the number of a reason for a refusal, and its name, as a line has them.
use Rattle.std.proofs.Common.{◌≡◌, ◌++◌, codes, decimal, refl}
use Rattle.srt_hs.specs.declared.refusal_codes.RefusalCode.TheVariants as reasons
use Rattle.srt_hs.specs.Refusals.{number_of, refusal_name}
use Rattle.srt_log.specs.Events.{code_text}

wrong_secret : code_text (number_of reasons.BadSecret) ≡ decimal 1010 ++ codes " " ++ codes "BADSECRET"
unfolding refusal_name
wrong_secret = refl

limits : code_text (number_of reasons.Resource) ≡ decimal 1003 ++ codes " " ++ codes "RESOURCE"
unfolding refusal_name
limits = refl

-- a number that the gateway never sends, and one beyond the table
no_reason_here : code_text 1013 ≡ decimal 1013 ++ codes " " ++ codes "CONGESTION"
unfolding refusal_name
no_reason_here = refl

beyond_the_table : code_text 1016 ≡ decimal 1016 ++ codes " " ++ codes "UNKNOWN"
unfolding refusal_name
beyond_the_table = refl
