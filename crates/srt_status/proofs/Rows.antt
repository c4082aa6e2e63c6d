-- Computed examples: a reason for a refusal, as labels.
use Rattle.std.proofs.Common.{◌≡◌, ◌++◌, codes, decimal, refl}
use Rattle.srt_hs.specs.declared.refusal_codes.RefusalCode.TheVariants as reasons
use Rattle.srt_hs.specs.Refusals.{refusal_name}
use Rattle.srt_status.specs.Metrics.{reason_labels}

wrong_secret : reason_labels reasons.BadSecret ≡ codes "code=\"" ++ decimal 1010 ++ codes "\",reason=\"" ++ codes "BADSECRET" ++ codes "\"} "
unfolding reason_labels refusal_name
wrong_secret = refl

no_route : reason_labels reasons.Peer ≡ codes "code=\"" ++ decimal 1002 ++ codes "\",reason=\"" ++ codes "PEER" ++ codes "\"} "
unfolding reason_labels refusal_name
no_route = refl
