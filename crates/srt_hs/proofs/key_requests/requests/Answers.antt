use Rattle.std.proofs.Common.{◌∙◌, ℕ, List, length, sym, ap, arith}
use Rattle.srt_hs.specs.Grammar.{after_block}
use Rattle.srt_hs.specs.KeyRequest.{Asked, with_requests}
use Rattle.srt_hs.specs.KeyAsked.{asked_of}
use Rattle.srt_hs.proofs.Requests.{one_more}
use Rattle.srt_hs.proofs.key_requests.requests.Goals as goal

pub loop-rest-preserved : goal.loop-rest-preserved
loop-rest-preserved c =
    let rest = c.loop-rest.rest.now in
    let after = after_block rest in
    ap (λ (v : List ℕ). with_requests (length v) (asked_of c.in-Some.more) v) c.in-Some.ensures.rest ∙
    ap (λ (x : Asked). with_requests (length after) x after) c.in-Some.ensures.blocks ∙
    sym (one_more (asked_of c.loop-rest.asked) rest (omega (arith, c.in-Some.ensures.shorter)) c.in-Some.ensures.whole) ∙
    c.loop-rest.invariant
