use Rattle.std.proofs.Common.{◌≡◌, ◌∙◌, sym, ap, arith}
use Rattle.std.proofs.lemmas.List.{take_rest}
use Rattle.srt_hs.specs.KeyRequest.{requests_in}
use Rattle.srt_hs.proofs.Requests.{of_conclusion}
use Rattle.srt_hs.proofs.key_requests.key_request.Goals as goal

pub returns : goal.returns
returns c =
    let body = c.args.body.now in
    let conclusion : c.read_word.result ≡ 0xffff_ffff = omega arith in
    c.requests.ensures ∙ ap requests_in (take_rest body 48) ∙
    of_conclusion body (omega arith) (sym c.read_word.ensures ∙ conclusion)
