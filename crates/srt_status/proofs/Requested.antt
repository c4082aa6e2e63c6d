-- A head that asks for something.
use Rattle.std.proofs.Common.{◌≡◌, ℕ, sym, subst, ap, ◌∙◌, Bool, true, false, cond, List, Option, None, Some, codes}
use Rattle.std.specs.Str.{bytes_eq}
use Rattle.srt_status.specs.declared.paths.Page.{Page}
use Rattle.srt_status.specs.declared.request.Method.{Method}
use Rattle.srt_status.specs.declared.request.Method.TheVariants.{Get, Head}
use Rattle.srt_status.specs.declared.request.Request.{Request}
use Rattle.srt_status.specs.declared.request.Request.TheVariants.{NotAllowed}
use Rattle.srt_status.specs.Paths.{page_in}
use Rattle.srt_status.specs.Requests.{shown_by, shown_in, request_of, IsRequestedFor, WhatItSays}
use Rattle.httparse.specs.Grammar.{RequestHead, ReadsRequest}

of_page : (bytes : List ℕ) (method : Method) (page : Option Page) → IsRequestedFor bytes (shown_by method page) → WhatItSays bytes (Some (shown_by method page))
of_page bytes method None requested = requested
of_page bytes method (Some page) requested = requested

of_tests : (bytes target : List ℕ) (get head : Bool)
    → IsRequestedFor bytes (cond get (shown_by Get (page_in target)) (cond head (shown_by Head (page_in target)) NotAllowed))
    → WhatItSays bytes (Some (cond get (shown_by Get (page_in target)) (cond head (shown_by Head (page_in target)) NotAllowed)))
of_tests bytes target true head requested = of_page bytes Get (page_in target) requested
of_tests bytes target false true requested = of_page bytes Head (page_in target) requested
of_tests bytes target false false requested = requested

-- what a head asks for is neither bad nor too long
requested_says : (bytes method target : List ℕ) → IsRequestedFor bytes (request_of method target) → WhatItSays bytes (Some (request_of method target))
unfolding request_of shown_in
requested_says bytes method target requested = of_tests bytes target (bytes_eq method (codes "GET")) (bytes_eq method (codes "HEAD")) requested

-- what a whole head asks for
pub requested_for : (bytes method target rest : List ℕ) (request : Request) (head : RequestHead) → request ≡ request_of method target
    → ReadsRequest bytes head rest → method ≡ head.method → target ≡ head.target
    → WhatItSays bytes (Some request)
requested_for bytes method target rest request head e reads m t =
    let same : request_of method target ≡ request_of head.method head.target = ap (λ (x : List ℕ). request_of x target) m ∙ ap (request_of head.method) t in
    subst (λ (r : Request). WhatItSays bytes (Some r)) (sym e) (requested_says bytes method target (head, rest, reads, same))
