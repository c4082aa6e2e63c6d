-- What a caller of the status page asks for.
use Rattle.std.specs.Prelude.{◌≡◌, ℕ, ◌≤◌, ◌<◌, ◌⊎◌, List, length, codes, Option, None, Some, if◌then◌else◌}
use Rattle.std.specs.Str.{bytes_eq}
use Rattle.httparse.specs.Grammar.{RequestHead, ReadsRequest, HasNoRequest, NeverHasRequest}
use Rattle.httparse.specs.Spans.{RequestExceeds}
use Rattle.srt_status.specs.declared.paths.Page.{Page}
use Rattle.srt_status.specs.declared.request.Method.{Method}
use Rattle.srt_status.specs.declared.request.Method.TheVariants as methods
use Rattle.srt_status.specs.declared.request.Request.{Request}
use Rattle.srt_status.specs.declared.request.Request.TheVariants as requests
use Rattle.srt_status.specs.Paths.{page_in}

abbrev pub shown_by : Method → Option Page → Request
shown_by method None = requests.Unknown method
shown_by method (Some page) = requests.Page method page

unfoldable pub shown_in : Method → (target : List ℕ) → Request
shown_in method target = shown_by method (page_in target)

-- what a head asks for
unfoldable pub request_of : (method target : List ℕ) → Request
request_of method target =
    if bytes_eq method (codes "GET") then shown_in methods.Get target
    else (if bytes_eq method (codes "HEAD") then shown_in methods.Head target else requests.NotAllowed)

-- a head within these bytes asks for it
abbrev pub IsRequestedFor : (bytes : List ℕ) → Request → Type 0
IsRequestedFor bytes request = (head : RequestHead) × (rest : List ℕ) × ReadsRequest bytes head rest × (request ≡ request_of head.method head.target)

-- what an answer says of the bytes
abbrev pub WhatItSays : (bytes : List ℕ) → Option Request → Type 0
WhatItSays bytes None = HasNoRequest bytes × (length bytes < 4096)
WhatItSays bytes (Some requests.Bad) = NeverHasRequest bytes
WhatItSays bytes (Some requests.TooLong) = (HasNoRequest bytes × (4096 ≤ length bytes)) ⊎ RequestExceeds 64 bytes
WhatItSays bytes (Some (requests.Page method page)) = IsRequestedFor bytes (requests.Page method page)
WhatItSays bytes (Some (requests.Unknown method)) = IsRequestedFor bytes (requests.Unknown method)
WhatItSays bytes (Some requests.NotAllowed) = IsRequestedFor bytes requests.NotAllowed
