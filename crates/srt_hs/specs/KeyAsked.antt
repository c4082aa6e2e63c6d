-- The KMREQ blocks that a value of the code represents.
use Rattle.srt_hs.specs.declared.key_requests.KeyRequest.{KeyRequest}
use Rattle.srt_hs.specs.declared.key_requests.KeyRequest.TheVariants as code
use Rattle.srt_hs.specs.KeyRequest.{Asked, nothing, one, several}

abbrev pub asked_of : KeyRequest → Asked
asked_of code.Missing = nothing
asked_of (code.One contents) = one contents.now
asked_of code.Several = several
