-- What may help if an address can't be bound (our choice).
use Rattle.std.specs.Prelude.{ℕ, nat_lt, List, [], codes, if◌then◌else◌}
use Rattle.std.specs.declared.io.ErrorKind.{ErrorKind}
use Rattle.std.specs.declared.io.ErrorKind.TheVariants.{PermissionDenied}

-- a port below 1024 is kept for programs with a right of their own
abbrev pub bind_hint : ErrorKind → (port : ℕ) → List ℕ
bind_hint PermissionDenied port = if nat_lt port 1024 then codes "; ports below 1024 need root or CAP_NET_BIND_SERVICE" else []
bind_hint kind port = []
