-- Which seats have a publisher's session.
use Rattle.std.specs.Prelude.{Bool, false, Option, None, Some}
use Rattle.srt_route.specs.Sessions.{publishes}
use Rattle.srt_route.specs.Parts.{role_of}
use Rattle.srt_route.specs.declared.seat.Session.{Session}
use Rattle.srt_route.specs.declared.seat.Seat.{Seat}

-- whether a session is stored and passes a test
abbrev pub session_passes : (Session → Bool) → Option Session → Bool
session_passes test None = false
session_passes test (Some t) = test t

abbrev pub has_publisher : Seat → Bool
has_publisher seat = session_passes (λ t. publishes (role_of t.part)) seat.session
