-- The numbers of the causes in the output of a replay.
use Rattle.std.specs.Prelude.{ℕ}
use Rattle.srt_lobby.specs.declared.classes.Cause.{Cause}
use Rattle.srt_lobby.specs.declared.classes.Cause.TheVariants.{Packet, UnknownId, NotHandshake, Handshake, WrongKind, WrongCookie, NotAllowed}

-- the number of a cause, in the order in which the code declares them
abbrev pub number_of : Cause → ℕ
number_of Packet = 1
number_of UnknownId = 2
number_of NotHandshake = 3
number_of Handshake = 4
number_of WrongKind = 5
number_of WrongCookie = 6
number_of NotAllowed = 7
