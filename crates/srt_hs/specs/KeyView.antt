-- The key material messages of the grammar that values of the code represent.
use Rattle.std.specs.Prelude.{Result, Ok, Err}
use Rattle.srt_hs.specs.KeyMessage.{KeyMessage}
use Rattle.srt_hs.specs.declared.key_message.KeyMessageRef.{KeyMessageRef}
use Rattle.srt_hs.specs.declared.key_message.KeyFault.{KeyFault}

-- the message that a value of the code represents, without its borrow
abbrev pub message_of : KeyMessageRef → KeyMessage
message_of m = record { keys = m.keys; key_length = m.key_length; salt = m.salt; wrapped = m.wrapped.now }

-- a result of the code as a result of the grammar
abbrev pub message_read : Result KeyMessageRef KeyFault → Result KeyMessage KeyFault
message_read (Ok m) = Ok (message_of m)
message_read (Err fault) = Err fault
