-- The table of keys: how each key of a configuration is written, and which values it may have (our choice).
use Rattle.std.specs.Prelude.{ℕ, Bool, true, false, List, Option, None, Some, codes}
use Rattle.srt_config.specs.declared.config.keys.Key.{Key}
use Rattle.srt_config.specs.declared.config.keys.Key.TheVariants.{Secret, Bind, Workers, Status, Defaults, Route, Name, Mode, LatencyMs, Buffer}
use Rattle.srt_config.specs.declared.config.keys.Key.TheVariants.{Sessions, Inbox, Outbox, OpenRound, CloseRound, Callers, PublishFrom, RequestFrom}
use Rattle.srt_config.specs.declared.config.keys.Key.TheVariants.{PublishKey, RequestKey, Reserved, SessionsPerAddress, TakeoverMs}
use Rattle.srt_config.specs.declared.config.keys.Key.TheVariants.{ResendPercent, PublishPassphrase, RequestPassphrase, Pbkeylen, Expect}
use Rattle.srt_config.specs.declared.config.keys.ValueKind.{ValueKind}
use Rattle.srt_config.specs.declared.config.keys.ValueKind.TheVariants.{Text, Number, Boolean, Networks, Table, Tables}
use Rattle.srt_config.specs.declared.config.keys.Limits.{Limits}
use Rattle.srt_config.specs.declared.config.keys.Choices.{Choices}

abbrev pub key_name : Key → List ℕ
key_name Secret = codes "secret"
key_name Bind = codes "bind"
key_name Workers = codes "workers"
key_name Status = codes "status"
key_name Defaults = codes "defaults"
key_name Route = codes "route"
key_name Name = codes "name"
key_name Mode = codes "mode"
key_name LatencyMs = codes "latency_ms"
key_name Buffer = codes "buffer"
key_name Sessions = codes "sessions"
key_name Inbox = codes "inbox"
key_name Outbox = codes "outbox"
key_name OpenRound = codes "open_round"
key_name CloseRound = codes "close_round"
key_name Callers = codes "callers"
key_name PublishFrom = codes "publish_from"
key_name RequestFrom = codes "request_from"
key_name PublishKey = codes "publish_key"
key_name RequestKey = codes "request_key"
key_name Reserved = codes "reserved"
key_name SessionsPerAddress = codes "sessions_per_address"
key_name TakeoverMs = codes "takeover_ms"
key_name ResendPercent = codes "resend_percent"
key_name PublishPassphrase = codes "publish_passphrase"
key_name RequestPassphrase = codes "request_passphrase"
key_name Pbkeylen = codes "pbkeylen"
key_name Expect = codes "expect"

-- the kind of a key's value
abbrev pub kind_of : Key → ValueKind
kind_of Secret = Text
kind_of Bind = Text
kind_of Workers = Number
kind_of Status = Text
kind_of Defaults = Table
kind_of Route = Tables
kind_of Name = Text
kind_of Mode = Text
kind_of LatencyMs = Number
kind_of Buffer = Number
kind_of Sessions = Number
kind_of Inbox = Number
kind_of Outbox = Number
kind_of OpenRound = Number
kind_of CloseRound = Number
kind_of Callers = Text
kind_of PublishFrom = Networks
kind_of RequestFrom = Networks
kind_of PublishKey = Text
kind_of RequestKey = Text
kind_of Reserved = Number
kind_of SessionsPerAddress = Number
kind_of TakeoverMs = Number
kind_of ResendPercent = Number
kind_of PublishPassphrase = Text
kind_of RequestPassphrase = Text
kind_of Pbkeylen = Number
kind_of Expect = Boolean

abbrev pub between : (least most : ℕ) → Limits
between least most = record { least = least; most = most }

-- the limits of a key's value: of a number its value, of a text its bytes, of a list its members. An address or one of two texts
-- has no limit but its form, and the table of defaults and a truth value none. Of the numbers within those of pbkeylen three are allowed
abbrev pub limits_of : Key → Limits
limits_of Secret = between 64 64
limits_of Bind = between 0 4_294_967_295
limits_of Workers = between 1 16
limits_of Status = between 0 4_294_967_295
limits_of Defaults = between 0 4_294_967_295
limits_of Route = between 1 511
limits_of Name = between 1 64
limits_of Mode = between 0 4_294_967_295
limits_of LatencyMs = between 20 8000
limits_of Buffer = between 32 8192
limits_of Sessions = between 1 17
limits_of Inbox = between 16 4096
limits_of Outbox = between 16 4096
limits_of OpenRound = between 0 1_000_000_000
limits_of CloseRound = between 1 1_000_000_000
limits_of Callers = between 0 4_294_967_295
limits_of PublishFrom = between 1 16
limits_of RequestFrom = between 1 16
limits_of PublishKey = between 1 64
limits_of RequestKey = between 1 64
limits_of Reserved = between 0 2
limits_of SessionsPerAddress = between 1 17
limits_of TakeoverMs = between 100 5000
limits_of ResendPercent = between 5 1000
limits_of PublishPassphrase = between 10 79
limits_of RequestPassphrase = between 10 79
limits_of Pbkeylen = between 16 32
limits_of Expect = between 0 4_294_967_295

abbrev pub both_texts : Choices → List ℕ × List ℕ
both_texts choices = (choices.first.now, choices.second.now)

-- the two texts that a key allows, if it allows no others
abbrev pub choices_of : Key → Option (List ℕ × List ℕ)
choices_of Secret = None
choices_of Bind = None
choices_of Workers = None
choices_of Status = None
choices_of Defaults = None
choices_of Route = None
choices_of Name = None
choices_of Mode = Some (codes "live", codes "buffer")
choices_of LatencyMs = None
choices_of Buffer = None
choices_of Sessions = None
choices_of Inbox = None
choices_of Outbox = None
choices_of OpenRound = None
choices_of CloseRound = None
choices_of Callers = Some (codes "draft", codes "libsrt")
choices_of PublishFrom = None
choices_of RequestFrom = None
choices_of PublishKey = None
choices_of RequestKey = None
choices_of Reserved = None
choices_of SessionsPerAddress = None
choices_of TakeoverMs = None
choices_of ResendPercent = None
choices_of PublishPassphrase = None
choices_of RequestPassphrase = None
choices_of Pbkeylen = None
choices_of Expect = None

-- the values of the secret, of the keys and passphrases of roles and of the defaults, which may have such keys, are printed nowhere
abbrev pub is_private : Key → Bool
is_private Secret = true
is_private Bind = false
is_private Workers = false
is_private Status = false
is_private Defaults = true
is_private Route = false
is_private Name = false
is_private Mode = false
is_private LatencyMs = false
is_private Buffer = false
is_private Sessions = false
is_private Inbox = false
is_private Outbox = false
is_private OpenRound = false
is_private CloseRound = false
is_private Callers = false
is_private PublishFrom = false
is_private RequestFrom = false
is_private PublishKey = true
is_private RequestKey = true
is_private Reserved = false
is_private SessionsPerAddress = false
is_private TakeoverMs = false
is_private ResendPercent = false
is_private PublishPassphrase = true
is_private RequestPassphrase = true
is_private Pbkeylen = false
is_private Expect = false
