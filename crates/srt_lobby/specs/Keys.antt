-- The keys that a conclusion brings for an encrypted session (section 3.2.2). Which ones a route requires is our choice.
use Rattle.std.specs.Prelude.{ℕ, Bool, true, false, List, Option, None, Some, Result, Ok, Err, if◌then◌else◌}
use Rattle.srt_types.specs.declared.shared.KeyLength.{KeyLength}
use Rattle.srt_types.specs.declared.shared.Role.{Role}
use Rattle.srt_types.specs.Access.{AccessTerms, in_role, is_secured, is_right_length}
use Rattle.srt_hs.specs.declared.key_message.KeyFault.{KeyFault}
use Rattle.srt_hs.specs.KeyMessage.{KeyMessage, message_in}
use Rattle.srt_hs.specs.KeyRequest.{Asked, nothing, one, several}
use Rattle.srt_lobby.specs.RouteNames.{RouteName}

-- whether keys were read, and they have the required length
abbrev pub is_right_message : (required : Option KeyLength) → Result KeyMessage KeyFault → Bool
is_right_message required (Ok message) = is_right_length required message.key_length
is_right_message required (Err fault) = false

-- whether there is exactly one KMREQ block, and it has keys of the required length
abbrev pub is_right_request : (required : Option KeyLength) → Asked → Bool
is_right_request required nothing = false
is_right_request required (one contents) = is_right_message required (message_in contents)
is_right_request required several = false

-- whether these KMREQ blocks are right for a role with these rules; if it isn't secured, true
abbrev pub has_keys_in : AccessTerms → Role → Asked → Bool
has_keys_in access role asked = if is_secured (in_role access role) then is_right_request access.key_length asked else true

-- whether there is a route, and these KMREQ blocks are right for its role
abbrev pub has_keys : Role → Asked → Option RouteName → Bool
has_keys role asked (Some name) = has_keys_in name.access role asked
has_keys role asked None = false
