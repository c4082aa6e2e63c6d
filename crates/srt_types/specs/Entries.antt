-- The form of a route's name, and the limits of its numbers (our choice).
use Rattle.std.specs.Prelude.{ℕ, Bool, true, Option, None, Some, List, length, nat_le, nat_lt, ◌==◌, ◌&&◌, ◌||◌}
use Rattle.std.specs.List.{list_all}
use Rattle.srt_types.specs.declared.shared.Callers.TheVariants.{Draft}
use Rattle.srt_types.specs.declared.shared.Rules.{Rules}
use Rattle.srt_types.specs.Terms.{Terms}

-- whether low <= n <= high
abbrev pub is_between : (low high n : ℕ) → Bool
is_between low high n = nat_le low n && nat_le n high

-- whether a byte may be in a route's name: an ASCII letter or digit, `-`, `.`, `/` or `_`
abbrev pub is_name_byte : ℕ → Bool
is_name_byte b = is_between 97 122 b || is_between 65 90 b || is_between 48 57 b || is_between 45 47 b || b == 95

-- whether the bytes are a valid route name: 1 to 64 bytes, each allowed
abbrev pub is_name : List ℕ → Bool
is_name name = is_between 1 64 (length name) && list_all is_name_byte name

-- the rules of a route that follows the draft alone
abbrev pub draft_rules : Rules
draft_rules = record { callers = Draft; reserved = 0; sessions_per_address = None; takeover_ms = None; resend_percent = None }

-- whether a number, if present, is within these limits
abbrev pub is_between_if : (low high : ℕ) → Option ℕ → Bool
is_between_if low high None = true
is_between_if low high (Some n) = is_between low high n

-- whether the numbers of the rules are within their limits, for a route with this maximum number of sessions
abbrev pub are_rules : (sessions : ℕ) → Rules → Bool
are_rules sessions r =
    nat_le r.reserved 2 && nat_lt r.reserved sessions && is_between_if 1 17 r.sessions_per_address &&
    is_between_if 100 5000 r.takeover_ms && is_between_if 5 1000 r.resend_percent

-- whether the numbers of a route's configuration are within their limits
abbrev pub in_limits : Terms → Bool
in_limits e =
    is_between 20 8000 e.latency_ms && is_between 32 8192 e.buffer && is_between 1 17 e.sessions &&
    is_between 16 4096 e.inbox && is_between 16 4096 e.outbox && are_rules e.sessions e.rules
