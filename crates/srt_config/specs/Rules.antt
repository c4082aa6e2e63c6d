-- What a route does beyond the draft: the keys in its table (our choice).
use Rattle.std.specs.Prelude.{ℕ, ◌-◌, min, codes, List, Option, None, Some, Result, Ok, Err, if◌then◌else◌}
use Rattle.std.specs.Str.{bytes_eq}
use Rattle.toml.specs.Data.{Data, Members, get_member}
use Rattle.srt_types.specs.declared.shared.Callers.{Callers as TheCallers}
use Rattle.srt_types.specs.declared.shared.Callers.TheVariants as callers
use Rattle.srt_types.specs.declared.shared.Rules.{Rules}
use Rattle.srt_config.specs.declared.config.keys.Key.TheVariants.{Callers, Reserved, SessionsPerAddress, TakeoverMs, ResendPercent}
use Rattle.srt_config.specs.KeyTable.{key_name, limits_of}
use Rattle.srt_config.specs.FirstFault.{Fault, OutOfRange, ◌>>=◌}
use Rattle.srt_config.specs.Keys.{optional, text_value, optional_number_at, optional_key_number_at, given_or_0}

-- which rules sessions follow where libsrt's differ from the draft's
unfoldable pub callers_in : List ℕ → Result TheCallers Fault
callers_in text =
    if bytes_eq text (codes "draft") then Ok callers.Draft
    else if bytes_eq text (codes "libsrt") then Ok callers.Libsrt
    else Err (OutOfRange Callers)

unfoldable pub callers_value : Data → Result TheCallers Fault
callers_value value = text_value Callers value >>= λ text. callers_in text

-- the same at a key that may be missing
unfoldable pub callers_at : Members → Result (Option TheCallers) Fault
callers_at table = optional callers_value (get_member (key_name Callers) table)

-- sessions follow the draft if no other rules are configured
abbrev pub draft_if_none : Option TheCallers → TheCallers
draft_if_none None = callers.Draft
draft_if_none (Some given) = given

-- at most two slots are kept for publishers, and fewer than there are sessions
abbrev pub most_reserved : (sessions : ℕ) → ℕ
most_reserved sessions = min (limits_of Reserved).most (sessions - 1)

abbrev pub rules_with : TheCallers → (reserved sessions_per_address takeover_ms resend_percent : Option ℕ) → Rules
rules_with callers reserved sessions_per_address takeover_ms resend_percent =
    record {
      callers = callers;
      reserved = given_or_0 reserved;
      sessions_per_address = sessions_per_address;
      takeover_ms = takeover_ms;
      resend_percent = resend_percent;
    }

-- the rules of the route of a table, with this number of sessions and for these callers
unfoldable pub rules_at : (sessions : ℕ) → TheCallers → Members → Result Rules Fault
rules_at sessions callers table =
    optional_number_at Reserved (limits_of Reserved).least (most_reserved sessions) table >>= λ reserved.
    optional_key_number_at SessionsPerAddress table >>= λ sessions_per_address.
    optional_key_number_at TakeoverMs table >>= λ takeover_ms.
    optional_key_number_at ResendPercent table >>= λ resend_percent.
    Ok (rules_with callers reserved sessions_per_address takeover_ms resend_percent)
