-- Whether two routes have the same keys, with the same values.
use Rattle.std.specs.Prelude.{◌==◌, nat_eq, Bool, true, false, ◌&&◌, List, Option, None, Some}
use Rattle.std.specs.Cmp.Lexicographic.{pointwise}
use Rattle.std.specs.Str.{bytes_eq}
use Rattle.srt_types.specs.declared.shared.Callers.{Callers}
use Rattle.srt_types.specs.declared.shared.Callers.TheVariants.{Draft, Libsrt}
use Rattle.srt_types.specs.declared.shared.Mode.{Mode}
use Rattle.srt_types.specs.declared.shared.Mode.TheVariants.{Live, Buffer}
use Rattle.srt_types.specs.declared.shared.Network.{Network}
use Rattle.srt_types.specs.declared.shared.Network.TheVariants.{V4, V6}
use Rattle.srt_types.specs.declared.shared.Rules.{Rules}
use Rattle.srt_types.specs.declared.shared.Schedule.{Schedule}
use Rattle.srt_types.specs.declared.shared.KeyLength.{KeyLength}
use Rattle.srt_types.specs.Access.{RoleTerms, AccessTerms, bytes_in}
use Rattle.srt_types.specs.Terms.{Terms}

-- both are missing, or both are given and the same
abbrev pub same_if : {A : Type 0} → (same : A → A → Bool) → Option A → Option A → Bool
same_if same None None = true
same_if same None (Some b) = false
same_if same (Some a) None = false
same_if same (Some a) (Some b) = same a b

abbrev pub same_mode : Mode → Mode → Bool
same_mode Live Live = true
same_mode Live Buffer = false
same_mode Buffer Live = false
same_mode Buffer Buffer = true

abbrev pub same_callers : Callers → Callers → Bool
same_callers Draft Draft = true
same_callers Draft Libsrt = false
same_callers Libsrt Draft = false
same_callers Libsrt Libsrt = true

abbrev pub same_network : Network → Network → Bool
same_network (V4 first size) (V4 other many) = first == other && size == many
same_network (V4 first size) (V6 other prefix) = false
same_network (V6 first prefix) (V4 other size) = false
same_network (V6 first prefix) (V6 other many) = first == other && prefix == many

-- the same networks in the same order
abbrev pub same_networks : List Network → List Network → Bool
same_networks = pointwise same_network

abbrev pub same_role : RoleTerms → RoleTerms → Bool
same_role a b = same_if same_networks a.from b.from && same_if bytes_eq a.key b.key && same_if bytes_eq a.passphrase b.passphrase

abbrev pub same_length : KeyLength → KeyLength → Bool
same_length a b = bytes_in a == bytes_in b

abbrev pub same_access : AccessTerms → AccessTerms → Bool
same_access a b = same_role a.publish b.publish && same_role a.request b.request && same_if same_length a.key_length b.key_length

abbrev pub same_rules : Rules → Rules → Bool
same_rules a b =
    same_callers a.callers b.callers && a.reserved == b.reserved && same_if nat_eq a.sessions_per_address b.sessions_per_address &&
    same_if nat_eq a.takeover_ms b.takeover_ms && same_if nat_eq a.resend_percent b.resend_percent

abbrev pub same_numbers : Terms → Terms → Bool
same_numbers a b =
    a.latency_ms == b.latency_ms && a.buffer == b.buffer && a.sessions == b.sessions && a.inbox == b.inbox && a.outbox == b.outbox

-- two entries with the same keys
abbrev pub same_terms : Terms → Terms → Bool
same_terms a b =
    bytes_eq a.name b.name && same_mode a.mode b.mode && same_numbers a b && same_access a.access b.access && same_rules a.rules b.rules

abbrev pub same_schedule : Schedule → Schedule → Bool
same_schedule a b = a.open_round == b.open_round && same_if nat_eq a.close_round b.close_round
