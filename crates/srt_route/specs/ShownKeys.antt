-- The length of a session's keys, which its snapshot shows (section 3.2.2, KLen).
use Rattle.std.specs.Prelude.{◌≡◌, ℕ, Option, None, Some, option_map, length, if◌then◌else◌, ⊤}
use Rattle.srt_types.specs.Access.{bytes_in}
use Rattle.srt_types.specs.Terms.{Terms}
use Rattle.srt_types.specs.declared.shared.KeyLength.{KeyLength}
use Rattle.srt_route.specs.RouteKeys.{RouteKeys, SlotKeys, Clear, OfPublisher, OfSubscriber, has_secured_role}
use Rattle.srt_route.specs.declared.view.SessionView.{SessionView}

-- how many bytes each of a session's keys has, as the one that wraps them; none if it isn't encrypted
abbrev pub key_bytes : SlotKeys → Option ℕ
key_bytes Clear = None
key_bytes (OfPublisher request keys) = Some (length keys.kek)
key_bytes (OfSubscriber request keys) = Some (length keys.source.kek)

-- the same of the session of a slot; on a route without a secured role none is encrypted
abbrev pub key_bytes_in : Terms → RouteKeys → (slot : ℕ) → Option ℕ
key_bytes_in e keys slot = if has_secured_role e then key_bytes (keys.held slot) else None

-- a snapshot with this length of keys
abbrev pub with_key_length : Option KeyLength → SessionView → SessionView
with_key_length key_length v = record v { key_length = key_length }

-- the snapshot of a slot has the length of its session's keys, if one is open there
abbrev pub ShowsKeys : Terms → (slot : ℕ) → RouteKeys → Option SessionView → Type 0
ShowsKeys e slot keys None = ⊤
ShowsKeys e slot keys (Some v) = option_map bytes_in v.key_length ≡ key_bytes_in e keys slot
