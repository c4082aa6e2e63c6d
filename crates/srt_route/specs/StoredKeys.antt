-- The keys that a route's fields represent.
use Rattle.std.specs.Prelude.{◌≡◌, ℕ, ◌<◌, true, option_map, length, slice_index_or, string_bytes}
use Rattle.srt_types.specs.declared.shared.Role.TheVariants.{Publish, Request}
use Rattle.srt_types.specs.Terms.{Terms}
use Rattle.srt_session_keys.specs.Limiter.{moments_of}
use Rattle.srt_session_keys.specs.Source.{pool_of}
use Rattle.srt_route.specs.declared.route_keys.RouteKeys.{RouteKeys as TheRouteKeys}
use Rattle.srt_route.specs.declared.slot_keys.KeyVerdict.{KeyVerdict}
use Rattle.srt_route.specs.declared.slot_keys.KeyPlace.{KeyPlace}
use Rattle.srt_route.specs.RouteKeys.{KeysOpened, RouteKeys, has_secured_role, passphrase_of}
use Rattle.srt_route.specs.SlotKeys.{place_keys_of}

-- the stored keys are these; a route without a secured role stores none
pub record AreKeys (e : Terms) (stored : TheRouteKeys) (keys : RouteKeys) : Type 0 where
  pub publish_is : option_map string_bytes stored.publish ≡ passphrase_of e Publish
  pub request_is : option_map string_bytes stored.request ≡ passphrase_of e Request
  pub moments_are : moments_of stored.limiter ≡ keys.moments
  pub pool_is : pool_of stored.pool ≡ keys.pool
  pub places_are : has_secured_role e ≡ true → length stored.slots.items ≡ e.sessions
  pub held_are : has_secured_role e ≡ true → (slot : ℕ) (d : KeyPlace) → slot < e.sessions
      → place_keys_of (slice_index_or stored.slots.items slot d) ≡ keys.held slot

-- the result of an opening, and the stored keys after it, are those of the definition
pub record IsOpened (e : Terms) (new : TheRouteKeys) (verdict : KeyVerdict) (o : KeysOpened) : Type 0 where
  pub verdict_is : verdict ≡ o.verdict
  pub keys_are : AreKeys e new o.keys
