-- A snapshot has the length of its session's keys, and stays one with it.
use Rattle.std.proofs.Common.{◌≡◌, ℕ, ◌<◌, Option, None, Some, List, find, refl, arith}
use Rattle.std.specs.Prelude.{option_map}
use Rattle.srt_types.specs.Access.{bytes_in}
use Rattle.srt_types.specs.Terms.{Terms}
use Rattle.srt_types.specs.declared.shared.KeyLength.{KeyLength}
use Rattle.srt_route.specs.RouteKeys.{RouteKeys}
use Rattle.srt_route.specs.Sessions.{Session, is_open_in}
use Rattle.srt_route.specs.ShownKeys.{ShowsKeys, key_bytes_in, with_key_length}
use Rattle.srt_route.specs.Tables.{IsTable}
use Rattle.srt_route.specs.Viewing.{IsView, Shows, ShowsSession}
use Rattle.srt_route.specs.declared.table.Table.{Table}
use Rattle.srt_route.specs.declared.view.SessionView.{SessionView}
use Rattle.srt_route.proofs.stored.Kept.{below_seats}

stays_view : (e : Terms) (index : ℕ) (ss : List Session) (s : Session) (v : SessionView) (k : Option KeyLength)
    → IsView e index ss s v → IsView e index ss s (with_key_length k v)
stays_view e index ss s v k is =
    record {
      peer_is = is.peer_is;
      caller_is = is.caller_is;
      id_is = is.id_is;
      role_is = is.role_is;
      active_is = is.active_is;
      draining_is = is.draining_is;
      opened_is = is.opened_is;
      heard_is = is.heard_is;
      latency_is = is.latency_is;
      traffic_is = is.traffic_is;
    }

stays_shown : (e : Terms) (index : ℕ) (ss : List Session) (k : Option KeyLength) (o : Option Session) (shown : Option SessionView)
    → Shows e index ss o shown → Shows e index ss o (option_map (with_key_length k) shown)
stays_shown e index ss k None None h = h
stays_shown e index ss k None (Some v) h = h
stays_shown e index ss k (Some s) None h = h
stays_shown e index ss k (Some s) (Some v) h = stays_view e index ss s v k h

-- the snapshot of a slot
pub session_shown : (e : Terms) (index slot : ℕ) (ss : List Session) (k : Option KeyLength) (shown : Option SessionView)
    → ShowsSession e index slot ss shown → ShowsSession e index slot ss (option_map (with_key_length k) shown)
session_shown e index slot ss k shown h = stays_shown e index ss k (find (is_open_in slot) ss) shown h

-- its length of keys: only a slot of the route has an open session
pub keys_shown : (e : Terms) (index clock : ℕ) (table : Table) (ss : List Session) (keys : RouteKeys) (slot : ℕ) (k : Option KeyLength)
    (shown : Option SessionView)
    → IsTable e index clock table ss → ShowsSession e index slot ss shown → (slot < e.sessions → option_map bytes_in k ≡ key_bytes_in e keys slot)
    → ShowsKeys e slot keys (option_map (with_key_length k) shown)
keys_shown e index clock table ss keys slot k None is shows known = tt
keys_shown e index clock table ss keys slot k (Some v) is shows known = by (find (is_open_in slot) ss) refl shows
  where
    by : (o : Option Session) → find (is_open_in slot) ss ≡ o → Shows e index ss o (Some v) → option_map bytes_in k ≡ key_bytes_in e keys slot
    by None found bad = absurd bad
    by (Some s) found seen = known (omega (arith, below_seats e index clock table ss slot s is found, is.places_are))
