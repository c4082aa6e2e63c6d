-- The abstract route that a route's fields represent.
use Rattle.std.specs.Prelude.{◌≡◌, ℕ, List, map}
use Rattle.srt_types.specs.Terms.{Terms}
use Rattle.srt_types.specs.Items.{Datagram, Item}
use Rattle.srt_route.specs.declared.route.Route.{Route as TheRoute}
use Rattle.srt_route.specs.Written.{written}
use Rattle.srt_route.specs.Waits.{IsTrimmed, replies_of, places_of}
use Rattle.srt_route.specs.Route.{Route, after}
use Rattle.srt_route.specs.Stages.{HasKeys, HasRoom, Represents, buffers_in, is_closed}

-- the datagrams that wait, the oldest first
abbrev pub waiting : TheRoute → List Datagram
waiting r = map written (replies_of r.waiting)

-- the number of replies that a route's queue can hold
abbrev pub places : TheRoute → ℕ
places r = places_of r.waiting

-- route `r` represents `m`, its waiting replies aside
pub record IsRoute (e : Terms) (index : ℕ) (r : TheRoute) (m : Route) : Type 0 where
  pub clock_is : r.clock ≡ m.clock
  pub stage_is : Represents e index r.clock r.stage m.sessions
  pub room : HasRoom r.stage e.sessions r.waiting
  pub closed_is : m.is_closed ≡ is_closed r.stage
  pub keys_are : HasKeys e r.stage m.keys

-- route `r` has no sessions' buffers, no boxes but those of the replies that wait, and no queue if none waits
pub record HasGivenBack (r : TheRoute) : Type 0 where
  pub buffers : buffers_in r.stage ≡ 0
  pub queue : IsTrimmed r.waiting

-- the state of route `r` is the one that its terms, its index and its items determine; the newest item comes first
abbrev pub stands : TheRoute → Terms → (index : ℕ) → List Item → Type 0
stands r e index items = IsRoute e index r (after e index items)
