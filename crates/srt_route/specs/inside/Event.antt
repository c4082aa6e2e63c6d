-- The effect of an event on an open route, for each route that its table represents before the event.
use Rattle.std.specs.Prelude.{◌≡◌, ℕ, false, map}
use Rattle.srt_types.specs.Terms.{Terms}
use Rattle.srt_types.specs.Items.{Item}
use Rattle.srt_route.specs.declared.ledger.Ledger.{Ledger}
use Rattle.srt_route.specs.declared.reply_queue.ReplyQueue.{ReplyQueue}
use Rattle.srt_route.specs.declared.table.Table.{Table}
use Rattle.srt_route.specs.declared.route_keys.RouteKeys.{RouteKeys}
use Rattle.srt_route.specs.Route.{Route, clock_after, found_by, replies_to, sent, with_input}
use Rattle.srt_route.specs.StoredKeys.{AreKeys}
use Rattle.srt_route.specs.Tables.{IsTable}
use Rattle.srt_route.specs.Ends.{KeepsEnds, kept_of}
use Rattle.srt_route.specs.Tallies.{tally_after, tally_of}
use Rattle.srt_route.specs.inside.Reports.{Queues}

-- a table and keys represent those of `m`, which is open and at this clock after an item
pub record IsBefore (e : Terms) (index clock : ℕ) (item : Item) (table : Table) (keys : RouteKeys) (m : Route) : Type 0 where
  pub is_open : m.is_closed ≡ false
  pub clock_is : clock ≡ clock_after item m
  pub table_is : IsTable e index m.clock table m.sessions
  pub keys_are : AreKeys e keys m.keys

-- the table represents the sessions after the item
abbrev pub Passes : (clock : ℕ) → Item → (old new : Table) → RouteKeys → Type 0
Passes clock item old new keys =
    (e : Terms) (index : ℕ) (m : Route)
    → IsBefore e index clock item old keys m → IsTable e index clock new (with_input e index item (found_by e item m)).sessions

-- the keys are those after the item
abbrev pub KeysPass : (clock : ℕ) → Item → Table → (old new : RouteKeys) → Type 0
KeysPass clock item table old new =
    (e : Terms) (index : ℕ) (m : Route) → IsBefore e index clock item table old m → AreKeys e new (with_input e index item (found_by e item m)).keys

-- the replies to the item are queued
abbrev pub Replies : (clock : ℕ) → Item → Table → RouteKeys → (before after : ReplyQueue) → Type 0
Replies clock item table keys before after =
    (e : Terms) (index : ℕ) (m : Route)
    → IsBefore e index clock item table keys m → Queues before after (map sent (replies_to e index item (found_by e item m)))

-- the sessions that end are kept
abbrev pub Ends : (clock : ℕ) → Item → Table → RouteKeys → (old new : Ledger) → Type 0
Ends clock item table keys old new =
    (e : Terms) (index : ℕ) (m : Route) → IsBefore e index clock item table keys m → KeepsEnds e index item (found_by e item m) (kept_of old) (kept_of new)

-- openings and refusals are counted
abbrev pub Counts : (clock : ℕ) → Item → Table → RouteKeys → (old new : Ledger) → Type 0
Counts clock item table keys old new =
    (e : Terms) (index : ℕ) (m : Route) → IsBefore e index clock item table keys m → tally_of new ≡ tally_after e index item (found_by e item m) (tally_of old)
