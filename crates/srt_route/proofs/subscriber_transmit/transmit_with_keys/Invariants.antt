use Rattle.std.proofs.Common.{◌≡◌, ℕ, List, get_or, true}
use Rattle.srt_types.specs.Terms.{Terms}
use Rattle.srt_types.specs.declared.shared.Role.TheVariants.{Request}
use Rattle.srt_route.specs.RouteKeys.{RouteKeys, own_in, own_keys, secures}
use Rattle.srt_route.specs.Sessions.{Session}
use Rattle.srt_route.specs.SlotKeys.{place_keys_of}
use Rattle.srt_route.specs.StoredKeys.{AreKeys}
use Rattle.srt_route.specs.Tables.{IsTable}
use Rattle.srt_route.specs.Ledgers.{CountsStay}
use Rattle.srt_route.specs.Totals.{SumsGrow}
use Rattle.srt_route.specs.Waits.{replies_of, places_of}
use Rattle.srt_route.proofs.stored.KeptInOrder.{EachIn, UpToIn}
use Rattle.srt_route.proofs.steps.Serving.{EndsUpTo, Serves, serving}
use Rattle.srt_route.proofs.steps.Slots.{IsSaying}
use Rattle.srt_route.proofs.steps.Transmitting.{KeepsPlace, SameRest, no_place}
use Rattle.srt_route.proofs.subscriber_transmit.transmit_with_keys.Given as goal

-- the subscribers of the seats below `at` have sent their packets under the keys of their slots, or ended
abbrev pub invariant-loop-at : goal.invariant-loop-at
invariant-loop-at l = record {
  seats : UpToIn (λ k. Serves (own_keys (place_keys_of (get_or l.fn.keys.slots.items k no_place))) l.clock l.over) l.at l.fn.table l.table;
  places : EachIn (KeepsPlace l.clock l.over l.fn.table.seats.items) l.at l.fn.keys.slots.items l.keys.slots.items;
  rest : SameRest l.fn.keys l.keys;
  notified : (e : Terms) (index : ℕ) (sessions : List Session) (keys : RouteKeys) → IsTable e index l.clock l.fn.table sessions
      → AreKeys e l.fn.keys keys → secures e Request ≡ true
      → IsSaying (serving (own_in e keys) e l.clock l.over) e l.at sessions (replies_of l.fn.waiting) (replies_of l.waiting) (places_of l.fn.waiting)
      (places_of l.waiting);
  ends : (e : Terms) (index : ℕ) (sessions : List Session) → IsTable e index l.clock l.fn.table sessions
      → EndsUpTo e index l.over l.clock l.at sessions l.fn.ledger l.ledger;
  counts : CountsStay l.fn.ledger l.ledger;
  sums : SumsGrow l.fn.ledger.totals l.ledger.totals;
}
