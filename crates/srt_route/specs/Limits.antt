-- Guarantees of the limits in a route's rules, whatever its items are.
use Rattle.std.specs.Prelude.{◌≡◌, ℕ, ◌+◌, ◌≤◌, true, None, Some, Err, List}
use Rattle.srt_types.specs.declared.shared.Peer.{Peer}
use Rattle.srt_types.specs.Terms.{Terms}
use Rattle.srt_types.specs.Items.{Item}
use Rattle.srt_route.specs.declared.conclusion_reading.Conclusion.{Conclusion}
use Rattle.srt_route.specs.declared.refusals.RefusalCause.TheVariants as causes
use Rattle.srt_route.specs.Opening.{fault_of}
use Rattle.srt_route.specs.Sessions.{advanced, free_slots, open_publishers, publishes, sessions_from}
use Rattle.srt_route.specs.Route.{after, decision, giving_up}

-- the free slots and the open publishers are together at least as many as the slots reserved for publishers
abbrev pub KeepsSlots : Type 0
KeepsSlots =
    (e : Terms) (index : ℕ) (items : List Item) → fault_of e index ≡ None
    → e.rules.reserved ≤ free_slots e (after e index items).sessions + open_publishers (after e index items).sessions

-- while fewer publishers are open than slots are reserved, no publisher is refused because no slot is free
abbrev pub PublishersHaveSlots : Type 0
PublishersHaveSlots =
    (e : Terms) (index clock : ℕ) (items : List Item) (peer : Peer) (c : Conclusion) → fault_of e index ≡ None → publishes c.role ≡ true
    → decision e peer c (advanced e clock (giving_up e clock (after e index items)).sessions) ≡ Err causes.Resource
    → e.rules.reserved ≤ open_publishers (advanced e clock (giving_up e clock (after e index items)).sessions)

-- no publisher is refused because the free slots are reserved
abbrev pub NoneIsKeptFromPublishers : Type 0
NoneIsKeptFromPublishers =
    (e : Terms) (index clock : ℕ) (items : List Item) (peer : Peer) (c : Conclusion) → publishes c.role ≡ true
    → decision e peer c (advanced e clock (giving_up e clock (after e index items)).sessions) ≡ Err causes.Reserved → ⊥

-- the site of an IP address has at most as many open sessions as the route allows for one
abbrev pub FewOfAnAddress : Type 0
FewOfAnAddress =
    (e : Terms) (index limit : ℕ) (items : List Item) (ip : List ℕ)
    → e.rules.sessions_per_address ≡ Some limit → sessions_from ip (after e index items).sessions ≤ limit
