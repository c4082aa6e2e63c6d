-- The gateway with its lobby and its routes.
use Rattle.std.proofs.Common.{◌≡◌, ℕ, ◌<◌, Bool, true, false, List, [], ◌∷◌, ◌++◌, length, Some, refl, sym, ap, subst, ◌∙◌}
use Rattle.std.proofs.lemmas.Bool.{eq-eqb, eqb-true}
use Rattle.std.specs.Prelude.{All}
use Rattle.std.proofs.lemmas.List.Elements.{All-nil, All-append, All-take}
use Rattle.std.proofs.Math.Seq.{take-append_seam}
use Rattle.srt_types.specs.Items.{Datagram, Item}
use Rattle.srt_types.specs.Access.{AccessTerms}
use Rattle.srt_types.specs.Terms.{Terms}
use Rattle.srt_lobby.specs.declared.classes.Class.{Class}
use Rattle.srt_lobby.specs.declared.classes.Class.TheVariants.{Answer, Route, Dropped}
use Rattle.srt_lobby.specs.Names.{RouteName, AreDistinct}
use Rattle.srt_lobby.specs.Lobby.{class_of}
use Rattle.srt_lobby.specs.Laws.{HasRoute}
use Rattle.srt_lobby.proofs.Kept.{own}
use Rattle.srt_lobby.proofs.Distinct.{names_are_distinct}
use Rattle.srt_route.specs.Route.{reply}
use Rattle.srt_route.specs.Sendable.{IsSendable}
use Rattle.srt_route.proofs.model.Sendables.{replies_send}
use Rattle.srt_hub.specs.World.{Event, Sorting, Meaning, Place, World, name_at, place_in, names_in, is_route, solo, world_after, accepted, sent}
use Rattle.srt_hub.specs.Hubs.{names, names_at, entry_at, is_shown_at}
use Rattle.srt_hub.specs.Laws.{SortsByOwnName, OwnNameDecides}
use Rattle.srt_hub.specs.Gateways.{sorting, ArrivalsAreOwn, OpenWith, StepsAreOwn, SentByOwnSteps, SentByAccepted, SoloIsTheRoutes, SentArePackets}
use Rattle.srt_hub.proofs.Places.{always_there, always_entry}
use Rattle.srt_hub.proofs.Named.{named, always_distinct}
use Rattle.srt_hub.proofs.Isolation.{sent_is_front, sent_is_whole, isolated}
use Rattle.srt_hub.proofs.OwnSteps.{own_steps_decide, sorting_decides}

-- an existing route, by its name
has_route : (w : World) (r : ℕ) (name : RouteName)
    → r < length w.places → name_at (place_in w r) ≡ name → AreDistinct (names_in w) → HasRoute (names_in w) r name
has_route w r name below same distinct = record {
  named = named w.places r below ∙ ap (λ (n : RouteName). Some n) same;
  distinct = distinct;
}

same_name : (p q : Place) → p.entry.name ≡ q.entry.name → p.entry.access ≡ q.entry.access → p.is_shown ≡ q.is_shown → name_at p ≡ name_at q
same_name p q text access shown =
    ap (λ (t : List ℕ). record { text = t; is_shown = p.is_shown; access = p.entry.access }) text
    ∙ ap (λ (a : AccessTerms). record { text = q.entry.name; is_shown = p.is_shown; access = a }) access
    ∙ ap (λ (b : Bool). record { text = q.entry.name; is_shown = b; access = q.entry.access }) shown

pub arrivals_are_own : ArrivalsAreOwn
arrivals_are_own secret entries others events events' r h d moment =
    let class = sorting secret in
    let w = world_after class reply entries events in
    let w' = world_after class reply others events' in
    own secret (names_in w) (names_in w') r (name_at (place_in w r))
    (has_route w r (name_at (place_in w r)) h.below refl (always_distinct class reply entries events h.distinct))
    (has_route w' r (name_at (place_in w r)) h.below_there (sym (same_name (place_in w r) (place_in w' r) h.same_name h.same_access h.same_shown))
    (always_distinct class reply others events' h.distinct_there))
    d moment

pub is_routes : (r : ℕ) (c : Class) → is_route r c ≡ true → c ≡ Route r
is_routes r (Route s) h = ap Route (eqb-true s r h)
is_routes r (Answer bytes) h = absurd (let bad : false ≡ true = h in cc)
is_routes r (Dropped cause) h = absurd (let bad : false ≡ true = h in cc)

tests_so : (r : ℕ) (c : Class) → c ≡ Route r → is_route r c ≡ true
tests_so r c h = ap (is_route r) h ∙ eq-eqb r r refl

same_test : (a b : Bool) → (a ≡ true → b ≡ true) → (b ≡ true → a ≡ true) → a ≡ b
same_test true b there back = sym (there refl)
same_test false true there back = back refl
same_test false false there back = refl

pub sorts_by_own_name : SortsByOwnName class_of
sorts_by_own_name secret names others r name has have d moment =
    let either = own secret names others r name has have d moment in
    same_test (is_route r (class_of secret names d moment)) (is_route r (class_of secret others d moment))
    (λ yes. tests_so r (class_of secret others d moment) (either.0 (is_routes r (class_of secret names d moment) yes)))
    (λ yes. tests_so r (class_of secret names d moment) (either.1 (is_routes r (class_of secret others d moment) yes)))

-- a route that two gateways without duplicate names were opened with, by the same entry, has the same steps in both
steps_alike : (class : (secret : List ℕ) → Sorting)
    → SortsByOwnName class → (reply : Meaning) (secret : List ℕ) (entries entries' : List Terms) (r : ℕ) → OpenWith entries entries' r →
    (earlier : List Event) → is_shown_at (class secret) reply entries r earlier ≡ is_shown_at (class secret) reply entries' r earlier →
    (d : Datagram) (moment : ℕ)
    → is_route r (class secret (names_at (class secret) reply entries earlier) d moment)
    ≡ is_route r (class secret (names_at (class secret) reply entries' earlier) d moment)
steps_alike class sorts reply secret entries entries' r h earlier shown d moment =
    let w = world_after (class secret) reply entries earlier in
    let w' = world_after (class secret) reply entries' earlier in
    let entry : (place_in w r).entry ≡ (place_in w' r).entry = always_entry (class secret) reply entries r earlier h.below ∙ h.same_entry
    ∙ sym (always_entry (class secret) reply entries' r earlier h.below_there) in
    sorts secret (names_in w) (names_in w') r (name_at (place_in w r))
    (has_route w r (name_at (place_in w r)) (always_there (class secret) reply entries r earlier h.below) refl
    (always_distinct (class secret) reply entries earlier h.distinct))
    (has_route w' r (name_at (place_in w r)) (always_there (class secret) reply entries' r earlier h.below_there)
    (sym (same_name (place_in w r) (place_in w' r) (ap (λ (e : Terms). e.name) entry)
    (ap (λ (e : Terms). e.access) entry) shown))
    (always_distinct (class secret) reply entries' earlier h.distinct_there))
    d moment

pub own_name_decides : OwnNameDecides
own_name_decides class sorts reply secret entries entries' r sound sound' below below' same events =
    sorting_decides (class secret) (class secret) reply entries entries' r events below below' same
    (steps_alike class sorts reply secret entries entries' r
    (record {
      below = below;
      below_there = below';
      same_entry = same;
      distinct = names_are_distinct entries sound;
      distinct_there = names_are_distinct entries' sound';
    }))

pub steps_are_own : StepsAreOwn
steps_are_own secret entries others r h events =
    sorting_decides (sorting secret) (sorting secret) reply entries others r events h.below h.below_there h.same_entry
    (steps_alike class_of sorts_by_own_name reply secret entries others r h)

pub sent_by_own_steps : SentByOwnSteps
sent_by_own_steps secret entries others r events events' same steps =
    let all = own_steps_decide (sorting secret) (sorting secret) reply entries others r events events' same steps in (all.1, all.2)

pub sent_by_accepted : SentByAccepted
sent_by_accepted secret entries others r events events' same items quiet quiet' = (
  isolated (sorting secret) (sorting secret) reply entries others r events events' same items quiet quiet',
  sent_is_whole (sorting secret) reply entries r events quiet,
)

pub solo_is_the_routes : SoloIsTheRoutes
solo_is_the_routes e index [] = refl
solo_is_the_routes e index (item ∷ items) = ap (λ (ys : List Datagram). ys ++ reply e index (item ∷ items)) (solo_is_the_routes e index items)

solo_sendable : (e : Terms) (index : ℕ) (items : List Item) → All (λ d. IsSendable d.bytes) (solo reply e index items)
solo_sendable e index [] = All-nil (λ d. IsSendable d.bytes)
solo_sendable e index (item ∷ items) =
    All-append (λ d. IsSendable d.bytes) (solo reply e index items) (reply e index (item ∷ items)) (solo_sendable e index items)
    (replies_send e index (item ∷ items))

pub sent_are_packets : SentArePackets
sent_are_packets secret entries r events =
    let class = sorting secret in
    let front = sent_is_front class reply entries r events in
    let out = sent class reply entries r events in
    subst (λ (ys : List Datagram). All (λ d. IsSendable d.bytes) ys) (take-append_seam out front.0)
    (All-take (λ d. IsSendable d.bytes) (length out) (out ++ front.0)
    (subst (λ (ys : List Datagram). All (λ d. IsSendable d.bytes) ys) (sym front.1)
    (solo_sendable (entry_at class reply entries r events) r (accepted class reply entries r events))))
