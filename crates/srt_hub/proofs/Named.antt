-- The names in force, after any events.
use Rattle.std.proofs.Common.{◌≡◌, ℕ, zero, suc, ◌<◌, Bool, List, [], ◌∷◌, ◌++◌, length, map, Option, None, Some, slice_get, Result, Ok}
use Rattle.std.proofs.Common.{Err, refl, sym, ap, subst, arith}
use Rattle.std.proofs.lemmas.List.{map-append}
use Rattle.srt_types.specs.declared.shared.OpenFault.{OpenFault}
use Rattle.srt_types.specs.Terms.{Terms}
use Rattle.srt_lobby.specs.Names.{RouteName, AreDistinct, name_of}
use Rattle.srt_lobby.specs.Changing.{fault_of_adding}
use Rattle.srt_lobby.specs.Changing as changing
use Rattle.srt_lobby.proofs.Changing.{adding_keeps_names, hiding_keeps_names}
use Rattle.srt_hub.specs.declared.answers.Closing.{Closing}
use Rattle.srt_hub.specs.declared.answers.Closing.TheVariants as closings
use Rattle.srt_hub.specs.World.{Event, Arrives, Ticks, Turns, Sends, Opens, Closes, Sorting, Meaning, Place, World, opened, name_at}
use Rattle.srt_hub.specs.World.{names_in, hidden_at, opening_of, opening, places_opened, closing, places_closed, world_after}
use Rattle.srt_hub.specs.Hubs.{names, names_at}
use Rattle.srt_hub.proofs.Places.{at}

-- at first they are those of the entries
pub start_names : (entries : List Terms) → map name_at (map opened entries) ≡ names entries
start_names [] = refl
start_names (e ∷ entries) = ap (λ (ns : List RouteName). name_of e ∷ ns) (start_names entries)

-- the name of an existing route
pub named : (places : List Place) (r : ℕ) → r < length places → slice_get (map name_at places) r ≡ Some (name_at (at places r))
named [] r below = absurd (omega (arith, below))
named (p ∷ places) zero below = refl
named (p ∷ places) (suc r) below = named places r (omega (arith, below))

-- the names after a route is hidden, and after one is opened
pub hidden_names : (places : List Place) (r : ℕ) → map name_at (hidden_at r places) ≡ changing.hidden_at r (map name_at places)
hidden_names [] r = refl
hidden_names (p ∷ places) zero = refl
hidden_names (p ∷ places) (suc r) = ap (λ (ns : List RouteName). name_at p ∷ ns) (hidden_names places r)

pub more_names : (places : List Place) (e : Terms) → map name_at (places ++ opened e ∷ []) ≡ changing.added e (map name_at places)
more_names places e = map-append name_at places (opened e ∷ [])

closed_distinct : (places : List Place) (s : ℕ) (c : Closing) → AreDistinct (map name_at places) → AreDistinct (map name_at (places_closed s places c))
closed_distinct places s closings.Accepted distinct = subst AreDistinct (sym (hidden_names places s)) (hiding_keeps_names (map name_at places) s distinct)
closed_distinct places s closings.Full distinct = distinct
closed_distinct places s closings.Closed distinct = distinct

-- an opening that isn't refused has no fault
pub sound_of : (next r : ℕ) (refused : Bool) (o : Option OpenFault) → opening_of next refused o ≡ Ok r → o ≡ None
sound_of next r refused None h = refl
sound_of next r refused (Some fault) h = absurd (let bad : Err fault ≡ Ok r = h in cc)

opened_distinct : (w : World) (e : Terms) (refused : Bool) (result : Result ℕ OpenFault)
    → opening w e refused ≡ result → AreDistinct (names_in w) → AreDistinct (map name_at (places_opened e w.places result))
opened_distinct w e refused (Err fault) is distinct = distinct
opened_distinct w e refused (Ok r) is distinct =
    subst AreDistinct (sym (more_names w.places e)) (adding_keeps_names (names_in w) e (sound_of _ r refused (fault_of_adding (names_in w) e) is) distinct)

-- no two visible routes have the same name, after any events
pub always_distinct : (class : Sorting) (reply : Meaning) (entries : List Terms) (events : List Event)
    → AreDistinct (names entries) → AreDistinct (names_at class reply entries events)
always_distinct class reply entries [] h = rw (start_names entries) h
always_distinct class reply entries (Arrives d moment refused ∷ events) h = always_distinct class reply entries events h
always_distinct class reply entries (Ticks r moment ∷ events) h = always_distinct class reply entries events h
always_distinct class reply entries (Turns r ∷ events) h = always_distinct class reply entries events h
always_distinct class reply entries (Sends r ∷ events) h = always_distinct class reply entries events h
always_distinct class reply entries (Opens e refused ∷ events) h =
    let w = world_after class reply entries events in
    opened_distinct w e refused (opening w e refused) refl (always_distinct class reply entries events h)
always_distinct class reply entries (Closes r moment ∷ events) h =
    let w = world_after class reply entries events in
    closed_distinct w.places r (closing w r) (always_distinct class reply entries events h)
