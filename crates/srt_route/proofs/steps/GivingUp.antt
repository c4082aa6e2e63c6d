-- Giving up sessions that don't confirm their keys: what each seat, and a table, become.
use Rattle.std.proofs.Common.{◌≡◌, ℕ, ◌-◌, ◌||◌, ◌&&◌, not, Bool, true, false, cond, Option, None, Some, List, find, refl, sym, ap, subst, ◌∙◌}
use Rattle.std.specs.Option.{option_map}
use Rattle.srt_types.specs.Items.{Item}
use Rattle.srt_types.specs.Terms.{Terms}
use Rattle.srt_pub.specs.declared.session.Publisher.{Publisher}
use Rattle.srt_sub.specs.declared.session.Subscriber.{Subscriber}
use Rattle.srt_session_keys.specs.Subscriber.{Subscriber as Keys}
use Rattle.srt_route.specs.declared.route_keys.RouteKeys.{RouteKeys as TheRouteKeys}
use Rattle.srt_route.specs.declared.seat.Session.{Session as TheSession}
use Rattle.srt_route.specs.declared.seat.Seat.{Seat}
use Rattle.srt_route.specs.declared.slot_keys.KeyPlace.{KeyPlace}
use Rattle.srt_route.specs.declared.table.Table.{Table}
use Rattle.srt_route.specs.Buffers.{IsPast, IsSeated}
use Rattle.srt_route.specs.GivingUp.{given_up, given_up_at, is_late, is_unconfirmed}
use Rattle.srt_route.specs.Parts.{is_given_up, part_given_up}
use Rattle.srt_route.specs.Past.{Past, Publishes, Subscribes}
use Rattle.srt_route.specs.Route.{Route, found_by, giving_up}
use Rattle.srt_route.specs.RouteKeys.{own_keys}
use Rattle.srt_route.specs.Sessions.{Session, is_open_in, publishes}
use Rattle.srt_route.specs.SlotKeys.{place_keys_of}
use Rattle.srt_route.specs.Tables.{IsSession, IsStored, IsSeat, IsTable, seat_given_up, stored_given_up}
use Rattle.srt_route.specs.inside.Event.{IsBefore}
use Rattle.srt_route.specs.inside.GivingUp.{GivesUp}
use Rattle.srt_route.proofs.model.Changes.{is_there}
use Rattle.srt_route.proofs.model.Found.{changed as becomes}
use Rattle.srt_route.proofs.stored.Kept.{Becomes, KeepsBuffers}
use Rattle.srt_route.proofs.stored.Parts.{late_buffers, late_lasts, late_records, late_role, late_until}

-- the seat of a slot whose keys are those of this place
abbrev pub IsGivenUp : (clock : ℕ) → KeyPlace → (x y : Seat) → Type 0
IsGivenUp clock place x y = y ≡ seat_given_up (own_keys (place_keys_of place)) clock x

-- a stored session
late_stored : (e : Terms) (index : ℕ) (late : Bool) (t : TheSession) (s : Session)
    → IsSession e index t s → s.is_open ≡ true
    → IsSession e index (record t { part = part_given_up late t.part }) (given_up_at ((s.is_open && not (publishes s.conclusion.role)) && late) s)
late_stored e index late t s is opens =
    subst (λ (o : Bool). IsSession e index (record t { part = part_given_up late t.part }) (given_up_at ((o && not (publishes s.conclusion.role)) && late) s))
    (sym opens) (by (not (publishes s.conclusion.role) && late) refl)
  where
    lasts : (b : Bool) → (not (publishes s.conclusion.role) && late) ≡ b → is_given_up (part_given_up late t.part) ≡ (b || s.is_given_up)
    lasts b same =
        late_lasts late t.part ∙ ap (λ (r : _). (not (publishes r) && late) || is_given_up t.part) is.role_is
        ∙ ap (λ (d : Bool). d || is_given_up t.part) same ∙ ap (λ (d : Bool). b || d) is.given_up_is

    by : (b : Bool) → (not (publishes s.conclusion.role) && late) ≡ b
        → IsSession e index (record t { part = part_given_up late t.part }) (given_up_at b s)
    by true same =
        record {
          peer_is = is.peer_is;
          caller_is = is.caller_is;
          id_is = is.id_is;
          role_is = late_role late t.part ∙ is.role_is;
          opened_is = is.opened_is;
          heard_is = is.heard_is;
          drains_is = late_until late t.part ∙ is.drains_is;
          file_is = late_records late t.part s.file_ended is.file_is;
          given_up_is = lasts true same;
          answer_is = is.answer_is;
        }
    by false same =
        record {
          peer_is = is.peer_is;
          caller_is = is.caller_is;
          id_is = is.id_is;
          role_is = late_role late t.part ∙ is.role_is;
          opened_is = is.opened_is;
          heard_is = is.heard_is;
          drains_is = late_until late t.part ∙ is.drains_is;
          file_is = late_records late t.part s.file_ended is.file_is;
          given_up_is = lasts false same;
          answer_is = is.answer_is;
        }

slot_stored : (own : ℕ → Option Keys) (keys : Option Keys) (e : Terms) (index clock at : ℕ) (o : Option TheSession) (g : Option Session)
    → own at ≡ keys → ((s : Session) → g ≡ Some s → (s.is_open ≡ true) × (s.slot ≡ at)) → IsStored e index o g
    → IsStored e index (option_map (stored_given_up keys clock) o) (becomes (given_up own clock) g)
slot_stored own keys e index clock at None None mine opens is = tt
slot_stored own keys e index clock at None (Some s) mine opens is = absurd is
slot_stored own keys e index clock at (Some t) None mine opens is = absurd is
slot_stored own keys e index clock at (Some t) (Some s) mine opens is =
    subst (λ (u : Session). IsStored e index (Some (stored_given_up keys clock t)) (cond u.is_open (Some u) None)) same_session
    (subst (λ (o : Bool). IsStored e index (Some (stored_given_up keys clock t)) (cond o (Some later) None)) (sym stays) stored)
  where
    here : (s.is_open ≡ true) × (s.slot ≡ at)
    here = opens s refl

    later : Session
    later = given_up_at ((s.is_open && not (publishes s.conclusion.role)) && is_unconfirmed keys (clock - t.opened)) s

    stored : IsSession e index (stored_given_up keys clock t) later
    stored = late_stored e index (is_unconfirmed keys (clock - t.opened)) t s is here.0

    open_of : (b : Bool) → (given_up_at b s).is_open ≡ s.is_open
    open_of true = refl
    open_of false = refl

    stays : later.is_open ≡ true
    stays = open_of ((s.is_open && not (publishes s.conclusion.role)) && is_unconfirmed keys (clock - t.opened)) ∙ here.0

    same_session : later ≡ given_up own clock s
    same_session =
        ap (λ (n : ℕ). given_up_at ((s.is_open && not (publishes s.conclusion.role)) && is_unconfirmed keys (clock - n)) s) is.opened_is
        ∙ ap (λ (k : Option Keys). given_up_at (is_late k clock s) s) (sym mine)
        ∙ ap (λ (n : ℕ). given_up_at (is_late (own n) clock s) s) (sym here.1)

late_seated : (e : Terms) (clock : ℕ) (p : Publisher) (x : Subscriber) (late : Bool) (s : Session)
    → IsSeated e clock p x s → IsSeated e clock p x (given_up_at late s)
late_seated e clock p x false s is = is
late_seated e clock p x true s is = record { past_is = by s.past is.past_is; opened = is.opened }
  where
    by : (past : Past) → IsPast e clock p x s past → IsPast e clock p x (given_up_at true s) past
    by (Publishes m) h = h
    by (Subscribes m) h = h

pub given_up_becomes : (own : ℕ → Option Keys) (place : KeyPlace) (e : Terms) (index clock earlier at : ℕ) (p : Publisher) (x y : Seat) (ss : List Session)
    → own at ≡ own_keys (place_keys_of place) → IsSeat e index earlier at p x ss → IsGivenUp clock place x y
    → Becomes (given_up own clock) e index earlier at p x y ss
given_up_becomes own place e index clock earlier at p x y ss mine is h =
    subst (λ (z : Seat). Becomes (given_up own clock) e index earlier at p x z ss) (sym h)
    (record {
      count_is = refl;
      session_is = slot_stored own (own_keys (place_keys_of place)) e index clock at x.session (find (is_open_in at) ss) mine
          (λ s found. is_there at ss s found) is.session_is;
      buffers_stay = keeps x.session;
      wide = is.wide;
      seated = λ s found opens. late_seated e earlier p x.subscriber (is_late (own s.slot) clock s) s (is.seated s found);
    })
  where
    keeps : (o : Option TheSession) → KeepsBuffers o (option_map (stored_given_up (own_keys (place_keys_of place)) clock) o)
    keeps None = tt
    keeps (Some t) = late_buffers (is_unconfirmed (own_keys (place_keys_of place)) (clock - t.opened)) t.part

-- the route that an item finds
pub given_before : (e : Terms) (index clock : ℕ) (item : Item) (m : Route) (old new : Table) (keys : TheRouteKeys)
    → IsBefore e index clock item old keys m → GivesUp clock keys old new → IsBefore e index clock item new keys (found_by e item m)
given_before e index clock item m old new keys is gives = record {
  is_open = is.is_open;
  clock_is = is.clock_is;
  table_is = subst (λ (t : ℕ). IsTable e index m.clock new (giving_up e t m).sessions) is.clock_is (gives e index m is.table_is is.keys_are is.is_open);
  keys_are = is.keys_are;
}
