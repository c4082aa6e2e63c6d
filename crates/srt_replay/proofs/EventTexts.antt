-- The lines that are written are those of the model.
use Rattle.std.proofs.Common.{◌≡◌, ℕ, Bool, true, false, List, ◌∷◌, length, Option, None, Some, Result, Ok, Err, OnErr, refl, sym, ap, subst, ◌∙◌}
use Rattle.srt_types.specs.declared.shared.OpenFault.{OpenFault}
use Rattle.srt_types.specs.declared.shared.Turned.{Turned}
use Rattle.srt_hub.specs.declared.answers.Arrived.{Arrived}
use Rattle.srt_hub.specs.declared.answers.Closing.{Closing}
use Rattle.srt_hub.specs.declared.answers.Ticked.{Ticked}
use Rattle.srt_lobby.specs.declared.classes.Class.{Class}
use Rattle.srt_lobby.specs.declared.classes.Class.TheVariants.{Answer, Route, Dropped}
use Rattle.srt_types.specs.Items.{Datagram}
use Rattle.srt_types.specs.Terms.{Terms}
use Rattle.srt_hub.specs.World.{Event, Arrives, Ticks, Turns, Sends, Opens, Closes, Sorting, Meaning, arrival_of, tick, turn, first}
use Rattle.srt_hub.specs.World.{opening, opening_of, closing, world_after}
use Rattle.srt_lobby.specs.Changing.{fault_of_adding}
use Rattle.srt_hub.specs.Calls.{wants_memory}
use Rattle.srt_hub.specs.Hubs.{names_at, entry_at, lane_at, room_at}
use Rattle.srt_replay.specs.Texts.{arrived_text, arrival_text, ticked_text, turned_text, sent_text, opened_text, closed_text, event_text}

pub arrival_line : (class : Sorting) (reply : Meaning) (entries : List Terms) (past : List Event) (d : Datagram) (moment : ℕ)
    (answer : Arrived) (text : List ℕ)
    → text ≡ arrived_text answer
    → Some answer ≡ arrival_of false (room_at class reply entries past) (class (names_at class reply entries past) d moment)
    → text ≡ event_text class reply entries past (Arrives d moment false)
unfolding event_text
arrival_line class reply entries past d moment answer text t a = t ∙ ap arrival_text a

pub tick_line : (class : Sorting) (reply : Meaning) (entries : List Terms) (past : List Event) (r moment : ℕ) (answer : Ticked)
    (text : List ℕ)
    → text ≡ ticked_text r answer → answer ≡ tick (entry_at class reply entries r past) (lane_at class reply entries r past)
    → text ≡ event_text class reply entries past (Ticks r moment)
unfolding event_text
tick_line class reply entries past r moment answer text t a = t ∙ ap (ticked_text r) a

pub turn_line : (class : Sorting) (reply : Meaning) (entries : List Terms) (past : List Event) (r : ℕ) (answer : Turned) (text : List ℕ)
    → text ≡ turned_text answer → answer ≡ turn (entry_at class reply entries r past) (lane_at class reply entries r past)
    → text ≡ event_text class reply entries past (Turns r)
unfolding event_text
turn_line class reply entries past r answer text t a = t ∙ ap turned_text a

pub send_line : (class : Sorting) (reply : Meaning) (entries : List Terms) (past : List Event) (r : ℕ) (answer : Option Datagram)
    (text : List ℕ)
    → text ≡ sent_text answer → answer ≡ first (lane_at class reply entries r past).outbox
    → text ≡ event_text class reply entries past (Sends r)
unfolding event_text
send_line class reply entries past r answer text t a = t ∙ ap sent_text a

pub opening_line : (class : Sorting) (reply : Meaning) (entries : List Terms) (past : List Event) (e : Terms) (answer : Result ℕ OpenFault)
    (text : List ℕ)
    → text ≡ opened_text answer → answer ≡ opening (world_after class reply entries past) e false
    → text ≡ event_text class reply entries past (Opens e false)
unfolding event_text
opening_line class reply entries past e answer text t a = t ∙ ap opened_text a

pub closing_line : (class : Sorting) (reply : Meaning) (entries : List Terms) (past : List Event) (r moment : ℕ) (answer : Closing)
    (text : List ℕ)
    → text ≡ closed_text r answer → answer ≡ closing (world_after class reply entries past) r
    → text ≡ event_text class reply entries past (Closes r moment)
unfolding event_text
closing_line class reply entries past r moment answer text t a = t ∙ ap (closed_text r) a

-- an opening with enough memory, of an entry with these terms
pub opened_line : (class : Sorting) (reply : Meaning) (entries : List Terms) (past : List Event) (e terms : Terms) (refused : Bool)
    (answer : Result ℕ OpenFault) (text : List ℕ)
    → e ≡ terms → refused ≡ false → text ≡ opened_text answer → answer ≡ opening (world_after class reply entries past) e refused
    → text ≡ event_text class reply entries past (Opens terms false)
opened_line class reply entries past e terms refused answer text same known t a =
    opening_line class reply entries past terms answer text t
    (subst (λ (x : Terms). answer ≡ opening (world_after class reply entries past) x false) same
    (subst (λ (b : Bool). answer ≡ opening (world_after class reply entries past) e b) known a))

pub opened_stands : (After : List Event → Type 0) (past : List Event) (e terms : Terms) (refused : Bool)
    → e ≡ terms → refused ≡ false → After (Opens e refused ∷ past) → After (Opens terms false ∷ past)
opened_stands After past e terms refused same known h =
    subst (λ (x : Terms). After (Opens x false ∷ past)) same (subst (λ (b : Bool). After (Opens e b ∷ past)) known h)

-- an opening of an entry that has a fault
pub fault_line : (class : Sorting) (reply : Meaning) (entries : List Terms) (past : List Event) (e : Terms) (fault : OpenFault)
    (found : Option OpenFault) (text : List ℕ)
    → text ≡ opened_text (Err fault) → found ≡ fault_of_adding (names_at class reply entries past) e → found ≡ Some fault
    → text ≡ event_text class reply entries past (Opens e false)
fault_line class reply entries past e fault found text t reported is =
    opening_line class reply entries past e (Err fault) text t
    (sym (ap (opening_of (length (world_after class reply entries past).places) false) (sym reported ∙ is)))

-- a fact about an opening's error holds if it ran out of memory
pub after_want : {P : Type 0} (opened : Result ℕ OpenFault) → wants_memory opened ≡ true → OnErr opened P → P
after_want (Ok r) wants p = absurd cc
after_want (Err fault) wants p = p

-- an arrival without an answer is for a route
pub routed : (k : Class) (refused : Bool) (rooms : ℕ → Bool) → None ≡ arrival_of refused rooms k → (r : ℕ) × (k ≡ Route r)
routed (Answer bytes) refused rooms h = absurd cc
routed (Dropped cause) refused rooms h = absurd cc
routed (Route r) refused rooms h = (r, refl)
