-- The packets of each open session, in ascending order of slots, one slot after another.
use Rattle.std.proofs.Common.{◌≡◌, ℕ, suc, ◌+◌, ◌-◌, ◌<◌, ◌≤◌, Option, None, Some, List, [], ◌++◌, map, find, refl, sym, ap, ◌∙◌, append_assoc, append-nil}
use Rattle.std.proofs.Common.{arith}
use Rattle.std.specs.List.{cons_option, flat_map}
use Rattle.std.proofs.lemmas.List.{map-append}
use Rattle.srt_types.specs.Terms.{Terms}
use Rattle.srt_types.specs.Items.{Datagram}
use Rattle.srt_route.specs.declared.replies.Reply.{Reply}
use Rattle.srt_route.specs.Sessions.{Session, by_slot, is_open_in}
use Rattle.srt_route.specs.Route.{Reply as Answer, sent}
use Rattle.srt_route.specs.inside.Reports.{AreSaid}
use Rattle.srt_route.proofs.steps.Delivered.{from_places}
use Rattle.srt_route.proofs.steps.Saying.{nothing_said, same_said, said_then}

-- the packets of a slot, and of a range of slots
abbrev pub said_of : (Session → List Answer) → Option Session → List Answer
said_of f None = []
said_of f (Some s) = f s

abbrev pub slots_said : (Session → List Answer) → List Session → (from count : ℕ) → List Datagram
slots_said f ss from count = map sent (flat_map f (from_places ss from count))

-- the packets of the slots below `at` with those of the remaining slots are the packets of all
pub record IsSaying (f : Session → List Answer) (e : Terms) (at : ℕ) (ss : List Session) (before now : List Reply) (places more : ℕ) : Type 0 where
  pub notified : List Datagram
  pub said : AreSaid before now places more notified
  pub whole : notified ++ slots_said f ss at (e.sessions - at) ≡ map sent (flat_map f (by_slot e ss))

pub saying_begins : (f : Session → List Answer) (e : Terms) (ss : List Session) (waiting : List Reply) (places : ℕ)
    → IsSaying f e 0 ss waiting waiting places places
saying_begins f e ss waiting places =
    let all : e.sessions - 0 ≡ e.sessions = omega arith in
    record { notified = []; said = nothing_said waiting places; whole = ap (λ (n : ℕ). slots_said f ss 0 n) all }

next_said : (f : Session → List Answer) (ss : List Session) (at count : ℕ) (g : Option Session) → find (is_open_in at) ss ≡ g
    → slots_said f ss at (suc count) ≡ map sent (said_of f g) ++ slots_said f ss (at + 1) count
next_said f ss at count None found = ap (λ (g : Option Session). map sent (flat_map f (cons_option g (from_places ss (at + 1) count)))) found
next_said f ss at count (Some s) found =
    ap (λ (g : Option Session). map sent (flat_map f (cons_option g (from_places ss (at + 1) count)))) found
    ∙ map-append sent (f s) (flat_map f (from_places ss (at + 1) count))

pub saying_more : (f : Session → List Answer) (e : Terms) (ss : List Session) (at : ℕ) (before now then_ : List Reply) (places more most : ℕ)
    → at < e.sessions → AreSaid now then_ more most (map sent (said_of f (find (is_open_in at) ss)))
    → IsSaying f e at ss before now places more
    → IsSaying f e (at + 1) ss before then_ places most
saying_more f e ss at before now then_ places more most below says h =
    let one = map sent (said_of f (find (is_open_in at) ss)) in
    let rest = slots_said f ss (at + 1) (e.sessions - (at + 1)) in
    let count : e.sessions - at ≡ suc (e.sessions - (at + 1)) = omega (arith, below) in
    record {
      notified = h.notified ++ one;
      said = said_then before now then_ places more most h.notified one h.said says;
      whole = append_assoc h.notified one rest
          ∙ (ap (λ (ds : List Datagram). h.notified ++ ds) (sym (next_said f ss at (e.sessions - (at + 1)) (find (is_open_in at) ss) refl))
          ∙ (ap (λ (n : ℕ). h.notified ++ slots_said f ss at n) (sym count) ∙ h.whole));
    }

pub saying_ends : (f : Session → List Answer) (e : Terms) (at : ℕ) (ss : List Session) (before now : List Reply) (places more : ℕ)
    → e.sessions ≤ at → IsSaying f e at ss before now places more → AreSaid before now places more (map sent (flat_map f (by_slot e ss)))
saying_ends f e at ss before now places more all h =
    let none : e.sessions - at ≡ 0 = omega (arith, all) in
    same_said (sym (append-nil h.notified) ∙ (sym (ap (λ (n : ℕ). h.notified ++ slots_said f ss at n) none) ∙ h.whole)) h.said
