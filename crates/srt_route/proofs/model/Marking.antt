-- A take-over changes only the marks.
use Rattle.std.proofs.Common.{◌≡◌, ℕ, ◌==◌, Bool, true, false, ◌&&◌, not, cond, Option, None, Some, List, map, refl, sym, ap, ◌∙◌}
use Rattle.std.specs.Option.{option_map, option_or}
use Rattle.srt_types.specs.Terms.{Terms}
use Rattle.srt_route.specs.Sessions.{Session, is_draining, number_draining, takes_over_if, active, first_opened, has_failed, is_active}
use Rattle.srt_route.specs.Sessions.{is_publisher, is_standby, leads, marked, standby}
use Rattle.srt_route.specs.Sessions.{takeover_us, takes_over, takes_over_after}
use Rattle.srt_route.proofs.model.Lists.{find_through}
use Rattle.srt_route.proofs.model.Found.{Keeps}

abbrev either : (b m : Bool) → Session → Session
either b m s = cond b (record s { took_over = m }) s

slot_of : (b m : Bool) (s : Session) → (either b m s).slot ≡ s.slot
slot_of true m s = refl
slot_of false m s = refl

peer_of : (b m : Bool) (s : Session) → (either b m s).peer ≡ s.peer
peer_of true m s = refl
peer_of false m s = refl

conclusion_of : (b m : Bool) (s : Session) → (either b m s).conclusion ≡ s.conclusion
conclusion_of true m s = refl
conclusion_of false m s = refl

drains_of : (b m : Bool) (s : Session) → is_draining (either b m s) ≡ false → is_draining s ≡ false
drains_of true m s h = h
drains_of false m s h = h

open_of : (b m : Bool) (s : Session) → (either b m s).is_open ≡ s.is_open
open_of true m s = refl
open_of false m s = refl

publisher_of : (b m : Bool) (s : Session) → is_publisher (either b m s) ≡ is_publisher s
publisher_of true m s = refl
publisher_of false m s = refl

pub marks : (ss : List Session) → Keeps (marked ss)
marks ss =
    record {
      slot = λ s. slot_of (is_publisher s) (not (is_active ss s)) s;
      peer = λ s. peer_of (is_publisher s) (not (is_active ss s)) s;
      conclusion = λ s. conclusion_of (is_publisher s) (not (is_active ss s)) s;
      opens_none = λ s h. sym (open_of (is_publisher s) (not (is_active ss s)) s) ∙ h;
      drains_on = λ s h. drains_of (is_publisher s) (not (is_active ss s)) s h;
    }

pub marked_open : (ss : List Session) (s : Session) → (marked ss s).is_open ≡ s.is_open
marked_open ss s = open_of (is_publisher s) (not (is_active ss s)) s

pub marked_publishes : (ss : List Session) (s : Session) → is_publisher (marked ss s) ≡ is_publisher s
marked_publishes ss s = publisher_of (is_publisher s) (not (is_active ss s)) s

-- exactly the marked sessions lead
marked_leads : (ss : List Session) (s : Session) → leads (marked ss s) ≡ is_standby ss s
marked_leads ss s = by (is_publisher s) refl
  where
    by : (b : Bool) → is_publisher s ≡ b → leads (either b (not (is_active ss s)) s) ≡ is_publisher s && not (is_active ss s)
    by true is = refl
    by false is = ap (λ (x : Bool). x && s.took_over) is ∙ sym (ap (λ (x : Bool). x && not (is_active ss s)) is)

-- after a take-over the former standby is active
pub standby_leads : (ss : List Session) (t : Session) → standby ss ≡ Some t → active (map (marked ss) ss) ≡ Some (marked ss t)
standby_leads ss t is =
    ap (λ (o : Option Session). option_or o (first_opened (map (marked ss) ss)))
    (find_through (marked ss) leads (is_standby ss) (marked_leads ss) ss ∙ ap (option_map (marked ss)) is)

-- a take-over is due only if two publishers are open
pub record IsTakeOver (ss : List Session) : Type 0 where
  pub active_one : Session
  pub standing : Session
  pub active_is : active ss ≡ Some active_one
  pub standby_is : standby ss ≡ Some standing

pub take_over_is : (e : Terms) (clock : ℕ) (ss : List Session) → takes_over e clock ss ≡ true → IsTakeOver ss
take_over_is e clock ss h = unless (not (number_draining ss == 0)) h
  where
    failed : (limit : ℕ) (o p : Option Session) → active ss ≡ o → standby ss ≡ p → has_failed limit clock o p ≡ true → IsTakeOver ss
    failed limit (Some s) (Some t) a b k = record { active_one = s; standing = t; active_is = a; standby_is = b }
    failed limit (Some s) None a b k = absurd (let bad : false ≡ true = k in cc)
    failed limit None p a b k = absurd (let bad : false ≡ true = k in cc)

    by : (l : Option ℕ) (o : Option Session) → active ss ≡ o → (p : Option Session) → standby ss ≡ p → takes_over_after l clock ss ≡ true → IsTakeOver ss
    by None o a p b k = absurd (let bad : false ≡ true = k in cc)
    by (Some limit) o a p b k = failed limit (active ss) (standby ss) refl refl k

    unless : (b : Bool) → takes_over_if b (takeover_us e.mode e.rules.takeover_ms) clock ss ≡ true → IsTakeOver ss
    unless true k = absurd (let bad : false ≡ true = k in cc)
    unless false k = by (takeover_us e.mode e.rules.takeover_ms) (active ss) refl (standby ss) refl k
