-- Sessions of which only the past changes, while they are open.
use Rattle.std.proofs.Common.{◌≡◌, ℕ, Bool, true, false, cond, Option, None, Some, List, map, find, refl, sym, ◌∙◌}
use Rattle.std.specs.Option.{option_map}
use Rattle.srt_route.specs.Past.{Past}
use Rattle.srt_route.specs.Sessions.{Session, is_draining, is_open_in, is_publisher}
use Rattle.srt_route.specs.inside.Delivery.{changed}
use Rattle.srt_route.proofs.model.Lists.{find_through}
use Rattle.srt_route.proofs.model.Found.{found_passes, open_parts, Keeps}

abbrev pub either : Bool → Past → Session → Session
either b p s = cond b (record s { past = p }) s

same_place : (at : ℕ) (b : Bool) (p : Past) (s : Session) → is_open_in at (either b p s) ≡ is_open_in at s
same_place at true p s = refl
same_place at false p s = refl

same_slot : (b : Bool) (p : Past) (s : Session) → (either b p s).slot ≡ s.slot
same_slot true p s = refl
same_slot false p s = refl

same_peer : (b : Bool) (p : Past) (s : Session) → (either b p s).peer ≡ s.peer
same_peer true p s = refl
same_peer false p s = refl

same_conclusion : (b : Bool) (p : Past) (s : Session) → (either b p s).conclusion ≡ s.conclusion
same_conclusion true p s = refl
same_conclusion false p s = refl

same_open : (b : Bool) (p : Past) (s : Session) → (either b p s).is_open ≡ s.is_open
same_open true p s = refl
same_open false p s = refl

same_drains : (b : Bool) (p : Past) (s : Session) → is_draining (either b p s) ≡ false → is_draining s ≡ false
same_drains true p s h = h
same_drains false p s h = h

same_role : (b : Bool) (p : Past) (s : Session) → is_publisher (either b p s) ≡ is_publisher s
same_role true p s = refl
same_role false p s = refl

pub keeps_changed : (g : Session → Past) → Keeps (changed g)
keeps_changed g =
    record {
      slot = λ s. same_slot s.is_open (g s) s;
      peer = λ s. same_peer s.is_open (g s) s;
      conclusion = λ s. same_conclusion s.is_open (g s) s;
      opens_none = λ s h. sym (same_open s.is_open (g s) s) ∙ h;
      drains_on = λ s h. same_drains s.is_open (g s) s h;
    }

same_mark : (b : Bool) (p : Past) (s : Session) → (either b p s).took_over ≡ s.took_over
same_mark true p s = refl
same_mark false p s = refl

pub marks_changed : (g : Session → Past) (s : Session) → (changed g s).took_over ≡ s.took_over
marks_changed g s = same_mark s.is_open (g s) s

-- the session of a slot after the change
pub find_changed : (g : Session → Past) (at : ℕ) (ss : List Session)
    → find (is_open_in at) (map (changed g) ss) ≡ option_map (changed g) (find (is_open_in at) ss)
find_changed g at ss = find_through (changed g) (is_open_in at) (is_open_in at) (λ s. same_place at s.is_open (g s) s) ss

pub was_found : (f : Session → Session) (o : Option Session) (t : Session) → option_map f o ≡ Some t → (s : Session) × (o ≡ Some s) × (t ≡ f s)
was_found f None t h = absurd (let bad : None ≡ Some t = h in cc)
was_found f (Some s) t h = (s, refl, cc)

pub found_before : (g : Session → Past) (at : ℕ) (ss : List Session) (t : Session)
    → find (is_open_in at) (map (changed g) ss) ≡ Some t → (s : Session) × (find (is_open_in at) ss ≡ Some s) × (t ≡ changed g s)
found_before g at ss t h = was_found (changed g) (find (is_open_in at) ss) t (sym (find_changed g at ss) ∙ h)

pub is_there : (at : ℕ) (ss : List Session) (s : Session) → find (is_open_in at) ss ≡ Some s → (s.is_open ≡ true) × (s.slot ≡ at)
is_there at ss s h = open_parts at s (found_passes (is_open_in at) ss s h)
