-- The open publishers: how many there are, and which one is active.
use Rattle.std.proofs.Common.{◌≡◌, ℕ, ◌==◌, ◌&&◌, Bool, true, false, cond, Option, None, Some, List, [], ◌∷◌, map, find, length, refl, ap, ◌∙◌}
use Rattle.std.specs.Prelude.{IfSome, filter}
use Rattle.std.specs.Option.{option_or, option_map}
use Rattle.std.proofs.lemmas.List.{length-map}
use Rattle.srt_route.specs.Sessions.{Session, is_publisher, open_publishers, first_opened, leads, active, has_slot, is_active}
use Rattle.srt_route.proofs.model.Lists.{Each, each_found, filter_through, find_through}

-- a change that opens and ends no publisher keeps their number, and which one is active
pub publishers_through : (f : Session → Session)
    → ((s : Session) → is_publisher (f s) ≡ is_publisher s) → (ss : List Session) → open_publishers (map f ss) ≡ open_publishers ss
publishers_through f same ss = ap length (filter_through f is_publisher is_publisher same ss) ∙ length-map (filter is_publisher ss) f

either_through : (f : Session → Session) (o p : Option Session) → option_or (option_map f o) (option_map f p) ≡ option_map f (option_or o p)
either_through f None p = refl
either_through f (Some t) p = refl

first_through : (f : Session → Session)
    → ((s : Session) → is_publisher (f s) ≡ is_publisher s) → (ss : List Session) → first_opened (map f ss) ≡ option_map f (first_opened ss)
first_through f same [] = refl
first_through f same (s ∷ ss) =
    ap (λ b. option_or (first_opened (map f ss)) (cond b (Some (f s)) None)) (same s)
    ∙ ap (λ o. option_or o (cond (is_publisher s) (Some (f s)) None)) (first_through f same ss)
    ∙ by (first_opened ss) (is_publisher s)
  where
    by : (o : Option Session) (b : Bool) → option_or (option_map f o) (cond b (Some (f s)) None) ≡ option_map f (option_or o (cond b (Some s) None))
    by (Some t) b = refl
    by None true = refl
    by None false = refl

pub active_through : (f : Session → Session)
    → ((s : Session) → is_publisher (f s) ≡ is_publisher s) → ((s : Session) → (f s).took_over ≡ s.took_over) → (ss : List Session)
    → active (map f ss) ≡ option_map f (active ss)
active_through f same marks ss =
    ap (λ o. option_or o (first_opened (map f ss)))
    (find_through f leads leads (λ s. ap (λ b. b && (f s).took_over) (same s) ∙ ap (λ b. is_publisher s && b) (marks s)) ss)
    ∙ ap (λ o. option_or (option_map f (find leads ss)) o) (first_through f same ss)
    ∙ either_through f (find leads ss) (first_opened ss)

pub slot_through : (f : Session → Session)
    → ((s : Session) → (f s).slot ≡ s.slot) → (o : Option Session) (slot : ℕ) → has_slot (option_map f o) slot ≡ has_slot o slot
slot_through f same None slot = refl
slot_through f same (Some s) slot = ap (λ n. n == slot) (same s)

pub is_active_through : (f : Session → Session) → ((s : Session) → is_publisher (f s) ≡ is_publisher s)
    → ((s : Session) → (f s).took_over ≡ s.took_over) → ((s : Session) → (f s).slot ≡ s.slot) → (ss : List Session) (s : Session)
    → is_active (map f ss) (f s) ≡ is_active ss s
is_active_through f same marks slots ss s =
    ap (has_slot (active (map f ss))) (slots s)
    ∙ ap (λ o. has_slot o s.slot) (active_through f same marks ss)
    ∙ slot_through f slots (active ss) s.slot

-- the active publisher is one of the sessions
each_first : (P : Session → Type 0) (ss : List Session) → Each P ss → IfSome (first_opened ss) P
each_first P [] h = tt
each_first P (s ∷ ss) h = by (first_opened ss) (is_publisher s) (each_first P ss h.1)
  where
    by : (o : Option Session) (b : Bool) → IfSome o P → IfSome (option_or o (cond b (Some s) None)) P
    by (Some t) b k = k
    by None true k = h.0
    by None false k = tt

pub each_active : (P : Session → Type 0) (ss : List Session) → Each P ss → IfSome (active ss) P
each_active P ss h = either (find leads ss) (first_opened ss) (each_found P leads ss h) (each_first P ss h)
  where
    either : (o p : Option Session) → IfSome o P → IfSome p P → IfSome (option_or o p) P
    either None p a b = b
    either (Some t) p a b = a
