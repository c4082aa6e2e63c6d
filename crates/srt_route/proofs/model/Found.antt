-- Searches among the sessions, and which results stay if each session is changed.
use Rattle.std.proofs.Common.{◌≡◌, ℕ, ◌<◌, ◌==◌, Bool, true, false, not, ◌&&◌, ◌||◌, cond, Option, None, Some, List, []}
use Rattle.std.proofs.Common.{◌∷◌, map, find, refl, sym, ap, subst, ◌∙◌}
use Rattle.std.specs.Option.{is_some}
use Rattle.std.specs.List.{list_any}
use Rattle.std.proofs.lemmas.Bool.{and_parts, and_from, eqb-true, eq-eqb, false_from_ne_true}
use Rattle.std.proofs.lemmas.Slice.Eq.{bytes_eq-Decides}
use Rattle.srt_types.specs.declared.shared.Peer.{Peer}
use Rattle.srt_route.specs.Sessions.{Session, is_draining, is_same_peer, is_open_in, session_id, generation_of}
use Rattle.srt_route.specs.Route.{is_of, is_for}
use Rattle.srt_route.specs.Tables.{IsAlone, AreAlone}

-- an element that is found passes
pub found_passes : {A : Type 0} (p : A → Bool) (xs : List A) (x : A) → find p xs ≡ Some x → p x ≡ true
found_passes p [] x h = absurd (let bad : None ≡ Some x = h in cc)
found_passes p (y ∷ ys) x h = at_head (p y) refl (λ later. found_passes p ys x later) h
  where
    at_head : (b : Bool) → p y ≡ b → (find p ys ≡ Some x → p x ≡ true) → cond b (Some y) (find p ys) ≡ Some x → p x ≡ true
    at_head true e rest h = let same : y ≡ x = cc in rw (← same) e
    at_head false e rest h = rest h

-- some element passes exactly if one is found
pub any_is : {A : Type 0} (p : A → Bool) (xs : List A) → list_any p xs ≡ is_some (find p xs)
any_is p [] = refl
any_is p (y ∷ ys) = at_head (p y) (any_is p ys)
  where
    at_head : (b : Bool) → list_any p ys ≡ is_some (find p ys) → (b || list_any p ys) ≡ is_some (cond b (Some y) (find p ys))
    at_head true rest = refl
    at_head false rest = rest

-- nothing is found among the changed elements, if a changed element passes only if it did before
pub none_kept : {A : Type 0} (p : A → Bool) (f : A → A) → ((x : A) → p (f x) ≡ true → p x ≡ true) → (xs : List A) → find p xs ≡ None → find p (map f xs) ≡ None
none_kept p f keeps [] h = refl
none_kept p f keeps (y ∷ ys) h = at_head (p y) refl (p (f y)) refl (λ later. none_kept p f keeps ys later) h
  where
    at_head : (b : Bool) → p y ≡ b → (d : Bool) → p (f y) ≡ d → (find p ys ≡ None → find p (map f ys) ≡ None)
        → cond b (Some y) (find p ys) ≡ None
        → cond d (Some (f y)) (find p (map f ys)) ≡ None
    at_head true e d g rest h = absurd (let bad : Some y ≡ None = h in cc)
    at_head false e true g rest h = absurd (let was : p y ≡ true = keeps y g in cc)
    at_head false e false g rest h = rest h

pub open_parts : (at : ℕ) (s : Session) → is_open_in at s ≡ true → (s.is_open ≡ true) × (s.slot ≡ at)
open_parts at s h = let parts = and_parts s.is_open (s.slot == at) h in (parts.0, eqb-true s.slot at parts.1)

pub open_from : (at : ℕ) (s : Session) → s.is_open ≡ true → s.slot ≡ at → is_open_in at s ≡ true
open_from at s o e = and_from s.is_open (s.slot == at) o (eq-eqb s.slot at e)

same_fields : (p q : Peer) → p.ip ≡ q.ip → p.port ≡ q.port → p ≡ q
same_fields p q ips ports = ap (λ (x : List ℕ). record p { ip = x }) ips ∙ ap (λ (n : ℕ). record p { ip = q.ip; port = n }) ports

pub same_peer_is : (p q : Peer) → is_same_peer p q ≡ true → p ≡ q
same_peer_is p q h =
    let parts = and_parts _ _ h in
    same_fields p q ((bytes_eq-Decides p.ip q.ip).0 parts.0) (eqb-true p.port q.port parts.1)

pub not_so : (b : Bool) → not b ≡ true → b ≡ false
not_so true h = absurd (let bad : false ≡ true = h in cc)
not_so false h = refl

pub of_parts : (peer : Peer) (caller : ℕ) (s : Session) → is_of peer caller s ≡ true → (s.is_open ≡ true) × (s.peer ≡ peer) × (s.conclusion.caller ≡ caller)
of_parts peer caller s h =
    let reached = and_parts (s.is_open && is_same_peer s.peer peer && s.conclusion.caller == caller) (not (is_draining s)) h in
    let parts = and_parts (s.is_open && is_same_peer s.peer peer) (s.conclusion.caller == caller) reached.0 in
    let more = and_parts s.is_open (is_same_peer s.peer peer) parts.0 in
    (more.0, same_peer_is s.peer peer more.1, eqb-true s.conclusion.caller caller parts.1)

-- an open session that is found by any test is the one of its slot
pub found_in_place : (test : Session → Bool) → ((s : Session) → test s ≡ true → s.is_open ≡ true) → (places : ℕ) (ss : List Session)
    → AreAlone places ss → (t : Session) → find test ss ≡ Some t
    → (t.slot < places) × (find (is_open_in t.slot) ss ≡ Some t)
found_in_place test opens places [] alone t h = absurd (let bad : None ≡ Some t = h in cc)
found_in_place test opens places (s ∷ ss) alone t h = at_head (test s) refl (λ later. found_in_place test opens places ss alone.1 t later) h
  where
    goes_on : (b : Bool) → is_open_in t.slot s ≡ b → (t.slot < places) × (find (is_open_in t.slot) ss ≡ Some t)
        → cond b (Some s) (find (is_open_in t.slot) ss) ≡ Some t
    goes_on true e later =
        let parts = open_parts t.slot s e in
        let none : find (is_open_in t.slot) ss ≡ None = subst (λ (k : ℕ). find (is_open_in k) ss ≡ None) parts.1 (alone.0 parts.0).slot_alone in
        absurd (let bad : None ≡ Some t = sym none ∙ later.1 in cc)
    goes_on false e later = later.1

    at_head : (b : Bool) → test s ≡ b → (find test ss ≡ Some t → (t.slot < places) × (find (is_open_in t.slot) ss ≡ Some t))
        → cond b (Some s) (find test ss) ≡ Some t
        → (t.slot < places) × (cond (is_open_in t.slot s) (Some s) (find (is_open_in t.slot) ss) ≡ Some t)
    at_head true e rest h =
        let same : s ≡ t = cc in
        let here : (s.slot < places) × (cond (is_open_in s.slot s) (Some s) (find (is_open_in s.slot) ss) ≡ Some s) =
        ((alone.0 (opens s e)).inside, rw (open_from s.slot s (opens s e) refl) refl) in
        subst (λ (x : Session). (x.slot < places) × (cond (is_open_in x.slot s) (Some s) (find (is_open_in x.slot) ss) ≡ Some x)) same here
    at_head false e rest h =
        let later = rest h in
        (later.0, goes_on (is_open_in t.slot s) refl later)

-- the session of a slot that is this caller's is the one found for the caller
pub found_of_caller : (peer : Peer) (caller at places : ℕ) (ss : List Session) → AreAlone places ss → (t : Session)
    → find (is_open_in at) ss ≡ Some t → is_of peer caller t ≡ true
    → find (is_of peer caller) ss ≡ Some t
found_of_caller peer caller at places [] alone t h mine = absurd (let bad : None ≡ Some t = h in cc)
found_of_caller peer caller at places (s ∷ ss) alone t h mine =
    at_head (is_open_in at s) refl (λ later. found_of_caller peer caller at places ss alone.1 t later mine) h
  where
    goes_on : (b : Bool) → is_of peer caller s ≡ b → find (is_of peer caller) ss ≡ Some t → cond b (Some s) (find (is_of peer caller) ss) ≡ Some t
    goes_on true e later =
        let parts = of_parts peer caller s e in
        let none : find (is_of peer caller) ss ≡ None =
        subst (λ (k : ℕ). find (is_of peer k) ss ≡ None) parts.2
        (subst (λ (p : Peer). find (is_of p s.conclusion.caller) ss ≡ None) parts.1 (alone.0 parts.0).caller_alone) in
        absurd (let bad : None ≡ Some t = sym none ∙ later in cc)
    goes_on false e later = later

    at_head : (b : Bool) → is_open_in at s ≡ b → (find (is_open_in at) ss ≡ Some t → find (is_of peer caller) ss ≡ Some t)
        → cond b (Some s) (find (is_open_in at) ss) ≡ Some t
        → cond (is_of peer caller s) (Some s) (find (is_of peer caller) ss) ≡ Some t
    at_head true e rest h = let same : s ≡ t = cc in rw (same, mine) refl
    at_head false e rest h = goes_on (is_of peer caller s) refl (rest h)

-- a session that a packet is for is open, doesn't drain, and has the sender as its peer
pub for_parts : (index : ℕ) (peer : Peer) (dest : ℕ) (s : Session) → is_for index peer dest s ≡ true
    → (s.is_open ≡ true) × (is_same_peer s.peer peer ≡ true) × (session_id index s ≡ dest) × (is_draining s ≡ false)
for_parts index peer dest s h =
    let reached = and_parts (s.is_open && is_same_peer s.peer peer && session_id index s == dest) (not (is_draining s)) h in
    let parts = and_parts (s.is_open && is_same_peer s.peer peer) (session_id index s == dest) reached.0 in
    let more = and_parts s.is_open (is_same_peer s.peer peer) parts.0 in
    (more.0, more.1, eqb-true (session_id index s) dest parts.1, not_so (is_draining s) reached.1)

pub for_open : (index : ℕ) (peer : Peer) (dest : ℕ) (s : Session) → is_for index peer dest s ≡ true → s.is_open ≡ true
for_open index peer dest s h = (for_parts index peer dest s h).0

-- the element found by a test is the one found by a narrower test, if it passes that too
pub found_narrower : (p q : Session → Bool) → ((u : Session) → q u ≡ true → u.is_open ≡ true) → (places : ℕ)
    → ((u : Session) → q u ≡ true → u.slot < places → p u ≡ true) → (ss : List Session) → AreAlone places ss → (t : Session)
    → find p ss ≡ Some t → q t ≡ true
    → find q ss ≡ Some t
found_narrower p q opens places inside [] alone t h mine = absurd (let bad : None ≡ Some t = h in cc)
found_narrower p q opens places inside (s ∷ ss) alone t h mine =
    at_head (p s) refl (q s) refl (λ later. found_narrower p q opens places inside ss alone.1 t later mine) h
  where
    at_head : (b : Bool) → p s ≡ b → (d : Bool) → q s ≡ d → (find p ss ≡ Some t → find q ss ≡ Some t) → cond b (Some s) (find p ss) ≡ Some t
        → cond d (Some s) (find q ss) ≡ Some t
    at_head true a true b rest h = h
    at_head true a false b rest h = absurd (let same : s ≡ t = cc in let passes : q s ≡ true = ap q same ∙ mine in cc)
    at_head false a true b rest h = absurd (let passes : p s ≡ true = inside s b (alone.0 (opens s b)).inside in cc)
    at_head false a false b rest h = rest h

-- a change that keeps a session's slot and caller, and opens none; a draining session continues to drain
pub record Keeps (f : Session → Session) : Type 0 where
  pub drains_on : (s : Session) → is_draining (f s) ≡ false → is_draining s ≡ false
  pub slot : (s : Session) → (f s).slot ≡ s.slot
  pub peer : (s : Session) → (f s).peer ≡ s.peer
  pub conclusion : (s : Session) → (f s).conclusion ≡ s.conclusion
  pub opens_none : (s : Session) → (f s).is_open ≡ true → s.is_open ≡ true

pub open_kept : (f : Session → Session) → Keeps f → (at : ℕ) (s : Session) → is_open_in at (f s) ≡ true → is_open_in at s ≡ true
open_kept f keeps at s h =
    let parts = open_parts at (f s) h in
    open_from at s (keeps.opens_none s parts.0) (sym (keeps.slot s) ∙ parts.1)

pub of_kept : (f : Session → Session) → Keeps f → (peer : Peer) (caller : ℕ) (s : Session) → is_of peer caller (f s) ≡ true → is_of peer caller s ≡ true
of_kept f keeps peer caller s h =
    let reached = and_parts ((f s).is_open && is_same_peer (f s).peer peer && (f s).conclusion.caller == caller) (not (is_draining (f s))) h in
    let on : not (is_draining s) ≡ true = ap not (keeps.drains_on s (not_so (is_draining (f s)) reached.1)) in
    let parts = and_parts ((f s).is_open && is_same_peer (f s).peer peer) ((f s).conclusion.caller == caller) reached.0 in
    let more = and_parts (f s).is_open (is_same_peer (f s).peer peer) parts.0 in
    let of_peer : is_same_peer s.peer peer ≡ true = rw (← keeps.peer s) more.1 in
    let of_caller : (s.conclusion.caller == caller) ≡ true = rw (← keeps.conclusion s) parts.1 in
    and_from (s.is_open && is_same_peer s.peer peer && s.conclusion.caller == caller) (not (is_draining s))
    (and_from (s.is_open && is_same_peer s.peer peer) (s.conclusion.caller == caller)
    (and_from s.is_open (is_same_peer s.peer peer) (keeps.opens_none s more.0) of_peer) of_caller) on

pub alone_kept : (f : Session → Session) → Keeps f → (places : ℕ) (ss : List Session) → AreAlone places ss → AreAlone places (map f ss)
alone_kept f keeps places [] alone = alone
alone_kept f keeps places (s ∷ ss) alone = (at_head, alone_kept f keeps places ss alone.1)
  where
    at_head : (f s).is_open ≡ true → IsAlone places (f s) (map f ss)
    at_head o =
        let was = alone.0 (keeps.opens_none s o) in
        record {
          inside = rw (keeps.slot s) was.inside;
          slot_alone = none_kept (is_open_in (f s).slot) f (open_kept f keeps (f s).slot) ss (rw (keeps.slot s) was.slot_alone);
          caller_alone = none_kept (is_of (f s).peer (f s).conclusion.caller) f (of_kept f keeps (f s).peer (f s).conclusion.caller) ss
              (rw (keeps.peer s, keeps.conclusion s) was.caller_alone);
        }

pub counted_kept : (f : Session → Session) → Keeps f → (at : ℕ) (ss : List Session) → generation_of (map f ss) at ≡ generation_of ss at
counted_kept f keeps at [] = refl
counted_kept f keeps at (s ∷ ss) = rw (keeps.slot s, counted_kept f keeps at ss) refl

-- a session while it is open
abbrev pub while_open : Session → Option Session
while_open s = cond s.is_open (Some s) None

abbrev pub changed : (f : Session → Session) → Option Session → Option Session
changed f None = None
changed f (Some s) = while_open (f s)

-- the session of a slot after the change
pub place_kept : (f : Session → Session) → Keeps f → (at places : ℕ) (ss : List Session) → AreAlone places ss
    → find (is_open_in at) (map f ss) ≡ changed f (find (is_open_in at) ss)
place_kept f keeps at places [] alone = refl
place_kept f keeps at places (s ∷ ss) alone = at_head (is_open_in at s) refl (is_open_in at (f s)) refl (place_kept f keeps at places ss alone.1)
  where
    at_head : (b : Bool) → is_open_in at s ≡ b → (d : Bool) → is_open_in at (f s) ≡ d
        → find (is_open_in at) (map f ss) ≡ changed f (find (is_open_in at) ss)
        → cond d (Some (f s)) (find (is_open_in at) (map f ss)) ≡ changed f (cond b (Some s) (find (is_open_in at) ss))
    at_head true e true g rest = rw ((open_parts at (f s) g).0) refl
    at_head true e false g rest =
        let parts = open_parts at s e in
        let there : (f s).slot ≡ at = keeps.slot s ∙ parts.1 in
        let closed : (f s).is_open ≡ false =
        false_from_ne_true (f s).is_open (λ o. absurd (let now : is_open_in at (f s) ≡ true = open_from at (f s) o there in cc)) in
        let none : find (is_open_in at) ss ≡ None = subst (λ (k : ℕ). find (is_open_in k) ss ≡ None) parts.1 (alone.0 parts.0).slot_alone in
        rw (closed) (none_kept (is_open_in at) f (open_kept f keeps at) ss none)
    at_head false e true g rest = absurd (let was : is_open_in at s ≡ true = open_kept f keeps at s g in cc)
    at_head false e false g rest = rest

-- the session of a slot after a change comes from one before it
pub changed_from : (f : Session → Session) → Keeps f → (at places : ℕ) (ss : List Session) → AreAlone places ss → (t : Session)
    → find (is_open_in at) (map f ss) ≡ Some t
    → (s : Session) × (find (is_open_in at) ss ≡ Some s) × ((f s).is_open ≡ true) × (f s ≡ t)
changed_from f keeps at places ss alone t h = from (find (is_open_in at) ss) refl (sym (place_kept f keeps at places ss alone) ∙ h)
  where
    while_it : (s u : Session) (b : Bool) → u.is_open ≡ b → cond b (Some u) None ≡ Some t → (u.is_open ≡ true) × (u ≡ t)
    while_it s u true o k = (o, let same : Some u ≡ Some t = k in cc)
    while_it s u false o k = absurd (let bad : None ≡ Some t = k in cc)

    from : (o : Option Session) → find (is_open_in at) ss ≡ o → changed f o ≡ Some t
        → (s : Session) × (find (is_open_in at) ss ≡ Some s) × ((f s).is_open ≡ true) × (f s ≡ t)
    from None e k = absurd (let bad : None ≡ Some t = k in cc)
    from (Some s) e k = let it = while_it s (f s) (f s).is_open refl k in (s, e, it.0, it.1)
