-- Routes are opened one after another.
use Rattle.std.proofs.Common.{◌≡◌, ℕ, zero, suc, ◌+◌, ◌<◌, ◌≤◌, Bool, true, false, ◌&&◌, not, cond, None, Some, List, [], ◌∷◌, ◌++◌, length}
use Rattle.std.proofs.Common.{map, take, get_or, refl, sym, ap, subst, ◌∙◌, arith}
use Rattle.std.proofs.lemmas.List.{take_more, map-append, length-take, length-map}
use Rattle.std.proofs.lemmas.Bool.{and_parts}
use Rattle.std.specs.List.{list_all}
use Rattle.srt_types.specs.declared.shared.Entry.{Entry}
use Rattle.srt_types.specs.declared.shared.OpenFault.TheVariants.{Names, Limits}
use Rattle.srt_types.specs.Terms.{Terms, terms_of}
use Rattle.srt_hub.specs.World.{Lane, empty}
use Rattle.srt_types.specs.Entries.{is_name, in_limits, is_between}
use Rattle.srt_types.proofs.Limited.{few_routes}
use Rattle.srt_lobby.specs.Opening.{fault_of, is_taken, is_fresh, are_names, are_in_limits}
use Rattle.srt_hub.specs.Hubs.{AreLanes}
use Rattle.srt_hub.proofs.Happens.{start, one_more}

-- the lanes of one more entry
pub lanes_grow : {X : Type 0} (Is : X → Terms → ℕ → Lane → Type 0) (entries : List Entry) (r i : ℕ) (entry : Entry) (lanes : List X)
    (lane : X)
    → r ≡ i → i < length entries → entry ≡ get_or entries i entry → Is lane (terms_of entry) r empty
    → AreLanes Is (start (map terms_of (take i entries))) lanes
    → AreLanes Is (start (map terms_of (take (i + 1) entries))) (lanes ++ lane ∷ [])
lanes_grow {X} Is entries r i entry lanes lane index below there new h =
    let places : length (map terms_of (take i entries)) ≡ i = length-map (take i entries) terms_of ∙ omega (arith, length-take i entries) in
    rw (take_more entries i entry below, ← there, map-append terms_of (take i entries) (entry ∷ []))
    (one_more Is (map terms_of (take i entries)) lanes (terms_of entry) lane (subst (λ (j : ℕ). Is lane (terms_of entry) j empty) (index ∙ sym places) new) h)

-- entries without a fault have names of the right form and are within their limits
sound_both : (named limited : Bool) → cond named (cond limited None (Some Limits)) (Some Names) ≡ None → (named ≡ true) × (limited ≡ true)
sound_both true true h = (refl, refl)
sound_both true false h = absurd (let bad : Some Limits ≡ None = h in cc)
sound_both false limited h = absurd (let bad : Some Names ≡ None = h in cc)

each_in_limits : (entries : List Entry) (i : ℕ) (entry : Entry) → list_all in_limits (map terms_of entries) ≡ true → i < length entries
    → entry ≡ get_or entries i entry
    → in_limits (terms_of entry) ≡ true
each_in_limits [] i entry all below there = absurd (omega arith)
each_in_limits (x ∷ entries) zero entry all below there =
    ap (λ (y : Entry). in_limits (terms_of y)) there ∙ (and_parts (in_limits (terms_of x)) (list_all in_limits (map terms_of entries)) all).0
each_in_limits (x ∷ entries) (suc i) entry all below there =
    each_in_limits entries i entry (and_parts (in_limits (terms_of x)) (list_all in_limits (map terms_of entries)) all).1 (omega arith) there

each_is_named : (entries : List Entry) (i : ℕ) (entry : Entry)
    → are_names (map terms_of entries) ≡ true → i < length entries → entry ≡ get_or entries i entry → is_name (terms_of entry).name ≡ true
each_is_named [] i entry all below there = absurd (omega arith)
each_is_named (x ∷ entries) zero entry all below there =
    let fresh = (and_parts (is_fresh (terms_of x) (map terms_of entries)) (are_names (map terms_of entries)) all).0 in
    ap (λ (y : Entry). is_name (terms_of y).name) there
    ∙ (and_parts (is_name (terms_of x).name) (not (is_taken (terms_of x).name (map terms_of entries))) fresh).0
each_is_named (x ∷ entries) (suc i) entry all below there =
    each_is_named entries i entry (and_parts (is_fresh (terms_of x) (map terms_of entries)) (are_names (map terms_of entries)) all).1 (omega arith) there

-- an entry has a name of the right form, is within its limits, and has an index below 511
pub record IsRight (e : Terms) (index : ℕ) : Type 0 where
  pub name : is_name e.name ≡ true
  pub limits : in_limits e ≡ true
  pub index_below : index < 511

pub right_at : (entries : List Entry) (i : ℕ) (entry : Entry)
    → fault_of (map terms_of entries) ≡ None → i < length entries → entry ≡ get_or entries i entry → IsRight (terms_of entry) i
right_at entries i entry sound below there =
    let right = sound_both (are_names (map terms_of entries)) (are_in_limits (map terms_of entries)) sound in
    let limits = and_parts (is_between 1 511 (length (map terms_of entries))) (list_all in_limits (map terms_of entries)) right.1 in
    record {
      name = each_is_named entries i entry right.0 below there;
      limits = each_in_limits entries i entry limits.1 below there;
      index_below = omega (arith, few_routes (length (map terms_of entries)) limits.0, length-map entries terms_of, below);
    }
