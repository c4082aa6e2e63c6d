-- The keys that a route stores: none when it opens, and those of one slot after another.
use Rattle.std.proofs.Common.{◌≡◌, ◌≢◌, ℕ, ◌<◌, ◌==◌, Bool, true, false, cond, Option, None, Some, List, [], ◌∷◌, ◌++◌, length, get_or, set}
use Rattle.std.proofs.Common.{refl, sym, ap, subst, ◌∙◌, inl, inr, arith}
use Rattle.std.proofs.lemmas.Bool.{cases_lt, eqb-true, eq-eqb}
use Rattle.std.proofs.lemmas.List.{get_or-set_same, get_or-set_other, get_or_append_left, get_or_at, length-append, length-set}
use Rattle.srt_types.specs.Terms.{Terms}
use Rattle.srt_session_keys.specs.Limiter.{Moments, is_admitted, moments_of, moments_with}
use Rattle.srt_session_keys.specs.Source.{Pool, pool_of}
use Rattle.srt_route.specs.declared.route_keys.RouteKeys.{RouteKeys as TheRouteKeys}
use Rattle.srt_route.specs.declared.slot_keys.KeyOpening.{KeyOpening}
use Rattle.srt_route.specs.declared.slot_keys.KeyVerdict.TheVariants.{WrongSecret, Opened}
use Rattle.srt_route.specs.declared.slot_keys.KeyPlace.{KeyPlace}
use Rattle.srt_route.specs.RouteKeys.{Brought, RouteKeys, SlotKeys, Clear, derivation_of, held_with, kek_for, keys_opened, opened_with}
use Rattle.srt_route.specs.RouteKeys.{opening, opening_if, pool_opened}
use Rattle.srt_route.specs.SlotKeys.{place_keys_of}
use Rattle.srt_route.specs.StoredKeys.{AreKeys, IsOpened}

-- no slot has keys
abbrev pub AreClear : List KeyPlace → Type 0
AreClear xs = (slot : ℕ) (d : KeyPlace) → slot < length xs → place_keys_of (get_or xs slot d) ≡ Clear

pub clear_pushed : (xs ys : List KeyPlace) (x : KeyPlace) → ys ≡ xs ++ x ∷ [] → AreClear xs → place_keys_of x ≡ Clear → AreClear ys
clear_pushed xs ys x same clear is slot d below =
    subst (λ (zs : List KeyPlace). place_keys_of (get_or zs slot d) ≡ Clear) (sym same) (elim (cases_lt slot (length xs)) [
      | inl inside ↦
          subst (λ (z : KeyPlace). place_keys_of z ≡ Clear) (sym (get_or_append_left xs (x ∷ []) d slot inside)) (clear slot d inside)
      | inr outside ↦
          let last : length xs ≡ slot = omega (arith, outside, below, ap length same, length-append xs (x ∷ [])) in
          subst (λ (z : KeyPlace). place_keys_of z ≡ Clear) (sym (get_or_at xs x [] d slot last)) is
    ])

pub not_equal : (a b : ℕ) → (a == b) ≡ false → a ≢ b
not_equal a b is same = let so : (a == b) ≡ true = eq-eqb a b same in cc

-- the keys of one slot are replaced
put_held : (stored : List KeyPlace) (at : ℕ) (x : KeyPlace) (k : SlotKeys) (held : ℕ → SlotKeys) (places : ℕ) → at < length stored
    → place_keys_of x ≡ k → ((slot : ℕ) (d : KeyPlace) → slot < places → place_keys_of (get_or stored slot d) ≡ held slot)
    → (slot : ℕ) (d : KeyPlace) → slot < places → place_keys_of (get_or (set stored at x) slot d) ≡ held_with at k held slot
put_held stored at x k held places inside x_is stays slot d below = by (slot == at) refl
  where
    by : (b : Bool) → (slot == at) ≡ b → place_keys_of (get_or (set stored at x) slot d) ≡ cond b k (held slot)
    by true is =
        ap (λ (n : ℕ). place_keys_of (get_or (set stored at x) n d)) (eqb-true slot at is)
        ∙ (ap place_keys_of (get_or-set_same stored at x d inside) ∙ x_is)
    by false is = ap place_keys_of (get_or-set_other stored at slot x d (not_equal slot at is)) ∙ stays slot d below

pub put_keys : (e : Terms) (old new : TheRouteKeys) (m : RouteKeys) (at : ℕ) (x : KeyPlace) (k : SlotKeys) (moments : Moments) (pool : Pool)
    → AreKeys e old m → at < length old.slots.items → place_keys_of x ≡ k → new.publish ≡ old.publish → new.request ≡ old.request
    → moments_of new.limiter ≡ moments → pool_of new.pool ≡ pool → new.slots.items ≡ set old.slots.items at x
    → AreKeys e new (record { moments = moments; pool = pool; held = held_with at k m.held })
put_keys e old new m at x k moments pool are inside x_is publish_is request_is moments_are pool_is put = record {
  publish_is = rw (publish_is) are.publish_is;
  request_is = rw (request_is) are.request_is;
  moments_are = moments_are;
  pool_is = pool_is;
  places_are = λ secured. ap length put ∙ (length-set old.slots.items at x ∙ are.places_are secured);
  held_are = λ secured slot d below.
      subst (λ (items : List KeyPlace). place_keys_of (get_or items slot d) ≡ held_with at k m.held slot) (sym put)
      (put_held old.slots.items at x k m.held e.sessions inside x_is (λ n other less. are.held_are secured n other less) slot d below);
}

-- only the moments changed
moved_keys : (e : Terms) (old new : TheRouteKeys) (m : RouteKeys) (moments : Moments) → AreKeys e old m → new.publish ≡ old.publish
    → new.request ≡ old.request → moments_of new.limiter ≡ moments → pool_of new.pool ≡ pool_of old.pool → new.slots ≡ old.slots
    → AreKeys e new (record { moments = moments; pool = m.pool; held = m.held })
moved_keys e old new m moments are publish_is request_is moments_are pool_is slots_are = record {
  publish_is = rw (publish_is) are.publish_is;
  request_is = rw (request_is) are.request_is;
  moments_are = moments_are;
  pool_is = pool_is ∙ are.pool_is;
  places_are = λ secured. rw (slots_are) (are.places_are secured);
  held_are = λ secured slot d below. rw (slots_are) (are.held_are secured slot d below);
}

-- an opening within the limit, whose keys can't be unwrapped, and one whose keys can
pub none_opened : (e : Terms) (old new : TheRouteKeys) (m : RouteKeys) (passphrase kek : List ℕ) (b : Brought) (o : KeyOpening)
    → AreKeys e old m → is_admitted m.moments (derivation_of o) ≡ true → kek ≡ kek_for passphrase b.message
    → keys_opened o.role kek b o m.pool ≡ None → new.publish ≡ old.publish → new.request ≡ old.request
    → moments_of new.limiter ≡ moments_with (derivation_of o) m.moments → pool_of new.pool ≡ pool_of old.pool → new.slots ≡ old.slots
    → IsOpened e new WrongSecret (opening passphrase b o m)
none_opened e old new m passphrase kek b o are admitted kek_is none publish_is request_is moments_are pool_is slots_are =
    let here : keys_opened o.role (kek_for passphrase b.message) b o m.pool ≡ None =
    ap (λ (k : List ℕ). keys_opened o.role k b o m.pool) (sym kek_is) ∙ none in
    subst (λ (t : Bool). IsOpened e new WrongSecret (opening_if t passphrase b o m)) (sym admitted)
    (subst
    (λ (f : Option SlotKeys). IsOpened e new WrongSecret (opened_with o (record m { moments = moments_with (derivation_of o) m.moments }) f))
    (sym here)
    (record {
      verdict_is = refl;
      keys_are = moved_keys e old new m (moments_with (derivation_of o) m.moments) are publish_is request_is moments_are pool_is slots_are;
    }))

pub one_opened : (e : Terms) (old new : TheRouteKeys) (m : RouteKeys) (passphrase kek : List ℕ) (b : Brought) (o : KeyOpening) (x : KeyPlace)
    → AreKeys e old m → is_admitted m.moments (derivation_of o) ≡ true → kek ≡ kek_for passphrase b.message
    → keys_opened o.role kek b o m.pool ≡ Some (place_keys_of x) → o.slot < length old.slots.items → new.publish ≡ old.publish
    → new.request ≡ old.request → moments_of new.limiter ≡ moments_with (derivation_of o) m.moments
    → pool_of new.pool ≡ pool_opened o.role o m.pool → new.slots.items ≡ set old.slots.items o.slot x
    → IsOpened e new Opened (opening passphrase b o m)
one_opened e old new m passphrase kek b o x are admitted kek_is one inside publish_is request_is moments_are pool_is put =
    let here : keys_opened o.role (kek_for passphrase b.message) b o m.pool ≡ Some (place_keys_of x) =
    ap (λ (k : List ℕ). keys_opened o.role k b o m.pool) (sym kek_is) ∙ one in
    subst (λ (t : Bool). IsOpened e new Opened (opening_if t passphrase b o m)) (sym admitted)
    (subst
    (λ (f : Option SlotKeys). IsOpened e new Opened (opened_with o (record m { moments = moments_with (derivation_of o) m.moments }) f))
    (sym here)
    (record {
      verdict_is = refl;
      keys_are = put_keys e old new m o.slot x (place_keys_of x) (moments_with (derivation_of o) m.moments) (pool_opened o.role o m.pool) are inside refl
          publish_is request_is moments_are pool_is put;
    }))

pub same_some : (a b : List ℕ) → Some a ≡ Some b → a ≡ b
same_some a b h = cc
