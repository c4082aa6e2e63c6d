-- The seats as time advances.
use Rattle.std.proofs.Common.{◌≡◌, ℕ, ◌≤◌, Bool, true, false, not, ◌&&◌, ◌||◌, cond, Option, None, Some, List, find, refl, sym, ap, subst, ◌∙◌, inl, inr}
use Rattle.std.proofs.lemmas.Bool.{cases_Bool, and_parts}
use Rattle.srt_types.specs.Terms.{Terms}
use Rattle.srt_pub.specs.declared.session.Publisher.{Publisher}
use Rattle.srt_sub.specs.Stands as subscriber
use Rattle.srt_sub.specs.declared.session.Subscriber.{Subscriber}
use Rattle.srt_route.specs.declared.seat.Session.{Session as TheSession}
use Rattle.srt_route.specs.declared.seat.Seat.{Seat}
use Rattle.srt_route.specs.Sessions.{Session, is_draining, is_over_at, is_open_in, is_over, publishes, time_in, aged, aged_at}
use Rattle.srt_route.specs.Buffers.{ExpiresTo}
use Rattle.srt_route.specs.Parts.{is_given_up, role_of, until_of}
use Rattle.srt_route.specs.Tables.{IsSession, IsStored, IsSeat, is_stored_over, stored_aged, is_kept_subscriber}
use Rattle.srt_route.specs.Seats.{session_passes}
use Rattle.srt_route.proofs.model.Found.{found_passes, open_parts, Keeps, changed, while_open}
use Rattle.srt_route.proofs.model.TakeOver.{KeepsMarks}
use Rattle.srt_route.proofs.stored.Kept.{still_stored, Becomes, KeepsBuffers}
use Rattle.srt_route.proofs.stored.Seats.{aged_seat, expired_wide}

pub not_true : (b : Bool) → not b ≡ true → b ≡ false
not_true true h = absurd (let bad : false ≡ true = h in cc)
not_true false h = refl

-- time keeps a session's slot and caller
pub ages : (e : Terms) (clock : ℕ) → Keeps (aged e clock)
ages e clock =
    record {
      slot = λ s. slot_of s (s.is_open && not (is_over s clock));
      peer = λ s. peer_of s (s.is_open && not (is_over s clock));
      conclusion = λ s. conclusion_of s (s.is_open && not (is_over s clock));
      opens_none = λ s h. opens_of s (s.is_open && not (is_over s clock)) h;
      drains_on = λ s h. drains_of s (s.is_open && not (is_over s clock)) h;
    }
  where
    slot_of : (s : Session) (b : Bool) → (aged_at e b (time_in s clock) s).slot ≡ s.slot
    slot_of s true = refl
    slot_of s false = refl

    peer_of : (s : Session) (b : Bool) → (aged_at e b (time_in s clock) s).peer ≡ s.peer
    peer_of s true = refl
    peer_of s false = refl

    conclusion_of : (s : Session) (b : Bool) → (aged_at e b (time_in s clock) s).conclusion ≡ s.conclusion
    conclusion_of s true = refl
    conclusion_of s false = refl

    drains_of : (s : Session) (b : Bool) → is_draining (aged_at e b (time_in s clock) s) ≡ false → is_draining s ≡ false
    drains_of s true h = h
    drains_of s false h = h

    opens_of : (s : Session) (b : Bool) → (aged_at e b (time_in s clock) s).is_open ≡ true → s.is_open ≡ true
    opens_of s true h = h
    opens_of s false h = absurd (let bad : false ≡ true = h in cc)

pub ages_marks : (e : Terms) (clock : ℕ) → KeepsMarks (aged e clock)
ages_marks e clock s = by (s.is_open && not (is_over s clock))
  where
    by : (b : Bool) → (aged_at e b (time_in s clock) s).took_over ≡ s.took_over
    by true = refl
    by false = refl

-- a session has expired exactly if its stored session has
pub stale_is : (e : Terms) (index clock : ℕ) (t : TheSession) (s : Session) → IsSession e index t s → is_over s clock ≡ is_stored_over clock t
stale_is e index clock t s is =
    ap (λ (b : Bool). b || is_over_at s.drains s.heard clock) (sym is.given_up_is)
    ∙ ap (λ (d : Option ℕ). is_given_up t.part || is_over_at d s.heard clock) (sym is.drains_is)
    ∙ ap (λ (n : ℕ). is_given_up t.part || is_over_at (until_of t.part) n clock) (sym is.heard_is)

-- a stored session after time advanced
aged_stored : (e : Terms) (index clock : ℕ) (o : Option TheSession) (g : Option Session) → ((s : Session) → g ≡ Some s → s.is_open ≡ true)
    → IsStored e index o g
    → IsStored e index (stored_aged clock o) (changed (aged e clock) g)
aged_stored e index clock None None opens is = tt
aged_stored e index clock None (Some s) opens is = absurd is
aged_stored e index clock (Some t) None opens is = absurd is
aged_stored e index clock (Some t) (Some s) opens is = by (is_stored_over clock t) (is_over s clock) (stale_is e index clock t s is)
  where
    o : s.is_open ≡ true
    o = opens s refl

    lives : IsStored e index (Some t) (while_open (aged_at e true (time_in s clock) s))
    lives = rw (o) (still_stored e index t s _ _ is)

    by : (stale idle : Bool) → idle ≡ stale → IsStored e index (cond stale None (Some t)) (while_open (aged_at e (s.is_open && not idle) (time_in s clock) s))
    by true idle same = rw (same, o) tt
    by false idle same = rw (same, o) (still_stored e index t s _ _ is)

-- a session that stays open hasn't expired in its slot
pub kept_is : (e : Terms) (index clock : ℕ) (o : Option TheSession) (s : Session) → s.is_open ≡ true → IsStored e index o (Some s)
    → (aged e clock s).is_open ≡ true → publishes s.conclusion.role ≡ false
    → session_passes (is_kept_subscriber clock) o ≡ true
kept_is e index clock None s o is h role = absurd is
kept_is e index clock (Some t) s o is h role = by (is_over s clock) (stale_is e index clock t s is) h
  where
    by : (idle : Bool) → idle ≡ is_stored_over clock t → (aged_at e (s.is_open && not idle) (time_in s clock) s).is_open ≡ true
        → (not (is_stored_over clock t) && not (publishes (role_of t.part))) ≡ true
    by true same k = absurd (let closed : (aged_at e (s.is_open && not true) (time_in s clock) s).is_open ≡ false = rw (o) refl in cc)
    by false same k = rw (← same, is.role_is, role) refl

-- the effect of time on the buffers of a seat
abbrev pub HasAged : (clock : ℕ) → Option TheSession → (old new : Subscriber) → Type 0
HasAged clock o x y = (session_passes (is_kept_subscriber clock) o ≡ true → ExpiresTo clock x y) × (session_passes (is_kept_subscriber clock) o ≡ false → y ≡ x)

-- a seat that has aged
pub record IsAged (clock : ℕ) (x y : Seat) : Type 0 where
  pub count_is : y.generation ≡ x.generation
  pub session_is : y.session ≡ stored_aged clock x.session
  pub buffers_are : HasAged clock x.session x.subscriber y.subscriber

pub aged_becomes : (e : Terms) (index before clock at : ℕ) (p : Publisher) (x y : Seat) (ss : List Session)
    → before ≤ clock → IsSeat e index before at p x ss → IsAged clock x y → Becomes (aged e clock) e index clock at p x y ss
aged_becomes e index before clock at p x y ss later is h =
    record {
      count_is = h.count_is;
      session_is = subst (λ (o : Option TheSession). IsStored e index o (changed (aged e clock) (find (is_open_in at) ss)))
          (sym h.session_is) (aged_stored e index clock x.session (find (is_open_in at) ss) (λ s found. opens s found) is.session_is);
      buffers_stay = subst (λ (o : Option TheSession). KeepsBuffers x.session o) (sym h.session_is) (aged_keeps x.session);
      wide = elim (cases_Bool (session_passes (is_kept_subscriber clock) x.session)) [
        | inl kept ↦ kept_wide (h.buffers_are.0 kept) x.session (find (is_open_in at) ss) refl is.session_is kept
        | inr other ↦ subst (λ (z : Subscriber). subscriber.IsWide e.buffer z) (sym (h.buffers_are.1 other)) is.wide
      ];
      seated = λ s found stays.
          let stored = subst (λ (g : Option Session). IsStored e index x.session g) found is.session_is in
          aged_seat e before clock p x.subscriber y.subscriber s later
          (λ role. h.buffers_are.0 (kept_is e index clock x.session s (opens s found) stored stays role)) stays (is.seated s found);
    }
  where
    aged_keeps : (o : Option TheSession) → KeepsBuffers o (stored_aged clock o)
    aged_keeps None = tt
    aged_keeps (Some t) = by (is_stored_over clock t)
      where
        by : (idle : Bool) → KeepsBuffers (Some t) (cond idle None (Some t))
        by true = tt
        by false = refl

    opens : (s : Session) → find (is_open_in at) ss ≡ Some s → s.is_open ≡ true
    opens s found = (open_parts at s (found_passes (is_open_in at) ss s found)).0

    kept_wide : ExpiresTo clock x.subscriber y.subscriber → (o : Option TheSession) (g : Option Session) → find (is_open_in at) ss ≡ g
        → IsStored e index o g → session_passes (is_kept_subscriber clock) o ≡ true
        → subscriber.IsWide e.buffer y.subscriber
    kept_wide expires None g there stored kept = absurd (let bad : false ≡ true = kept in cc)
    kept_wide expires (Some t) None there stored kept = absurd stored
    kept_wide expires (Some t) (Some s) there stored kept =
        let role : publishes (role_of t.part) ≡ false =
        not_true (publishes (role_of t.part)) (and_parts (not (is_stored_over clock t)) (not (publishes (role_of t.part))) kept).1 in
        expired_wide e before clock p x.subscriber y.subscriber s later expires (ap publishes (sym stored.role_is) ∙ role) (is.seated s there)

-- a subscriber's session that hasn't expired stays
pub kept_stays : (clock : ℕ) (o : Option TheSession) → session_passes (is_kept_subscriber clock) o ≡ true → o ≡ stored_aged clock o
kept_stays clock None h = refl
kept_stays clock (Some t) h = by (is_stored_over clock t) h
  where
    by : (idle : Bool) → (not idle && not (publishes (role_of t.part))) ≡ true → Some t ≡ cond idle None (Some t)
    by true k = absurd (let bad : false ≡ true = k in cc)
    by false k = refl
