-- The theorem of isolation.
use Rattle.std.proofs.Common.{◌≡◌, ℕ, ◌≤◌, ltb, Bool, true, false, cond, List, [], ◌∷◌, ◌++◌, reverse, length, refl, sym, ap, ◌∙◌}
use Rattle.std.proofs.Common.{append_assoc, arith, length-append}
use Rattle.std.proofs.lemmas.List.{append-nil, reverse-append}
use Rattle.std.proofs.lemmas.Bool.Decides.{nat_tests}
use Rattle.srt_types.specs.Items.{Datagram, Item}
use Rattle.srt_types.specs.Terms.{Terms}
use Rattle.srt_hub.specs.World.{Event, Sorting, Meaning, solo, Lane, Step, Offers, Turn, Send, Nothing, has_room, turned_by, first}
use Rattle.srt_hub.specs.World.{without_first, after_step, takes_in, sends_out, listed, accepted, sent}
use Rattle.srt_hub.specs.Laws.{IsFrontOf, SentIsFront, SentIsWhole, RoutesAreIsolated, GatewaysAreIsolated}
use Rattle.srt_hub.specs.Hubs.{entry_at, lane_at}
use Rattle.srt_hub.proofs.OwnSteps.{lane_by, accepted_by, sent_by, by_own}

-- an invariant of a route: the accepted items are those in the inbox and those applied; the replies to the applied ones
-- are those sent, those in the outbox and those that wait; and no queue holds more than its capacity
pub record IsKept (reply : Meaning) (e : Terms) (r : ℕ) (m : Lane) (items : List Item) (out : List Datagram) : Type 0 where
  pub items_are : items ≡ reverse m.inbox ++ m.applied
  pub replies_are : out ++ (m.outbox ++ m.waiting) ≡ solo reply e r m.applied
  pub inbox_fits : length m.inbox ≤ e.inbox
  pub outbox_fits : length m.outbox ≤ e.outbox

-- a turn keeps it
turn_keeps : (reply : Meaning) (e : Terms) (r : ℕ) (waiting : List Datagram) (inbox : List Item) (m : Lane) (items : List Item)
    (out : List Datagram)
    → m.waiting ≡ waiting → m.inbox ≡ inbox → IsKept reply e r m items out
    → IsKept reply e r (turned_by reply e r waiting inbox m) items out
turn_keeps reply e r (d ∷ ds) inbox m items out w i h = moved (ltb (length m.outbox) e.outbox) refl
  where
    moved : (b : Bool) → ltb (length m.outbox) e.outbox ≡ b
        → IsKept reply e r (cond b (record { inbox = m.inbox; applied = m.applied; waiting = ds; outbox = m.outbox ++ d ∷ [] }) m) items out
    moved true is =
        record {
          items_are = h.items_are;
          replies_are =
              ap (λ (x : List Datagram). out ++ x) (append_assoc m.outbox (d ∷ []) ds ∙ ap (λ (x : List Datagram). m.outbox ++ x) (sym w))
              ∙ h.replies_are;
          inbox_fits = h.inbox_fits;
          outbox_fits = grind (arith, nat_tests, length-append, is);
        }
    moved false is = h
turn_keeps reply e r [] (x ∷ xs) m items out w i h =
    record {
      items_are = h.items_are ∙ ap (λ (ys : List Item). reverse ys ++ m.applied) i
          ∙ ap (λ (ys : List Item). ys ++ m.applied) (reverse-append (x ∷ []) xs) ∙ append_assoc (reverse xs) (x ∷ []) m.applied;
      replies_are = sym (append_assoc out m.outbox (reply e r (x ∷ m.applied)))
          ∙ ap (λ (ys : List Datagram). ys ++ reply e r (x ∷ m.applied)) (before m.outbox m.waiting w ∙ h.replies_are);
      inbox_fits = omega (arith, h.inbox_fits, ap (λ (ys : List Item). length ys) i);
      outbox_fits = h.outbox_fits;
    }
  where
    before : (outbox waiting : List Datagram) → waiting ≡ [] → out ++ outbox ≡ out ++ (outbox ++ waiting)
    before outbox waiting none = ap (λ (ys : List Datagram). out ++ ys) (sym (append-nil outbox) ∙ ap (λ (ys : List Datagram). outbox ++ ys) (sym none))
turn_keeps reply e r [] [] m items out w i h = h

-- each step keeps it
step_keeps : (reply : Meaning) (e : Terms) (r : ℕ) (step : Step) (m : Lane) (items : List Item) (out : List Datagram)
    → IsKept reply e r m items out → IsKept reply e r (after_step reply e r step m) (takes_in e step m ++ items) (out ++ sends_out step m)
step_keeps reply e r (Offers item) m items out h = arrived (has_room e m) refl
  where
    arrived : (b : Bool) → has_room e m ≡ b
        → IsKept reply e r (cond b (record { inbox = m.inbox ++ item ∷ []; applied = m.applied; waiting = m.waiting; outbox = m.outbox }) m)
        (cond b (item ∷ []) [] ++ items) (out ++ [])
    arrived true is =
        record {
          items_are = ap (λ (ys : List Item). item ∷ ys) h.items_are ∙ ap (λ (ys : List Item). ys ++ m.applied) (sym (reverse-append m.inbox (item ∷ [])));
          replies_are = rw append-nil h.replies_are;
          inbox_fits = grind (arith, nat_tests, length-append, is);
          outbox_fits = h.outbox_fits;
        }
    arrived false is = record { items_are = h.items_are; replies_are = rw append-nil h.replies_are; inbox_fits = h.inbox_fits; outbox_fits = h.outbox_fits }
step_keeps reply e r Turn m items out h = rw append-nil (turn_keeps reply e r m.waiting m.inbox m items out refl refl h)
step_keeps reply e r Send m items out h =
    record {
      items_are = h.items_are;
      replies_are = gone m.outbox ∙ h.replies_are;
      inbox_fits = h.inbox_fits;
      outbox_fits = fits m.outbox h.outbox_fits;
    }
  where
    gone : (outbox : List Datagram) → (out ++ listed (first outbox)) ++ (without_first outbox ++ m.waiting) ≡ out ++ (outbox ++ m.waiting)
    gone [] = ap (λ (ys : List Datagram). ys ++ m.waiting) (append-nil out)
    gone (d ∷ ds) = append_assoc out (d ∷ []) (ds ++ m.waiting)

    fits : (outbox : List Datagram) → length outbox ≤ e.outbox → length (without_first outbox) ≤ e.outbox
    fits [] f = f
    fits (d ∷ ds) f = omega (arith, f)
step_keeps reply e r Nothing m items out h = rw append-nil h

kept_by : (reply : Meaning) (e : Terms) (r : ℕ) (steps : List Step)
    → IsKept reply e r (lane_by reply e r steps) (accepted_by reply e r steps) (sent_by reply e r steps)
unfolding lane_by accepted_by sent_by
kept_by reply e r [] = record { items_are = refl; replies_are = refl; inbox_fits = omega arith; outbox_fits = omega arith }
kept_by reply e r (step ∷ steps) =
    step_keeps reply e r step (lane_by reply e r steps) (accepted_by reply e r steps) (sent_by reply e r steps) (kept_by reply e r steps)

pub kept : (class : Sorting) (reply : Meaning) (entries : List Terms) (r : ℕ) (events : List Event) →
    IsKept reply (entry_at class reply entries r events) r (lane_at class reply entries r events) (accepted class reply entries r events)
    (sent class reply entries r events)
kept class reply entries r events =
    let h = by_own class reply entries r events (entry_at class reply entries r events) (λ below. refl) in
    rw (h.lane, h.items_are, h.out_is) (kept_by reply (entry_at class reply entries r events) r _)

-- the replies to fewer items are a prefix of those to more
solo_more : (reply : Meaning) (e : Terms) (r : ℕ) (newer items : List Item) → IsFrontOf (solo reply e r items) (solo reply e r (newer ++ items))
solo_more reply e r [] items = ([], append-nil (solo reply e r items))
solo_more reply e r (x ∷ newer) items =
    let h = solo_more reply e r newer items in (
      h.0 ++ reply e r (x ∷ (newer ++ items)),
      sym (append_assoc (solo reply e r items) h.0 (reply e r (x ∷ (newer ++ items))))
          ∙ ap (λ (ys : List Datagram). ys ++ reply e r (x ∷ (newer ++ items))) h.1,
    )

pub sent_is_front : SentIsFront
sent_is_front class reply entries r events =
    let e = entry_at class reply entries r events in
    let m = lane_at class reply entries r events in
    let h = kept class reply entries r events in
    let more = solo_more reply e r (reverse m.inbox) m.applied in (
      (m.outbox ++ m.waiting) ++ more.0,
      sym (append_assoc (sent class reply entries r events) (m.outbox ++ m.waiting) more.0)
          ∙ ap (λ (ys : List Datagram). ys ++ more.0) h.replies_are ∙ more.1 ∙ ap (solo reply e r) (sym h.items_are),
    )

pub sent_is_whole : SentIsWhole
sent_is_whole class reply entries r events q =
    let e = entry_at class reply entries r events in
    let m = lane_at class reply entries r events in
    let h = kept class reply entries r events in
    let out = sent class reply entries r events in
    let items : accepted class reply entries r events ≡ m.applied = h.items_are ∙ ap (λ (ys : List Item). reverse ys ++ m.applied) q.inbox in
    let replies : out ≡ solo reply e r m.applied = sym (append-nil out) ∙ ap (λ (ys : List Datagram). out ++ (ys ++ [])) (sym q.outbox)
    ∙ ap (λ (ys : List Datagram). out ++ (m.outbox ++ ys)) (sym q.waiting) ∙ h.replies_are in
    replies ∙ ap (solo reply e r) (sym items)

pub isolated : RoutesAreIsolated
isolated class class' reply entries entries' r events events' entry same q q' =
    sent_is_whole class reply entries r events q
    ∙ ap (solo reply (entry_at class reply entries r events) r) same
    ∙ ap (λ (e : Terms). solo reply e r (accepted class' reply entries' r events')) entry
    ∙ sym (sent_is_whole class' reply entries' r events' q')

pub gateways_isolated : GatewaysAreIsolated
gateways_isolated class reply secret entries entries' r events events' entry same q q' =
    (isolated (class secret) (class secret) reply entries entries' r events events' entry same q q', sent_is_whole (class secret) reply entries r events q)
