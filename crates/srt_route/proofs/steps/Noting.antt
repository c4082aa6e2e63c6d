-- The ends of a table's sessions are recorded one slot after another.
use Rattle.std.proofs.Common.{◌≡◌, ◌≢◌, ℕ, zero, suc, ◌+◌, ◌<◌, ◌≤◌, Option, None, Some, List, [], ◌∷◌, ◌++◌, length, get_or, refl, sym, ap, subst, ◌∙◌, inl}
use Rattle.std.proofs.Common.{inr, arith}
use Rattle.std.proofs.lemmas.Bool.{cases_eq}
use Rattle.std.proofs.lemmas.List.{get_or_default}
use Rattle.std.proofs.lemmas.Option.{slice_get-get_or}
use Rattle.srt_route.specs.declared.seat.Session.{Session as TheSession}
use Rattle.srt_route.specs.declared.seat.Seat.{Seat}
use Rattle.srt_route.specs.declared.table.Table.{Table}
use Rattle.srt_route.specs.declared.ledger.EndCause.{EndCause}
use Rattle.srt_route.specs.declared.ledger.EndedSession.{EndedSession}
use Rattle.srt_route.specs.declared.ledger.Ledger.{Ledger}
use Rattle.srt_route.specs.declared.publisher_buffers.PublisherBuffers.{PublisherBuffers}
use Rattle.srt_route.specs.declared.totals.Totals.{Totals}
use Rattle.srt_route.specs.declared.view.Traffic.{Traffic}
use Rattle.srt_pub.specs.declared.session.Publisher.{Publisher}
use Rattle.srt_route.specs.Totals.{SumsGrow, sums_to, with_all, with_end, with_traffic}
use Rattle.srt_route.specs.Ledgers.{CountsStay, entry_of, heard_at_end}
use Rattle.srt_route.specs.inside.Standby.{active_in}
use Rattle.srt_route.specs.declared.view.SessionView.{SessionView}
use Rattle.srt_route.specs.inside.Notes.{Notes, NotesAt, NotesEach, Sees, SeesSeat, Tells, TellsEnd, TellsOf, cause_at, cause_if, cause_of_seat}

-- sums of what ends in several slots: the same causes and entries add the same, none adds nothing, and one adds one
pub sums_same : (c d : ℕ → Option EndCause) (x y : ℕ → Option EndedSession) (slots : ℕ) (t : Totals)
    → ((k : ℕ) → k < slots → c k ≡ d k) → ((k : ℕ) → k < slots → x k ≡ y k) → sums_to c x slots t ≡ sums_to d y slots t
sums_same c d x y zero t causes ends = refl
sums_same c d x y (suc n) t causes ends =
    ap (λ (o : Option EndCause). with_end o (x n) (sums_to c x n t)) (causes n (omega arith))
    ∙ ap (λ (o : Option EndedSession). with_end (d n) o (sums_to c x n t)) (ends n (omega arith))
    ∙ ap (with_end (d n) (y n)) (sums_same c d x y n t (λ k lt. causes k (omega (arith, lt))) (λ k lt. ends k (omega (arith, lt))))

pub sums_none : (c : ℕ → Option EndCause) (x : ℕ → Option EndedSession) (slots : ℕ) (t : Totals)
    → ((k : ℕ) → k < slots → c k ≡ None) → sums_to c x slots t ≡ t
sums_none c x zero t none = refl
sums_none c x (suc n) t none =
    ap (λ (o : Option EndCause). with_end o (x n) (sums_to c x n t)) (none n (omega arith)) ∙ sums_none c x n t (λ k lt. none k (omega (arith, lt)))

pub sums_one : (c : ℕ → Option EndCause) (x : ℕ → Option EndedSession) (at slots : ℕ) (t : Totals)
    → at < slots → ((k : ℕ) → k < slots → k ≢ at → c k ≡ None) → sums_to c x slots t ≡ with_end (c at) (x at) t
sums_one c x at zero t lt none = absurd (omega (arith, lt))
sums_one c x at (suc n) t lt none = elim (cases_eq n at) [
  | inl here ↦
      ap (with_end (c n) (x n)) (sums_none c x n t (λ k below. none k (omega (arith, below)) (λ same. omega (arith, below, same, here))))
      ∙ ap (λ (k : ℕ). with_end (c k) (x k) t) here
  | inr apart ↦
      ap (λ (o : Option EndCause). with_end o (x n) (sums_to c x n t)) (none n (omega arith) apart)
      ∙ sums_one c x at n t (omega (arith, lt, apart)) (λ k below other. none k (omega (arith, below)) other)
]

-- two increases of the sums are one
both_added : (xs ys : List Traffic) (t : Totals) → with_all (ys ++ xs) t ≡ with_all ys (with_all xs t)
both_added xs [] t = refl
both_added xs (y ∷ ys) t = ap (with_traffic y) (both_added xs ys t)

pub grow_both : (old mid new : Totals) → SumsGrow old mid → SumsGrow mid new → SumsGrow old new
grow_both old mid new first second = (second.0 ++ first.0, second.1 ∙ (ap (with_all second.0) first.1 ∙ sym (both_added first.0 second.0 old)))

pub same_grow : (old new : Totals) → new ≡ old → SumsGrow old new
same_grow old new h = ([], h)

grow_end : (cause : Option EndCause) (x : Option EndedSession) (t : Totals) → SumsGrow t (with_end cause x t)
grow_end None x t = ([], refl)
grow_end (Some cause) None t = ([], refl)
grow_end (Some cause) (Some x) t = (x.view.traffic ∷ [], refl)

pub end_grows : (cause : Option EndCause) (x : Option EndedSession) (old new : Totals) → new ≡ with_end cause x old → SumsGrow old new
end_grows cause x old new h = subst (SumsGrow old) (sym h) (grow_end cause x old)

ends_grow : (c : ℕ → Option EndCause) (x : ℕ → Option EndedSession) (slots : ℕ) (t : Totals) → SumsGrow t (sums_to c x slots t)
ends_grow c x zero t = ([], refl)
ends_grow c x (suc n) t =
    grow_both t (sums_to c x n t) (sums_to c x (suc n) t) (ends_grow c x n t) (grow_end (c n) (x n) (sums_to c x n t))

pub sums_grow : (c : ℕ → Option EndCause) (x : ℕ → Option EndedSession) (slots : ℕ) (old new : Totals) → new ≡ sums_to c x slots old → SumsGrow old new
sums_grow c x slots old new h = subst (SumsGrow old) (sym h) (ends_grow c x slots old)

-- the cause at a seat of a table
pub cause_here : (cause : Option TheSession → Option EndCause) (seats : List Seat) (at : ℕ) (x : Seat) → at < length seats → x ≡ get_or seats at x
    → cause_at cause seats at ≡ cause_if (cause x.session) x.session
cause_here cause seats at x inside there =
    ap (cause_of_seat cause) (slice_get-get_or seats at x inside) ∙ ap (λ (z : Seat). cause_if (cause z.session) z.session) (sym there)

-- the ends of the slots below `at` are recorded
pub record NotedUpTo (cause : Option TheSession → Option EndCause) (moment at : ℕ) (table : Table) (old new : Ledger) : Type 0 where
  pub done : (k : ℕ) (d : Seat) → k < at → k < length table.seats.items
      → Tells (active_in table) table.publishers.items (cause (get_or table.seats.items k d).session) moment (get_or table.seats.items k d) (entry_of old k)
      (entry_of new k)
  pub ahead : (k : ℕ) → at ≤ k → entry_of new k ≡ entry_of old k
  pub counts : CountsStay old new
  pub sums : new.totals ≡ sums_to (cause_at cause table.seats.items) (entry_of new) at old.totals

pub none_noted : (cause : Option TheSession → Option EndCause) (moment : ℕ) (table : Table) (ledger : Ledger) → NotedUpTo cause moment 0 table ledger ledger
none_noted cause moment table ledger =
    record { done = λ k d lt inside. absurd (omega (arith, lt)); ahead = λ k le. refl; counts = (refl, refl); sums = refl }

-- what is recorded doesn't depend on what was kept before, unless nothing is recorded
pub tells_after : (active : Option PublisherBuffers) (publishers : List Publisher) (cause : Option EndCause) (moment : ℕ) (seat : Seat)
    (first old new : Option EndedSession)
    → old ≡ first → Tells active publishers cause moment seat old new → Tells active publishers cause moment seat first new
tells_after active publishers cause moment seat first old new same h =
    subst (λ (x : Option EndedSession). Tells active publishers cause moment seat x new) same h

-- the sums after one more slot
pub one_summed : (c : ℕ → Option EndCause) (cause : Option EndCause) (at : ℕ) (old new later : Ledger)
    → c at ≡ cause → ((k : ℕ) → k ≢ at → entry_of later k ≡ entry_of new k) → new.totals ≡ sums_to c (entry_of new) at old.totals
    → later.totals ≡ with_end cause (entry_of later at) new.totals
    → later.totals ≡ sums_to c (entry_of later) (at + 1) old.totals
one_summed c cause at old new later here others before more =
    let next : suc at ≡ at + 1 = omega arith in
    more
    ∙ ap (with_end cause (entry_of later at)) (before
    ∙ sums_same c c (entry_of new) (entry_of later) at old.totals (λ k lt. refl) (λ k lt. sym (others k (λ same. omega (arith, lt, same)))))
    ∙ ap (λ (o : Option EndCause). with_end o (entry_of later at) (sums_to c (entry_of later) at old.totals)) (sym here)
    ∙ ap (λ (n : ℕ). sums_to c (entry_of later) n old.totals) next

pub one_noted : (cause : Option TheSession → Option EndCause) (moment at : ℕ) (table : Table) (old new later : Ledger) (x : Seat)
    → NotedUpTo cause moment at table old new → at < length table.seats.items → x ≡ get_or table.seats.items at x
    → Notes at (cause x.session) moment table new later
    → NotedUpTo cause moment (at + 1) table old later
one_noted cause moment at table old new later x h inside there notes =
    record {
      done = λ k d lt below. one k d lt below;
      ahead = λ k le. it.others k (λ same. omega (arith, le, same)) ∙ h.ahead k (omega (arith, le));
      counts = (it.counts.0 ∙ h.counts.0, it.counts.1 ∙ h.counts.1);
      sums = one_summed (cause_at cause table.seats.items) (cause_if (cause x.session) x.session) at old new later
          (cause_here cause table.seats.items at x inside there) it.others h.sums it.sums;
    }
  where
    active : Option PublisherBuffers
    active = active_in table

    publishers : List Publisher
    publishers = table.publishers.items

    it : NotesAt active publishers at (cause x.session) moment x new later
    it = subst (λ (z : Seat). NotesAt active publishers at (cause x.session) moment z new later) (sym there) (notes x)

    one : (k : ℕ) (d : Seat) → k < at + 1 → k < length table.seats.items
        → Tells active publishers (cause (get_or table.seats.items k d).session) moment (get_or table.seats.items k d) (entry_of old k)
        (entry_of later k)
    one k d lt below = elim (cases_eq k at) [
      | inl here ↦
          subst
          (λ (n : ℕ). Tells active publishers (cause (get_or table.seats.items n d).session) moment (get_or table.seats.items n d) (entry_of old n)
          (entry_of later n))
          (sym here)
          (subst (λ (z : Seat). Tells active publishers (cause z.session) moment z (entry_of old at) (entry_of later at))
          (there ∙ get_or_default table.seats.items at x d inside)
          (tells_after active publishers (cause x.session) moment x (entry_of old at) (entry_of new at) (entry_of later at) (h.ahead at (omega arith))
          it.notified))
      | inr apart ↦ subst
          (λ (e : Option EndedSession).
          Tells active publishers (cause (get_or table.seats.items k d).session) moment (get_or table.seats.items k d) (entry_of old k) e)
          (sym (it.others k apart)) (h.done k d (omega (arith, lt, apart)) below)
    ]

pub all_noted : (cause : Option TheSession → Option EndCause) (moment at : ℕ) (table : Table) (old new : Ledger)
    → NotedUpTo cause moment at table old new → length table.seats.items ≡ at → NotesEach cause moment table old new
all_noted cause moment at table old new h all =
    record {
      notified = λ k d below. h.done k d (omega (arith, all, below)) below;
      others = λ k le. h.ahead k (omega (arith, all, le));
      counts = h.counts;
      sums = h.sums ∙ ap (λ (n : ℕ). sums_to (cause_at cause table.seats.items) (entry_of new) n old.totals) (sym all);
    }

-- the end of a seat's session is recorded, from its snapshot
pub end_kept : (active : Option PublisherBuffers) (publishers : List Publisher) (at : ℕ) (cause : EndCause) (moment : ℕ) (seat : Seat)
    (view : SessionView) (heard : ℕ) (old new : Ledger)
    → SeesSeat active publishers seat (Some view) → heard ≡ heard_at_end cause view.heard moment
    → entry_of new at ≡ Some (record { view = record view { heard = heard }; cause = cause; moment = moment })
    → ((k : ℕ) → k ≢ at → entry_of new k ≡ entry_of old k) → CountsStay old new → new.totals ≡ with_traffic view.traffic old.totals
    → NotesAt active publishers at (Some cause) moment seat old new
end_kept active publishers at cause moment seat view heard old new sees heard_is entry others counts sums =
    by seat.session refl sees
  where
    by : (o : Option TheSession) → seat.session ≡ o → Sees active publishers seat o (Some view)
        → NotesAt active publishers at (Some cause) moment seat old new
    by None here k = absurd k
    by (Some t) here k =
        record {
          notified = subst (λ (o : Option TheSession). TellsOf active publishers (Some cause) moment seat o (entry_of old at) (entry_of new at)) (sym here)
              (subst (λ (x : Option EndedSession). TellsEnd active publishers cause moment seat t x) (sym entry)
              (λ q. record {
                cause_is = refl;
                moment_is = refl;
                view_is = record {
                  peer_is = (k q).peer_is;
                  caller_is = (k q).caller_is;
                  id_is = (k q).id_is;
                  role_is = (k q).role_is;
                  active_is = (k q).active_is;
                  draining_is = (k q).draining_is;
                  opened_is = (k q).opened_is;
                  heard_is = heard_is ∙ ap (λ (n : ℕ). heard_at_end cause n moment) (k q).heard_is;
                  latency_is = (k q).latency_is;
                  keys_is = (k q).keys_is;
                  traffic_is = (k q).traffic_is;
                };
              }));
          others = others;
          counts = counts;
          sums = sums
              ∙ sym
              (ap (λ (o : Option TheSession). with_end (cause_if (Some cause) o) (entry_of new at) old.totals) here
              ∙ ap (λ (x : Option EndedSession). with_end (Some cause) x old.totals) entry);
        }

pub none_kept : (active : Option PublisherBuffers) (publishers : List Publisher) (at : ℕ) (cause : EndCause) (moment : ℕ) (seat : Seat) (ledger : Ledger)
    → SeesSeat active publishers seat None → NotesAt active publishers at (Some cause) moment seat ledger ledger
none_kept active publishers at cause moment seat ledger sees = by seat.session refl sees
  where
    by : (o : Option TheSession) → seat.session ≡ o → Sees active publishers seat o None
        → NotesAt active publishers at (Some cause) moment seat ledger ledger
    by (Some t) here k = absurd k
    by None here k =
        record {
          notified = subst (λ (o : Option TheSession). TellsOf active publishers (Some cause) moment seat o (entry_of ledger at) (entry_of ledger at))
              (sym here) refl;
          others = λ k apart. refl;
          counts = (refl, refl);
          sums = sym (ap (λ (o : Option TheSession). with_end (cause_if (Some cause) o) (entry_of ledger at) ledger.totals) here);
        }
