-- Step 2 of an event in which no session has expired.
use Rattle.std.proofs.Common.{◌≡◌, ℕ, suc, ◌<◌, ◌≤◌, ◌&&◌, not, Bool, true, false, cond, Option, None, Some, List, [], ◌∷◌, length, map, get_or}
use Rattle.std.proofs.Common.{refl, sym, ap, subst, ◌∙◌, arith}
use Rattle.std.specs.Prelude.{count_by, nat_lt}
use Rattle.std.proofs.lemmas.Bool.Decides.{nat_tests}
use Rattle.std.proofs.lemmas.List.{get_or_default}
use Rattle.std.proofs.lemmas.List.Sums.{get_or-le-sum_by}
use Rattle.srt_types.specs.declared.shared.Callers.{Callers}
use Rattle.srt_types.specs.declared.shared.Callers.TheVariants.{Draft, Libsrt}
use Rattle.srt_types.specs.Terms.{Terms}
use Rattle.srt_route.specs.declared.seat.Seat.{Seat}
use Rattle.srt_route.specs.declared.seat.Session.{Session as TheSession}
use Rattle.srt_route.specs.declared.table.Table.{Table}
use Rattle.srt_route.specs.declared.ledger.EndCause.{EndCause}
use Rattle.srt_route.specs.declared.ledger.Ledger.{Ledger}
use Rattle.srt_route.specs.Sessions.{Session, advanced, aged, aged_at, is_over, is_publisher, marked, marked_if, of_libsrt, open_publishers, silent_end}
use Rattle.srt_route.specs.Sessions.{takes_over, time_end, time_in, with_end}
use Rattle.srt_route.specs.Ledgers.{entry_of, idle_cause}
use Rattle.srt_route.specs.Tables.{IsTable, has_expired, is_stored_over}
use Rattle.srt_route.specs.Seats.{session_passes}
use Rattle.srt_route.specs.inside.Notes.{NotesEach, Tells, cause_at, cause_if}
use Rattle.srt_route.specs.inside.Standby.{active_in}
use Rattle.srt_route.proofs.model.Lists.{how_many, one_more}
use Rattle.srt_route.proofs.model.Marking.{marked_publishes}
use Rattle.srt_route.proofs.model.Standbys.{publishers_through}
use Rattle.srt_route.proofs.stored.Stored.{expired_among, has_expired_open, some_item}
use Rattle.srt_route.proofs.steps.Noted.{none_kept}
use Rattle.srt_route.proofs.steps.Noting.{cause_here, sums_none}

-- a take-over opens and ends no publisher
pub lead_publishes : (due : Bool) (ss : List Session) → open_publishers (marked_if due ss) ≡ open_publishers ss
lead_publishes true ss = publishers_through (marked ss) (λ s. marked_publishes ss s) ss
lead_publishes false ss = refl

-- as many publish as before
aged_publishes : (e : Terms) (clock : ℕ) (s : Session) → has_expired_open clock s ≡ false → is_publisher (aged e clock s) ≡ is_publisher s
aged_publishes e clock s h = by s.is_open (is_over s clock) refl h
  where
    by : (o b : Bool) → s.is_open ≡ o → (o && b) ≡ false → is_publisher (aged_at e (o && not b) (time_in s clock) s) ≡ is_publisher s
    by true true opens k = absurd (let bad : true ≡ false = k in cc)
    by true false opens k = refl
    by false b opens k = rw (opens) refl

publish_still : (e : Terms) (clock : ℕ) (ss : List Session)
    → how_many (has_expired_open clock) ss ≡ 0 → open_publishers (map (aged e clock) ss) ≡ open_publishers ss
publish_still e clock [] none = refl
publish_still e clock (s ∷ ss) none = by (has_expired_open clock s) (is_publisher s) refl refl (λ fewer. publish_still e clock ss fewer)
  where
    by : (b p : Bool) → has_expired_open clock s ≡ b → is_publisher s ≡ p
        → (how_many (has_expired_open clock) ss ≡ 0 → open_publishers (map (aged e clock) ss) ≡ open_publishers ss)
        → open_publishers (aged e clock s ∷ map (aged e clock) ss) ≡ open_publishers (s ∷ ss)
    by true p h publishes rest = absurd (let more = one_more (has_expired_open clock) s ss true h in omega (arith, more, none))
    by false true h publishes rest =
        one_more is_publisher (aged e clock s) (map (aged e clock) ss) true (aged_publishes e clock s h ∙ publishes)
        ∙ (ap suc (rest (sym (one_more (has_expired_open clock) s ss false h) ∙ none)) ∙ sym (one_more is_publisher s ss true publishes))
    by false false h publishes rest =
        one_more is_publisher (aged e clock s) (map (aged e clock) ss) false (aged_publishes e clock s h ∙ publishes)
        ∙ (rest (sym (one_more (has_expired_open clock) s ss false h) ∙ none) ∙ sym (one_more is_publisher s ss false publishes))

pub still_aged : (e : Terms) (index before clock : ℕ) (old new : Table) (ss : List Session) → IsTable e index before old ss
    → count_by (has_expired clock) old.seats.items ≡ 0
    → IsTable e index clock new (marked_if (takes_over e clock (map (aged e clock) ss)) (map (aged e clock) ss))
    → IsTable e index clock new (advanced e clock ss)
still_aged e index before clock old new ss is none aged_is =
    subst
    (λ (x : Option Bool). IsTable e index clock new
    (map (with_end x) (marked_if (takes_over e clock (map (aged e clock) ss)) (map (aged e clock) ss))))
    (sym no_end)
    (none_kept e index clock new (marked_if (takes_over e clock (map (aged e clock) ss)) (map (aged e clock) ss)) aged_is)
  where
    no_more : (n m : ℕ) → m ≡ n → silent_end n m ≡ None
    no_more n m same = let e : nat_lt m n ≡ false = grind (arith, nat_tests, same) in rw e refl

    of_none : (c : Callers) → of_libsrt c None ≡ None
    of_none Draft = refl
    of_none Libsrt = refl

    no_end : time_end e ss (map (aged e clock) ss) ≡ None
    no_end =
        ap (of_libsrt e.rules.callers)
        (no_more (open_publishers ss) (open_publishers (map (aged e clock) ss))
        (publish_still e clock ss (sym (expired_among e index before clock old ss is) ∙ none)))
        ∙ of_none e.rules.callers

-- no end is recorded
seat_counts : (p : Seat → Bool) (seats : List Seat) (at : ℕ) (d : Seat) → at < length seats → count_by p seats ≡ 0 → p (get_or seats at d) ≡ false
seat_counts p seats at d below none = by (p (get_or seats at d)) (get_or-le-sum_by (λ x. cond (p x) 1 0) seats at d below)
  where
    by : (b : Bool) → cond b 1 0 ≤ count_by p seats → b ≡ false
    by false k = refl
    by true k = absurd (let one : 1 ≤ count_by p seats = k in omega (arith, one, none))

no_cause : (clock : ℕ) (o : Option TheSession) → session_passes (is_stored_over clock) o ≡ false → idle_cause clock o ≡ None
no_cause clock None h = refl
no_cause clock (Some t) h = rw h refl

cause_none : (o : Option TheSession) → cause_if None o ≡ None
cause_none None = refl
cause_none (Some t) = refl

pub none_expired : (clock : ℕ) (table : Table) (ledger : Ledger)
    → count_by (has_expired clock) table.seats.items ≡ 0 → NotesEach (idle_cause clock) clock table ledger ledger
none_expired clock table ledger none =
    record {
      notified = λ at d below.
          subst (λ (c : Option EndCause). Tells (active_in table) table.publishers.items c clock (get_or table.seats.items at d) (entry_of ledger at)
          (entry_of ledger at)) (sym (no_end at d below)) refl;
      others = λ at le. refl;
      counts = (refl, refl);
      sums = sym
          (sums_none (cause_at (idle_cause clock) table.seats.items) (entry_of ledger) (length table.seats.items) ledger.totals (λ k lt. none_there k lt));
    }
  where
    no_end : (at : ℕ) (d : Seat) → at < length table.seats.items → idle_cause clock (get_or table.seats.items at d).session ≡ None
    no_end at d below = no_cause clock (get_or table.seats.items at d).session (seat_counts (has_expired clock) table.seats.items at d below none)

    none_there : (k : ℕ) → k < length table.seats.items → cause_at (idle_cause clock) table.seats.items k ≡ None
    none_there k lt =
        let d = some_item table.seats.items k lt in
        let x = get_or table.seats.items k d in
        cause_here (idle_cause clock) table.seats.items k x lt (sym (get_or_default table.seats.items k x d lt))
        ∙ ap (λ (c : Option EndCause). cause_if c x.session) (no_end k d lt) ∙ cause_none x.session
