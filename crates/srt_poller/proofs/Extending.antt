-- What a poller did, stated of longer lists: as if routes added later had been there, hidden, from the beginning on.
use Rattle.std.proofs.Common.{◌≡◌, ◌∙◌, ◌⊎◌, inl, inr, sym, ap, subst, ℕ, ◌+◌, ◌-◌, ◌*◌, ◌<◌, ◌≤◌, List, ◌++◌, length, slice_index_or, arith}
use Rattle.std.proofs.lemmas.Bool.{cases_lt}
use Rattle.std.proofs.Math.Nat.{mul-le-mul_left}
use Rattle.std.proofs.lemmas.List.{length-append, get_or_append_left, get_or-append-add}
use Rattle.srt_types.specs.declared.shared.Schedule.{Schedule}
use Rattle.srt_lobby.specs.Names.{RouteName}
use Rattle.srt_poller.specs.declared.ends.Ends.{Ends}
use Rattle.srt_poller.specs.History.{Event, State, Phase, IsOver, accepted, drained}
use Rattle.srt_poller.specs.Rounds.{World, world, IsLater, AreLater, WentClosing}
use Rattle.srt_poller.specs.Pollers.{Rounds}
use Rattle.srt_poller.specs.Beforehand.{AgreeBefore, AreIgnored, with_more}
use Rattle.srt_poller.specs.Starts.{RoundStart}
use Rattle.srt_poller.specs.Told.{Setting}
use Rattle.srt_poller.proofs.Starting.{starts_more}
use Rattle.srt_poller.proofs.Beforehand.{earlier_rounds_are_same, earlier_starts_are_same}
use Rattle.srt_poller.proofs.Steps.{later_none, went_more}

-- the same, with these further routes
abbrev pub extended : (more : List RouteName) → (ends : List Ends) → World → World
extended more ends w = world w.source w.wire (w.ends ++ ends) (with_more more w.state) w.report

-- the ends of further routes stay as they are
pub are_later_more : (events : List Event) (x y more : List Ends) → AreLater events x y → AreLater events (x ++ more) (y ++ more)
are_later_more events x y more h = record {
  as_many = let a = h.as_many in omega (arith, a, length-append x more, length-append y more);
  each = λ r e below. by r e (cases_lt r (length x));
  others = λ r past. h.others r (omega (arith, past, length-append x more));
}
  where
    beyond : (r n : ℕ) (e : Ends) → r ≡ length x + n →
        IsLater (accepted r events) (drained r events) (slice_index_or (x ++ more) r e) (slice_index_or (y ++ more) r e)
    beyond r n e at =
        let none = h.others r (omega (arith, at)) in
        let as_many : r ≡ length y + n = omega (arith, at, h.as_many) in
        rw (
          none.0,
          none.1,
          ap (λ k. slice_index_or (x ++ more) k e) at ∙ get_or-append-add x more n e,
          ap (λ k. slice_index_or (y ++ more) k e) as_many ∙ get_or-append-add y more n e,
        ) (later_none (slice_index_or more n e))

    by : (r : ℕ) (e : Ends) → (r < length x) ⊎ (length x ≤ r) →
        IsLater (accepted r events) (drained r events) (slice_index_or (x ++ more) r e) (slice_index_or (y ++ more) r e)
    by r e (inl within) =
        let there : r < length y = omega (arith, within, h.as_many) in
        rw (get_or_append_left x more e r within, get_or_append_left y more e r there) (h.each r e within)
    by r e (inr past) = beyond r (r - length x) e (omega (arith, past))

module _ (setting : Setting) (limit : ℕ) (schedules later : List Schedule) (more : List RouteName) (ends : List Ends)
    (agree : AgreeBefore limit schedules later more) (ignores : AreIgnored setting.class more) where
  went_extended : {closing most waits reads : ℕ} {starts : List RoundStart} (x y : World) → length schedules ≡ length x.state.names → IsOver y.state.phase →
      y.state.round ≤ limit → WentClosing setting schedules closing starts most waits reads x y →
      WentClosing setting later closing (starts_more more starts) most waits reads (extended more ends x) (extended more ends y)
  went_extended x y many over early went =
      let events = went.0 in
      let h = went.1 in
      let ended = subst (λ (s : State). IsOver s.phase) h.state over in
      let last = subst (λ (s : State). s.round ≤ limit) h.state early in
      let same = earlier_rounds_are_same setting.class limit schedules later more agree ignores events x.state many h.follow ended last in
      let starts_are = earlier_starts_are_same setting.class limit schedules later more agree ignores events x.state many h.follow ended last in (
        events,
        record {
          follow = same.0;
          gave = h.gave;
          called = h.called;
          handed = h.handed;
          attempted = h.attempted;
          ends = are_later_more events x.ends y.ends ends h.ends;
          state = ap (with_more more) h.state ∙ sym same.1;
          report = h.report;
          told = h.told;
          closed = h.closed;
          started = starts_are ∙ ap (starts_more more) h.started;
          few = h.few;
          waited = h.waited;
          was_read = h.was_read;
        },
      )

  -- rounds that were made, all of them before the limit
  pub rounds_extended : {goes closes : Type 0} (starts : List RoundStart) (made routes many : ℕ) (old new : Phase → World)
      → ((phase : Phase) → length schedules ≡ length (old phase).state.names)
      → ((phase : Phase) → (new phase).state.phase ≡ phase) → ((phase : Phase) → (new phase).state.round ≤ limit)
      → routes ≤ many → Rounds goes closes setting schedules starts made routes old new
      → Rounds goes closes setting later (starts_more more starts) made many (λ phase. extended more ends (old phase)) (λ phase. extended more ends (new phase))
  rounds_extended starts made routes many old new known is early few sofar phase over =
      let b = sofar phase over in (
        b.0,
        b.1,
        b.2,
        b.3,
        b.4,
        went_more (mul-le-mul_left made (let fits : 259 + 64 * routes ≤ 259 + 64 * many = omega (arith, few) in fits)) (omega arith)
            (went_extended (old phase) (new b.0) (known phase) (subst IsOver (sym (is b.0)) b.1) (early b.0) b.5),
      )
