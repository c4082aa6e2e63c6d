use Rattle.std.proofs.Common.{◌≡◌, ◌∙◌, ◌∷◌, [], ◌+◌, ◌<◌, ℕ, List, ap, sym, subst, arith, length}
use Rattle.std.proofs.lemmas.List.{length-append}
use Rattle.srt_mailbox.specs.Places.{arrived}
use Rattle.srt_mailbox.specs.declared.accounts.Account.{Account}
use Rattle.srt_serve.specs.Settled.{AreLastShown}
use Rattle.srt_serve.proofs.Looks.{last_shown_more}
use Rattle.srt_serve.proofs.Settlings.{ends_left, some_given, joined_first, one_settled, all_settled}
use Rattle.srt_serve.proofs.settling.settle_routes.Goals as goal
use Rattle.srt_serve.proofs.settling.settle_routes.Goals.{in_default-via-in-Some+in_default, in_default-via-in_default}

pub unreachable-requires : goal.unreachable-requires
unreachable-requires g c =
    let below : c.loop-r.r < length (arrived c.args.routes.now) = omega (arith, c.loop-r-test.true, c.routes-r-end.ensures) in
    let left = ends_left (arrived c.args.routes.now) c.loop-r.r _ _ below c.loop-r.invariant.joined in
    elim c.in_default.branch [
      | in_default-via-in-Some+in_default w ↦
          some_given _ _ _ c.loop-r.clocks.rest.ok.0 c.next-in-loop-r.ensures.variant w.in_default.is-1 left.1
      | in_default-via-in_default w ↦ some_given _ _ _ c.loop-r.ends.rest.ok.0 c.next.ensures.variant w.in_default.is-0 left.0
    ]

pub close_out-requires : goal.close_out-requires
close_out-requires g c =
    (joined_first (arrived c.args.routes.now) c.loop-r.r _ _ _ _ _ c.in-Some-Some.end c.in-Some-Some.clock c.seat.ensures
    c.in-Some-Some.ensures.items c.in-Some-Some.ensures'.items c.loop-r.invariant.joined).0

pub loop-r-preserved : goal.loop-r-preserved
loop-r-preserved g c =
    let ends = c.in-Some-Some.ensures.items in
    let clocks = c.in-Some-Some.ensures'.items in
    record {
      joined =
          (joined_first (arrived c.args.routes.now) c.loop-r.r _ _ _ _ _ c.in-Some-Some.end c.in-Some-Some.clock c.seat.ensures
          ends clocks c.loop-r.invariant.joined).1;
      many = omega (arith, c.loop-r.invariant.many, ap length c.in-Ok.ensures.items, length-append c.loop-r.accounts.items (c.in_ok-account.account ∷ []));
      room = omega (arith, c.loop-r.invariant.room, c.push.ensures.capacity);
      looks = c.in_ok-account.ensures.settled.1.3.1 ∙ c.loop-r.invariant.looks;
      shown = λ looks.
          let closed = c.in_ok-account.ensures.settled in
          let first : c.loop-r.r ≡ 0 + length c.loop-r.accounts.items = omega (arith, c.loop-r.invariant.many) in
          subst (λ (done : List Account). AreLastShown g.T.Watch.shown 0 done) (sym c.in-Ok.ensures.items)
          (last_shown_more g.T.Watch.shown 0 c.loop-r.accounts.items c.in_ok-account.account (record {
            route = closed.1.0;
            terms = closed.0.route.terms;
            own = closed.0.route.index;
            taken = closed.0.route.inbox.taken;
            stands_for = closed.1.2.0;
            taken_is = closed.0.account.taken_is;
            shown_is = subst (λ (n : ℕ). g.T.Watch.shown n closed.1.0) first (closed.1.3.2 (c.loop-r.invariant.looks ∙ looks));
          }) (c.loop-r.invariant.shown looks));
      settled = one_settled (arrived c.args.routes.now) c.loop-r.r _ c.loop-r.accounts.items _ _ _ _ _ _ _ c.in_ok-account.account c.in-Some-Some.end
          c.in-Some-Some.clock c.seat.ensures ends clocks c.in-Ok.ensures.items c.in_ok-account.ensures.settled.0 c.loop-r.invariant.settled;
    }

pub returns-clause-settled : goal.returns-clause-settled
returns-clause-settled g c =
    all_settled (arrived c.args.routes.now) c.loop-r.r _ _ _ _ _ (omega (arith, c.loop-r-test.false, c.routes-r-end.ensures))
    c.loop-r.invariant.joined c.loop-r.invariant.settled
