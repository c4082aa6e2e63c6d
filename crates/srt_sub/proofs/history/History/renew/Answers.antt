use Rattle.std.proofs.Common.{◌≡◌, ◌-◌, ◌<◌, ◌≤◌, Bool, true, false, List, refl, sym, subst, arith}
use Rattle.srt_sub.specs.Subscribing.{Note, may_resend, renewed_notes, last_media}
use Rattle.srt_sub.specs.Stands.{IsHistory}
use Rattle.srt_sub.proofs.Credits.{renewal_early, renewal_enough, renewal_now}
use Rattle.srt_sub.proofs.history.History.renew.Goals as goal

pub returns-then-saturating_sub-lt-RENEWAL_AFTER_US : goal.returns-then-saturating_sub-lt-RENEWAL_AFTER_US
returns-then-saturating_sub-lt-RENEWAL_AFTER_US c initial agreed notes h =
    let early : c.args.time - last_media notes < 20_000 = omega (arith, c.saturating_sub.ensures, h.media_is, c.if-saturating_sub-lt-RENEWAL_AFTER_US.true) in
    subst (λ (ns : List Note). IsHistory initial agreed c.args.self.now ns) (sym (renewal_early agreed.resend_percent c.args.time notes early)) h

pub returns : goal.returns
returns c initial agreed notes h = by (may_resend agreed.resend_percent notes) refl
  where
    late : 20_000 ≤ c.args.time - last_media notes
    late = omega (arith, c.saturating_sub.ensures, h.media_is, c.if-saturating_sub-lt-RENEWAL_AFTER_US.false)

    by : (b : Bool) → may_resend agreed.resend_percent notes ≡ b
        → IsHistory initial agreed (record c.args.self.now { credit = c.renew.new.self }) (renewed_notes agreed.resend_percent c.args.time notes)
    by true m =
        subst (λ (ns : List Note). IsHistory initial agreed (record c.args.self.now { credit = c.renew.new.self }) ns)
        (sym (renewal_enough agreed.resend_percent c.args.time notes m))
        (record {
          window_is = h.window_is;
          round_trip_is = h.round_trip_is;
          sent_is = h.sent_is;
          media_is = h.media_is;
          growth_is = h.growth_is;
          missed_is = h.missed_is;
          sendings_are = h.sendings_are;
          tries_are = h.tries_are;
          once = h.once;
          credit_is = c.renew.ensures.none agreed.resend_percent notes m h.credit_is;
        })
    by false m =
        subst (λ (ns : List Note). IsHistory initial agreed (record c.args.self.now { credit = c.renew.new.self }) ns)
        (sym (renewal_now agreed.resend_percent c.args.time notes m late))
        (record {
          window_is = h.window_is;
          round_trip_is = h.round_trip_is;
          sent_is = h.sent_is;
          media_is = h.media_is;
          growth_is = h.growth_is;
          missed_is = h.missed_is;
          sendings_are = h.sendings_are;
          tries_are = h.tries_are;
          once = h.once;
          credit_is = c.renew.ensures.some agreed.resend_percent notes c.args.time m h.credit_is;
        })
