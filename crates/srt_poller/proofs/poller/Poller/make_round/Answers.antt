use Rattle.std.proofs.Common.{◌≡◌, ◌∙◌, ◌||◌, ◌==◌, ◌%◌, Bool, ℕ, suc, refl, sym, subst, inr, length, arith}
use Rattle.srt_poller.specs.Devices.{heard}
use Rattle.srt_poller.specs.History.{Sending}
use Rattle.srt_poller.specs.Pollers.{sorting, named_in, round_state}
use Rattle.srt_poller.specs.inside.Visits.{IsNoted}
use Rattle.srt_poller.specs.inside.Served.{IsServed}
use Rattle.srt_poller.proofs.ReadCounts.{served_as, attended}
use Rattle.srt_poller.proofs.Steps.{went_then, went_as, went_more, up_to_over}
use Rattle.srt_poller.proofs.poller.Poller.make_round.Goals as goal

pub drain-requires : goal.drain-requires
drain-requires g c =
    attended c.listen.result c.resend.new.self.report.read c.listen.new.self.report.read c.listen.ensures.failed c.serve_inline.ensures

pub returns-clause-made : goal.returns-clause-made
returns-clause-made g c schedules round =
    let class = sorting c.args.context.now.lobby.secret.now in
    let names = named_in c.args.context.now.lobby in
    let source = heard (g.S.Source.gave c.args.source.now) (g.S.Source.calls c.args.source.now) in
    let heard_then = heard (g.S.Source.gave c.listen.new.source) (g.S.Source.calls c.listen.new.source) in
    let resent = c.resend.ensures.went c.args.ends.now class schedules (round_state names round c.args.latest.now.moment) source in
    let listened = c.listen.ensures.went schedules round in
    let drained = c.drain.ensures.went class schedules (round_state names (suc round) c.listen.new.latest.moment) (Sending 0 0) heard_then
    (0, 0, refl, inr (refl, omega arith)) in (
      drained.0,
      up_to_over drained.1,
      went_more (omega (arith, c.listen.auto.ends)) (omega arith) (went_as (omega arith) (went_then (went_then resent listened) drained.2)),
    )

pub returns-clause-visited : goal.returns-clause-visited
returns-clause-visited g c none = omega (arith, c.drain.ensures.visited none, c.listen.auto.ends)

pub returns-clause-checked : goal.returns-clause-checked
returns-clause-checked g c =
    subst (λ (left : Bool). c.drain.result.all ≡ (left || (c.args.context.now.round % 64 == 0)))
    (c.listen.ensures.left ∙ c.resend.ensures.left) c.drain.ensures.checked

pub returns-clause-left : goal.returns-clause-left
returns-clause-left g c =
    let later = λ (routes : ℕ). IsNoted routes c.args.self.now.left c.drain.new.self.kept c.drain.result c.drain.new.self.left in
    subst later c.listen.auto.ends
    (subst (λ (left : Bool). IsNoted (length c.listen.new.ends) left c.drain.new.self.kept c.drain.result c.drain.new.self.left)
    (c.listen.ensures.left ∙ c.resend.ensures.left) c.drain.ensures.left)

pub returns-clause-served : goal.returns-clause-served
returns-clause-served g c =
    let served = g.G.InlineService.served c.args.context.now.signals.now in
    let fault = (g.G.PollerObserver.knows c.args.context.now.signals.now).fault in
    let last = c.drain.new.self.report.read in
    let resent = c.resend.new.self.report.read in
    let then : IsServed served fault resent last =
    subst (λ (n : ℕ). IsServed served fault resent n) (sym c.drain.ensures.read)
    (served_as c.listen.result resent c.listen.new.self.report.read c.listen.ensures.number c.listen.ensures.failed c.serve_inline.ensures) in
    subst (λ (n : ℕ). IsServed served fault n last) c.resend.ensures.read then
