use Rattle.std.proofs.Common.{◌≡◌, ◌∙◌, ℕ, ◌+◌, suc, refl, ap, subst, arith}
use Rattle.srt_supervision.specs.declared.report.Report.{Report}
use Rattle.srt_poller.specs.Devices.{Heard, heard, carried}
use Rattle.srt_poller.specs.History.{Phase, Reading, reading, ReadsNothing, ReadFails}
use Rattle.srt_poller.specs.Pollers.{setting_in, named_in, round_state, world_of}
use Rattle.srt_poller.specs.Rounds.{World, Went}
use Rattle.srt_poller.specs.Reports.{one_more}
use Rattle.srt_poller.specs.inside.Served.{more_by}
use Rattle.srt_poller.proofs.Steps.{are_later_none, unsent, heard_as, reading_below, went_one, went_then, went_more}
use Rattle.srt_poller.proofs.poller.Poller.listen.Goals as goal

pub returns-then-not-wait-clause-went : goal.returns-then-not-wait-clause-went
returns-then-not-wait-clause-went g c schedules round =
    went_more {n = 257} (omega arith) (omega arith) (c.wait.ensures.failed c.if-not-wait.true _ schedules _ round _ _ _)

pub loop-reads-init : goal.loop-reads-init
loop-reads-init g c = (
  λ schedules round. c.wait.ensures.ready c.if-not-wait.false _ schedules _ round _ _ _,
  c.wait.ensures.read,
  c.wait.ensures.left,
)

pub returns-then-not-wait-clause-failed : goal.returns-then-not-wait-clause-failed
returns-then-not-wait-clause-failed g c = (c.wait.ensures.read, c.wait.ensures.reported c.if-not-wait.true)

pub loop-reads-preserved : goal.loop-reads-preserved
loop-reads-preserved g c =
    let names = named_in c.args.context.now.lobby in
    let reads = c.loop-reads.reads in
    let wire = carried (g.W.Wire.handed c.loop-reads.wire) (g.W.Wire.attempts c.loop-reads.wire) in
    let source = heard (g.S.Source.gave c.loop-reads.source) (g.S.Source.calls c.loop-reads.source) in
    let before : (round : ℕ) → Phase → World = λ round phase. world_of source wire c.loop-reads.ends
    (round_state names (suc round) c.loop-reads.latest.moment) phase c.loop-reads.self in
    let after : (round : ℕ) → Heard → World = λ round s.
    world_of s (carried (g.W.Wire.handed c.arrive.new.wire) (g.W.Wire.attempts c.arrive.new.wire)) c.arrive.new.ends
    (round_state names (suc round) c.see.new.self.moment) (reading (reads + 1)) c.arrive.new.self in
    let setting = setting_in c.args.context.now.lobby (g.G.PollerObserver.knows c.args.context.now.signals.now) in
    let count : suc reads ≡ reads + 1 = omega arith in (
      λ schedules round. went_then (rw (reading_below reads (omega arith)) at (c.loop-reads.invariant.0 schedules round))
          (subst (λ (s : Heard). Went setting schedules 1 0 1 (before round (Reading reads)) (after round s))
          (heard_as source _ _ _ _ c.in-Datagram.ensures.records c.in-Datagram.ensures.called)
          (rw c.see.ensures (c.arrive.ensures.went schedules (suc round) c.loop-reads.latest.moment reads source))),
      subst (λ (n : ℕ). c.arrive.new.self.report.read ≡ more_by n c.args.self.now.report.read) count
          (c.arrive.ensures.read ∙ ap one_more c.loop-reads.invariant.1),
      c.arrive.ensures.left ∙ c.loop-reads.invariant.2,
    )

pub returns-in-Empty-clause-went : goal.returns-in-Empty-clause-went
returns-in-Empty-clause-went g c schedules round =
    let reads = c.loop-reads.reads in
    went_more {n = 257} (omega arith) (omega arith) (went_then (rw (reading_below reads (omega arith)) at (c.loop-reads.invariant.0 schedules round))
    (went_one _ schedules ReadsNothing _ _ tt (unsent _ _ _ _ refl refl c.in-Empty.ensures.records c.in-Empty.ensures.called)
    (are_later_none _ _ (λ r. refl) (λ r. refl)) refl refl tt))

pub returns-in-Failed-clause-went : goal.returns-in-Failed-clause-went
returns-in-Failed-clause-went g c schedules round =
    let reads = c.loop-reads.reads in
    went_more {n = 257} (omega arith) (omega arith) (went_then (rw (reading_below reads (omega arith)) at (c.loop-reads.invariant.0 schedules round))
    (went_one _ schedules ReadFails _ _ tt (unsent _ _ _ _ refl refl c.in-Failed.ensures.records c.in-Failed.ensures.called)
    (are_later_none _ _ (λ r. refl) (λ r. refl)) refl c.count_fault.ensures c.failed.ensures))

pub returns-clause-went : goal.returns-clause-went
returns-clause-went g c schedules round =
    let all : c.loop-reads.reads ≡ 256 = omega arith in
    went_more {n = 257} (omega arith) (omega arith) (rw all at (c.loop-reads.invariant.0 schedules round))

pub returns-in-Empty-clause-number : goal.returns-in-Empty-clause-number
returns-in-Empty-clause-number g c = (omega (arith, c.loop-reads-test.true), c.loop-reads.invariant.1)

pub returns-in-Failed-clause-number : goal.returns-in-Failed-clause-number
returns-in-Failed-clause-number g c = (
  omega (arith, c.loop-reads-test.true),
  ap (λ (n : Report). n.read) c.count_fault.ensures ∙ c.loop-reads.invariant.1,
)

pub returns-clause-number : goal.returns-clause-number
returns-clause-number g c =
    let all : c.loop-reads.reads ≡ 256 = omega arith in
    (omega arith, rw all at c.loop-reads.invariant.1)
