use Rattle.std.proofs.Common.{refl, ap}
use Rattle.srt_supervision.specs.declared.report.Report.{Report}
use Rattle.srt_poller.specs.History.{Accepts, Overflows, Refuses}
use Rattle.srt_poller.specs.Pollers.{arrival_in}
use Rattle.srt_poller.proofs.Steps.{unsent, went_one, accepted_now, accepted_here, nothing_here}
use Rattle.srt_poller.proofs.poller.Poller.offer.Goals.{in-Accepted, in-Full, in-Refused}
use Rattle.srt_poller.proofs.poller.Poller.offer.Goals as goal

pub returns-clause-went : goal.returns-clause-went
returns-clause-went g c class names wire is schedules round latest reads source =
    let a = arrival_in c.args.incoming c.args.self.now in
    elim c.match-offer.branch [
      | in-Accepted w ↦
          rw w.self-is (went_one _ schedules (Accepts a c.args.route) _ _ (tt, is) (unsent _ _ _ _ refl refl refl refl)
          (accepted_here a c.args.route c.args.ends.now _ _ c.requires.route
          (accepted_now a _ _ w.in-Accepted.ensures.offered w.in-Accepted.ensures.drain))
          refl w.count_accepted.ensures tt)
      | in-Full w ↦
          rw w.self-is (went_one _ schedules (Overflows a c.args.route) _ _ (tt, is) (unsent _ _ _ _ refl refl refl refl)
          (nothing_here _ c.args.route c.args.ends.now _ _ c.requires.route (λ r. refl) (λ r. refl) w.in-Full.ensures.offered.0
          w.in-Full.ensures.drain)
          refl w.count_full.ensures tt)
      | in-Refused w ↦
          rw w.self-is (went_one _ schedules (Refuses a c.args.route) _ _ (tt, is) (unsent _ _ _ _ refl refl refl refl)
          (nothing_here _ c.args.route c.args.ends.now _ _ c.requires.route (λ r. refl) (λ r. refl) w.in-Refused.ensures.offered.0
          w.in-Refused.ensures.drain)
          refl w.count_refused.ensures tt)
    ]

pub returns-clause-read : goal.returns-clause-read
returns-clause-read g c = elim c.match-offer.branch [
  | in-Accepted w ↦ rw w.self-is (ap (λ (n : Report). n.read) w.count_accepted.ensures)
  | in-Full w ↦ rw w.self-is (ap (λ (n : Report). n.read) w.count_full.ensures)
  | in-Refused w ↦ rw w.self-is (ap (λ (n : Report). n.read) w.count_refused.ensures)
]

pub returns-clause-left : goal.returns-clause-left
returns-clause-left g c = elim c.match-offer.branch [ in-Accepted w ↦ rw w.self-is refl | in-Full w ↦ rw w.self-is refl | in-Refused w ↦ rw w.self-is refl ]
