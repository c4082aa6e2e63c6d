use Rattle.std.proofs.Common.{ℕ, refl, sym, ◌∙◌, ap, arith}
use Rattle.std.proofs.lemmas.List.{length-take}
use Rattle.srt_lobby.proofs.Kept.{inside}
use Rattle.srt_poller.specs.Devices.{joined}
use Rattle.srt_poller.specs.History.{Answers, Drops, FromLobby, from}
use Rattle.srt_poller.specs.Pollers.{named_in, arrival_in}
use Rattle.srt_supervision.specs.declared.report.Report.{Report}
use Rattle.srt_poller.proofs.ReadCounts.{answer_reads_one}
use Rattle.srt_poller.proofs.Steps.{sent_as, unsent, are_later_none, went_one}
use Rattle.srt_poller.proofs.poller.Poller.arrive.Goals as goal

pub offer-requires : goal.offer-requires
offer-requires g c =
    let named = inside _ _ _ _ c.in-Route.route (sym c.classify.ensures.class ∙ c.in-Route.is) in
    let whole = c.classify.ensures.header c.in-Route.route c.in-Route.is in
    record {
      header = omega (arith, whole, length-take {A = ℕ});
      route = omega (arith, named, c.requires);
    }

pub returns-in-Answer-clause-went : goal.returns-in-Answer-clause-went
returns-in-Answer-clause-went g c schedules round latest reads source =
    let a = arrival_in c.args.incoming c.args.self.now in
    went_one _ schedules (Answers a c.in-Answer.answer c.send-sent.result) _ _ (tt, sym c.classify.ensures.class ∙ c.in-Answer.is) (record {
      gave = refl;
      called = refl;
      handed = c.send-sent.ensures.records
          ∙ ap (joined (g.W.Wire.handed c.args.wire.now))
          (sent_as c.send-sent.result (from FromLobby (record { peer = c.args.incoming.peer; bytes = c.in-Answer.answer })));
      attempted = c.send-sent.ensures.attempted;
    })
    (are_later_none _ _ (λ r. refl) (λ r. refl)) refl c.count_answer.ensures (
      (named_in c.args.context.now.lobby, sym c.classify.ensures.class ∙ c.in-Answer.is, c.answered.ensures),
      c.report_failure.ensures,
    )

pub returns-in-Dropped-clause-went : goal.returns-in-Dropped-clause-went
returns-in-Dropped-clause-went g c schedules round latest reads source =
    let a = arrival_in c.args.incoming c.args.self.now in
    went_one _ schedules (Drops a c.in-Dropped.cause) _ _ (tt, sym c.classify.ensures.class ∙ c.in-Dropped.is)
    (unsent _ _ _ _ refl refl refl refl) (are_later_none _ _ (λ r. refl) (λ r. refl)) refl c.count_dropped.ensures tt

pub returns-in-Route-clause-went : goal.returns-in-Route-clause-went
returns-in-Route-clause-went g c schedules round latest gave =
    c.offer.ensures.went _ _ _ (sym c.classify.ensures.class ∙ c.in-Route.is) schedules round latest gave

pub returns-in-Answer-clause-read : goal.returns-in-Answer-clause-read
returns-in-Answer-clause-read g c = ap (λ (n : Report). n.read) c.count_answer.ensures ∙ answer_reads_one _ c.send-sent.result

pub returns-in-Dropped-clause-read : goal.returns-in-Dropped-clause-read
returns-in-Dropped-clause-read g c = ap (λ (n : Report). n.read) c.count_dropped.ensures
