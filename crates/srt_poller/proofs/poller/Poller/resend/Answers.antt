use Rattle.std.proofs.Common.{refl, ◌∙◌, ◌≡◌, ap, subst, inl, inr, false, Option, None, Some, take}
use Rattle.std.specs.Option.{is_some}
use Rattle.std.specs.Prelude.{option_map}
use Rattle.srt_poller.specs.declared.poller.KeptReply.{KeptReply}
use Rattle.srt_poller.specs.Devices.{carried, joined}
use Rattle.srt_poller.specs.History.{Resends, Kept, Phase, Begun, state, FromRoute, from, kept, kept_if}
use Rattle.srt_poller.specs.Pollers.{kept_in, begun_phase, world_of}
use Rattle.srt_poller.specs.Rounds.{Went}
use Rattle.srt_poller.specs.Told.{setting_of}
use Rattle.srt_supervision.specs.declared.report.Report.{Report}
use Rattle.srt_poller.proofs.ReadCounts.{reply_reads_none}
use Rattle.srt_poller.proofs.Steps.{sent_as, unheard, are_later_none, went_none, went_one}
use Rattle.srt_poller.proofs.poller.Poller.resend.Goals as goal

pub returns-in-Taken-clause-went : goal.returns-in-Taken-clause-went
returns-in-Taken-clause-went g c ends class schedules t source =
    let k = kept c.in-Some.kept.route (record { peer = c.in-Some.kept.peer; bytes = take c.in-Some.kept.len c.args.self.now.reply_bytes }) in
    let gone : None ≡ kept_if c.send-sent.result k = elim c.in-Taken.is [ inl e ↦ rw e refl | inr e ↦ rw e refl ] in
    let here = ap (option_map (λ (x : KeptReply). kept x.route (record { peer = x.peer; bytes = take x.len c.args.self.now.reply_bytes }))) c.in-Some.is in
    went_one _ schedules (Resends k.route k.reply c.send-sent.result) _ _ (ap (λ (o : Option Kept). Begun (is_some o)) here, here)
    (unheard _ _ _ _ refl refl
    (c.send-sent.ensures.records
    ∙ ap (joined (g.W.Wire.handed c.args.wire.now)) (sent_as c.send-sent.result (from (FromRoute k.route) k.reply)))
    c.send-sent.ensures.attempted)
    (are_later_none _ _ (λ r. refl) (λ r. refl)) (ap (λ (o : Option Kept). state t.names o t.round (Begun false) t.latest) gone)
    c.count_reply.ensures c.report_failure.ensures

pub returns-in-Later-clause-went : goal.returns-in-Later-clause-went
returns-in-Later-clause-went g c ends class schedules t source =
    let k = kept c.in-Some.kept.route (record { peer = c.in-Some.kept.peer; bytes = take c.in-Some.kept.len c.args.self.now.reply_bytes }) in
    let here = ap (option_map (λ (x : KeptReply). kept x.route (record { peer = x.peer; bytes = take x.len c.args.self.now.reply_bytes }))) c.in-Some.is in
    let there : Some k ≡ kept_if c.send-sent.result k = rw c.in-Later.is refl in
    went_one _ schedules (Resends k.route k.reply c.send-sent.result) _ _ (ap (λ (o : Option Kept). Begun (is_some o)) here, here)
    (unheard _ _ _ _ refl refl
    (c.send-sent.ensures.records
    ∙ ap (joined (g.W.Wire.handed c.args.wire.now)) (sent_as c.send-sent.result (from (FromRoute k.route) k.reply)))
    c.send-sent.ensures.attempted)
    (are_later_none _ _ (λ r. refl) (λ r. refl)) (ap (λ (o : Option Kept). state t.names o t.round (Begun false) t.latest) (here ∙ there))
    c.count_reply.ensures c.report_failure.ensures

pub returns-in_default-clause-went : goal.returns-in_default-clause-went
returns-in_default-clause-went g c ends class schedules t source =
    let wire = carried (g.W.Wire.handed c.args.wire.now) (g.W.Wire.attempts c.args.wire.now) in
    let none : kept_in c.args.self.now ≡ None =
    ap (option_map (λ (x : KeptReply). kept x.route (record { peer = x.peer; bytes = take x.len c.args.self.now.reply_bytes }))) c.in_default.is in
    let setting = setting_of class (g.G.PollerObserver.knows c.args.signals.now) in
    subst (λ (phase : Phase). Went setting schedules 1 0 0 (world_of source wire ends t (begun_phase c.args.self.now) c.args.self.now)
    (world_of source wire ends t phase c.args.self.now))
    (ap (λ (o : Option Kept). Begun (is_some o)) none) (went_none _ schedules 1 _)

pub returns-in-Taken-clause-read : goal.returns-in-Taken-clause-read
returns-in-Taken-clause-read g c = ap (λ (n : Report). n.read) c.count_reply.ensures ∙ reply_reads_none _ c.send-sent.result

pub returns-in-Later-clause-read : goal.returns-in-Later-clause-read
returns-in-Later-clause-read g c = ap (λ (n : Report). n.read) c.count_reply.ensures ∙ reply_reads_none _ c.send-sent.result
