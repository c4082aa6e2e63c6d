use Rattle.std.proofs.Common.{arith, refl, sym, ◌∙◌, ◌≡◌, ℕ, List, Option, Some, ap, inl, inr, None, take}
use Rattle.std.specs.Prelude.{option_map}
use Rattle.srt_types.specs.Items.{Datagram}
use Rattle.srt_route.specs.Written.{written}
use Rattle.srt_mailbox.specs.Ends.{Drained as DrainEnd}
use Rattle.srt_poller.specs.declared.poller.KeptReply.{KeptReply}
use Rattle.srt_poller.specs.Devices.{joined}
use Rattle.srt_poller.specs.History.{Sends, Kept, FromRoute, from, kept, kept_if, sent_on, state}
use Rattle.srt_supervision.specs.declared.report.Report.{Report}
use Rattle.srt_poller.proofs.ReadCounts.{reply_reads_none}
use Rattle.srt_poller.proofs.Steps.{sent_as, unheard, up_to_more, up_to_sends, up_to_sent, went_none, went_one, unchanged_here, drained_now, sent_here}
use Rattle.srt_poller.proofs.Steps.{one_more_here, empty_here}
use Rattle.srt_poller.proofs.poller.Poller.drain_one.Goals as goal

pub returns-in-Err-clause-went : goal.returns-in-Err-clause-went
returns-in-Err-clause-went g c sends below class schedules t phase source up = (
  phase,
  up_to_more (omega arith) (λ same. omega arith) up,
  rw (unchanged_here c.args.ends.now c.args.route _ c.take.new.self c.in-Err.ensures.none.0) (went_none _ schedules 1 _),
)

pub returns-in-Err-clause-taken : goal.returns-in-Err-clause-taken
returns-in-Err-clause-taken g c e =
    let h = empty_here c.args.route c.args.ends.now _ e c.take.new.self c.in-Err.empty c.requires.route c.in-Err.ensures.none.0 c.in-Err.ensures.evidence in
    (h.0, h.1, h.2)

pub returns-in-Taken : goal.returns-in-Taken
returns-in-Taken g c = record {
  went = λ sends below class schedules t phase source up.
      let reply : Datagram = record { peer = c.reply-reply.result.now.peer; bytes = c.bytes-bytes.result.now } in
      let here : written c.take.new.self.hand ≡ reply =
      ap written (sym (c.reply-reply.ensures ∙ ap (λ (d : DrainEnd). d.hand) c.take_buffer.ensures))
      ∙ ap (λ (bytes : List ℕ). record { peer = c.reply-reply.result.now.peer; bytes = bytes }) (sym c.bytes-bytes.ensures.value) in
      let gone : None ≡ kept_if c.send-sent.result (kept c.args.route reply) = elim c.in-Taken.is [ inl e ↦ rw e refl | inr e ↦ rw e refl ] in (
        sent_on c.args.route phase,
        up_to_sent up,
        went_one _ schedules (Sends c.args.route reply c.send-sent.result) _ _ (
          up_to_sends below up,
          ap (option_map (λ (k : KeptReply). kept k.route (record { peer = k.peer; bytes = take k.len c.args.self.now.reply_bytes })))
              c.requires.kept,
        )
            (unheard _ _ _ _ refl refl
            (c.send-sent.ensures.records
            ∙ ap (joined (g.W.Wire.handed c.args.wire.now)) (sent_as c.send-sent.result (from (FromRoute c.args.route) reply)))
            c.send-sent.ensures.attempted)
            (sent_here c.args.route reply c.send-sent.result c.args.ends.now _ _ c.requires.route
            (drained_now reply c.take.new.self.hand _ c.take_buffer.new.self (c.take_buffer.ensures ∙ c.in-Ok.ensures.some) here))
            (ap (λ (o : Option Kept). state t.names o t.round (sent_on c.args.route phase) t.latest)
            (ap (option_map (λ (k : KeptReply). kept k.route (record { peer = k.peer; bytes = take k.len c.args.self.now.reply_bytes })))
            c.requires.kept
            ∙ gone))
            c.count_reply.ensures (c.report_handshake.ensures, c.report_failure.ensures),
      );
  kept = c.requires.kept;
  taken = λ e.
      one_more_here c.args.route c.args.ends.now _ e c.take.new.self.hand c.take.new.self.hand c.take_buffer.new.self c.requires.route
      (c.take_buffer.ensures ∙ c.in-Ok.ensures.some);
  read = ap (λ (n : Report). n.read) c.count_reply.ensures ∙ reply_reads_none _ c.send-sent.result;
}

pub returns-in-Later-clause-went : goal.returns-in-Later-clause-went
returns-in-Later-clause-went g c sends below class schedules t phase source up =
    let reply : Datagram = record { peer = c.reply-reply.result.now.peer; bytes = c.bytes-bytes.result.now } in
    let here : written c.take.new.self.hand ≡ reply =
    ap written (sym (c.reply-reply.ensures ∙ ap (λ (d : DrainEnd). d.hand) c.take_buffer.ensures))
    ∙ ap (λ (bytes : List ℕ). record { peer = c.reply-reply.result.now.peer; bytes = bytes }) (sym c.bytes-bytes.ensures.value) in
    let copied : take c.copy_to-len.result c.copy_to-len.new.out ≡ c.bytes-bytes.result.now = c.copy_to-len.ensures.written ∙ sym c.bytes-bytes.ensures.value in
    let there : Some (kept c.args.route reply) ≡ kept_if c.send-sent.result (kept c.args.route reply) = rw c.in-Later.is refl in (
      sent_on c.args.route phase,
      up_to_sent up,
      went_one _ schedules (Sends c.args.route reply c.send-sent.result) _ _ (
        up_to_sends below up,
        ap (option_map (λ (k : KeptReply). kept k.route (record { peer = k.peer; bytes = take k.len c.args.self.now.reply_bytes })))
            c.requires.kept,
      )
          (unheard _ _ _ _ refl refl
          (c.send-sent.ensures.records
          ∙ ap (joined (g.W.Wire.handed c.args.wire.now)) (sent_as c.send-sent.result (from (FromRoute c.args.route) reply)))
          c.send-sent.ensures.attempted)
          (sent_here c.args.route reply c.send-sent.result c.args.ends.now _ _ c.requires.route
          (drained_now reply c.take.new.self.hand _ c.take_buffer.new.self (c.take_buffer.ensures ∙ c.in-Ok.ensures.some) here))
          (ap (λ (o : Option Kept). state t.names o t.round (sent_on c.args.route phase) t.latest)
          (ap (λ (bytes : List ℕ). Some (kept c.args.route (record { peer = c.reply-reply.result.now.peer; bytes = bytes }))) copied
          ∙ there))
          c.count_reply.ensures (c.report_handshake.ensures, c.report_failure.ensures),
    )

pub returns-in-Later-clause-read : goal.returns-in-Later-clause-read
returns-in-Later-clause-read g c = ap (λ (n : Report). n.read) c.count_reply.ensures ∙ reply_reads_none _ c.send-sent.result
