use Rattle.srt_pub.proofs.session.Publisher.keep_alive.Goals as goal
use Rattle.std.proofs.Common.{◌≡◌, ℕ, List, [], ◌∷◌, map, ap, sym, subst, ◌∙◌}
use Rattle.srt_pub.specs.Publishing.{Report, KeepAlive, noted}
use Rattle.srt_pub.specs.Says.{says}
use Rattle.srt_pub.specs.Calls.{keep_alive_after}
use Rattle.srt_pub.specs.Stands.{StandsFor}
use Rattle.srt_pub.specs.Counting.{delivered_in}
use Rattle.srt_pub.proofs.Bytes.{keep_alive_bytes}
use Rattle.srt_pub.proofs.Counting.{counts_alive}
use Rattle.srt_pub.proofs.Sendings.{alive_is, alive_not}

pub returns-then-keep_alive_due-clause-stands : goal.returns-then-keep_alive_due-clause-stands
returns-then-keep_alive_due-clause-stands c terms initial opening stamp caller m h =
    let e : keep_alive_after c.args.ack c.args.nak c.args.time m.notes ≡ KeepAlive ∷ [] = alive_is c.args.ack c.args.nak c.args.time m.notes
    c.if-ack.false c.if-nak.false (sym (c.keep_alive_due.ensures _ _ _ _ m.notes h.log) ∙ c.if-keep_alive_due.true) in
    subst
    (λ (rs : List Report). StandsFor terms initial opening stamp caller (record c.args.self.now { log = c.keep_alive.new.self })
    (record m { notes = noted c.args.time rs m.notes }))
    (sym e)
    (record {
      agreed = h.agreed;
      buffer = h.buffer;
      log = c.keep_alive.ensures _ _ _ _ m.notes h.log;
      orderly = h.orderly;
      seen = h.seen;
      narrow = h.narrow;
      counts =
          counts_alive c.args.self.now.counts m.receiving.arrivals (delivered_in m.receiving) m.receiving.front c.args.time m.notes h.counts;
    })

pub returns-then-keep_alive_due-clause-bytes : goal.returns-then-keep_alive_due-clause-bytes
returns-then-keep_alive_due-clause-bytes c terms initial opening stamp caller m h =
    let e : keep_alive_after c.args.ack c.args.nak c.args.time m.notes ≡ KeepAlive ∷ [] = alive_is c.args.ack c.args.nak c.args.time m.notes
    c.if-ack.false c.if-nak.false (sym (c.keep_alive_due.ensures _ _ _ _ m.notes h.log) ∙ c.if-keep_alive_due.true) in
    ap (λ (x : List ℕ). x ∷ []) (c.encode.ensures.bytes caller h.agreed.caller_is ∙ keep_alive_bytes caller initial c.args.time)
    ∙ sym (ap (map (says caller initial c.args.time)) e)

pub returns-clause-stands : goal.returns-clause-stands
returns-clause-stands c terms initial opening stamp caller m h =
    let e = alive_not c.args.ack c.args.nak c.args.time m.notes c.if-ack.false c.if-nak.false
    (sym (c.keep_alive_due.ensures _ _ _ _ m.notes h.log) ∙ c.if-keep_alive_due.false) in
    subst (λ (rs : List Report). StandsFor terms initial opening stamp caller c.args.self.now (record m { notes = noted c.args.time rs m.notes })) (sym e) h
