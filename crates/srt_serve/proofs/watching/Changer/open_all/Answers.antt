use Rattle.std.proofs.Common.{arith, ap, ◌∙◌, [], ◌∷◌, length, map}
use Rattle.std.proofs.lemmas.List.{map-append, length-append}
use Rattle.srt_mailbox.specs.Identities.{identity_in}
use Rattle.srt_serve.proofs.Added.{entry_answered}
use Rattle.srt_serve.proofs.Looks.{indexes_grow}
use Rattle.srt_serve.proofs.Openings.{terms_grow}
use Rattle.srt_serve.proofs.watching.Changer.open_all.Goals as goal

pub seat_route-requires : goal.seat_route-requires
seat_route-requires g c =
    entry_answered g.A.Answers.answered g.A.Beginning.first _ c.args.entries.now c.loop-entry.entry-index c.entry-item.result c.loop-entry-test.true
    c.entry-item.is c.requires

pub loop-entry-preserved : goal.loop-entry-preserved
loop-entry-preserved g c = record {
  terms =
      terms_grow c.args.entries.now c.loop-entry.entry-index c.entry-item.result _ _ (identity_in c.in-Ok.seat.cell) c.loop-entry-test.true c.entry-item.is
      c.in-Ok.ensures.seated.0
      (ap (λ seats. map (λ s. identity_in s.cell) seats) c.in-Ok-keep_seat.ensures.kept
      ∙ map-append (λ s. identity_in s.cell) c.loop-entry.seats.items (c.in-Ok.seat ∷ []))
      c.loop-entry.invariant.terms;
  many = omega (arith, c.loop-entry.invariant.many, ap length c.in-Ok-keep_seat.ensures.kept, length-append c.loop-entry.seats.items (c.in-Ok.seat ∷ []));
  indexes =
      indexes_grow (λ s. (identity_in s.cell).index) c.args.self.now.routes c.loop-entry.entry-index c.loop-entry.seats.items _ c.in-Ok.seat
      c.in-Ok-keep_seat.ensures.kept c.loop-entry.invariant.many
      (omega (arith, c.in-Ok.ensures.seated.1, c.len-at.ensures, c.loop-entry.seats.ok.0, c.loop-entry.invariant.many)) c.loop-entry.invariant.indexes;
}
