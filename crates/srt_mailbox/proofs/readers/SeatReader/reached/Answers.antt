use Rattle.std.proofs.Common.{◌<◌, length, arith, ap, ◌∙◌, Some}
use Rattle.std.proofs.lemmas.List.{length-map}
use Rattle.std.proofs.lemmas.Option.{get_or_from_slice_get}
use Rattle.srt_mailbox.specs.Identities.{identity_in}
use Rattle.srt_mailbox.specs.Places.{locks_of}
use Rattle.srt_mailbox.specs.declared.seats.Seat.{Seat}
use Rattle.srt_mailbox.proofs.Tokens.{lock_of, shown_at}
use Rattle.srt_mailbox.proofs.readers.SeatReader.reached.Goals as goal

pub agrees-requires : goal.agrees-requires
agrees-requires g c =
    let all = length-map c.args.self.now.tokens.items (λ t. identity_in t.value.cell) in
    let here : c.args.index < length c.args.self.now.tokens.items = omega (arith, all, c.requires.here) in
    lock_of (λ t. t.of) (λ p. p.seat.id) c.args.self.now.tokens.items c.args.self.now.places.now c.args.self.now.shown
    c.args.index c.index.result.now here c.index.ensures
    ∙ get_or_from_slice_get (locks_of c.args.self.now) c.args.index _ 0 c.requires.place

pub returns : goal.returns
returns g c =
    let all = length-map c.args.self.now.tokens.items (λ t. identity_in t.value.cell) in
    let here : c.args.index < length c.args.self.now.tokens.items = omega (arith, all, c.requires.here) in
    shown_at (λ t. identity_in t.value.cell) c.args.self.now.tokens.items c.args.index c.index.result.now here c.index.ensures
    ∙ ap {A = Seat _ _} (λ s. Some (identity_in s.cell)) c.agrees.ensures
