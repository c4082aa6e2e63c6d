use Rattle.std.proofs.Common.{◌<◌, length, get_or, arith, ap, sym, ◌∙◌, Some}
use Rattle.std.proofs.lemmas.List.{length-map}
use Rattle.srt_mailbox.specs.Identities.{identity_in}
use Rattle.srt_mailbox.specs.declared.seats.Seat.{Seat}
use Rattle.srt_mailbox.proofs.Tokens.{lock_of, shown_at}
use Rattle.srt_mailbox.proofs.readers.SeatReader.agree.Goals as goal

pub agrees-requires : goal.agrees-requires
agrees-requires g c =
    let ours = length-map c.args.self.now.tokens.items (λ t. identity_in t.value.cell) in
    let here : c.args.index < length c.args.self.now.tokens.items = omega (arith, ours, c.requires.here) in
    let theirs = length-map c.args.other.now.tokens.items (λ t. identity_in t.value.cell) in
    let there : c.args.index < length c.args.other.now.tokens.items = omega (arith, theirs, c.requires.there) in
    lock_of (λ t. t.of) (λ p. p.seat.id) c.args.self.now.tokens.items c.args.self.now.places.now c.args.self.now.shown
    c.args.index c.index.result.now here c.index.ensures
    ∙ ap (λ ns. get_or ns c.args.index 0) c.requires.places
    ∙ sym (lock_of (λ t. t.of) (λ p. p.seat.id) c.args.other.now.tokens.items c.args.other.now.places.now c.args.other.now.shown
    c.args.index c.index-2.result.now there c.index-2.ensures)

pub returns : goal.returns
returns g c =
    let ours = length-map c.args.self.now.tokens.items (λ t. identity_in t.value.cell) in
    let here : c.args.index < length c.args.self.now.tokens.items = omega (arith, ours, c.requires.here) in
    let theirs = length-map c.args.other.now.tokens.items (λ t. identity_in t.value.cell) in
    let there : c.args.index < length c.args.other.now.tokens.items = omega (arith, theirs, c.requires.there) in
    shown_at (λ t. identity_in t.value.cell) c.args.self.now.tokens.items c.args.index c.index.result.now here c.index.ensures
    ∙ ap {A = Seat _ _} (λ s. Some (identity_in s.cell)) c.agrees.ensures
    ∙ sym (shown_at (λ t. identity_in t.value.cell) c.args.other.now.tokens.items c.args.index c.index-2.result.now there c.index-2.ensures)
