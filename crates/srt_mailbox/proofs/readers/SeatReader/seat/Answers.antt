use Rattle.std.proofs.Common.{◌<◌, length, arith, ap, sym, ◌∙◌, Some}
use Rattle.std.proofs.lemmas.List.{length-map}
use Rattle.srt_mailbox.specs.Identities.{identity_in}
use Rattle.srt_mailbox.specs.declared.added_seats.Place.{Place}
use Rattle.srt_mailbox.proofs.Tokens.{count_within, place_of, shown_at}
use Rattle.srt_mailbox.proofs.readers.SeatReader.seat.Goals as goal

pub item_at-requires : goal.item_at-requires
item_at-requires g c =
    let all = length-map c.args.self.now.tokens.items (λ t. identity_in t.value.cell) in
    let few = count_within (λ t. t.of) (λ p. p.seat.id) c.args.self.now.tokens.items c.args.self.now.places.now c.args.self.now.shown in
    omega (arith, all, few, c.requires)

pub index-requires : goal.index-requires
index-requires g c =
    let all = length-map c.args.self.now.tokens.items (λ t. identity_in t.value.cell) in
    omega (arith, all, c.requires)

pub value-requires : goal.value-requires
value-requires g c =
    let all = length-map c.args.self.now.tokens.items (λ t. identity_in t.value.cell) in
    let within : c.args.index < length c.args.self.now.tokens.items = omega (arith, all, c.requires) in
    place_of (λ t. t.of) (λ p. p.seat.id) c.args.self.now.tokens.items c.args.self.now.places.now c.args.self.now.shown
    c.args.index c.index.result.now c.item_at.result.now within c.index.ensures
    ∙ sym (ap {A = Place _ _} (λ p. p.seat.id) c.item_at.ensures)

pub returns : goal.returns
returns g c =
    let all = length-map c.args.self.now.tokens.items (λ t. identity_in t.value.cell) in
    let within : c.args.index < length c.args.self.now.tokens.items = omega (arith, all, c.requires) in
    shown_at (λ t. identity_in t.value.cell) c.args.self.now.tokens.items c.args.index c.index.result.now within c.index.ensures
    ∙ ap (λ s. Some (identity_in s.cell)) (sym c.value.ensures)
