use Rattle.std.proofs.Common.{map, refl, false, arith}
use Rattle.std.proofs.lemmas.List.{length-set}
use Rattle.srt_lobby.specs.Tables.{name_in, index_in}
use Rattle.srt_lobby.proofs.Tables.{set_mark, shown_kept, named_kept, texts_kept, hidden_shown, marked_named, marked_texts}
use Rattle.srt_lobby.proofs.names.Names.hide.Goals as goal

pub invariant_of-self : goal.invariant_of-self
invariant_of-self c =
    let names = map name_in c.args.self.now.routes.items in
    let latest = index_in (λ key. key.items) c.args.self.now.latest.entries in
    let set = set_mark false c.args.self.now.routes.items c.args.r c.index_mut.result.now c.index_mut.result.now c.index_mut.ensures.value in
    record {
      places = c.args.self.now.places;
      room = omega (
        arith,
        c.args.self.now.room,
        length-set c.args.self.now.routes.items c.args.r
            (record { text = c.index_mut.result.now.text; is_shown = false; access = c.index_mut.result.now.access }),
      );
      few = omega (
        arith,
        c.args.self.now.few,
        length-set c.args.self.now.routes.items c.args.r
            (record { text = c.index_mut.result.now.text; is_shown = false; access = c.index_mut.result.now.access }),
      );
      shown = shown_kept (λ key. key.items) _ _ _ _ set refl (hidden_shown names latest c.args.r c.args.self.now.shown);
      named = named_kept (λ key. key.items) _ _ _ _ set refl (marked_named false names latest c.args.r c.args.self.now.named);
      texts = texts_kept (λ key. key.items) _ _ _ _ set refl (marked_texts false names latest c.args.r c.args.self.now.texts);
    }

pub returns : goal.returns
returns c = set_mark false c.args.self.now.routes.items c.args.r c.index_mut.result.now c.index_mut.result.now c.index_mut.ensures.value
