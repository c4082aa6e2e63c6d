use Rattle.std.proofs.Common.{◌≡◌, ◌∙◌, ap, sym, map, refl, true, cond, ℕ, List, Some, is_some, arith}
use Rattle.std.specs.Str.{bytes_eq}
use Rattle.std.proofs.lemmas.List.{length-set}
use Rattle.srt_lobby.specs.Tables.{name_in, text_at, index_in}
use Rattle.srt_lobby.proofs.Tables.{set_mark, text_of_route, count, turned, shown_kept, named_kept, texts_kept, again_shown, again_named, again_texts}
use Rattle.srt_lobby.proofs.names.Names.show.Goals as goal

pub invariant_of-self : goal.invariant_of-self
invariant_of-self c =
    let names = map name_in c.args.self.now.routes.items in
    let latest = index_in (λ key. key.items) c.args.self.now.latest.entries in
    let after = index_in (λ key. key.items) c.turn.new.latest.entries in
    let text = c.deref.result.now in
    let set = set_mark true c.args.self.now.routes.items c.args.r c.index_mut.result.now c.index_mut.result.now c.index_mut.ensures.value in
    let there : text_at names c.args.r ≡ Some text = text_of_route c.args.self.now.routes.items c.args.r c.index.result.now
    (omega (arith, c.requires.index, count c.args.self.now.routes.items)) c.index.ensures
    ∙ ap Some (sym c.deref.ensures.value) in
    let has : is_some (latest text) ≡ true = c.args.self.now.texts c.args.r text there in
    let is : (t : List ℕ) → after t ≡ cond (bytes_eq t text) (Some c.args.r) (latest t) =
    λ t. ap (λ es. index_in (λ key. key.items) es t) c.turn.ensures.entries
    ∙ turned (λ key. key.items) t c.args.self.now.latest.entries text c.args.r has in
    record {
      places = c.args.self.now.places;
      room = omega (
        arith,
        c.args.self.now.room,
        c.turn.ensures.room,
        length-set c.args.self.now.routes.items c.args.r
            (record { text = c.index_mut.result.now.text; is_shown = true; access = c.index_mut.result.now.access }),
      );
      few = omega (
        arith,
        c.args.self.now.few,
        length-set c.args.self.now.routes.items c.args.r
            (record { text = c.index_mut.result.now.text; is_shown = true; access = c.index_mut.result.now.access }),
      );
      shown = shown_kept (λ key. key.items) _ _ _ _ set refl
          (again_shown names latest after c.args.r text there is c.requires.index c.requires.unused c.args.self.now.shown);
      named = named_kept (λ key. key.items) _ _ _ _ set refl (again_named names latest after c.args.r text there is c.args.self.now.named);
      texts = texts_kept (λ key. key.items) _ _ _ _ set refl (again_texts names latest after c.args.r text there is c.args.self.now.texts);
    }

pub returns : goal.returns
returns c = set_mark true c.args.self.now.routes.items c.args.r c.index_mut.result.now c.index_mut.result.now c.index_mut.ensures.value
