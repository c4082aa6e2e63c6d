use Rattle.std.proofs.Common.{◌∙◌, ◌<◌, map, refl, length, ap, Some, arith}
use Rattle.std.proofs.lemmas.List.{length-set}
use Rattle.srt_lobby.specs.ListsAndKeys.{new_access}
use Rattle.srt_lobby.specs.Tables.{name_in, index_in}
use Rattle.srt_lobby.proofs.Tables.{count, shown_kept, named_kept, texts_kept}
use Rattle.srt_lobby.proofs.Replacing.{set_rules, still_shown, still_named, still_texts, rules_there}
use Rattle.srt_lobby.proofs.names.Names.replace_access.Goals as goal

pub invariant_of-self : goal.invariant_of-self
invariant_of-self c =
    let new = new_access c.args.new in
    let routes = c.args.self.now.routes.items in
    let names = map name_in routes in
    let latest = index_in (λ key. key.items) c.args.self.now.latest.entries in
    let set = set_rules new routes c.args.r c.index_mut.result.now c.index_mut.result.now c.replace_rules.new.access c.index_mut.ensures.value
    c.replace_rules.ensures.access in
    record {
      places = c.args.self.now.places;
      room = omega (
        arith,
        c.args.self.now.room,
        length-set routes c.args.r
            (record { text = c.index_mut.result.now.text; is_shown = c.index_mut.result.now.is_shown; access = c.replace_rules.new.access }),
      );
      few = omega (
        arith,
        c.args.self.now.few,
        length-set routes c.args.r
            (record { text = c.index_mut.result.now.text; is_shown = c.index_mut.result.now.is_shown; access = c.replace_rules.new.access }),
      );
      shown = shown_kept (λ key. key.items) _ _ _ _ set refl (still_shown new names latest c.args.r c.args.self.now.shown);
      named = named_kept (λ key. key.items) _ _ _ _ set refl (still_named new names latest c.args.r c.args.self.now.named);
      texts = texts_kept (λ key. key.items) _ _ _ _ set refl (still_texts new names latest c.args.r c.args.self.now.texts);
    }

pub returns : goal.returns
returns c =
    let routes = c.args.self.now.routes.items in
    let within : c.args.r < length routes = omega (arith, c.requires, count routes) in
    record {
      names = set_rules (new_access c.args.new) routes c.args.r c.index_mut.result.now c.index_mut.result.now c.replace_rules.new.access
          c.index_mut.ensures.value c.replace_rules.ensures.access;
      replaced = ap Some c.replace_rules.ensures.replaced ∙ rules_there routes c.args.r c.index_mut.result.now within c.index_mut.ensures.value;
    }
