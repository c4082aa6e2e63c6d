use Rattle.std.proofs.Common.{◌≡◌, ◌∙◌, ◌++◌, ◌∷◌, [], ap, map, refl, cond, false, ℕ, ◌+◌, List, length, arith}
use Rattle.std.proofs.lemmas.List.{map-append, length-append}
use Rattle.srt_lobby.specs.declared.names.NamedRoute.{NamedRoute}
use Rattle.srt_types.specs.Access.{access_of}
use Rattle.srt_lobby.specs.Tables.{name_in, index_in, entered}
use Rattle.srt_lobby.proofs.Tables.{count, shown_kept, named_kept, texts_kept, appended_shown, appended_named, appended_texts}
use Rattle.srt_lobby.proofs.names.Names.append.Goals as goal

pub invariant_of-self : goal.invariant_of-self
invariant_of-self c =
    let routes = c.args.self.now.routes.items in
    let names = map name_in routes in
    let name = c.args.name.text.items in
    let access = access_of c.args.name.access in
    let latest = index_in (λ key. key.items) c.args.self.now.latest.entries in
    let after = index_in (λ key. key.items) c.enter.new.latest.entries in
    let is : (t : List ℕ) → after t ≡ entered latest name (length names) t =
    λ t. c.enter.ensures.table t
    ∙ ap (λ (n : List ℕ). entered latest n c.len-r.result t) c.args.name.same
    ∙ ap (λ (r : ℕ). entered latest name r t) c.len-r.ensures.count in
    let one : NamedRoute = record { text = c.args.name.text; is_shown = false; access = c.args.name.access } in
    let pushed : c.push.new.self.items ≡ routes ++ one ∷ [] =
    c.push.ensures.items
    ∙ ap (λ b. cond b (routes ++ one ∷ []) routes)
    (c.push.ensures.succeeds (omega (arith, c.requires, count routes, c.args.self.now.routes.ok.0, c.args.self.now.places))) in
    let all = ap (map name_in) pushed ∙ map-append name_in routes (one ∷ []) in
    let longer : length c.push.new.self.items ≡ length routes + 1 = ap length pushed ∙ length-append routes (one ∷ []) in
    record {
      places = omega (arith, c.args.self.now.places, c.push.ensures.capacity);
      room = omega (arith, c.args.self.now.room, c.enter.ensures.room, longer);
      few = omega (arith, c.requires, count routes, longer);
      shown = shown_kept (λ key. key.items) _ _ _ _ all refl (appended_shown names latest after name access is c.args.self.now.shown);
      named = named_kept (λ key. key.items) _ _ _ _ all refl (appended_named names latest after name access is c.args.self.now.named);
      texts = texts_kept (λ key. key.items) _ _ _ _ all refl (appended_texts names latest after name access is c.args.self.now.texts);
    }
