use Rattle.std.proofs.Common.{◌≡◌, ◌∙◌, ◌++◌, ◌∷◌, [], sym, ap, map, slice_get, get_or, Some, take, arith, add-one, string_bytes, List}
use Rattle.srt_types.specs.declared.shared.Entry.{Entry}
use Rattle.srt_types.specs.Terms.{terms_of}
use Rattle.srt_lobby.specs.Opening.{text_in}
use Rattle.srt_lobby.specs.Names.{RouteName, as_shown, new_name, index_of, name_of}
use Rattle.srt_lobby.proofs.Finds.{name_at, route_at}
use Rattle.srt_lobby.proofs.Distinct.{not_yet, take_name}
use Rattle.srt_lobby.proofs.names.Names.copied.Goals as goal

pub append_shown-requires-clause-unused : goal.append_shown-requires-clause-unused
append_shown-requires-clause-unused c =
    let same : string_bytes (get_or c.args.entries.now c.loop-entry.entry-index c.entry-item.result).name ≡ c.in_ok-name.name.text.items =
    ap (λ (e : Entry). string_bytes e.name) (sym c.entry-item.is) ∙ sym (ap (λ (n : RouteName). n.text) c.in_ok-name.ensures) in
    let there : slice_get (map text_in (map terms_of c.args.entries.now)) c.loop-entry.entry-index ≡ Some c.in_ok-name.name.text.items =
    name_at c.args.entries.now c.loop-entry.entry-index c.entry-item.result (omega arith) ∙ ap Some same in
    ap (λ (names : List RouteName). index_of names c.in_ok-name.name.text.items) c.loop-entry.invariant
    ∙ not_yet (map terms_of c.args.entries.now) c.loop-entry.entry-index c.in_ok-name.name.text.items c.requires.names there

pub loop-entry-preserved : goal.loop-entry-preserved
loop-entry-preserved c =
    let e : Entry = get_or c.args.entries.now c.loop-entry.entry-index c.entry-item.result in
    let same : as_shown (new_name c.in_ok-name.name) ≡ name_of (terms_of e) =
    ap as_shown c.in_ok-name.ensures ∙ ap (λ (x : Entry). name_of (terms_of x)) c.entry-item.is in
    rw add-one
    (c.append_shown.ensures
    ∙ ap (λ (names : List RouteName). names ++ as_shown (new_name c.in_ok-name.name) ∷ []) c.loop-entry.invariant
    ∙ ap (λ (n : RouteName). take c.loop-entry.entry-index (map name_of (map terms_of c.args.entries.now)) ++ n ∷ []) same
    ∙ sym (take_name (map terms_of c.args.entries.now) c.loop-entry.entry-index (name_of (terms_of e))
    (route_at c.args.entries.now c.loop-entry.entry-index c.entry-item.result (omega arith))))
