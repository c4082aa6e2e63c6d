use Rattle.std.proofs.Common.{◌≡◌, ◌∙◌, ◌≤◌, length, map, slice_get, Some, None, sym, ap, refl, arith}
use Rattle.srt_lobby.specs.Names.{index_of}
use Rattle.srt_lobby.specs.Tables.{name_in, index_in}
use Rattle.srt_lobby.proofs.Tables.{apart, count, route_here}
use Rattle.srt_lobby.proofs.Appending.{unused_if_none, unused_test, unused_beyond}
use Rattle.srt_lobby.proofs.names.Names.is_unused.Goals as goal

pub returns-in-Some-find : goal.returns-in-Some-find
returns-in-Some-find c =
    let names = map name_in c.args.self.now.routes.items in
    let here : slice_get names c.args.r ≡ Some (name_in c.in-Some.route.now) =
    route_here c.args.self.now.routes.items c.deref.result.now c.args.r c.in-Some.route.now c.deref.ensures.value c.in-Some.ensures.lookup.1
    c.in-Some.ensures.lookup.3.0 in
    let found : index_of names c.in-Some.route.now.text.items ≡ Some c.in-Some-find.shown =
    ap (index_of names) (sym c.deref-in-Some.ensures.value) ∙ sym c.find.ensures ∙ c.in-Some-find.is in
    let distinct = apart names (index_in (λ key. key.items) c.args.self.now.latest.entries) c.args.self.now.shown in
    unused_test names distinct c.args.r (name_in c.in-Some.route.now) here c.in-Some-find.shown found

pub returns-in-None-find : goal.returns-in-None-find
returns-in-None-find c =
    let names = map name_in c.args.self.now.routes.items in
    let here : slice_get names c.args.r ≡ Some (name_in c.in-Some.route.now) =
    route_here c.args.self.now.routes.items c.deref.result.now c.args.r c.in-Some.route.now c.deref.ensures.value c.in-Some.ensures.lookup.1
    c.in-Some.ensures.lookup.3.0 in
    let none : index_of names c.in-Some.route.now.text.items ≡ None =
    ap (index_of names) (sym c.deref-in-Some.ensures.value) ∙ sym c.find.ensures ∙ c.in-None-find.is in (
      λ t. unused_if_none names (apart names (index_in (λ key. key.items) c.args.self.now.latest.entries) c.args.self.now.shown) c.args.r
          (name_in c.in-Some.route.now) here none,
      λ unused. refl,
    )

pub returns-in-None : goal.returns-in-None
returns-in-None c =
    let routes = c.args.self.now.routes.items in
    let beyond : length (map name_in routes) ≤ c.args.r = omega (arith, count routes, ap length c.deref.ensures.value, c.in-None.ensures.lookup) in
    (λ t. unused_beyond (map name_in routes) c.args.r beyond, λ unused. refl)
