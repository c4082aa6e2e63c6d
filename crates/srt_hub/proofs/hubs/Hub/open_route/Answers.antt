use Rattle.std.proofs.Common.{rules, ◌≡◌, true, false, ◌++◌, [], ◌∷◌, List, map, length, None, sym, ap, subst, ◌∙◌, arith}
use Rattle.std.specs.Result.{is_ok}
use Rattle.srt_types.specs.Terms.{terms_of}
use Rattle.srt_lobby.specs.Names.{RouteName}
use Rattle.srt_lobby.specs.Changing.{fault_of_adding}
use Rattle.srt_hub.specs.World.{Opens, Place, opened, names_in, name_at, opening_of, places_opened, places_after, world_after}
use Rattle.srt_hub.proofs.Named.{more_names}
use Rattle.srt_hub.proofs.Happens.{route_opens}
use Rattle.srt_hub.proofs.OpeningRoutes.{empty_before}
use Rattle.srt_hub.proofs.Pushed.{pushed}
use Rattle.srt_hub.proofs.hubs.Hub.open_route.Goals as goal

pub returns-clause-stands : goal.returns-clause-stands
returns-clause-stands g c secret entries events h =
    let class = g.L.Lobby.class secret in
    let w = world_after class g.R.RouteStep.reply entries events in
    let e = terms_of c.args.entry.now in
    let sound : fault_of_adding (names_in w) e ≡ None = rw (sym c.as_bytes.ensures.value, sym c.in_limits.ensures)
    (sym (c.fault.ensures.fault secret (names_in w) h.lobby_knows) ∙ c.in_default.is) in
    let places : places_after (Opens e false) w ≡ w.places ++ opened e ∷ [] = ap (places_opened e w.places) (ap (opening_of (length w.places) false) sound) in
    let room : is_ok c.push.result ≡ true = c.push.ensures.succeeds (omega (arith, c.in-Ok.ensures.ok)) in
    let grown : c.push.new.self.items ≡ c.args.self.now.lanes.items ++ c.in-Ok-open.lane ∷ [] =
    pushed c.push.result _ c.reserve.new.self.items _ c.in-Ok-open.lane room c.push.ensures.items c.reserve.ensures.items in
    let many : c.len-r.result ≡ length c.args.self.now.lanes.items = search rules in
    let index : c.len-r.result ≡ length w.places = many ∙ h.lanes_are.as_many in
    record {
      lobby_knows = subst (λ (ns : List RouteName). g.L.Lobby.knows c.add.new.self secret ns)
          (sym (ap (λ (ps : List Place). map name_at ps) places ∙ more_names w.places e))
          (c.in-Ok-add.ensures.added secret (names_in w) h.lobby_knows sound);
      lanes_are = rw grown
          (route_opens _ class g.R.RouteStep.reply w c.args.self.now.lanes.items e false c.len-r.result c.in-Ok-open.lane many places
          (empty_before class g.R.RouteStep.reply entries c.len-r.result events (omega (arith, index))) c.in-Ok-open.ensures.empty h.lanes_are);
    }
