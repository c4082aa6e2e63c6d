use Rattle.std.proofs.Common.{◌≡◌, ◌∙◌, sym, ap, Some, None, map}
use Rattle.srt_lobby.specs.Names.{is_shown_at, names_of}
use Rattle.srt_lobby.specs.Tables.{name_in, index_in}
use Rattle.srt_lobby.proofs.Tables.{found, not_found}
use Rattle.srt_lobby.proofs.names.Names.find.Goals as goal

pub returns-then-shows : goal.returns-then-shows
returns-then-shows c =
    found (map name_in c.args.self.now.routes.items) (index_in (λ key. key.items) c.args.self.now.latest.entries) c.args.self.now.shown c.args.self.now.named
    c.in-Some.r.now c.args.name.now (sym c.in-Some.ensures.value) (sym c.shows.ensures ∙ c.if-shows.true)

pub returns-else-shows : goal.returns-else-shows
returns-else-shows c =
    not_found (map name_in c.args.self.now.routes.items) (index_in (λ key. key.items) c.args.self.now.latest.entries) c.args.self.now.shown c.args.name.now
    (λ r h.
    let both : Some c.in-Some.r.now ≡ Some r = c.in-Some.ensures.value ∙ h in
    let same : c.in-Some.r.now ≡ r = cc in
    ap (is_shown_at (names_of c.args.self.now)) (sym same) ∙ sym c.shows.ensures ∙ c.if-shows.false)

pub returns-in-None : goal.returns-in-None
returns-in-None c =
    not_found (map name_in c.args.self.now.routes.items) (index_in (λ key. key.items) c.args.self.now.latest.entries) c.args.self.now.shown c.args.name.now
    (λ r h.
    let bad : None ≡ Some r = c.in-None.ensures.value ∙ h in
    cc)
