use Rattle.std.proofs.Common.{◌∙◌, ℕ, List, length, sym, ap, subst}
use Rattle.srt_types.specs.Access.{access_of}
use Rattle.srt_lobby.specs.Names.{RouteName, names_of}
use Rattle.srt_lobby.specs.Changing.{shown_at, IsUnused}
use Rattle.srt_lobby.proofs.Appending.{shown_last, last_unused}
use Rattle.srt_lobby.proofs.names.Names.append_shown.Goals as goal

pub show-requires-clause-unused : goal.show-requires-clause-unused
show-requires-clause-unused c =
    subst (λ (r : ℕ). IsUnused r (names_of c.append.new.self)) (sym c.len-r.ensures.count)
    (subst (λ (names : List RouteName). IsUnused (length (names_of c.args.self.now)) names) (sym c.append.ensures)
    (last_unused (names_of c.args.self.now) c.args.name.text.items (access_of c.args.name.access) c.requires.unused))

pub returns : goal.returns
returns c =
    c.show.ensures
    ∙ ap (λ (r : ℕ). shown_at r (names_of c.append.new.self)) c.len-r.ensures.count
    ∙ ap (λ (names : List RouteName). shown_at (length (names_of c.args.self.now)) names) c.append.ensures
    ∙ shown_last (names_of c.args.self.now) c.args.name.text.items (access_of c.args.name.access)
