use Rattle.std.proofs.Common.{◌≡◌, ◌∙◌, sym, ap, None}
use Rattle.std.specs.Option.{option_copied_mut}
use Rattle.std.specs.Map.{lookup}
use Rattle.std.specs.Str.{bytes_eq}
use Rattle.srt_lobby.proofs.Tables.{none_set}
use Rattle.srt_lobby.proofs.names.turn.Goals as goal

pub returns-in_default-clause-entries : goal.returns-in_default-clause-entries
returns-in_default-clause-entries c =
    let none : lookup (λ key. bytes_eq c.args.name.now key.items) c.args.latest.now.entries ≡ None =
    sym c.get_mut.ensures.value ∙ ap option_copied_mut c.in_default.is in
    ap (λ m. m.entries) c.get_mut.follows.holds-at-none ∙ none_set (λ key. bytes_eq c.args.name.now key.items) c.args.latest.now.entries c.args.r none
