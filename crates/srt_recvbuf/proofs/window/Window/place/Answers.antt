use Rattle.std.proofs.Common.{unwrap_or, sym, ap, ◌∙◌}
use Rattle.std.proofs.lemmas.Option.{unwrap_or-slice_get}
use Rattle.std.specs.Option.{option_copied}
use Rattle.srt_recvbuf.specs.declared.window.NumberState.TheVariants.{Missing}
use Rattle.srt_recvbuf.proofs.window.Window.place.Goals as goal

pub returns-in-None : goal.returns-in-None
returns-in-None c =
    let none = sym c.get.ensures ∙ ap option_copied c.in-None.is in
    record { value = sym (ap (λ o. unwrap_or o Missing) none) ∙ unwrap_or-slice_get c.args.self.now.places.items c.args.at Missing }
