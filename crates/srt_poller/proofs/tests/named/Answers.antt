use Rattle.std.proofs.Common.{◌≡◌, ◌∙◌, false, ap, map}
use Rattle.std.proofs.lemmas.List.{length-map}
use Rattle.srt_types.specs.Terms.{terms_of}
use Rattle.srt_lobby.specs.Names.{name_of, names_of}
use Rattle.srt_poller.specs.Beginnings.{all_shown}
use Rattle.srt_poller.proofs.ShownInRound.{shown_again, are_good, texts_marked}
use Rattle.srt_poller.proofs.tests.named.Goals.{then-first-gt0+then-not-is_empty, else-first-gt0}
use Rattle.srt_poller.proofs.tests.named.Goals as goal

pub returns : goal.returns
returns c =
    let es = map terms_of c.args.entries.now in
    let here : all_shown (names_of c.in-Ok.names) ≡ map name_of es = ap all_shown c.in-Ok.ensures.opened ∙ shown_again es in
    let kept : all_shown (names_of c.if-first-gt0.names) ≡ map name_of es = elim c.if-first-gt0.branch [
      | then-first-gt0+then-not-is_empty w ↦ ap all_shown (ap names_of w.names-is ∙ w.hide.ensures) ∙ texts_marked false 0 (names_of c.in-Ok.names) ∙ here
      | else-first-gt0 w ↦ ap all_shown (ap names_of w.names-is) ∙ here
    ] in
    let good = are_good es (names_of c.if-first-gt0.names) c.in-Ok.ensures.sound kept in
    (good.as_many ∙ length-map c.args.entries.now terms_of, good.differ)
