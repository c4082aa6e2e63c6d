use Rattle.std.proofs.Common.{◌≡◌, false, List, sym, ap, ◌∙◌}
use Rattle.srt_lobby.specs.Names.{RouteName, is_shown_at}
use Rattle.srt_hub.proofs.Shutting.{hidden_already}
use Rattle.srt_hub.proofs.entrance.EntranceDoors.hide.Goals as goal

pub returns-else-shows : goal.returns-else-shows
returns-else-shows c secret names within knows =
    let hidden : is_shown_at names c.args.r ≡ false =
    ap (λ (ns : List RouteName). is_shown_at ns c.args.r) (sym knows.1) ∙ sym c.shows.ensures ∙ c.if-shows.false in
    (knows.0, knows.1 ∙ hidden_already names c.args.r hidden)
