use Rattle.srt_lobby.proofs.Changing.{adding_keeps_names, hiding_keeps_names, showing_keeps_names, adding_keeps_others, hiding_keeps_others}
use Rattle.srt_lobby.proofs.Changing.{showing_keeps_others, hidden_has_none, distinct_are_unused}
use Rattle.srt_lobby.proofs.HiddenNames.{hidden_change_nothing}
use Rattle.srt_lobby.proofs.laws.changing_names.Goals as goal

pub returns : goal.returns
returns c =
    record {
      adding = adding_keeps_names;
      hiding = hiding_keeps_names;
      showing = showing_keeps_names;
      adding_keeps = adding_keeps_others;
      hiding_keeps = hiding_keeps_others;
      showing_keeps = showing_keeps_others;
      hidden = hidden_has_none;
      unused = distinct_are_unused;
      behind = hidden_change_nothing;
    }
