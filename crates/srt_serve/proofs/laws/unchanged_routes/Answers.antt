use Rattle.srt_serve.proofs.LeftAlone.{unchanging_runs_are_so, left_as_it_was, nothing_changed, names_are_alone}
use Rattle.srt_serve.proofs.LeftAlone.{as_if_nothing_happened, sent_as_if_nothing_happened, refused_changes_nothing}
use Rattle.srt_serve.proofs.laws.unchanged_routes.Goals as goal

pub returns : goal.returns
returns c =
    record {
      unchanging = unchanging_runs_are_so;
      left = left_as_it_was;
      kept = nothing_changed;
      alone = names_are_alone;
      same = as_if_nothing_happened;
      sent = sent_as_if_nothing_happened;
      refused = refused_changes_nothing;
    }
