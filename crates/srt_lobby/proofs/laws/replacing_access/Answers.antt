use Rattle.srt_lobby.proofs.ReplacedClasses.{replaced_as_opened, replacing_keeps_classes, replacing_keeps_others, replaced_decide}
use Rattle.srt_lobby.proofs.ReplacedClasses.{strangers_are_not_heard, replacing_keeps_names, replacing_and_marking_commute}
use Rattle.srt_lobby.proofs.ReplacedClasses.{later_replacement_counts}
use Rattle.srt_lobby.proofs.laws.replacing_access.Goals as goal

pub returns : goal.returns
returns c =
    record {
      opened = replaced_as_opened;
      classes = replacing_keeps_classes;
      others = replacing_keeps_others;
      decide = replaced_decide;
      strangers = strangers_are_not_heard;
      names = replacing_keeps_names;
      marks = replacing_and_marking_commute;
      later = later_replacement_counts;
    }
