use Rattle.srt_hub.proofs.OpeningRoutes.{fault_opens_nothing, opening_is_next}
use Rattle.srt_hub.proofs.ClosingRoutes.{closed_is_hidden, full_closing_is, accepted_closing_hides, hidden_stays}
use Rattle.srt_hub.proofs.laws.openings.Goals as goal

pub returns : goal.returns
returns c =
    record {
      fault = fault_opens_nothing;
      next = opening_is_next;
      closed = closed_is_hidden;
      full = full_closing_is;
      accepted = accepted_closing_hides;
      hidden = hidden_stays;
    }
