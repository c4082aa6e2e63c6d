use Rattle.std.proofs.Common.{◌≡◌, ℕ, true, List, refl, ◌∙◌}
use Rattle.srt_recvbuf.specs.declared.window.NumberState.{NumberState}
use Rattle.srt_recvbuf.specs.declared.window.NumberState.TheVariants.{Missing, Dropped, Received}
use Rattle.srt_recvbuf.specs.Cells.{cell_of, cell_is_received, payload_of}
use Rattle.srt_recvbuf.proofs.window.Window.payload.Goals as goal

its_payload : (p : NumberState) (t : List ℕ) → cell_is_received (cell_of p t) ≡ true → t ≡ payload_of (cell_of p t)
its_payload Missing t e = cc
its_payload Dropped t e = cc
its_payload (Received due) t e = refl

pub returns : goal.returns
returns c = record { packet = λ e. c.payload.ensures.value ∙ its_payload _ _ e; bytes = c.payload.ensures.value; fits = c.payload.ensures.fits }
