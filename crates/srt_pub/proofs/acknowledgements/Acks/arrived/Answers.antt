use Rattle.std.proofs.Common.{sym, subst, arith}
use Rattle.srt_timing.specs.Book as book
use Rattle.srt_pub.proofs.Books.{book_arrived}
use Rattle.srt_pub.proofs.Fulls.{acks_arrived}
use Rattle.srt_pub.proofs.acknowledgements.Acks.arrived.Goals as goal

pub returns : goal.returns
returns c time region put width front point notes h =
    let s = c.args.self.now in (
      subst (book.StandsFor s.book) (sym (book_arrived time region put notes)) h.0,
      acks_arrived time region put width front point _ notes _ _ _ _ (omega (arith, c.saturating_add.ensures, c.min-self.ensures, h.1.arrived_is)) h.1,
    )
