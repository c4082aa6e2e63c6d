use Rattle.std.proofs.Common.{sym, subst}
use Rattle.srt_timing.specs.Book as book
use Rattle.srt_pub.proofs.Books.{book_light}
use Rattle.srt_pub.proofs.Fulls.{acks_light}
use Rattle.srt_pub.proofs.Bytes.{light_bytes}
use Rattle.srt_pub.proofs.acknowledgements.Acks.light.Goals as goal

pub returns-clause-stands : goal.returns-clause-stands
returns-clause-stands c width front a notes h = (
  subst (book.StandsFor c.args.self.now.book) (sym (book_light c.args.time a notes)) h.0,
  acks_light width front a c.args.time a notes _ _ _ _ h.1,
)

pub returns-clause-bytes : goal.returns-clause-bytes
returns-clause-bytes c a initial caller p = light_bytes caller initial c.args.time a c.args.point p
