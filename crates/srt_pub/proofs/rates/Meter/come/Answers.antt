use Rattle.std.proofs.Common.{sym, subst}
use Rattle.srt_recvbuf.specs.declared.buffer.Put.{Put}
use Rattle.srt_pub.specs.Publishing.{if_new}
use Rattle.srt_pub.specs.Kept.{MeterStandsFor}
use Rattle.srt_pub.proofs.rates.Meter.come.Goals as goal

pub returns-in-New : goal.returns-in-New
returns-in-New c rating times h =
    subst (λ (put : Put). MeterStandsFor rating c.keep.new.self (if_new put c.args.time times)) (sym c.in-New.is) (c.keep.ensures rating times h)
