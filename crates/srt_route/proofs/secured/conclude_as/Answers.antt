use Rattle.std.proofs.Common.{[], ◌∷◌, true, ◌∙◌, refl, sym, ap, subst}
use Rattle.srt_types.specs.Given.{given}
use Rattle.srt_types.specs.Items.{Datagram}
use Rattle.srt_hs.specs.declared.writing.HsAnswer.{HsAnswer}
use Rattle.srt_route.specs.declared.secured.Verdict.{Verdict}
use Rattle.srt_route.specs.Route.{Answers, sent}
use Rattle.srt_route.specs.Tables.{written_of}
use Rattle.srt_route.specs.inside.Secured.{ConcludesAs}
use Rattle.srt_route.proofs.secured.conclude_as.Goals as goal

pub returns-in-Refused-clause-taken : goal.returns-in-Refused-clause-taken
returns-in-Refused-clause-taken c =
    subst
    (λ (v : Verdict). ConcludesAs v c.args.arrival c.args.c c.args.table.now c.args.table.now (written_of (given true c.answer_to.new.reply)))
    (sym c.in-Refused.is)
    (λ e index ss is. record {
      table_is = is;
      replies_are = ap (λ (d : Datagram). d ∷ [])
          (c.answer_to.ensures
          ∙ ap (λ (a : HsAnswer). sent (record { peer = c.args.arrival.peer; packet = Answers c.args.c.caller a })) (c.refusal.ensures c.args.c refl));
    })
