use Rattle.std.proofs.Common.{None, refl, length}
use Rattle.srt_lobby.specs.Names.{names_of}
use Rattle.srt_poller.specs.Openings.{no_reports}
use Rattle.srt_poller.specs.Changes.{plans_in}
use Rattle.srt_poller.specs.Takings.{recorded, no_facts}
use Rattle.srt_poller.proofs.Additions.{took_nothing}
use Rattle.srt_poller.proofs.Takings.{took_all_quietly}
use Rattle.srt_poller.proofs.tables.FixedRoutesRouteTable.round.Goals as goal

pub returns-clause-went : goal.returns-clause-went
returns-clause-went g c =
    let names = names_of c.args.names.now in
    record {
      due = c.args.rounds.now.plans.due;
      between = plans_in c.args.rounds.now.plans;
      these = names;
      those = c.args.self.now.ends.now;
      took = took_nothing c.args.rounds.now.next no_reports (plans_in c.args.rounds.now.plans) names c.args.self.now.ends.now c.requires.known
          c.requires.ends;
      taken = took_all_quietly no_facts (length names) (recorded None no_reports) (recorded None no_reports) refl tt;
      rests = c.requires.rest;
      went = c.round.ensures.went;
    }
