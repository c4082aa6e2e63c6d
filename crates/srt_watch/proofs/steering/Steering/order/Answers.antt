use Rattle.std.proofs.Common.{sym, ◌∙◌}
use Rattle.srt_watch.proofs.Steered.{closes, ends}
use Rattle.srt_watch.proofs.steering.Steering.order.Goals as goal

pub returns-in-Close-clause-known : goal.returns-in-Close-clause-known
returns-in-Close-clause-known g c = closes _ _ _ _ _ (sym c.step.ensures ∙ c.in-Close.is) c.args.self.now.known

pub returns-in-End-clause-known : goal.returns-in-End-clause-known
returns-in-End-clause-known g c = ends _ _ _ _ _ c.requires (sym c.step.ensures ∙ c.in-End.is) c.args.self.now.known
