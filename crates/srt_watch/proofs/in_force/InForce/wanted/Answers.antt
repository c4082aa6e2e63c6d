use Rattle.std.proofs.Common.{ap, ◌∙◌, rules}
use Rattle.srt_config.specs.Changes.{fixed_keys}
use Rattle.srt_config.specs.Config.{settings_of}
use Rattle.srt_watch.proofs.in_force.InForce.wanted.Goals as goal

pub returns-in-Ok-clause-not_taken : goal.returns-in-Ok-clause-not_taken
returns-in-Ok-clause-not_taken c = record {
  config = c.in_ok-config.config;
  config_is = c.in_ok-config.ensures.config;
  keys_are = ap (λ r. r.fixed) c.in-Ok.ensures ∙ ap (λ k. fixed_keys (settings_of k) (settings_of c.in_ok-config.config)) c.config.ensures;
  differ = search rules;
}
