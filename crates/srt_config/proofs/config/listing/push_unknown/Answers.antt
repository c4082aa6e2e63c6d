use Rattle.std.proofs.Common.{◌≡◌, rules}
use Rattle.toml.specs.View.{table_view}
use Rattle.srt_config.specs.AllFaults.{unknown_in, faults_seen}
use Rattle.srt_config.specs.inside.Sections.{section_seen}
use Rattle.srt_config.proofs.Listed.{unknown_view, unknowns_of, unknown_start}
use Rattle.srt_config.proofs.config.listing.push_unknown.Goals as goal

pub loop-key-init : goal.loop-key-init
loop-key-init c =
    let h : unknown_in c.keys_of-keys.result.now (table_view c.table_of.result.now) ≡ unknowns_of c.keys_of-keys.result.now c.into_iter-key-iterator.result =
    search (rules, unknown_view) in (
      tt,
      tt,
      unknown_start (section_seen c.args.section) _ _ _ (faults_seen c.args.list.now.items) c.keys_of-keys.ensures c.table_of.ensures h,
    )
