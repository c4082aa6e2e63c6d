use Rattle.toml.specs.View.{table_view}
use Rattle.srt_config.specs.FaultPlace.{routes_place}
use Rattle.srt_config.proofs.Sound.{sound_of, fault_sound, scheduled_sound, later_sound, marked_sound}
use Rattle.srt_config.proofs.config.routes.routes_at.Goals as goal

pub returns-clause-sound : goal.returns-clause-sound
returns-clause-sound c =
    let table = table_view c.args.table.now in
    fault_sound c.all_routes.result (sound_of table (routes_place table) c.all_routes.result c.all_routes.ensures)

pub returns-clause-scheduled : goal.returns-clause-scheduled
returns-clause-scheduled c =
    let table = table_view c.args.table.now in
    scheduled_sound c.all_routes.result (sound_of table (routes_place table) c.all_routes.result c.all_routes.ensures)

pub returns-clause-later : goal.returns-clause-later
returns-clause-later c =
    let table = table_view c.args.table.now in
    later_sound c.all_routes.result (sound_of table (routes_place table) c.all_routes.result c.all_routes.ensures)

pub returns-clause-marked : goal.returns-clause-marked
returns-clause-marked c =
    let table = table_view c.args.table.now in
    marked_sound c.all_routes.result (sound_of table (routes_place table) c.all_routes.result c.all_routes.ensures)
