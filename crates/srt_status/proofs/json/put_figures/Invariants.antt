use Rattle.std.proofs.Common.{◌≡◌, ◌++◌, take}
use Rattle.std.specs.List.{flat_map}
use Rattle.srt_status.specs.Json.{figure_json}
use Rattle.srt_status.proofs.json.put_figures.Given as goal

abbrev pub invariant-loop-figure : goal.invariant-loop-figure
invariant-loop-figure l = l.out.items ≡ l.fn.out.items ++ flat_map (figure_json l.route) (take l.figure-index l.figures)
