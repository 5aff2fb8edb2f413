-- What is recovered is the first so many bytes of the drive.
use Rattle.std.proofs.Common.{◌∙◌}
use Rattle.figure_lines.proofs.Laws.Counts.{cut_lent}
use Rattle.recovery_figures.specs.Maps.{map_told, map_agrees}
use Rattle.recovery_figures.proofs.maps.MapRowRow.run.Goals as goal

pub returns : goal.returns
unfolding map_agrees
returns c =
    let row = c.args.self in
    c.tell_map.ensures
    ∙ cut_lent (map_told row) row.5 512 _ c.min-count.ensures c.make_map.auto.disk c.make_map.ensures
