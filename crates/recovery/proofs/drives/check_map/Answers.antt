-- `recovery::drives::check_map` meets its contract: the two tests of 17, one after the other. Assumes
-- nothing.
use mathlib.Core.Path.{sym, ◌∙◌}
use Rattle.layout.specs.Geometries.{geometry_of}
use Rattle.recovery_model.proofs.Laws.StepDisks.{map_checks_no_starts, map_checks_not_apart, map_checks_good}
use Rattle.recovery.proofs.drives.check_map.Goals as goal
use Rattle.recovery.proofs.drives.check_map.Goals.{else-is_map_formed-via-then-is_map_formed+else-is_map_apart}
use Rattle.recovery.proofs.drives.check_map.Goals.{else-is_map_formed-via-else-is_map_formed}

pub returns-then-is_map_apart : goal.returns-then-is_map_apart
returns-then-is_map_apart c =
    sym (map_checks_good (geometry_of c.args.g) c.args.disk.now
    (sym c.is_map_formed.ensures ∙ c.if-is_map_formed.true)
    (sym c.is_map_apart.ensures ∙ c.if-is_map_apart.true))

pub returns-else-is_map_formed : goal.returns-else-is_map_formed
returns-else-is_map_formed c =
    let g = geometry_of c.args.g in
    let disk = c.args.disk.now in
    elim c.else-is_map_formed.branch [
      | else-is_map_formed-via-then-is_map_formed+else-is_map_apart w ↦
          sym (map_checks_not_apart g disk (sym w.is_map_apart.ensures ∙ w.if-is_map_apart.false))
      | else-is_map_formed-via-else-is_map_formed w ↦
          sym (map_checks_no_starts g disk (sym c.is_map_formed.ensures ∙ w.if-is_map_formed.false))
    ]
