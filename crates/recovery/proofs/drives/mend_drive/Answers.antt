-- `recovery::drives::mend_drive` meets its contract: clearing the bits leaves the map, from which they are
-- set. Assumes nothing.
use mathlib.Core.Path.{sym}
use Rattle.layout.specs.Geometries.{geometry_of}
use Rattle.recovery.proofs.Laws.Drives.{cleared_started, mended_good}
use Rattle.recovery.proofs.drives.mend_drive.Goals as goal

pub set_marks-requires : goal.set_marks-requires
set_marks-requires c =
    cleared_started (geometry_of c.args.g) c.args.disk.now c.requires (sym c.in_ok-check_map.ensures)
    c.clear_bits.new.disk c.clear_bits.ensures

pub returns : goal.returns
returns c =
    mended_good (geometry_of c.args.g) c.args.disk.now c.requires (sym c.in_ok-check_map.ensures)
    c.clear_bits.new.disk c.clear_bits.ensures c.set_marks.new.disk
    c.set_marks.ensures
