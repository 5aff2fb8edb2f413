-- `recovery::bits::set_marks` meets its contract. Invariant: the slots of the numbers before this one are
-- marked, and the map is as it was. Assumes nothing.
use Rattle.layout.specs.Geometries.{geometry_of}
use Rattle.recovery.proofs.Laws.Marks.{marking_none, marking_start, marking_next}
use Rattle.recovery.proofs.bits.set_marks.Goals as goal

-- ---- answers ----
pub loop-number-init : goal.loop-number-init
loop-number-init c =
    marking_none (geometry_of c.args.g) c.args.disk.now c.requires

pub mark_entry-requires-clause-value : goal.mark_entry-requires-clause-value
mark_entry-requires-clause-value c =
    let at = c.loop-number in
    marking_start (geometry_of c.args.g) c.args.disk.now c.requires at.number at.disk at.invariant
    c.loop-number-test.true c.map_entry-entry.result.0 c.map_entry-entry.ensures

pub loop-number-preserved : goal.loop-number-preserved
loop-number-preserved c =
    let at = c.loop-number in
    marking_next (geometry_of c.args.g) c.args.disk.now c.requires at.number at.disk at.invariant
    c.loop-number-test.true c.map_entry-entry.result.0 c.map_entry-entry.ensures
    c.mark_entry.new.disk c.mark_entry.ensures
