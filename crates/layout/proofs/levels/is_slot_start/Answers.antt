-- `layout::levels::is_slot_start` meets its contract: one law for each way through the tests. Assumes
-- nothing.
use Rattle.layout.specs.Geometries.{geometry_of}
use Rattle.layout.proofs.Laws.Slots.{start_below, start_past, start_inside}
use Rattle.layout.proofs.levels.is_slot_start.Goals as goal

pub returns-then-at-first : goal.returns-then-at-first
returns-then-at-first c =
    let a = c.args in
    let first = c.area_start-start in
    start_below (geometry_of a.g) a.entry.0 first.result.0 first.ensures
    c.slot_width-width.result c.slot_width-width.ensures c.if-at-first.true

pub returns-then-g-width : goal.returns-then-g-width
returns-then-g-width c =
    let a = c.args in
    let first = c.area_start-start in
    start_past (geometry_of a.g) a.entry.0 first.result.0 first.ensures
    c.slot_width-width.result c.slot_width-width.ensures c.if-at-first.false c.if-g-width.true

pub returns : goal.returns
returns c =
    let a = c.args in
    let first = c.area_start-start in
    start_inside (geometry_of a.g) a.entry.0 first.result.0 first.ensures
    c.slot_width-width.result c.slot_width-width.ensures c.if-at-first.false c.if-g-width.false
