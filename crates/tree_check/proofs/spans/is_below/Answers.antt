-- `is_below` meets its contract: a number before the first is not below the entry, any other just if it is
-- not as far from the first as the entry spans. Assumes nothing.
use Rattle.model.proofs.Laws.Branches.{is_below_before, is_below_from}
use Rattle.layout.specs.Geometries.{geometry_of}
use Rattle.tree_check.proofs.spans.is_below.Goals as goal

pub returns-then-whole-first : goal.returns-then-whole-first
returns-then-whole-first c =
    let a = c.args in
    is_below_before (geometry_of a.g) a.level a.first a.number.0 c.if-whole-first.true

pub returns : goal.returns
returns c =
    let a = c.args in
    is_below_from (geometry_of a.g) a.level a.first a.number.0 c.if-whole-first.false
    c.span_of.result c.span_of.ensures
