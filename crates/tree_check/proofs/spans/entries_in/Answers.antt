-- `entries_in` meets its contract: one law for a leaf, one for any other node. Assumes nothing.
use Rattle.std.proofs.Common.{◌∙◌, arith}
use Rattle.model.proofs.Laws.Branches.{entries_in_leaf, entries_in-node}
use Rattle.layout.specs.Geometries.{geometry_of}
use Rattle.tree_check.proofs.spans.entries_in.Goals as goal

pub returns-then-level-ne0 : goal.returns-then-level-ne0
returns-then-level-ne0 c =
    c.fanout-fanout.ensures ∙ entries_in-node (geometry_of c.args.g) c.args.level c.if-level-ne0.true

pub returns : goal.returns
returns c =
    rw c.fanout-fanout.ensures
    (entries_in_leaf (geometry_of c.args.g) c.args.level (omega (arith, c.if-level-ne0.false)))
