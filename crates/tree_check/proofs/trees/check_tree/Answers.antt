-- `check_tree` meets its contract: the drive's refusals, then all of the root's entries. Assumes nothing.
use Rattle.std.proofs.Common.{◌-◌}
use Rattle.model.specs.Geometry.{block_width}
use Rattle.model.specs.Blocks.{block_at}
use Rattle.model.proofs.Laws.TreeHalves.{fault_node}
use Rattle.layout.specs.Geometries.{geometry_of}
use Rattle.layout.specs.Refusals.{refusal_number, answer_number}
use Rattle.layout.proofs.Laws.Refusals.{handed_on}
use Rattle.tree_check.proofs.Laws.Trees.{tree_refused, tree_answered}
use Rattle.tree_check.proofs.trees.check_tree.Goals as goal

pub returns-in_err-g : goal.returns-in_err-g
returns-in_err-g c =
    let told = c.in_err-g.ensures in
    rw (handed_on c.from_residual.ensures.1)
    (tree_refused c.args.disk.now (refusal_number c.in_err-g.field-0.0) told.fault_is told.fault_some)

pub returns : goal.returns
returns c =
    let disk = c.args.disk.now in
    let g = geometry_of c.in_ok-g.g in
    let o = c.in_ok-g.ensures in
    let root = c.root_address in
    let answer = answer_number c.check_node.result in
    tree_answered disk o.accepted g o.same o.drive root.result.0 root.ensures answer
    (fault_node g disk (g.height - 1) 0 (block_at (block_width g) disk root.result.0)
    c.entries_in-count.result c.entries_in-count.ensures answer c.check_node.ensures)
