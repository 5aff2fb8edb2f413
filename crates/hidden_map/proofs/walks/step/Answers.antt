-- `step` meets its contract: the entry that is read over the whole disk is the node's, and each of its three
-- ways is a law. Assumes nothing.
use Rattle.std.proofs.Common.{◌≡◌, ◌+◌, ◌*◌, ◌/◌, ◌≤◌, length, arith}
use Rattle.model.specs.Geometry.{Geometry, block_width}
use Rattle.model.specs.Blocks.{block_at, entry_at}
use Rattle.model.specs.HiddenTree.{branch_at}
use Rattle.hidden_map.specs.Trees.{TreeOf}
use Rattle.hidden_map.proofs.Laws.Branches.{branch_entry_inside, branch_entry_is}
use Rattle.hidden_map.proofs.Laws.Steps.{step_of_unmapped, step_of_found, step_of_damaged}
use Rattle.hidden_map.proofs.walks.step.Goals as goal
use Rattle.hidden_map.proofs.walks.step.Goals.{After-branch_at, After-entry_at-entry}

-- the entry stands inside the disk
found_inside : (c : After-branch_at) → let a = c.args in
    4 * (a.address.0 * (a.tree.now.size / 4) + c.branch_at.result) + 4 ≤ length a.disk.now
found_inside c =
    let a = c.args in
    let w = c.requires.walkable in
    branch_entry_inside w.geometry a.disk.now a.tree.now w.of a.number.0 a.level
    a.address.0 c.branch_at.result (c.branch_at.ensures w.geometry w.of.size_is) c.requires.address_inside

-- the entry that is read is the number's in the node
entry_is : (c : After-entry_at-entry) (g : Geometry) → let a = c.args in
    TreeOf g a.disk.now a.tree.now →
    c.entry_at-entry.result
    ≡ entry_at (branch_at g a.number.0 a.level) (block_at (block_width g) a.disk.now a.address.0)
entry_is c g tree =
    let a = c.args in
    branch_entry_is g a.disk.now a.tree.now tree a.number.0 a.level a.address.0
    c.branch_at.result (c.branch_at.ensures g tree.size_is) c.entry_at-entry.result c.entry_at-entry.ensures

pub overflow_add-before : goal.overflow_add-before
overflow_add-before c = omega (arith, found_inside (goal.at.overflow_add-before c).After-branch_at)

pub entry_at-entry-requires : goal.entry_at-entry-requires
entry_at-entry-requires c = found_inside (goal.at.entry_at-entry-requires c).After-branch_at

pub returns-then-entry-eq0 : goal.returns-then-entry-eq0
returns-then-entry-eq0 c =
    let a = c.args in
    λ g tree.
    step_of_unmapped g a.number.0 a.level (block_at (block_width g) a.disk.now a.address.0)
    c.entry_at-entry.result (entry_is (goal.at.returns-then-entry-eq0 c).After-entry_at-entry g tree)
    c.if-entry-eq0.true

pub returns-then-is_well_formed : goal.returns-then-is_well_formed
returns-then-is_well_formed c =
    let a = c.args in
    λ g tree.
    step_of_found g a.number.0 a.level (block_at (block_width g) a.disk.now a.address.0)
    c.entry_at-entry.result (entry_is (goal.at.returns-then-is_well_formed c).After-entry_at-entry g tree)
    c.if-entry-eq0.false c.is_well_formed.result (c.is_well_formed.ensures g tree.area)
    c.if-is_well_formed.true

pub returns : goal.returns
returns c =
    let a = c.args in
    λ g tree.
    step_of_damaged g a.number.0 a.level (block_at (block_width g) a.disk.now a.address.0)
    c.entry_at-entry.result (entry_is (goal.at.returns c).After-entry_at-entry g tree)
    c.if-entry-eq0.false c.is_well_formed.result (c.is_well_formed.ensures g tree.area)
    c.if-is_well_formed.false
