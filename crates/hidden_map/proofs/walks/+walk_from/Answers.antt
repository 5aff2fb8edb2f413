-- `walk_from` meets its contract: the first step ends the walk at the leaf and where the step leads nowhere,
-- and otherwise the rest of the walk does, with the node that the step leads to. Assumes nothing.
use Rattle.std.proofs.Common.{arith}
use Rattle.model.specs.Blocks.{block_at}
use Rattle.model.specs.Geometry.{block_width}
use Rattle.hidden_map.proofs.Laws.Answers.{is_found-end_of}
use Rattle.hidden_map.proofs.Laws.Steps.{walk_from_goes}
use Rattle.hidden_map.proofs.Laws.Walks.{walked_leaf, walked_stop, walked_on}
use Rattle.hidden_map.proofs.walks.+walk_from.Goals as goal

pub returns-then-level-eq0 : goal.returns-then-level-eq0
returns-then-level-eq0 t c =
    let a = c.args in
    λ g tree.
    walked_leaf g a.disk.now a.number.0 a.level (block_at (block_width g) a.disk.now a.address.0)
    c.step-next.result a.nodes.now (c.step-next.ensures g tree) c.if-level-eq0.true

pub returns-in_default : goal.returns-in_default
returns-in_default t c =
    let a = c.args in
    let next = c.step-next in
    λ g tree.
    walked_stop g a.disk.now a.number.0 a.level (block_at (block_width g) a.disk.now a.address.0)
    next.result a.nodes.now (next.ensures g tree) (is_found-end_of next.result c.in_default.not-Found)

-- the node that the step leads to stands inside the disk
pub walk_from-requires : goal.walk_from-requires
walk_from-requires t c =
    let a = c.args in
    let p = c.requires in
    let g = p.walkable.geometry in
    let inside = (walk_from_goes g a.disk.now a.number.0 (block_at (block_width g) a.disk.now a.address.0)
    a.level c.in-Found.node.0 c.if-level-eq0.false (c.in-Found.ensures g p.walkable.of)).address_inside in (
      omega arith,
      record {
        walkable = p.walkable;
        level_lt = omega arith;
        address_inside = omega (arith, p.walkable.of.area.count_is, inside);
      },
    )

pub returns : goal.returns
returns t c =
    let a = c.args in
    λ g tree.
    walked_on g a.disk.now a.number.0 a.level (block_at (block_width g) a.disk.now a.address.0)
    c.in-Found.node.0 c.walk_from.result a.nodes.now c.set_node.new.nodes c.walk_from.new.nodes
    c.if-level-eq0.false (c.in-Found.ensures g tree) c.set_node.ensures (c.walk_from.ensures g tree)
