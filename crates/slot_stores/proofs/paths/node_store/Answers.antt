-- `node_store` meets its contract: the node of the level with its entry, a leaf also with the number. Assumes
-- nothing.
use mathlib.Core.Path.{refl}
use Rattle.layout.specs.Geometries.{geometry_of}
use Rattle.hidden_map.specs.Nodes.{address_at}
use Rattle.slot_stores.proofs.Laws.Paths.{NodeLinked, leaf_described, above_described}
use Rattle.slot_stores.proofs.paths.node_store.Goals as goal
use Rattle.slot_stores.proofs.paths.node_store.Goals.{After-branch_at-branch}

-- what the node is stored with
linked : (c : After-branch_at-branch) → let a = c.args in
    NodeLinked (geometry_of a.g) a.slot a.number.0 a.level (address_at a.nodes) c.level_address-address.result
    c.level_address-below.result c.branch_at-branch.result c.node_at.result c.node_source-source.result
linked c =
    record {
      at_level = c.requires.slot_place;
      placed = c.requires.stands_by_level;
      to = c.level_address-address.ensures;
      under = c.level_address-below.ensures;
      branches = c.branch_at-branch.ensures (geometry_of c.args.g) refl;
      read = c.node_at.ensures;
      takes = c.node_source-source.ensures;
    }

pub returns-then-level-eq1 : goal.returns-then-level-eq1
returns-then-level-eq1 c =
    rw c.fanout.ensures
    (leaf_described (linked (goal.at.returns-then-level-eq1 c).After-branch_at-branch) c.if-level-eq1.true)

pub returns : goal.returns
returns c = above_described (linked (goal.at.returns c).After-branch_at-branch) c.if-level-eq1.false
