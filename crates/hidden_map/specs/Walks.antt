-- What a walk hands back, its trail. Assumes nothing.
use Rattle.std.specs.Prelude.{◌≡◌, ℕ}
use Rattle.model.specs.Geometry.{Geometry}
use Rattle.model.specs.Blocks.{Bytes}
use Rattle.model.specs.HiddenTree as tree
use Rattle.hidden_map.specs.declared.nodes.Nodes.{Nodes}
use Rattle.hidden_map.specs.declared.walks.Reached.{Reached}
use Rattle.hidden_map.specs.declared.walks.Trail.{Trail}
use Rattle.hidden_map.specs.Ends.{end_of}
use Rattle.hidden_map.specs.Nodes.{address_at, read_over, read_from, read_at}

-- from a node down: where it ended, and the nodes that it read, set over those of before
pub record WalkedFrom (g : Geometry) (disk : Bytes) (number level : ℕ) (node : Bytes) (end : Reached)
    (before after : Nodes) : Type 0 where
  pub end_is : end_of end ≡ (tree.walk_from g disk number level node).end
  pub nodes_are :
      (wanted : ℕ) → address_at after wanted ≡
      read_over (read_from g disk number level node wanted) (address_at before wanted)

-- from the root down
pub record Walked (g : Geometry) (disk : Bytes) (number : ℕ) (trail : Trail) : Type 0 where
  pub end_is : end_of trail.end ≡ (tree.walk g disk number).end
  pub nodes_are : (level : ℕ) → address_at trail.nodes level ≡ read_at g disk number level
