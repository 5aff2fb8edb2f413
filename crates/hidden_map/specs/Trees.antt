-- The numbers that a walk is given in place of a drive's geometry. Assumes nothing.
use Rattle.std.specs.Prelude.{◌≡◌, ℕ, ◌≤◌, ◌<◌}
use Rattle.model.specs.Geometry.{Geometry, area_start, block_count}
use Rattle.model.specs.Blocks.{Bytes, DiskAddress}
use Rattle.model.specs.Layout.{Drive}
use Rattle.hidden_map.specs.declared.branches.Area.{Area}
use Rattle.hidden_map.specs.declared.walks.Tree.{Tree}

-- a geometry with this height, data area and count of blocks
pub record AreaOf (g : Geometry) (area : Area) : Type 0 where
  pub height_is : area.height ≡ g.height
  pub start_is : area.start.0 ≡ area_start g
  pub count_is : area.count ≡ block_count g

-- a drive of a geometry that has these numbers
pub record TreeOf (g : Geometry) (disk : Bytes) (tree : Tree) : Type 0 where
  pub drive : Drive g disk
  pub size_is : tree.size ≡ g.block_size
  pub area : AreaOf g tree.area

-- a drive that has these numbers
pub record Walkable (disk : Bytes) (tree : Tree) : Type 0 where
  pub geometry : Geometry
  pub of : TreeOf geometry disk tree

-- a node's address on such a drive, and the level of an entry in it
pub record WalkableAt (disk : Bytes) (tree : Tree) (level : ℕ) (address : DiskAddress) : Type 0 where
  pub walkable : Walkable disk tree
  pub level_lt : level < tree.area.height
  pub address_inside : address < tree.area.count

-- a block size within its limits, and the level of an entry
pub record SizedAt (size level : ℕ) : Type 0 where
  pub size_low : 32 ≤ size
  pub size_high : size ≤ 4096
  pub level_high : level ≤ 3
