-- What is asked of a node and of a place in it: a node that is read, one of its entries, the entries that are
-- gone through. Assumes nothing.
use Rattle.std.specs.Prelude.{◌≡◌, ℕ, suc, ◌*◌, ◌/◌, ◌≤◌, ◌<◌, ◌+◌}
use Rattle.model.specs.Geometry.{Geometry, block_count, block_width, Fits, fanout}
use Rattle.model.specs.Blocks.{Bytes, DiskAddress, block_at}
use Rattle.model.specs.Layout.{Drive}
use Rattle.model.specs.HiddenTree.{span}
use Rattle.model.specs.Invariants.{entries_in}
use Rattle.hidden_map.specs.Nodes.{read_from, read_at}

-- a block of a drive that is read as a node with entries of a level, and whose numbers begin with this one
pub record NodeOf (g : Geometry) (disk : Bytes) (level first : ℕ) (node : DiskAddress) : Type 0 where
  pub drive : Drive g disk
  pub level_lt : level < g.height
  pub node_lt : node < block_count g
  -- how many of the tree's entries to nodes of its level stand before its own; its numbers are those n with
  -- n div span = index
  pub index : ℕ
  pub first_is : first ≡ index * span g (suc level)
  -- the walk for each of its numbers passes through it: what is read from it on is what the walk reads
  pub walks_pass :
      (number : ℕ) → number / span g (suc level) ≡ index → (wanted : ℕ) → wanted ≤ level →
      read_at g disk number wanted ≡
      read_from g disk number level (block_at (block_width g) disk node) wanted

-- so many of its entries from a place on, at least one
pub record EntriesOf (g : Geometry) (disk : Bytes) (level first : ℕ) (node : DiskAddress)
    (place remaining : ℕ) : Type 0 where
  pub node_of : NodeOf g disk level first node
  pub some_left : 1 ≤ remaining
  pub within : place + remaining ≤ entries_in g level

-- an entry of a block of a drive
pub record EntryIn (g : Geometry) (disk : Bytes) (node : DiskAddress) (place : ℕ) : Type 0 where
  pub drive : Drive g disk
  pub node_lt : node < block_count g
  pub place_lt : place < fanout g

-- a place of a node with entries of a level
pub record PlaceIn (g : Geometry) (level place : ℕ) : Type 0 where
  pub fits : Fits g
  pub level_lt : level < g.height
  pub place_lt : place < fanout g
