-- What every function that stores is lent, and what it leaves: the stores of a trace on the disk, their
-- addresses in the lent list from an index on, and the index after them. Assumes nothing.
use Rattle.std.specs.Prelude.{◌≡◌, List, ℕ, ◌+◌, ◌≤◌, length}
use Rattle.laws.specs.Lists.{over}
use Rattle.model.specs.Geometry.{Geometry}
use Rattle.model.specs.Blocks.{Bytes, DiskAddress}
use Rattle.model.specs.Layout.{Drive}
use Rattle.model.specs.Stores.{Trace, apply, addresses}

-- a whole drive, a buffer of one block, and room for so many stores in the list from an index on
pub record LentFor (g : Geometry) (disk buffer : Bytes) (list : List DiskAddress) (next count : ℕ) :
    Type 0 where
  pub drive : Drive g disk
  pub whole : length buffer ≡ g.block_size
  pub room : next + count ≤ length list

-- disk, list and next index before, then after
pub record Made (width : ℕ) (trace : Trace) (disk : Bytes) (list : List DiskAddress) (next : ℕ)
    (disk_after : Bytes) (listAfter : List DiskAddress) (nextAfter : ℕ) : Type 0 where
  pub on_disk : disk_after ≡ apply width trace disk
  pub in_list : listAfter ≡ over next (addresses trace) list
  pub counted : nextAfter ≡ next + length trace
