-- The nodes below the root that a walk reads, by level (document 02, K7): the address that a level's node is
-- read at, and none for a level that is not reached. Assumes nothing.
use Rattle.std.specs.Prelude.{◌≡◌, true, cond, List, [], ◌∷◌, ℕ, zero, suc, ◌-◌, eqb, ltb, get_or}
use Rattle.std.specs.Prelude.{Some, None}
use Rattle.std.specs.Prelude as code
use Rattle.std.proofs.Math.Option.{Option, none, some}
use Rattle.model.specs.Geometry.{Geometry, root_address, block_width}
use Rattle.model.specs.Blocks.{Bytes, DiskAddress, block_at, zero_block}
use Rattle.model.specs.Layout.{is_well_formed}
use Rattle.model.specs.HiddenTree.{End, found, unmapped, damaged}
use Rattle.layout.specs.declared.numbers.DiskAddress.{DiskAddress as Address}
use Rattle.hidden_map.specs.declared.nodes.Nodes.{Nodes}
use Rattle.hidden_map.specs.Ends.{step_of}

-- ---- what is handed back ----

-- where a node is read, none where it was not reached
abbrev pub node_of : code.Option Address → Option DiskAddress
node_of (Some address) = some address.0
node_of None = none

-- the nodes of levels 1, 2 and 3, by level
unfoldable pub by_level : List (code.Option Address) → (level : ℕ) → Option DiskAddress
by_level nodes zero = none
by_level nodes (suc index) = cond (ltb index 3) (node_of (get_or nodes index None)) none

-- where the node of a level is read
abbrev pub address_at : Nodes → (level : ℕ) → Option DiskAddress
address_at nodes level = by_level nodes.by_level level

-- addresses by level, with one more
abbrev pub with_address :
    (at : ℕ → Option DiskAddress) → (level : ℕ) → DiskAddress → (wanted : ℕ) → Option DiskAddress
with_address at level address wanted = cond (eqb wanted level) (some address) (at wanted)

-- what is read, or what was there where nothing is
abbrev pub read_over : (read before : Option DiskAddress) → Option DiskAddress
read_over (some address) before = some address
read_over none before = before

-- ---- what a walk reads ----

-- what is read where a step leads, nothing where it leads nowhere
abbrev pub read_on : End → (DiskAddress → Option DiskAddress) → Option DiskAddress
read_on (found address) read = read address
read_on unmapped read = none
read_on damaged read = none

-- where the walk for a number from a node down reads the node of a level, by the level of the entry that it
-- takes there
unfoldable pub read_from :
    Geometry → (disk : Bytes) → (number level : ℕ) → (node : Bytes) → (wanted : ℕ) → Option DiskAddress
read_from g disk number zero node wanted = none
read_from g disk number (suc level) node wanted =
    read_on (step_of g number (suc level) node)
    (λ address.
    with_address (read_from g disk number level (block_at (block_width g) disk address)) (suc level)
    address wanted)

-- where the walk for a number reads the node of a level below the root
abbrev pub read_at : Geometry → (disk : Bytes) → (number level : ℕ) → Option DiskAddress
read_at g disk number level =
    read_from g disk number (g.height - 1) (block_at (block_width g) disk (root_address g)) level

-- ---- its blocks ----

-- the block of a node, zeros for one that was not reached
abbrev pub block_of_node : Geometry → (disk : Bytes) → Option DiskAddress → Bytes
block_of_node g disk none = zero_block g.block_size
block_of_node g disk (some address) = block_at (block_width g) disk address

-- the blocks of the nodes from a level down to the leaf
unfoldable pub node_blocks :
    Geometry → (disk : Bytes) → (at : ℕ → Option DiskAddress) → (level : ℕ) → List Bytes
node_blocks g disk at zero = []
node_blocks g disk at (suc level) = block_of_node g disk (at (suc level)) ∷ node_blocks g disk at level

-- the blocks of a path, the root's first
abbrev pub path_blocks : Geometry → (disk : Bytes) → (at : ℕ → Option DiskAddress) → List Bytes
path_blocks g disk at = block_at (block_width g) disk (root_address g) ∷ node_blocks g disk at (g.height - 1)

-- a node of each level stands where one of that level can
pub record StandsByLevel (g : Geometry) (at : ℕ → Option DiskAddress) : Type 0 where
  pub well_formed : (level : ℕ) (address : DiskAddress) → at level ≡ some address →
      is_well_formed g level address ≡ true
