-- The stores of a round's hidden half, A + 1 to A + k and the root (document 01, "A round"): a path, the
-- blocks written back, or random bytes. Assumes nothing.
use Rattle.std.specs.Prelude.{List, [], ◌∷◌, ◌++◌, ℕ, zero, suc, ◌+◌, ◌-◌, length, take, drop}
use Rattle.model.specs.Geometry.{Geometry, fanout, root_address, block_width}
use Rattle.model.specs.Blocks.{Bytes, DiskAddress, block_at, set_entry}
use Rattle.model.specs.Layout.{slot_start, level_address}
use Rattle.model.specs.HiddenTree.{branch_at, walk}
use Rattle.model.specs.Stores.{Store, Trace, store}

-- ---- a path ----

-- a path's node as it is stored in a slot: its entry of a level leads to that level's block of the slot, and
-- a leaf's last entry is the number
unfoldable pub linked_node : Geometry → (number slot level : ℕ) → (node : Bytes) → Bytes
linked_node g number slot zero node =
    set_entry (fanout g - 1) number (set_entry (branch_at g number 0) (level_address g slot 0) node)
linked_node g number slot (suc level) node =
    set_entry (branch_at g number (suc level)) (level_address g slot (suc level)) node

-- the nodes below the root, handed over from the top, stored from the leaf up
unfoldable pub node_stores : Geometry → (number slot : ℕ) → (nodes : List Bytes) → Trace
node_stores g number slot [] = []
node_stores g number slot (node ∷ below) =
    node_stores g number slot below ++
    (store (level_address g slot (suc (length below))) (linked_node g number slot (length below) node) ∷ [])

-- a path stored in a slot: its nodes, the hidden data, the root
unfoldable pub path_stores : Geometry → (number slot : ℕ) → (content : Bytes) → (nodes : List Bytes) → Trace
path_stores g number slot content [] = []
path_stores g number slot content (root ∷ below) =
    node_stores g number slot below ++
    (store (level_address g slot 0) content ∷
    store (root_address g) (linked_node g number slot (length below) root) ∷ [])

-- a number's current path stored in a slot, with a block for its data
abbrev pub current_path : Geometry → (disk : Bytes) → (number slot : ℕ) → (content : Bytes) → Trace
current_path g disk number slot content = path_stores g number slot content (walk g disk number).nodes

-- ---- blocks written back, and random blocks ----

-- a block stored as it is
abbrev pub kept_block : Geometry → (disk : Bytes) → DiskAddress → Store
kept_block g disk address = store address (block_at (block_width g) disk address)

-- so many blocks from an address on, each stored as it is
unfoldable pub kept_blocks : Geometry → (disk : Bytes) → DiskAddress → (count : ℕ) → Trace
kept_blocks g disk address zero = []
kept_blocks g disk address (suc count) = kept_block g disk address ∷ kept_blocks g disk (suc address) count

-- the slot's hidden blocks and the root written back
abbrev pub written_back : Geometry → (disk : Bytes) → (slot : ℕ) → Trace
written_back g disk slot =
    kept_blocks g disk (slot_start g slot + 1) g.height ++ (kept_block g disk (root_address g) ∷ [])

-- so many blocks from an address on, each of the next random bytes
unfoldable pub random_blocks : Geometry → DiskAddress → (count : ℕ) → (random : Bytes) → Trace
random_blocks g address zero random = []
random_blocks g address (suc count) random =
    store address (take g.block_size random) ∷
    random_blocks g (suc address) count (drop g.block_size random)

-- the slot's hidden blocks random, the root written back
abbrev pub dummy_stores : Geometry → (disk : Bytes) → (slot : ℕ) → (random : Bytes) → Trace
dummy_stores g disk slot random =
    random_blocks g (slot_start g slot + 1) g.height random ++ (kept_block g disk (root_address g) ∷ [])
