-- Blocks of a run of bytes, over their width, and entries of four bytes, least byte first (document 01, "The
-- disk"). Assumes nothing.
use Rattle.std.specs.Prelude.{List, [], ◌∷◌, ◌++◌, ℕ, ◌*◌, replicate}
use Rattle.laws.specs.Lists.{part, over}
use Rattle.laws.specs.Numbers.{number_of, little_endian}

abbrev pub Bytes : Type 0
Bytes = List ℕ

-- a block's place on the disk, counted in blocks
abbrev pub DiskAddress : Type 0
DiskAddress = ℕ

-- the block at an address, for blocks of one width
unfoldable pub block_at : (width : ℕ) → (disk : Bytes) → DiskAddress → Bytes
block_at width disk address = part (address * width) width disk

-- the disk with that block in its place
unfoldable pub set_block : (width : ℕ) → (disk : Bytes) → DiskAddress → (block : Bytes) → Bytes
set_block width disk address block = over (address * width) block disk

abbrev pub zero_block : (width : ℕ) → Bytes
zero_block width = replicate width 0

-- the entry at an index
unfoldable pub entry_at : (index : ℕ) → Bytes → ℕ
entry_at index bytes = number_of (part (4 * index) 4 bytes)

-- the bytes with that entry in its place
unfoldable pub set_entry : (index value : ℕ) → Bytes → Bytes
set_entry index value bytes = over (4 * index) (little_endian 4 value) bytes

-- entries one after another
unfoldable pub packed : (entries : List ℕ) → Bytes
packed [] = []
packed (entry ∷ entries) = little_endian 4 entry ++ packed entries
