-- Stores and traces: what a write does to a disk, one whole block at a time. Assumes nothing.
use Rattle.std.specs.Prelude.{List, [], ◌∷◌, ℕ}
use Rattle.model.specs.Blocks.{Bytes, DiskAddress, set_block}

-- one block and the address that it goes to
pub record Store : Type 0 where
  pub address : DiskAddress
  pub content : Bytes

abbrev pub store : DiskAddress → (content : Bytes) → Store
store address content = record { address = address; content = content }

-- stores in the order in which they are made
abbrev pub Trace : Type 0
Trace = List Store

-- the disk after the stores of a trace
unfoldable pub apply : (width : ℕ) → Trace → (disk : Bytes) → Bytes
apply width [] disk = disk
apply width (x ∷ xs) disk = apply width xs (set_block width disk x.address x.content)

-- the addresses of a trace, in order
unfoldable pub addresses : Trace → List DiskAddress
addresses [] = []
addresses (x ∷ xs) = x.address ∷ addresses xs
