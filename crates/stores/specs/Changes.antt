-- A block with one change or none. Assumes nothing.
use Rattle.std.specs.Prelude.{ℕ, ◌+◌, ◌*◌, ◌/◌, ◌≤◌, ◌<◌}
use Rattle.laws.specs.Bits.{set_bit}
use Rattle.model.specs.Blocks.{Bytes, set_entry}
use Rattle.stores.specs.declared.changes.Change.{Change}
use Rattle.stores.specs.declared.changes.Change.TheVariants.{Nothing, Entry, Bit}

-- the block with its change made
abbrev pub changed : Change → (block : Bytes) → Bytes
changed Nothing block = block
changed (Entry index value) block = set_entry index value block
changed (Bit place is_set) block = set_bit place is_set block

-- the change stands inside a block of this width
abbrev pub Inside : (width : ℕ) → Change → Type 0
Inside width Nothing = Unit {0}
Inside width (Entry index value) = 4 * index + 4 ≤ width
Inside width (Bit place is_set) = place / 8 < width
