-- The geometry of a drive and its limits (document 01, "The disk"): the five numbers, the areas that they lay
-- out, the test that accepts them, and what an accepted geometry gives as plain facts. Assumes nothing.
use Rattle.std.specs.Prelude.{◌≡◌, Bool, false, ◌&&◌, ◌||◌, List, [], ◌∷◌, ℕ, ◌+◌, ◌*◌, ◌-◌, ◌/◌, ◌^◌, ◌≤◌, ◌<◌, ltb, leb, eqb}
use Rattle.laws.specs.Division.{ceil_div}

-- block size B in bytes, height k of the hidden tree with its root, P public and H hidden blocks, M slots
pub record Geometry : Type 0 where
  pub block_size : ℕ
  pub height : ℕ
  pub publics : ℕ
  pub hidden : ℕ
  pub slots : ℕ

-- ---- areas ----

-- bytes that a block takes on the disk
abbrev pub block_width : Geometry → ℕ
block_width g = g.block_size

-- blocks of a slot: its public block, and one for each level of the hidden tree below the root
abbrev pub slot_width : Geometry → ℕ
slot_width g = g.height + 1

-- entries of four bytes in a block (document 01: F)
abbrev pub fanout : Geometry → ℕ
fanout g = g.block_size / 4

-- blocks of the public map
abbrev pub map_blocks : Geometry → ℕ
map_blocks g = ceil_div g.publics (fanout g)

-- blocks of the data area
abbrev pub area_blocks : Geometry → ℕ
area_blocks g = g.slots * slot_width g

-- blocks of the bitmap, one bit for each block of the data area
abbrev pub bitmap_blocks : Geometry → ℕ
bitmap_blocks g = ceil_div (area_blocks g) (8 * g.block_size)

-- address of the hidden tree's root, after header, map and bitmap
abbrev pub root_address : Geometry → ℕ
root_address g = 1 + map_blocks g + bitmap_blocks g

-- address of the data area (document 01: D)
abbrev pub area_start : Geometry → ℕ
area_start g = 2 + map_blocks g + bitmap_blocks g

-- all blocks of the drive (document 01: T)
abbrev pub block_count : Geometry → ℕ
block_count g = area_start g + area_blocks g

-- bytes of the drive
abbrev pub drive_size : Geometry → ℕ
drive_size g = block_count g * g.block_size

-- ---- limits ----

-- numbers that a tree of this height has places for
abbrev pub tree_capacity : Geometry → ℕ
tree_capacity g = (fanout g - 1) * fanout g ^ (g.height - 1)

-- the block sizes, the powers of two from 32 to 4,096
abbrev pub block_sizes : List ℕ
block_sizes = 32 ∷ 64 ∷ 128 ∷ 256 ∷ 512 ∷ 1024 ∷ 2048 ∷ 4096 ∷ []

abbrev pub is_one_of : ℕ → List ℕ → Bool
is_one_of n [] = false
is_one_of n (m ∷ ms) = eqb n m || is_one_of n ms

-- whether a geometry is inside document 01's limits
unfoldable pub is_geometry : Geometry → Bool
is_geometry g =
    is_one_of g.block_size block_sizes && leb 2 g.height && leb g.height 4 && leb 1 g.publics &&
    leb 1 g.hidden && ltb g.publics g.slots && ltb g.hidden g.slots &&
    leb g.hidden (tree_capacity g) && leb (block_count g) (2 ^ 31 - 1)

-- an accepted geometry as plain facts
pub record Fits (g : Geometry) : Type 0 where
  pub size_low : 32 ≤ g.block_size
  pub size_high : g.block_size ≤ 4096
  pub size_entries : g.block_size ≡ 4 * fanout g
  pub height_low : 2 ≤ g.height
  pub height_high : g.height ≤ 4
  pub publics_low : 1 ≤ g.publics
  pub hidden_low : 1 ≤ g.hidden
  pub publics_high : g.publics < g.slots
  pub hidden_high : g.hidden < g.slots
  pub hidden_fits : g.hidden ≤ tree_capacity g
  pub blocks_high : block_count g < 2 ^ 31
