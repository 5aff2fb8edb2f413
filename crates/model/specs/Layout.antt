-- Where things stand on a drive (document 01, "The disk"): header, slots, bitmap and public map, each read
-- from whole blocks. Assumes nothing.
use Rattle.std.specs.Prelude.{◌≡◌, Bool, ◌&&◌, ◌||◌, ℕ, zero, suc, ◌+◌, ◌*◌, ◌-◌, ◌/◌, ◌%◌, ltb, leb, eqb, length}
use Rattle.laws.specs.Bits.{bit_at, set_bit}
use Rattle.model.specs.Geometry.{Geometry, Fits, fanout, map_blocks, area_start, block_count, drive_size}
use Rattle.model.specs.Geometry.{block_width, slot_width}
use Rattle.model.specs.Blocks.{Bytes, DiskAddress, block_at, entry_at}

-- ---- header ----

-- the geometry that a disk's first 20 bytes state
abbrev pub geometry_in : (disk : Bytes) → Geometry
geometry_in disk =
    record {
      block_size = entry_at 0 disk;
      height = entry_at 1 disk;
      publics = entry_at 2 disk;
      hidden = entry_at 3 disk;
      slots = entry_at 4 disk;
    }

-- the head slot, where the next round is
abbrev pub head_in : (disk : Bytes) → ℕ
head_in disk = entry_at 5 disk

-- a whole disk of an accepted geometry
pub record Drive (g : Geometry) (disk : Bytes) : Type 0 where
  pub fits : Fits g
  pub whole : length disk ≡ drive_size g

-- ---- slots ----

-- address of a slot's public block (document 01: A)
abbrev pub slot_start : Geometry → (slot : ℕ) → DiskAddress
slot_start g slot = area_start g + slot * slot_width g

-- the slot that a block of the data area belongs to; 0 below the data area, which every use has ruled out
abbrev pub slot_of : Geometry → DiskAddress → ℕ
slot_of g address = (address - area_start g) / slot_width g

-- the slot after a slot, in a circle
abbrev pub next_slot : Geometry → (slot : ℕ) → ℕ
next_slot g slot = (slot + 1) % g.slots

-- the slot of a round, counted from 1 at the head: (h + round − 1) mod M
abbrev pub round_slot : Geometry → (head round : ℕ) → ℕ
round_slot g head round = (head + round - 1) % g.slots

-- where a block of a level stands in its slot: a node of level 1 to k - 1 at A + level, level 0, hidden data,
-- at A + k
abbrev pub level_place : Geometry → (level : ℕ) → ℕ
level_place g zero = g.height
level_place g (suc level) = suc level

-- address of a slot's block of a level
abbrev pub level_address : Geometry → (slot level : ℕ) → DiskAddress
level_address g slot level = slot_start g slot + level_place g level

-- whether an address is that of some slot's block at a place from A on
unfoldable pub is_slot_block : Geometry → (place : ℕ) → DiskAddress → Bool
is_slot_block g place address =
    leb (area_start g) address && ltb address (block_count g) &&
    eqb ((address - area_start g) % slot_width g) place

-- whether an address is well formed for a level
abbrev pub is_well_formed : Geometry → (level : ℕ) → DiskAddress → Bool
is_well_formed g level address = is_slot_block g (level_place g level) address

-- ---- bitmap ----

-- the bit of a slot's public block, counted over the whole data area
abbrev pub area_place : Geometry → (slot : ℕ) → ℕ
area_place g slot = slot * slot_width g

-- the bitmap block that holds that bit
abbrev pub bit_address : Geometry → (slot : ℕ) → DiskAddress
bit_address g slot = 1 + map_blocks g + area_place g slot / (8 * g.block_size)

-- the bit's place within its bitmap block
abbrev pub bit_place : Geometry → (slot : ℕ) → ℕ
bit_place g slot = area_place g slot % (8 * g.block_size)

-- whether two slots' bits lie in one bitmap block
abbrev pub is_shared : Geometry → (slot other : ℕ) → Bool
is_shared g slot other = eqb (bit_address g slot) (bit_address g other)

-- whether a public number that goes to a slot changes one bitmap block: its entry says that it had no place,
-- or its old bit lies in the new bit's block
abbrev pub is_one_block : Geometry → (entry : DiskAddress) → (slot : ℕ) → Bool
is_one_block g entry slot = eqb entry 0 || is_shared g slot (slot_of g entry)

-- whether a slot holds a public block (document 01: marked)
unfoldable pub is_allocated : Geometry → (disk : Bytes) → (slot : ℕ) → Bool
is_allocated g disk slot = bit_at (bit_place g slot) (block_at (block_width g) disk (bit_address g slot))

-- a slot's bitmap block with its bit 1 or 0 as asked
unfoldable pub bitmap_with : Geometry → (disk : Bytes) → (slot : ℕ) → (is_set : Bool) → Bytes
bitmap_with g disk slot is_set =
    set_bit (bit_place g slot) is_set (block_at (block_width g) disk (bit_address g slot))

-- ---- public map ----

-- the map block that holds a public number's entry
abbrev pub map_address : Geometry → (number : ℕ) → DiskAddress
map_address g number = 1 + number / fanout g

-- a public number's entry: 0, or the address of its block
unfoldable pub map_entry : Geometry → (disk : Bytes) → (number : ℕ) → DiskAddress
map_entry g disk number = entry_at (number % fanout g) (block_at (block_width g) disk (map_address g number))

-- whether an entry is block A of an allocated slot
unfoldable pub is_place : Geometry → (disk : Bytes) → (entry : DiskAddress) → Bool
is_place g disk entry = is_slot_block g 0 entry && is_allocated g disk (slot_of g entry)
