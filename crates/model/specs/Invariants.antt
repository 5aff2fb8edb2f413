-- What every call keeps true of a drive that has it: the public map and its bitmap, and the hidden tree in
-- the words of document 02, K1. Assumes nothing.
use Rattle.std.specs.Prelude.{◌≡◌, Bool, true, ◌≢◌, ℕ, zero, suc, ◌+◌, ◌*◌, ◌-◌, ◌/◌, ◌%◌, ◌<◌}
use Rattle.laws.specs.Bits.{bit_at}
use Rattle.model.specs.Geometry.{Geometry, fanout, map_blocks, bitmap_blocks, area_start, root_address}
use Rattle.model.specs.Geometry.{block_width}
use Rattle.model.specs.Blocks.{Bytes, DiskAddress, block_at, entry_at}
use Rattle.model.specs.Layout.{slot_of, level_address, is_well_formed, map_entry, is_place}
use Rattle.model.specs.HiddenTree.{owner_of, span, walk, found}

-- ---- the public volume ----

-- each entry is 0 or block A of an allocated slot, and no two numbers share a place
pub record PublicInvariant (g : Geometry) (disk : Bytes) : Type 0 where
  pub in_place :
      (number : ℕ) → number < g.publics → map_entry g disk number ≢ 0 →
      is_place g disk (map_entry g disk number) ≡ true
  pub apart :
      (number other : ℕ) → number < g.publics → other < g.publics → map_entry g disk number ≢ 0 →
      map_entry g disk number ≡ map_entry g disk other → number ≡ other

-- a bit of the whole bitmap, its padding included
unfoldable pub bitmap_bit : Geometry → (disk : Bytes) → (place : ℕ) → Bool
bitmap_bit g disk place =
    bit_at (place % (8 * g.block_size))
    (block_at (block_width g) disk (1 + map_blocks g + place / (8 * g.block_size)))

-- each set bit of the bitmap is that of a public number's place; with PublicInvariant the set bits are just
-- these
pub record BitmapInvariant (g : Geometry) (disk : Bytes) : Type 0 where
  pub mapped :
      (place : ℕ) → place < bitmap_blocks g * (8 * g.block_size) → bitmap_bit g disk place ≡ true →
      (number : ℕ) × (number < g.publics) × (map_entry g disk number ≡ area_start g + place)

-- ---- the hidden volume ----

-- how many entries of a level a node has: all F, or in a leaf all but the last
abbrev pub entries_in : Geometry → (level : ℕ) → ℕ
entries_in g zero = fanout g - 1
entries_in g (suc level) = fanout g

-- the entries met from the root down: an entry of a level, and how many of that level's entries stand before
-- it
pub data Met (g : Geometry) (disk : Bytes) : (level index : ℕ) → (entry : DiskAddress) → Type 0 where
  in_root : {level index entry : ℕ} → suc level ≡ g.height → index < entries_in g level →
      entry ≡ entry_at index (block_at (block_width g) disk (root_address g)) → Met g disk level index entry
  in_node : {level index entry above node place : ℕ} → Met g disk (suc level) above node →
      is_well_formed g (suc level) node ≡ true → place < entries_in g level →
      index ≡ above * entries_in g level + place →
      entry ≡ entry_at place (block_at (block_width g) disk node) → Met g disk level index entry

-- what holds of an entry that is met and is not 0; the numbers below it are those n with n div span level =
-- index
pub record GoodEntry (g : Geometry) (disk : Bytes) (level index : ℕ) (entry : DiskAddress) : Type 0 where
  -- it is well formed (K1: else 13)
  pub well_formed : is_well_formed g level entry ≡ true
  -- some number below it is less than H (K1: else 14)
  pub within : index * span g level < g.hidden
  -- its slot's owner is one of the numbers below it, and the owner's walk ends at that slot's last block (K1:
  -- else 15)
  pub owner_below : owner_of g disk (slot_of g entry) / span g level ≡ index
  pub owner_found : (walk g disk (owner_of g disk (slot_of g entry))).end ≡
      found (level_address g (slot_of g entry) 0)

-- every entry met is 0 or good
pub record HiddenInvariant (g : Geometry) (disk : Bytes) : Type 0 where
  pub good_entries :
      (level index : ℕ) (entry : DiskAddress) → Met g disk level index entry → entry ≢ 0 →
      GoodEntry g disk level index entry
