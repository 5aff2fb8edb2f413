-- Laws of the bitmap, padding included: a slot's mark as one of its bits, where bits stand, and a bit after a
-- slot's own bit is set or cleared and after another one. Assumes nothing.
use mathlib.Core.Path.{◌≡◌, refl, sym, ap, ◌∙◌, ap₂}
use mathlib.Core.Logic.{◌≢◌, ⊎_elim}
use mathlib.Core.Bool.{Bool, false}
use Prim.Native.Nat.{ℕ, ◌+◌, ◌*◌, ◌/◌, ◌<◌, ◌%◌}
use native.Mathlib.Nat.{mod-lt, div-add-mod', mul-div_cancel, div-lt_iff_lt-mul}
use native.Mathlib.Omega.{arith}
use lib.ListN.{length}
use Rattle.laws.specs.Bits.{bit_at, set_bit}
use Rattle.laws.proofs.Cases.{eq_cases}
use Rattle.laws.proofs.Bits.{length-set_bit, bit_at-set_bit_same, bit_at-set_bit_other, bit_at_zeros}
use Rattle.laws.proofs.Division.{ceil_div_covers}
use Rattle.model.specs.Geometry.{Geometry, Fits, block_count, map_blocks, area_blocks, bitmap_blocks}
use Rattle.model.specs.Geometry.{slot_width, block_width, root_address}
use Rattle.model.specs.Blocks.{Bytes, block_at, set_block, zero_block, DiskAddress}
use Rattle.model.specs.Layout.{area_place, bit_address, bit_place, is_allocated, bitmap_with}
use Rattle.model.specs.Invariants.{bitmap_bit}
use Rattle.model.proofs.Laws.Geometry.{bit_address_lt, slot_place_lt}
use Rattle.model.proofs.Laws.Blocks.{length-block_at, block_at-set_block_same, block_at-set_block_other}

-- ---- equations ----

pub is_allocated_is :
    (g : Geometry) (disk : Bytes) (slot : ℕ) → is_allocated g disk slot ≡
    bit_at (bit_place g slot) (block_at (block_width g) disk (bit_address g slot))
unfolding is_allocated
is_allocated_is g disk slot = refl

pub bitmap_with_is :
    (g : Geometry) (disk : Bytes) (slot : ℕ) (is_set : Bool) →
    bitmap_with g disk slot is_set ≡ set_bit (bit_place g slot) is_set
    (block_at (block_width g) disk (bit_address g slot))
unfolding bitmap_with
bitmap_with_is g disk slot is_set = refl

-- a mark depends on its bitmap block alone
pub is_allocated_block :
    (g : Geometry) (disk other : Bytes) (slot : ℕ) →
    block_at (block_width g) disk (bit_address g slot) ≡ block_at (block_width g) other (bit_address g slot) →
    is_allocated g disk slot ≡ is_allocated g other slot
unfolding is_allocated
is_allocated_block g disk other slot e = ap (bit_at (bit_place g slot)) e

-- the bitmap block that holds a bit
abbrev pub block_of_bit : Geometry → (place : ℕ) → DiskAddress
block_of_bit g place = 1 + map_blocks g + place / (8 * g.block_size)

-- a mark is the bit of its slot's public block
pub is_allocated_bit :
    (g : Geometry) (disk : Bytes) (slot : ℕ) → is_allocated g disk slot ≡ bitmap_bit g disk (area_place g slot)
unfolding is_allocated bitmap_bit
is_allocated_bit g disk slot = refl

-- a bit depends on its bitmap block alone
pub bitmap_bit_block :
    (g : Geometry) (disk other : Bytes) (place : ℕ) →
    block_at (block_width g) disk (block_of_bit g place) ≡ block_at (block_width g) other (block_of_bit g place) →
    bitmap_bit g disk place ≡ bitmap_bit g other place
unfolding bitmap_bit
bitmap_bit_block g disk other place e = ap (bit_at (place % (8 * g.block_size))) e

-- a bitmap block of zeros has none
pub bitmap_bit_zeros :
    (g : Geometry) (disk : Bytes) (place : ℕ) →
    block_at (block_width g) disk (block_of_bit g place) ≡ zero_block g.block_size →
    bitmap_bit g disk place ≡ false
unfolding bitmap_bit
bitmap_bit_zeros g disk place e =
    ap (bit_at (place % (8 * g.block_size))) e ∙ bit_at_zeros (place % (8 * g.block_size)) g.block_size

-- ---- places ----

module _ (g : Geometry) (f : Fits g) where
  pub bit_place_lt : (slot : ℕ) → bit_place g slot < 8 * g.block_size
  bit_place_lt slot = let p : 0 < 8 * g.block_size = omega (arith, f.size_low) in mod-lt (area_place g slot) p

  pub bit_place_byte_lt : (slot : ℕ) → bit_place g slot / 8 < g.block_size
  bit_place_byte_lt slot = omega (arith, bit_place_lt slot)

  pub block_of_bit_lt :
      (place : ℕ) → place < bitmap_blocks g * (8 * g.block_size) → block_of_bit g place < root_address g
  block_of_bit_lt place h =
      let p : 0 < 8 * g.block_size = omega (arith, f.size_low) in
      omega (arith, (div-lt_iff_lt-mul p).1 h)

  pub area_place_lt : (slot : ℕ) → slot < g.slots → area_place g slot < bitmap_blocks g * (8 * g.block_size)
  area_place_lt slot h =
      let p : 0 < 8 * g.block_size = omega (arith, f.size_low) in
      omega (
        arith,
        slot_place_lt g slot 0 h (omega arith),
        ceil_div_covers (area_blocks g) (8 * g.block_size) p,
      )

pub area_place_apart : (g : Geometry) (slot other : ℕ) → other ≢ slot → area_place g other ≢ area_place g slot
area_place_apart g slot other ne e =
    let p : 0 < slot_width g = omega arith in
    ne (sym (mul-div_cancel other p) ∙ ap (λ (n : ℕ). n / slot_width g) e ∙ mul-div_cancel slot p)

-- ---- a bit set or cleared on the disk ----

module _ (g : Geometry) (f : Fits g) (disk : Bytes) (whole : length disk ≡ block_count g * g.block_size)
    (slot : ℕ) (inside : slot < g.slots) where
  bit_address_inside : bit_address g slot < block_count g
  bit_address_inside = omega (arith, bit_address_lt g f slot inside)

  pub length-bitmap_with : (is_set : Bool) → length (bitmap_with g disk slot is_set) ≡ g.block_size
  unfolding bitmap_with
  length-bitmap_with is_set =
      length-set_bit (bit_place g slot) is_set (block_at (block_width g) disk (bit_address g slot))
      ∙ length-block_at (block_width g) disk (block_count g) whole (bit_address g slot) bit_address_inside

  -- the disk with the slot's bit as asked
  abbrev pub marked : (is_set : Bool) → Bytes
  marked is_set = set_block (block_width g) disk (bit_address g slot) (bitmap_with g disk slot is_set)

  pub block_at_marked : (is_set : Bool) → block_at (block_width g) (marked is_set) (bit_address g slot) ≡
      bitmap_with g disk slot is_set
  block_at_marked is_set =
      block_at-set_block_same (block_width g) disk (block_count g) whole (bit_address g slot) bit_address_inside
      (bitmap_with g disk slot is_set) (length-bitmap_with is_set)

  bit_place_inside : bit_place g slot / 8 < length (block_at (block_width g) disk (bit_address g slot))
  bit_place_inside =
      rw (length-block_at (block_width g) disk (block_count g) whole (bit_address g slot) bit_address_inside)
      (bit_place_byte_lt g f slot)

  pub bitmap_bit_marked_same : (is_set : Bool) → bitmap_bit g (marked is_set) (area_place g slot) ≡ is_set
  unfolding bitmap_bit bitmap_with
  bitmap_bit_marked_same is_set =
      ap (bit_at (bit_place g slot)) (block_at_marked is_set)
      ∙ bit_at-set_bit_same (bit_place g slot) is_set (block_at (block_width g) disk (bit_address g slot))
      bit_place_inside

  pub bitmap_bit_marked_other :
      (is_set : Bool) (place : ℕ) → place ≢ area_place g slot →
      bitmap_bit g (marked is_set) place ≡ bitmap_bit g disk place
  unfolding bitmap_bit bitmap_with
  bitmap_bit_marked_other is_set place ne =
      ⊎_elim same_block other_block (eq_cases (block_of_bit g place) (bit_address g slot))
    where
      at : ℕ
      at = place % (8 * g.block_size)

      apart : block_of_bit g place ≡ bit_address g slot → at ≢ bit_place g slot
      apart e r =
          let q : place / (8 * g.block_size) ≡ area_place g slot / (8 * g.block_size) = omega arith in
          ne (sym (div-add-mod' place (8 * g.block_size)) ∙ ap₂ (λ (n m : ℕ). n * (8 * g.block_size) + m) q r
          ∙ div-add-mod' (area_place g slot) (8 * g.block_size))

      same_block : block_of_bit g place ≡ bit_address g slot →
          bit_at at (block_at (block_width g) (marked is_set) (block_of_bit g place)) ≡
          bit_at at (block_at (block_width g) disk (block_of_bit g place))
      same_block e =
          ap (λ (n : ℕ). bit_at at (block_at (block_width g) (marked is_set) n)) e
          ∙ ap (bit_at at) (block_at_marked is_set)
          ∙ bit_at-set_bit_other (bit_place g slot) at is_set (block_at (block_width g) disk (bit_address g slot))
          bit_place_inside (apart e)
          ∙ ap (λ (n : ℕ). bit_at at (block_at (block_width g) disk n)) (sym e)

      other_block : block_of_bit g place ≢ bit_address g slot →
          bit_at at (block_at (block_width g) (marked is_set) (block_of_bit g place)) ≡
          bit_at at (block_at (block_width g) disk (block_of_bit g place))
      other_block e =
          ap (bit_at at)
          (block_at-set_block_other (block_width g) disk (block_count g) whole (bit_address g slot)
          bit_address_inside (bitmap_with g disk slot is_set) (length-bitmap_with is_set) (block_of_bit g place) e)
