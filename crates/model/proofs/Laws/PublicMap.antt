-- Laws of the public map: an entry after its own and after another number's entry is set, within one map
-- block and across blocks; and that it lies inside the drive. Assumes nothing.
use mathlib.Core.Path.{◌≡◌, refl, sym, ap, ap₂, ◌∙◌}
use mathlib.Core.Logic.{◌≢◌, ⊎_elim}
use Prim.Native.Nat.{ℕ, ◌+◌, ◌*◌, ◌/◌, ◌%◌, ◌^◌, ◌≤◌, ◌<◌}
use native.Mathlib.Nat.{mod-lt, div-add-mod', mul-le-mul_right, add-mul, mul_left_comm}
use native.Mathlib.Omega.{arith}
use lib.ListN.{length}
use Rattle.laws.specs.Lists.{part}
use Rattle.laws.specs.Numbers.{number_of}
use Rattle.laws.proofs.Cases.{eq_cases}
use Rattle.laws.proofs.Division.{ceil_div_covers}
use Rattle.model.specs.Geometry.{Geometry, Fits, fanout, block_count, block_width, map_blocks}
use Rattle.model.specs.Blocks.{Bytes, block_at, set_block, entry_at, set_entry}
use Rattle.model.specs.Layout.{map_address, map_entry, Drive}
use Rattle.model.proofs.Laws.Geometry.{map_address_lt, fanout_low}
use Rattle.model.proofs.Laws.Blocks.{length-block_at, block_at-set_block_same, block_at-set_block_other}
use Rattle.model.proofs.Laws.Entries.{length-set_entry, entry_at-set_entry_same, entry_at-set_entry_other}
use Rattle.model.proofs.Laws.Entries.{entry_at-block_at}

-- ---- equations ----

pub map_entry_is :
    (g : Geometry) (disk : Bytes) (number : ℕ) → map_entry g disk number ≡
    entry_at (number % fanout g) (block_at (block_width g) disk (map_address g number))
unfolding map_entry
map_entry_is g disk number = refl

-- an entry depends on its map block alone
pub map_entry_block :
    (g : Geometry) (disk other : Bytes) (number : ℕ) →
    block_at (block_width g) disk (map_address g number) ≡ block_at (block_width g) other (map_address g number) →
    map_entry g disk number ≡ map_entry g other number
unfolding map_entry
map_entry_block g disk other number e = ap (entry_at (number % fanout g)) e

module _ (g : Geometry) (f : Fits g) where
  pub map_index_fits : (number : ℕ) → 4 * (number % fanout g) + 4 ≤ g.block_size
  map_index_fits number =
      let p : 0 < fanout g = omega (arith, fanout_low g f) in
      omega (arith, mod-lt number p, f.size_entries)

  -- the entry's four bytes stand in the map area one after another
  pub map_entry_bytes : (disk : Bytes) (number : ℕ) → map_entry g disk number ≡ entry_at (fanout g + number) disk
  unfolding map_entry entry_at
  map_entry_bytes disk number =
      let p = div-add-mod' number (fanout g) in
      let q = ap (λ (n : ℕ). number / fanout g * n) f.size_entries in
      let e : map_address g number * g.block_size + 4 * (number % fanout g) ≡ 4 * (fanout g + number) =
      omega (arith, f.size_entries) in
      entry_at-block_at (block_width g) disk (map_address g number) (number % fanout g) (map_index_fits number)
      ∙ ap (λ (n : ℕ). number_of (part n 4 disk)) e

  -- two numbers whose entries share a block have different indices there
  map_index_apart :
      (number other : ℕ) → other ≢ number → map_address g other ≡ map_address g number →
      other % fanout g ≢ number % fanout g
  map_index_apart number other ne e p =
      let q : other / fanout g ≡ number / fanout g = omega arith in
      ne (sym (div-add-mod' other (fanout g)) ∙ ap₂ (λ (n m : ℕ). n * fanout g + m) q p
      ∙ div-add-mod' number (fanout g))

-- ---- an entry set on the disk ----

module _ (g : Geometry) (f : Fits g) (disk : Bytes) (whole : length disk ≡ block_count g * g.block_size)
    (number : ℕ)
    (inside : number < g.publics) (value : ℕ) where
  address_inside : map_address g number < block_count g
  address_inside = omega (arith, map_address_lt g f number inside)

  -- the map block with the new entry
  abbrev pub map_block_with : Bytes
  map_block_with = set_entry (number % fanout g) value (block_at (block_width g) disk (map_address g number))

  length_old : length (block_at (block_width g) disk (map_address g number)) ≡ g.block_size
  length_old = length-block_at (block_width g) disk (block_count g) whole (map_address g number) address_inside

  index_inside : 4 * (number % fanout g) + 4 ≤ length (block_at (block_width g) disk (map_address g number))
  index_inside = rw length_old (map_index_fits g f number)

  pub length-map_block_with : length map_block_with ≡ g.block_size
  length-map_block_with =
      length-set_entry (number % fanout g) value (block_at (block_width g) disk
      (map_address g number)) index_inside ∙ length_old

  -- the disk with the new entry
  abbrev pub mapped : Bytes
  mapped = set_block (block_width g) disk (map_address g number) map_block_with

  block_mapped : block_at (block_width g) mapped (map_address g number) ≡ map_block_with
  block_mapped =
      block_at-set_block_same (block_width g) disk (block_count g) whole
      (map_address g number) address_inside map_block_with length-map_block_with

  pub map_entry_mapped_same : value < 2 ^ 32 → map_entry g mapped number ≡ value
  unfolding map_entry
  map_entry_mapped_same h =
      ap (entry_at (number % fanout g)) block_mapped
      ∙ entry_at-set_entry_same (number % fanout g) value
      (block_at (block_width g) disk (map_address g number)) index_inside h

  pub map_entry_mapped_other : (other : ℕ) → other ≢ number → map_entry g mapped other ≡ map_entry g disk other
  unfolding map_entry
  map_entry_mapped_other other ne =
      ⊎_elim same_block other_block (eq_cases (map_address g other) (map_address g number))
    where
      same_block : map_address g other ≡ map_address g number →
          entry_at (other % fanout g) (block_at (block_width g) mapped (map_address g other)) ≡
          entry_at (other % fanout g) (block_at (block_width g) disk (map_address g other))
      same_block e =
          ap (λ (n : ℕ). entry_at (other % fanout g) (block_at (block_width g) mapped n)) e
          ∙ ap (entry_at (other % fanout g)) block_mapped
          ∙ entry_at-set_entry_other (number % fanout g) value
          (block_at (block_width g) disk (map_address g number)) index_inside
          (other % fanout g) (map_index_apart g f number other ne e)
          ∙ ap (λ (n : ℕ). entry_at (other % fanout g) (block_at (block_width g) disk n)) (sym e)

      other_block : map_address g other ≢ map_address g number →
          entry_at (other % fanout g) (block_at (block_width g) mapped (map_address g other)) ≡
          entry_at (other % fanout g) (block_at (block_width g) disk (map_address g other))
      other_block e =
          ap (entry_at (other % fanout g))
          (block_at-set_block_other (block_width g) disk (block_count g) whole
          (map_address g number) address_inside
          map_block_with length-map_block_with (map_address g other) e)

-- ---- inside the drive ----

-- an entry of the map ends inside the disk
pub map_entry_inside :
    (g : Geometry) (disk : Bytes) (number : ℕ) → Drive g disk → number < g.publics →
    4 * (fanout g + number) + 4 ≤ length disk
map_entry_inside g disk number d h =
    let f = d.fits in
    let blocks = 1 + map_blocks g in
    let inside : blocks ≤ block_count g = omega arith in
    let sized : blocks * g.block_size ≡ blocks * (4 * fanout g) =
    ap (λ (n : ℕ). blocks * n) f.size_entries in
    omega (
      arith,
      d.whole,
      mul-le-mul_right g.block_size inside,
      mul_left_comm blocks 4 (fanout g),
      add-mul 1 (map_blocks g) (fanout g),
      ceil_div_covers g.publics (fanout g)
          (omega (arith, fanout_low g f)),
    )
