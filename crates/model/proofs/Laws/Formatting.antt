-- Laws of formatting (document 01, "The disk"): the front that it writes, the header that reads back, and
-- zeros from the map to the root. Assumes nothing.
use mathlib.Core.Path.{◌≡◌, sym, ap, ◌∙◌, subst}
use mathlib.Core.Logic.{◌≢◌}
use mathlib.Core.Bool.{false}
use mathlib.Core.List.{[], ◌∷◌, List, ◌++◌, append_assoc}
use Prim.Native.Nat.{ℕ, ◌+◌, ◌*◌, ◌-◌, ◌%◌, ◌≤◌, ◌<◌, ◌^◌}
use native.Mathlib.Nat.{mul-le-mul_right}
use native.Mathlib.Omega.{arith}
use lib.ListN.{length, length-append, length-replicate, get_or}
use borrow.Author.Tests.{eq-eqb, ne_eqb}
use Rattle.laws.specs.Lists.{part, over}
use Rattle.laws.specs.Numbers.{number_of}
use Rattle.laws.proofs.Cases.{cond_true, cond_false}
use Rattle.laws.proofs.Lists.{part_part, length_over, part_over_same, part_zeros, part_append_rest}
use Rattle.model.specs.Geometry.{Geometry, Fits, fanout, bitmap_blocks, root_address, area_start}
use Rattle.model.specs.Geometry.{block_width, block_count, drive_size, is_geometry}
use Rattle.model.specs.Blocks.{Bytes, DiskAddress, block_at, entry_at, packed, zero_block}
use Rattle.model.specs.Layout.{geometry_in, head_in, map_address, map_entry}
use Rattle.model.specs.Refusals.{format_refusal, drive_refusal}
use Rattle.model.specs.Calls.{header_block, fresh_front, formatted}
use Rattle.model.specs.Invariants.{bitmap_bit}
use Rattle.model.proofs.Laws.Geometry.{map_address_lt}
use Rattle.model.proofs.Laws.Entries.{length-packed, entry_at-replicate, entry_at-packed}
use Rattle.model.proofs.Laws.Bitmap.{block_of_bit, block_of_bit_lt, bitmap_bit_zeros}
use Rattle.model.proofs.Laws.PublicMap.{map_entry_is}
use Rattle.model.proofs.Laws.Refusals.{Sized, sized_of_refusal, refusal_of_accepted}

-- ---- the front ----

length-header_block : (g : Geometry) → Fits g → length (header_block g) ≡ g.block_size
unfolding header_block
length-header_block g f =
    let entries = g.block_size ∷ g.height ∷ g.publics ∷ g.hidden ∷ g.slots ∷ 0 ∷ [] in
    length-append (packed entries) (zero_block (g.block_size - 24))
    ∙ omega (arith, length-packed entries, length-replicate {A = ℕ} (g.block_size - 24) 0)

length-fresh_front : (g : Geometry) → Fits g → length (fresh_front g) ≡ area_start g * g.block_size
unfolding fresh_front
length-fresh_front g f =
    let rest = (area_start g - 1) * g.block_size in
    let e : area_start g - 1 + 1 ≡ area_start g = omega arith in
    let split = ap (λ (n : ℕ). n * g.block_size) e in
    length-append (header_block g) (zero_block rest)
    ∙ omega (arith, length-header_block g f, length-replicate {A = ℕ} rest 0, split)

-- ---- the disk that formatting leaves ----

pub formatted_refused : (disk : Bytes) (g : Geometry) → format_refusal disk g ≢ 0 → formatted disk g ≡ disk
unfolding formatted
formatted_refused disk g f = cond_false _ _ (ne_eqb (format_refusal disk g) 0 f)

module _ (disk : Bytes) (g : Geometry) (good : format_refusal disk g ≡ 0) where
  sized : Sized (length disk) g
  sized = sized_of_refusal (length disk) g good

  pub fits_formatted : Fits g
  fits_formatted = sized.fits

  pub formatted_is : formatted disk g ≡ over 0 (fresh_front g) disk
  unfolding formatted
  formatted_is = cond_true _ _ (eq-eqb (format_refusal disk g) 0 good)

  front_inside : 0 + length (fresh_front g) ≤ length disk
  front_inside =
      let le : area_start g ≤ block_count g = omega arith in
      omega (arith, length-fresh_front g fits_formatted, sized.whole, mul-le-mul_right g.block_size le)

  length-formatted : length (formatted disk g) ≡ length disk
  length-formatted = rw formatted_is (length_over (fresh_front g) disk 0 front_inside)

  whole_formatted : length (formatted disk g) ≡ block_count g * g.block_size
  whole_formatted = length-formatted ∙ sized.whole

  -- what lies within the front is the front's
  part_formatted :
      (from size : ℕ) → from + size ≤ area_start g * g.block_size →
      part from size (formatted disk g) ≡ part from size (fresh_front g)
  part_formatted from size h =
      let fresh = over 0 (fresh_front g) disk in
      let e : 0 + from ≡ from = omega arith in
      let inside : from + size ≤ length (fresh_front g) = omega (arith, length-fresh_front g fits_formatted) in
      ap (part from size) formatted_is ∙ ap (λ (n : ℕ). part n size fresh) (sym e)
      ∙ sym (part_part 0 (length (fresh_front g)) from size fresh inside)
      ∙ ap (part from size) (part_over_same (fresh_front g) disk 0 front_inside)

  -- ---- the header ----

  abbrev header : List ℕ
  header = g.block_size ∷ g.height ∷ g.publics ∷ g.hidden ∷ g.slots ∷ 0 ∷ []

  -- an entry of the header reads back
  entry_formatted : (index : ℕ) → index < 6 → get_or header index 0 < 2 ^ 32 →
      entry_at index (formatted disk g) ≡ get_or header index 0
  unfolding entry_at fresh_front header_block
  entry_formatted index h small =
      let zeros = zero_block (g.block_size - 24) in
      let rest = zero_block ((area_start g - 1) * g.block_size) in
      let low : 1 ≤ area_start g = omega arith in
      ap number_of
      (part_formatted (4 * index) 4 (omega (arith, fits_formatted, mul-le-mul_right g.block_size low))
      ∙ ap (part (4 * index) 4) (append_assoc (packed header) zeros rest))
      ∙ entry_at-packed header (zeros ++ rest) index h small

  pub geometry-formatted : geometry_in (formatted disk g) ≡ g
  geometry-formatted =
      λ i. record {
        block_size = entry_formatted 0 (omega arith) (omega (arith, fits_formatted)) i;
        height = entry_formatted 1 (omega arith) (omega (arith, fits_formatted)) i;
        publics = entry_formatted 2 (omega arith) (omega (arith, fits_formatted)) i;
        hidden = entry_formatted 3 (omega arith) (omega (arith, fits_formatted)) i;
        slots = entry_formatted 4 (omega arith) (omega (arith, fits_formatted)) i;
      }

  head_formatted : head_in (formatted disk g) ≡ 0
  head_formatted = entry_formatted 5 (omega arith) (omega arith)

  pub refusal_formatted : drive_refusal (formatted disk g) ≡ 0
  refusal_formatted =
      refusal_of_accepted (formatted disk g) (rw length-formatted sized.long)
      (ap is_geometry geometry-formatted ∙ sized.accepted)
      (whole_formatted ∙ sym (ap drive_size geometry-formatted))
      (subst (λ (stated : Geometry). head_in (formatted disk g) < stated.slots) (sym geometry-formatted)
      (omega (arith, head_formatted, fits_formatted)))

  -- ---- from the map to the root ----

  block_at-formatted_zeros :
      (address : DiskAddress) → 1 ≤ address → address < area_start g →
      block_at (block_width g) (formatted disk g) address ≡ zero_block g.block_size
  unfolding block_at fresh_front
  block_at-formatted_zeros address low high =
      let rest = (area_start g - 1) * g.block_size in
      let before = (address - 1) * g.block_size in
      let k : address - 1 + 1 ≡ address = omega arith in
      let le : address - 1 + 1 ≤ area_start g - 1 = omega arith in
      let split : address * g.block_size ≡ length (header_block g) + before =
      omega (arith, length-header_block g fits_formatted, ap (λ (n : ℕ). n * g.block_size) k) in
      part_formatted (address * g.block_size) g.block_size
      (omega (arith, mul-le-mul_right g.block_size high))
      ∙ ap (λ (n : ℕ). part n g.block_size (fresh_front g)) split
      ∙ part_append_rest (header_block g) (zero_block rest) before g.block_size
      ∙ part_zeros before g.block_size rest (omega (arith, mul-le-mul_right g.block_size le))

  pub root_formatted :
      (index : ℕ) → entry_at index (block_at (block_width g) (formatted disk g) (root_address g)) ≡ 0
  root_formatted index =
      ap (entry_at index) (block_at-formatted_zeros (root_address g) (omega arith) (omega arith))
      ∙ entry_at-replicate g.block_size index

  pub map_entry-formatted : (number : ℕ) → number < g.publics → map_entry g (formatted disk g) number ≡ 0
  map_entry-formatted number h =
      let high : map_address g number < area_start g = omega (arith, map_address_lt g fits_formatted number h) in
      map_entry_is g (formatted disk g) number
      ∙ ap (entry_at (number % fanout g)) (block_at-formatted_zeros (map_address g number) (omega arith) high)
      ∙ entry_at-replicate g.block_size (number % fanout g)

  pub bitmap_bit-formatted :
      (place : ℕ) → place < bitmap_blocks g * (8 * g.block_size) → bitmap_bit g (formatted disk g) place ≡ false
  bitmap_bit-formatted place h =
      bitmap_bit_zeros g (formatted disk g) place
      (block_at-formatted_zeros (block_of_bit g place) (omega arith)
      (omega (arith, block_of_bit_lt g fits_formatted place h)))
