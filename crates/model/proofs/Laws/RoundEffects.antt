-- What one round leaves in map, bitmap and public blocks: a kept round leaves them as they were, a last round
-- enters the new place, sets its bit, clears the old one's and stores the call's data. Assumes nothing.
use mathlib.Core.Path.{◌≡◌, sym, ◌∙◌}
use mathlib.Core.Logic.{◌≢◌, inl, inr, ⊎_elim}
use mathlib.Core.Bool.{true, false}
use Prim.Native.Nat.{ℕ, ◌*◌, ◌<◌}
use native.Mathlib.Omega.{arith}
use Rattle.laws.proofs.Cases.{eq_cases}
use Rattle.model.specs.Geometry.{Geometry, bitmap_blocks, block_width}
use Rattle.model.specs.Blocks.{Bytes, DiskAddress, block_at}
use Rattle.model.specs.Layout.{slot_start, slot_of, area_place, map_address, map_entry, is_allocated}
use Rattle.model.specs.Stores.{Trace}
use Rattle.model.specs.Table.{keep_public, write_public}
use Rattle.model.specs.Rounds.{public_store, map_stores}
use Rattle.model.specs.Invariants.{bitmap_bit}
use Rattle.model.proofs.Laws.Geometry.{slot_start_lt}
use Rattle.model.proofs.Laws.Places.{OldPlace}
use Rattle.model.proofs.Laws.Bitmap.{area_place_lt, bitmap_bit_block, block_of_bit, block_of_bit_lt}
use Rattle.model.proofs.Laws.Bitmap.{is_allocated_bit}
use Rattle.model.proofs.Laws.PublicMap.{map_entry_block, mapped, map_entry_mapped_same}
use Rattle.model.proofs.Laws.PublicMap.{map_entry_mapped_other}
use Rattle.model.proofs.Laws.Stores.{last_at_nil}
use Rattle.model.proofs.Laws.PublicHalf.{with_bits, bitmap_bit-with_bits_new, bitmap_bit-with_bits_old}
use Rattle.model.proofs.Laws.PublicHalf.{bitmap_bit-with_bits_other}
use Rattle.model.proofs.Laws.MapStores.{InFront, map_address-in_front, last_at-map_stores-map}
use Rattle.model.proofs.Laws.MapStores.{last_at-map_stores_bit}
use Rattle.model.proofs.Laws.RoundStores.{after_round, Round, old_of_round}
use Rattle.model.proofs.Laws.RoundParts.{block_at_parts_front, block_at_parts_start_same}
use Rattle.model.proofs.Laws.RoundParts.{block_at_parts_start_other}
use Rattle.model.proofs.Laws.Rounds.{parts_round}

module _ {g : Geometry} {disk : Bytes} {number slot : ℕ} {content : Bytes} {hidden : Trace}
    (round : Round g disk number slot content hidden) where
  -- ---- a kept round ----

  abbrev kept : Bytes
  kept = after_round keep_public g disk number slot content hidden

  -- every block of map and bitmap stays
  block_at_kept :
      (address : DiskAddress) → InFront g address →
      block_at (block_width g) kept address ≡ block_at (block_width g) disk address
  unfolding map_stores
  block_at_kept address h =
      block_at_parts_front (parts_round round keep_public) address h
      ∙ last_at_nil address (block_at (block_width g) disk address)

  pub map_entry_kept : (other : ℕ) → other < g.publics → map_entry g kept other ≡ map_entry g disk other
  map_entry_kept other h =
      map_entry_block g kept disk other
      (block_at_kept (map_address g other) (map_address-in_front g round.fits other h))

  pub bitmap_bit_kept :
      (place : ℕ) → place < bitmap_blocks g * (8 * g.block_size) →
      bitmap_bit g kept place ≡ bitmap_bit g disk place
  bitmap_bit_kept place h =
      bitmap_bit_block g kept disk place
      (block_at_kept (block_of_bit g place) (omega arith, block_of_bit_lt g round.fits place h))

  pub is_allocated_kept : (other : ℕ) → other < g.slots → is_allocated g kept other ≡ is_allocated g disk other
  is_allocated_kept other h =
      is_allocated_bit g kept other ∙ bitmap_bit_kept (area_place g other) (area_place_lt g round.fits other h)
      ∙ sym (is_allocated_bit g disk other)

  -- every public block stays
  pub block_at_kept_start :
      (other : ℕ) →
      block_at (block_width g) kept (slot_start g other) ≡ block_at (block_width g) disk (slot_start g other)
  unfolding public_store
  block_at_kept_start other = ⊎_elim same apart (eq_cases other slot)
    where
      same :
          other ≡ slot →
          block_at (block_width g) kept (slot_start g other) ≡ block_at (block_width g) disk (slot_start g other)
      same e = rw e (block_at_parts_start_same (parts_round round keep_public))

      apart :
          other ≢ slot →
          block_at (block_width g) kept (slot_start g other) ≡ block_at (block_width g) disk (slot_start g other)
      apart = block_at_parts_start_other (parts_round round keep_public) other

  -- ---- a last round ----

  abbrev last : Bytes
  last = after_round write_public g disk number slot content hidden

  pub block_at_last_start : block_at (block_width g) last (slot_start g slot) ≡ content
  unfolding public_store
  block_at_last_start = block_at_parts_start_same (parts_round round write_public)

  -- the map with the new entry
  abbrev entered : Bytes
  entered = mapped g round.fits disk round.whole number round.counted (slot_start g slot)

  map_entry_last : (other : ℕ) → other < g.publics →
      map_entry g last other ≡ map_entry g entered other
  map_entry_last other h =
      map_entry_block g last entered other
      (block_at_parts_front (parts_round round write_public) (map_address g other)
      (map_address-in_front g round.fits other h)
      ∙ last_at-map_stores-map g round.fits disk round.whole slot round.inside number round.counted
      (old_of_round round) other h)

  pub map_entry_last_same : map_entry g last number ≡ slot_start g slot
  map_entry_last_same =
      map_entry_last number round.counted
      ∙ map_entry_mapped_same g round.fits disk round.whole number round.counted (slot_start g slot)
      (omega (arith, slot_start_lt g slot round.inside, round.fits.blocks_high))

  pub map_entry_last_other :
      (other : ℕ) → other < g.publics → other ≢ number → map_entry g last other ≡ map_entry g disk other
  map_entry_last_other other h ne =
      map_entry_last other h ∙ map_entry_mapped_other g round.fits disk round.whole number
      round.counted (slot_start g slot) other ne

  -- the bits of the whole bitmap
  abbrev bits : Bytes
  bits = with_bits g round.fits disk round.whole slot round.inside (map_entry g disk number)
      (old_of_round round)

  bitmap_bit_last :
      (place : ℕ) → place < bitmap_blocks g * (8 * g.block_size) →
      bitmap_bit g last place ≡ bitmap_bit g bits place
  bitmap_bit_last place h =
      bitmap_bit_block g last bits place
      (block_at_parts_front (parts_round round write_public) (block_of_bit g place)
      (omega arith, block_of_bit_lt g round.fits place h)
      ∙ last_at-map_stores_bit g round.fits disk round.whole slot round.inside number round.counted
      (old_of_round round) (block_of_bit g place) (omega arith))

  pub bitmap_bit_last_new :
      (map_entry g disk number ≢ 0 → slot_of g (map_entry g disk number) ≢ slot) →
      bitmap_bit g last (area_place g slot) ≡ true
  bitmap_bit_last_new apart =
      bitmap_bit_last (area_place g slot) (area_place_lt g round.fits slot round.inside)
      ∙ bitmap_bit-with_bits_new g round.fits disk round.whole slot round.inside
      (map_entry g disk number) (old_of_round round) apart

  pub bitmap_bit_last_old :
      map_entry g disk number ≢ 0 → bitmap_bit g last (area_place g (slot_of g (map_entry g disk number))) ≡ false
  bitmap_bit_last_old ne = by (old_of_round round)
    where
      by :
          OldPlace g (map_entry g disk number) →
          bitmap_bit g last (area_place g (slot_of g (map_entry g disk number))) ≡ false
      by (inl e) = absurd (ne e)
      by (inr block) =
          bitmap_bit_last (area_place g (slot_of g (map_entry g disk number)))
          (area_place_lt g round.fits (slot_of g (map_entry g disk number)) block.slot_inside)
          ∙ bitmap_bit-with_bits_old g round.fits disk round.whole slot round.inside
          (map_entry g disk number) (old_of_round round) ne

  pub bitmap_bit_last_other :
      (place : ℕ) → place < bitmap_blocks g * (8 * g.block_size) → place ≢ area_place g slot →
      (map_entry g disk number ≢ 0 → place ≢ area_place g (slot_of g (map_entry g disk number))) →
      bitmap_bit g last place ≡ bitmap_bit g disk place
  bitmap_bit_last_other place h ne apart =
      bitmap_bit_last place h
      ∙ bitmap_bit-with_bits_other g round.fits disk round.whole slot round.inside
      (map_entry g disk number) (old_of_round round) place ne apart
